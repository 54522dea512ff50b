pub mod PhasePart
