pub mod ModulePart
