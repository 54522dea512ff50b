pub mod StandardInput
