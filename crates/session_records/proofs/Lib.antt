mod Examples
pub mod Folds_laws
pub mod Keeping
pub mod Runs
pub mod Places_laws
pub mod Typed_lines
pub mod Turn_ends
pub mod Waits_laws
