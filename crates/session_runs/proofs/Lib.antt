pub mod Histories
pub mod Adding
pub mod Far_laws
pub mod Stepping
pub mod Machine_steps
pub mod Whole_runs
