pub mod Storable
pub mod Numbers
pub mod Whole
pub mod Edits
pub mod Tickets
pub mod Naming
pub mod Viewing
pub mod Running
