mod Examples
pub mod Lists
pub mod SameEntries
pub mod Rows
pub mod SameResources
pub mod PropertyEdits
pub mod ResourceEdits
pub mod Adding
pub mod Aliases
pub mod Settings
pub mod Clearing
pub mod Removing
pub mod Sameness
