pub mod Short
pub mod Alone
pub mod Paths
pub mod By_kind
pub mod Staying
mod Examples
pub mod Settables
pub mod Lists_edited
pub mod Resources_edited
