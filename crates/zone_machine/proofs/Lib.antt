pub mod Examples
mod Turn_examples
pub mod Same_fault_laws
pub mod Same_laws
pub mod Acts_laws
pub mod Own_worlds
pub mod Turned_laws
pub mod Asking
pub mod Case_asks
mod Places
mod Storing
pub mod Results
mod Sizes
mod Numbering
pub mod Writing
mod Opening
mod Partings
mod Apart
pub mod Alone
pub mod Freeing
pub mod Common_laws
pub mod Local_laws
pub mod Local_doing
mod At_once
pub mod Pools_laws
pub mod Indexing
pub mod Listing_laws
pub mod Shown_laws
pub mod Lists_laws
pub mod Opens
pub mod Doing_laws
pub mod Kernel_doing
pub mod Rooms_laws
pub mod Standing
pub mod Stepping
mod Telling
pub mod Banking
pub mod Claim_doing
pub mod Roomy
pub mod Acting
pub mod Restarting
pub mod Errand_works
