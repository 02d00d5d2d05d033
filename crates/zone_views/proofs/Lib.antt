mod Examples
mod Naming_examples
pub mod Purge
pub mod Runs
pub mod Deciding
pub mod Keeping
pub mod Seating
pub mod Nexts
pub mod Steady
pub mod Under_way
pub mod Limits
pub mod Differing
pub mod Granting
pub mod Numbered
pub mod Whole
pub mod Claiming
pub mod Declared_few
pub mod Mounts_few
pub mod Small_numbers
pub mod Kept_entries
pub mod Placing
pub mod Kept_grants
pub mod Sound_configs
pub mod Sound_edits
pub mod Belonging
pub mod Alike
pub mod Naming_turns
pub mod Rights
pub mod Settled
pub mod Naming_cases
pub mod Naming_laws
pub mod Small_zones
pub mod Few_turns
mod Edits
mod Logins
mod Consoles
mod Waiting
mod Decimal_texts
mod Views
mod Running_laws
