-- the objects that the kernel holds for a zone, and what comes to it with a grant
pub mod Objects
pub mod Arrivals
-- what a daemon takes from a configuration, a zone's desk, the plans of requests, and what one turn does
pub mod Configs
pub mod Desks
pub mod Plans
pub mod Turns
pub mod Local
pub mod Halts
-- what the code's values stand for, and what it does to them
pub mod Code
