-- what a run of threads is about
pub mod Names
-- what the zones share, to contracts
pub mod Goods
-- what the disk of that has since a moment
pub mod Disks
-- what lies in a place and what the zones share, and what an event leaves of them
pub mod Parts
-- the machine of all zones as threads see it
pub mod Definitions
-- its cells, each in a place of its own
pub mod Dealing
-- the cells of places, back together
pub mod Gathering
-- what the machine has from its caller
pub mod Running
-- what an event leaves of the brands, and what a local turn leaves of what zones share
pub mod Worlds
-- the machine meets the laws that threads rest on
pub mod Meets
-- what sessions begin with
pub mod Begun
-- what sessions leave: their record, and what the disk has of it
pub mod Sessions
