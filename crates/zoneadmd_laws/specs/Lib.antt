-- a zone after a turn
pub mod Afters
-- what the turns of a request tell
pub mod Lists
pub mod Trails
pub mod Items
pub mod Shapes
-- how many turns there still are
pub mod Turns_left
-- what zones share
pub mod Common
-- the agreement of a zone's tables with its daemon
pub mod Agreement
pub mod Points
