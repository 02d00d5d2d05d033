-- one event, what the pools give it, what zones share before and after it, and many events
pub mod Machine
-- what each zone shows of itself where all zones are listed
pub mod Shown
-- what the code's values stand for, and what its steps do to them
pub mod Code
