-- how far scripts are
pub mod Far
-- what a run comes to, and the midst of it
pub mod Runs
pub mod Midway
