-- what an input of live sessions declares and types, what is written of their record, and what a whole run comes to
pub mod Sorting
pub mod Declaring
pub mod Records
pub mod Writing
pub mod Living
