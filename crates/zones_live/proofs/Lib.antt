pub mod Sorting_laws
mod Declares
mod Written
mod Told
mod Lives
mod Opened
