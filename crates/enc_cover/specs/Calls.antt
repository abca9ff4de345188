pub mod Passed
pub mod Sought
