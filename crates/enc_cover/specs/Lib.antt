pub mod Undercover
pub mod Rows
pub mod Calls
