pub mod Binders
pub mod Places
pub mod Depth
pub mod Rows
