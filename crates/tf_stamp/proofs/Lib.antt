pub mod Merged
mod Filling
mod Kept
