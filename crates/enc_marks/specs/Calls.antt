pub mod Closures
pub mod Flags
pub mod Marked
pub mod Writing
pub mod Slots
