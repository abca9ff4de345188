pub mod Flags
pub mod Noted
pub mod Places
pub mod Frames
pub mod Walked
pub mod Sets
pub mod Listing
pub mod NakedTypes
