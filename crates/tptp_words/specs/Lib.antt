pub mod Bytes
pub mod Text
pub mod Words
pub mod Layout
pub mod Steps
pub mod Laws
pub mod Scanning
