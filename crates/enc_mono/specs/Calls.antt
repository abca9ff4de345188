pub mod Numbered
pub mod Known
pub mod Matched
pub mod Searched
pub mod Admitted
