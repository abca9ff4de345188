pub mod Models
pub mod NotFree
