pub mod Models
pub mod OfTwo
