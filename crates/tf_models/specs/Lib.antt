pub mod Assignment
pub mod Search
pub mod Reading
pub mod Fit
pub mod Evaluation
pub mod FirstFalse
pub mod Samples
