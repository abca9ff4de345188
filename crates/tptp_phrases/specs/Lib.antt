pub mod Phrase
pub mod Readers
