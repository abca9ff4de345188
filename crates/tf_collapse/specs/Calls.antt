-- Words of private contracts.
pub mod Pulling
