-- Words of private contracts, which need not be believed.
pub mod Note
pub mod Ending
pub mod Parts
