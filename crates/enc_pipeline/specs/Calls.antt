-- Words of private contracts, which need not be believed.
pub mod Carrying
