-- Words of private contracts.
pub mod Sources
pub mod Blocks
pub mod Merging
pub mod Collapsing
pub mod SortSizes
pub mod Lifting
pub mod SortNumbers
