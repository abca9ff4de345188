pub mod Numbers
pub mod Nodes
pub mod Instances
pub mod Matching
pub mod Laws
