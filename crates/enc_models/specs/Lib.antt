pub mod Lowered
pub mod LiftedTables
pub mod KeepsModels
pub mod Bare
pub mod Calls
