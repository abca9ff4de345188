-- what is to be believed: the tables of functions, their laws, what sources are asked for, and counts
pub mod TypedTabled
pub mod Laws
pub mod Sources
pub mod EntryCounts
-- how tuples are gone through and entries counted, of which nothing need be believed
pub mod ParameterSets
pub mod TypeWays
pub mod CountedWays
pub mod ParameterGroups
-- for tests
pub mod Samples
