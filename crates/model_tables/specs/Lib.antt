-- what is to be believed: tables as texts, of which structures they are, and why a text is refused
pub mod Grammar
pub mod Places
pub mod Faults
pub mod Refusals
pub mod Items
pub mod Untyped
pub mod Typed
pub mod Written
pub mod Writable
pub mod Laws
pub mod TypedLaws
pub mod WrittenLaws
-- how the readers come to it, of which nothing need be believed
pub mod Steps
pub mod Ahead
pub mod Leads
pub mod Held
pub mod Checks
pub mod CountedTables
pub mod Marks
pub mod ReadTyped
pub mod ReadUntyped
-- for tests
pub mod Samples
pub mod RefusalNumbers
