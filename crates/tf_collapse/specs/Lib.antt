-- what is to be believed: the domain, tables pulled back, and the law with its premises
pub mod Domain
pub mod PulledBack
pub mod Refusal
pub mod BinderParts
pub mod Premises
pub mod Laws
-- words of private contracts
pub mod Calls
