pub mod Domain
pub mod PulledBack
pub mod CollapseLaw
