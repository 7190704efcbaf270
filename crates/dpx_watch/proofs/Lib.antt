pub mod Answered
pub mod Bounded
pub mod Good
pub mod LastStatus
