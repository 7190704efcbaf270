pub mod Decided
pub mod Written
pub mod Positions
pub mod Suffices
