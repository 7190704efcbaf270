pub mod Judge
pub mod Machine
pub mod Remainder
pub mod Transcript
