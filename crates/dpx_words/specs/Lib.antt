pub mod Dashes
pub mod Reading
pub mod Seed
