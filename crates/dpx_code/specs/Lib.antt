pub mod Back
pub mod Decode
pub mod Disparity
pub mod Track
