pub mod Columns
pub mod Lists
pub mod Readings
pub mod Small
pub mod Tracking
