pub mod Fit
pub mod Kept
pub mod Numbers
pub mod Schedule
