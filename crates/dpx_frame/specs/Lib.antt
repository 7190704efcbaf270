pub mod Counters
pub mod CounterSlots
pub mod Schedule
pub mod Units
