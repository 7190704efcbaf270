pub mod Bits
pub mod Lanes
pub mod Lines
pub mod Positions
