pub mod Asked
pub mod AsksInTurn
pub mod Decided
pub mod Parts
pub mod Suffices
pub mod Transacts
