pub mod Parts
pub mod Gathered
pub mod Accepted
pub mod Machine
pub mod Laws
