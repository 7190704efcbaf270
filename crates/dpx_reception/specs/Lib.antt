pub mod Bytes
pub mod Reception
pub mod Digits
pub mod Due
pub mod Laws
