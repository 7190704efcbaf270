pub mod Aligner
pub mod Deskew
pub mod Faults
pub mod FirstFault
pub mod Laws
pub mod Lock
pub mod Search
pub mod Sent
