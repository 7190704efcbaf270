pub mod Drives
pub mod Endings
pub mod Equalisation
pub mod LastStatus
pub mod Laws
pub mod Phase
pub mod Recovery
