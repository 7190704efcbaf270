pub mod FilePipe
pub mod FilePipeFields
pub mod Held
pub mod HeldSink
pub mod Records
