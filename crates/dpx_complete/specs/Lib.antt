pub mod Complete
pub mod Drive
pub mod Fall
