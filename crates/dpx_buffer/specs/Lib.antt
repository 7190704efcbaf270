pub mod Buffer
pub mod Inside
pub mod Lane
pub mod Seen
