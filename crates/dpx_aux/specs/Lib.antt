pub mod Asked
pub mod Asking
pub mod Conversation
pub mod Reply
pub mod Request
pub mod Transaction
