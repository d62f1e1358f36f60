-- What lines say, and what four maps answer to them.
pub mod Answers
pub mod Conversation
pub mod Lines
pub mod Named
pub mod Ranges
pub mod Replies
pub mod Serving
pub mod Two
