pub mod Source
pub mod Stream
pub mod Answers
pub mod Steps
