pub mod Bytes
pub mod Refusals
pub mod Steps
pub mod Streams
