pub mod Refusal
pub mod Places
