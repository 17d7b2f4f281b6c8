pub mod Room
pub mod Memory
