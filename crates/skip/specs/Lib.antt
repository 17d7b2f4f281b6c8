pub mod Skip
pub mod InOrder
pub mod Layer
