pub mod Over
pub mod Filled
