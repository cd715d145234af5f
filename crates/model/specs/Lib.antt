pub mod Signals
pub mod Model
pub mod Plan
pub mod Kalls
pub mod Isolation
pub mod SetUp
