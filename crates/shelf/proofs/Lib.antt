pub mod Shortness
pub mod Answering
pub mod Laying
pub mod Packing
