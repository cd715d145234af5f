pub mod Places
pub mod Kept
pub mod Sums
pub mod RowLaws
pub mod PackLaws
pub mod Held
