pub mod Laws
pub mod Lines
pub mod Placed
pub mod Text
pub mod Trough
pub mod Verdict
