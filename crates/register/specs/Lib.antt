pub mod Chart
pub mod LawfulRegisters
pub mod Marked
pub mod Page
pub mod Runs
pub mod Spans
pub mod Cover
pub mod Steps
