pub mod Made
pub mod Moves
pub mod Product
pub mod TableBits
pub mod TableColumns
pub mod TableLinear
pub mod TableRound
pub mod TableRules
