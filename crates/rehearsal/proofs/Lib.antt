pub mod Audited
pub mod Codes
pub mod Turned
