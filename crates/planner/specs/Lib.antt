pub mod Lines
pub mod Slips
