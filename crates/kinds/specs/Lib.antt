pub mod Codes
pub mod Group
pub mod Kinds
pub mod Residue
