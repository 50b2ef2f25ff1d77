pub mod Again
pub mod Spelling
