pub mod Labels
pub mod Matrix
pub mod Numbers
pub mod Restores
pub mod Small
pub mod Worked
