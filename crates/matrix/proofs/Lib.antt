pub mod Cases
pub mod Entries
pub mod Every
pub mod Joined
pub mod Numbered
pub mod Restores
pub mod Sizes
pub mod Small
