pub mod Dealings
pub mod Laying
pub mod Refusals
pub mod Sources
pub mod Trays
pub mod Turns
