pub mod Answers
pub mod Desks
pub mod Names
pub mod Rounds
pub mod Trials
