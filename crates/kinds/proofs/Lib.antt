-- The lemmas that the proofs share. Assumes nothing.
pub mod Groups
pub mod Means
