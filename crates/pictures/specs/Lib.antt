pub mod Faults
pub mod FromC
pub mod Packing
pub mod Reading
pub mod Unpacking
pub mod Writing
