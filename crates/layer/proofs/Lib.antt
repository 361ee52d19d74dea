pub mod Opening
pub mod Bounds
