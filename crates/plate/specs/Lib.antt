pub mod World
pub mod Answers
pub mod Plates
pub mod Windows
pub mod Bare
pub mod Piles
