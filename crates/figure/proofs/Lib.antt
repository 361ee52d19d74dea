mod Strokes
mod Crossings
mod Walks
mod Calls
mod Once
mod Kept
mod Apart
mod Backward
mod Reaches
pub mod Totals
