pub mod Shape
pub mod Conic
pub mod Laws
pub mod Order
pub mod Whole
pub mod Listing
pub mod Places
pub mod Rows
