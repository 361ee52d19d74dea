pub mod Maps
mod Carrying
