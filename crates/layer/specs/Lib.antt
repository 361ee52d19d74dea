pub mod Layers
pub mod Views
pub mod LayerLaws
