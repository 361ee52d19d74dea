pub mod Ellipses
