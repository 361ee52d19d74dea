pub mod Holding
pub mod HoldingLaws
