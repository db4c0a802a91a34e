pub mod Scripts
pub mod Pens
pub mod Drawn
