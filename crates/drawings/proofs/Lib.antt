pub mod Lengths
pub mod Sums
pub mod Fields
pub mod Turns
pub mod Seen
pub mod Stands
