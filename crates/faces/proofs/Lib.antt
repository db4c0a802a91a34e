pub mod Walks
pub mod Rising
pub mod Halving
pub mod Ordered
pub mod Boxed
