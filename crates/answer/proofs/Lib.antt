pub mod Fields
pub mod BySign
