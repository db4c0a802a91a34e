pub mod Tables
pub mod Reading
pub mod Reclassing
pub mod Computed
