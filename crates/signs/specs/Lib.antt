pub mod Props
pub mod Rows
pub mod Refusals
pub mod Signs
pub mod Classes
pub mod Reclassing
pub mod Laws
pub mod Worked
