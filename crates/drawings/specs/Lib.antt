pub mod Drawing
pub mod Pens
pub mod Refusals
pub mod DrawAnswers
pub mod Promise
pub mod Laws
