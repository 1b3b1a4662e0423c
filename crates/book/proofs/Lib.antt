pub mod Lists
pub mod Turns
pub mod Laid
pub mod Back
pub mod Laws
