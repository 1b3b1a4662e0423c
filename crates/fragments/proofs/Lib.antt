pub mod Lists
pub mod Interp
pub mod Laws
pub mod Theorems
pub mod Parts
pub mod Examples
