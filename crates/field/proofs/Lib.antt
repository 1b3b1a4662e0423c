pub mod Below
pub mod Laws
pub mod Horner
pub mod Division
pub mod Loops
