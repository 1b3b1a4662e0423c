pub mod Fragments
pub mod Basis
pub mod Inside
