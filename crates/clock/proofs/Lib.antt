pub mod Laws
pub mod Wide
pub mod Kth
pub mod Hear
