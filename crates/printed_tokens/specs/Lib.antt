pub mod Atoms
pub mod Looks
pub mod Laws
