pub mod Shallow
pub mod Examples
pub mod Laws
