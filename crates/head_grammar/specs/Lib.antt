pub mod Parameters
pub mod Extras
pub mod Heads
pub mod Variables
pub mod Texts
pub mod Computing
