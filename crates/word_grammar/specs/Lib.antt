pub mod Linkage
pub mod Attributes
pub mod Runs
pub mod Places
pub mod Attached
