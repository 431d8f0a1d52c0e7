pub mod Written
pub mod Said
pub mod Printing
pub mod Lines
pub mod Laws
