pub mod Laws
pub mod Figures
