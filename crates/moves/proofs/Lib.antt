-- What the functions of this crate return, by the turns of the model, and what they read.
pub mod Laws
