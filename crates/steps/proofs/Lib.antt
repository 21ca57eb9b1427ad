-- What the functions of this crate return, by the turns of the model.
pub mod Laws
