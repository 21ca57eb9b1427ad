-- Going: what is done of a run and what is left make up the whole. Loop: what the loop over the events keeps.
pub mod Going
pub mod Loop
