-- What every service starts from, and what one that writes bytes leaves of an accepted text.
pub mod Served
