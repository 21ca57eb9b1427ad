-- Before: 15 and 23. Laws: what every service starts from and leaves, and what one that writes bytes returns.
pub mod Before
pub mod Laws
