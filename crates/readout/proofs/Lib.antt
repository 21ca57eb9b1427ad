-- Same: what stays where tables and columns do. Read: the numbers of the columns, as they are read, are those of the sheet. Limits: how large these are.
pub mod Same
pub mod Read
pub mod Limits
