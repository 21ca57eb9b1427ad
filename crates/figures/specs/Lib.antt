-- What it means that the figures stand in the columns, and what each function on the way is given and does.
pub mod Figured
pub mod Steps
