pub mod Callers
pub mod Limits
pub mod Gathers
pub mod Points
pub mod Filed
pub mod Stages
