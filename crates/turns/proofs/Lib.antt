-- Laws: a step that moves nothing, a start, and the number of an eviction. Given: what a step and a preemption ask, from a state that a run can be
-- in. Events: from a step and a preemption to an event, and its rows. Kept: what a loop over events cites.
pub mod Laws
pub mod Given
pub mod Events
pub mod Kept
