-- Sound: the rules that the theorem on runs asks of a sheet. Displacement: d over walks, and the rule for it before request 4. Order: what an order has
-- to obey, and what the first of a list are. Cores: two cores, two runs and two services that differ in what is written back. Agree: two sheets that
-- have the same figures at the points of a task. Without: what a service returns and leaves of the empty text. Formulas: the formulas of the figures.
-- Lines: the lines of a task, and the line that a refusal names. Exported: the answer and the result of run from C.
pub mod Sound
pub mod Displacement
pub mod Order
pub mod Cores
pub mod Agree
pub mod Without
pub mod Formulas
pub mod Lines
pub mod Exported
