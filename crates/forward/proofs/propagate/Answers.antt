-- Each arm merges the set into those of the points that it names.
use native.Mathlib.Omega.{arith}
use Rattle.forward.proofs.Steps.{ready-one, ready-first, ready-second, propagated-none, propagated-one, propagated-two, listed-sound, onward-by}
use Rattle.forward.proofs.propagate.Goals as goal

pub take-requires : goal.take-requires
take-requires c = (omega arith, listed-sound c.requires.list)

pub follow-requires : goal.follow-requires
follow-requires c = ready-one c.requires c.in-To.is

pub merge-requires : goal.merge-requires
merge-requires c = ready-first c.requires c.in-Fork.is

pub follow-requires-in-Fork : goal.follow-requires-in-Fork
follow-requires-in-Fork c = ready-second c.requires c.in-Fork.is c.merge.ensures.0

pub returns-in-Nowhere : goal.returns-in-Nowhere
returns-in-Nowhere c = record { list = _; step = propagated-none c.in-Nowhere.is; took = c.take.ensures }

pub returns-in-To : goal.returns-in-To
returns-in-To c = onward-by (λ y a. propagated-one c.in-To.is a) c.follow.ensures

pub returns-in-Fork : goal.returns-in-Fork
returns-in-Fork c = onward-by (λ y a. propagated-two c.in-Fork.is c.merge.ensures.0 a) c.follow-in-Fork.ensures
