-- Each arm of the match is one case of the definition.
use borrow.Author.Rules.{rules}
use Rattle.bits.proofs.Laws.{union-none}
use Rattle.flow.proofs.Laws.{next_one, next_both}
use Rattle.backward.specs.Rounds.{joined}
use Rattle.backward.proofs.from_next.Goals as goal

pub offset_bounds-sets-q : goal.offset_bounds-sets-q
offset_bounds-sets-q c = let h = next_one c.requires c.in-To.is in search rules

pub bounds-sets-q : goal.bounds-sets-q
bounds-sets-q c = next_one c.requires c.in-To.is

pub offset_bounds-sets-q-in-Fork : goal.offset_bounds-sets-q-in-Fork
offset_bounds-sets-q-in-Fork c = let h = next_both c.requires c.in-Fork.is in search rules

pub bounds-sets-q-in-Fork : goal.bounds-sets-q-in-Fork
bounds-sets-q-in-Fork c = (next_both c.requires c.in-Fork.is).0

pub offset_bounds-sets-r : goal.offset_bounds-sets-r
offset_bounds-sets-r c = let h = next_both c.requires c.in-Fork.is in search rules

pub bounds-sets-r : goal.bounds-sets-r
bounds-sets-r c = (next_both c.requires c.in-Fork.is).1

pub returns-in-To : goal.returns-in-To
unfolding joined
returns-in-To c = rw (c.in-To.is, union-none)

pub returns-in-Fork : goal.returns-in-Fork
unfolding joined
returns-in-Fork c = rw (c.in-Fork.is, union-none) c.union_of.ensures

pub returns-in-Nowhere : goal.returns-in-Nowhere
unfolding joined
returns-in-Nowhere c = rw c.in-Nowhere.is
