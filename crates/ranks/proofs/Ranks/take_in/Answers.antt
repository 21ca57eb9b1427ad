-- A rank that is no higher than the last changes nothing; any other sinks.
use native.Mathlib.Omega.{arith}
use mathlib.Core.Path.{ap, ◌∙◌}
use lib.ListN.{length}
use Rattle.ranks.proofs.Laws.{low-best, sunk-best, length-best, falling-best}
use Rattle.ranks.proofs.Ranks.take_in.Goals as goal

pub returns-then-rank-self : goal.returns-then-rank-self
returns-then-rank-self c =
    let s = c.args.self.now in
    low-best c.args.rank s.places s.falling s.ten (omega arith)

pub invariant_of-self : goal.invariant_of-self
invariant_of-self c =
    let s = c.args.self.now in
    let e = c.sink.ensures ∙ sunk-best c.args.rank s.places s.falling s.ten in
    record {
      ten = ap length e ∙ length-best s.places _ s.ten;
      falling = rw e (falling-best s.places _ s.falling);
    }

pub returns : goal.returns
returns c =
    let s = c.args.self.now in
    c.sink.ensures ∙ sunk-best c.args.rank s.places s.falling s.ten
