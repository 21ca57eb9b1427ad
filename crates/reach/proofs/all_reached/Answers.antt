-- While the flag is up, every point so far is marked as reached.
use mathlib.Core.Bool.{not, true≢false}
use mathlib.Core.Path.{ap, sym, ◌∙◌}
use borrow.Author.Count.{below_more}
use Rattle.reach.proofs.Rows.{seen-test}
use Rattle.reach.proofs.all_reached.Goals.{then-eq, else-eq}
use Rattle.reach.proofs.all_reached.Goals as goal

pub loop-mark-preserved : goal.loop-mark-preserved
loop-mark-preserved c e = elim c.if-eq.branch [
  | then-eq w ↦ absurd (true≢false (sym e ∙ w.all-is))
  | else-eq w ↦ below_more _ _ (c.loop-mark.invariant (sym w.all-is ∙ e)) (sym (seen-test c.args.state.now c.loop-mark.mark-index) ∙ ap not (sym c.eq.ensures ∙ w.if-eq.false))
]
