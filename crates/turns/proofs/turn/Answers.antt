-- A step or a preemption, by the kind.
use mathlib.Core.Path.{ap, sym, ◌∙◌}
use native.Mathlib.Omega.{arith}
use Rattle.turns.specs.Turns.{act_in}
use Rattle.turns.proofs.Events.{act-step, act-preempt}
use Rattle.turns.proofs.turn.Goals.{in-0, in_default}
use Rattle.turns.proofs.turn.Goals as goal

pub returns : goal.returns
returns c =
    let a = c.args in
    elim c.match-kind.branch [
      | in-0 w ↦ rw (ap act_in w.event-is ∙ sym (act-step a.kind a.value w.in-0.is)) at c.perform.ensures
      | in_default w ↦ rw (ap act_in w.event-is ∙ sym (act-preempt a.kind a.value (omega (arith, w.in_default)))) at c.perform.ensures
    ]
