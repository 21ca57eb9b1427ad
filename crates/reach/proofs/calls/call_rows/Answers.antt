-- Where no function had a mark before, those that are called have one.
use native.Mathlib.Omega.{arith}
use mathlib.Core.Bool.{false}
use mathlib.Core.Path.{sym, ◌∙◌}
use Rattle.model.specs.Limits.{most_funcs}
use Rattle.reach.proofs.Answers.{all_same}
use Rattle.reach.proofs.Called.{called_is}
use Rattle.reach.proofs.calls.call_rows.Goals as goal

pub first_unmarked-requires : goal.first_unmarked-requires
first_unmarked-requires c =
    let k = c.args.task.holds in
    (λ f h. c.mark_calls.ensures f (omega (arith, k.few)) ∙ sym (called_is k f))

pub mark_calls-requires : goal.mark_calls-requires
mark_calls-requires c = all_same false most_funcs
