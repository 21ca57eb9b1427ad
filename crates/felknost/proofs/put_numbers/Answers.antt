-- Code and place, and behind them the numbers that are added.
use mathlib.Core.Path.{◌∙◌}
use mathlib.Core.List.{◌∷◌}
use native.Mathlib.Omega.{arith}
use Rattle.model.specs.Services.{over}
use Rattle.felknost.proofs.Laws.{put_all}
use Rattle.felknost.proofs.put_numbers.Goals as goal

pub returns : goal.returns
returns c =
    let p = c.place_of.ensures in
    let n = c.code_of.ensures in
    put_all _ _ _ _ _ c.args.added.now _ (omega arith) (omega arith) c.copy_from_slice.ensures.after (omega arith) (omega arith)
    ∙ (λ i. over (n i ∷ p i ∷ c.args.added.now) c.args.res.now)
