-- `line::read_e` meets its contract: the letter after the e leaves one of the two patterns.
use mathlib.Core.Path.{refl, ◌∙◌}
use native.Mathlib.Omega.{arith}
use Rattle.model.specs.Basic.{select}
use Rattle.model.specs.declared.Point.TheVariants.{Ensure}
use Rattle.line.proofs.Laws.{left_one, none_left}
use Rattle.line.proofs.read_e.Goals as goal

pub returns-in-110 : goal.returns-in-110
unfolding select
returns-in-110 c = c.read_numbered.ensures Ensure (λ n x e. e) ∙ left_one 4 110 _ (omega arith) _ _ refl

pub returns-in-105 : goal.returns-in-105
unfolding select
returns-in-105 c = c.read_either.ensures ∙ left_one 4 105 _ (omega arith) _ _ refl

pub returns-in_default : goal.returns-in_default
unfolding select
returns-in_default c = none_left 4 _ _ (omega arith)
