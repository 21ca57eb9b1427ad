-- `line::read_point` meets its contract: the letter leaves one of the patterns, or the two that have an e.
use mathlib.Core.Path.{refl, ◌∙◌}
use native.Mathlib.Omega.{arith}
use Rattle.model.specs.Basic.{select}
use Rattle.model.specs.declared.Point.TheVariants.{Load, Store, Call, Goto}
use Rattle.line.proofs.Laws.{left-some, left_one, none-short, none_left}
use Rattle.line.proofs.read_point.Goals as goal

pub returns-in-115 : goal.returns-in-115
unfolding select
returns-in-115 c = c.read_numbered-in-115.ensures Store (λ n x e. e) ∙ left_one 3 115 _ (omega arith) _ _ refl

pub returns-in-103 : goal.returns-in-103
unfolding select
returns-in-103 c = c.read_numbered-in-103.ensures Goto (λ n x e. e) ∙ left_one 3 103 _ (omega arith) _ _ refl

pub returns-then-s-lt-SHORTEST : goal.returns-then-s-lt-SHORTEST
unfolding select
returns-then-s-lt-SHORTEST c = none-short _ _ (omega arith)

pub returns-in-108 : goal.returns-in-108
unfolding select
returns-in-108 c = c.read_numbered.ensures Load (λ n x e. e) ∙ left_one 3 108 _ (omega arith) _ _ refl

pub returns-in-99 : goal.returns-in-99
unfolding select
returns-in-99 c = c.read_numbered-in-99.ensures Call (λ n x e. e) ∙ left_one 3 99 _ (omega arith) _ _ refl

pub returns-in-101 : goal.returns-in-101
unfolding select
returns-in-101 c = c.read_e.ensures ∙ left-some 3 101 _ (omega arith) _ _ refl

pub returns-in-114 : goal.returns-in-114
unfolding select
returns-in-114 c = c.read_return.ensures ∙ left_one 3 114 _ (omega arith) _ _ refl

pub returns-in_default : goal.returns-in_default
unfolding select
returns-in_default c = none_left 3 _ _ (omega arith)
