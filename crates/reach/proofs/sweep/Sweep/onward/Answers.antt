-- Each arm brings the set to the points that it names.
use Prim.Native.Nat.{ℕ}
use native.Mathlib.Numerals.{add-one}
use mathlib.Core.List.Memᴰ
use mathlib.Core.List.{[], ◌∷◌}
use mathlib.Core.Path.{refl, ap, ◌∙◌}
use Rattle.flow.specs.Flow.{targets}
use Rattle.reach.proofs.Theory.{moved_none, moved_more}
use Rattle.reach.proofs.sweep.Sweep.onward.Goals as goal

pub returns-then-arrive-2 : goal.returns-then-arrive-2
returns-then-arrive-2 c x h =
    let first = c.arrive-in-Fork.ensures c.if-not-arrive.false in
    (h, rw c.in-Fork.is (moved_more first (c.arrive-in-Fork-2.ensures c.if-arrive-2.true)))

pub returns-then-q-p : goal.returns-then-q-p
returns-then-q-p c x h = (h, ap targets c.in-To.is ∙ ap (λ (v : ℕ). v ∷ []) (c.if-q-p.true ∙ add-one _), refl, refl)

pub arrive-requires : goal.arrive-requires
arrive-requires c = c.requires.1 _ (rw c.in-To.is (Memᴰ.head refl))

pub returns-then-arrive : goal.returns-then-arrive
returns-then-arrive c x h = (h, rw c.in-To.is (c.arrive.ensures c.if-arrive.true))

pub arrive-requires-in-Fork : goal.arrive-requires-in-Fork
arrive-requires-in-Fork c = c.requires.1 _ (rw c.in-Fork.is (Memᴰ.head refl))

pub arrive-requires-in-Fork-2 : goal.arrive-requires-in-Fork-2
arrive-requires-in-Fork-2 c = c.requires.1 _ (rw c.in-Fork.is (Memᴰ.tail (Memᴰ.head refl)))

pub returns-in-Nowhere : goal.returns-in-Nowhere
returns-in-Nowhere c x h = (h, rw c.in-Nowhere.is (moved_none _ _))
