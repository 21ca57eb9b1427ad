-- Holds has one proof at most, so that a struct can carry it.
use Rattle.std.specs.Prelude.{ℕ, zero, suc, ◌+◌, ◌≡◌, List}
use Rattle.std.specs.Coded.{×_prop, le_prop}
use Rattle.std.proofs.Math.Nat.{ℕ_set}
use Rattle.std.proofs.Math.Path.{refl, sym, ap, subst, subst_refl, subst⁻¹, subst⁻¹_refl, path_j, ◌∙◌}
use Rattle.tables.specs.declared.Header.{Header}
use Rattle.tables.specs.Tables.{base_at, size_at, Stacked}
use Rattle.tables.specs.Valid.{Holds}

-- Stacked by recursion: each function starts where those before it end
StackedBy : List ℕ → ℕ → ℕ → Type 0
StackedBy w zero m = 0 ≡ m
StackedBy w (suc n) m = StackedBy w n (base_at w n) × (base_at w n + size_at w n ≡ m)

by_prop : (w : List ℕ) (n m : ℕ) → IsProp (StackedBy w n m)
unfolding StackedBy
by_prop w zero m = ℕ_set 0 m
by_prop w (suc n) m = ×_prop (by_prop w n (base_at w n)) (ℕ_set _ _)

to_by : (w : List ℕ) {n m : ℕ} → Stacked w n m → StackedBy w n m
unfolding StackedBy
to_by w Stacked.none = refl
to_by w (Stacked.more {n} {m} a e) = (subst⁻¹ (StackedBy w n) e (to_by w a), ap (λ (k : ℕ). k + size_at w n) e)

from_by : (w : List ℕ) (n m : ℕ) → StackedBy w n m → Stacked w n m
unfolding StackedBy
from_by w zero m e = subst (Stacked w 0) e Stacked.none
from_by w (suc n) m b = subst (Stacked w (suc n)) b.1 (Stacked.more (from_by w n (base_at w n) b.0) refl)

to-from : (w : List ℕ) {n m : ℕ} (a : Stacked w n m) → from_by w n m (to_by w a) ≡ a
unfolding StackedBy to_by from_by
to-from w Stacked.none = subst_refl (Stacked w 0) Stacked.none
to-from w (Stacked.more {n} {m} a e) =
    path_j
    (λ m e. (a : Stacked w n m) → from_by w n m (to_by w a) ≡ a → from_by w (suc n) (m + size_at w n) (to_by w (Stacked.more a e)) ≡ Stacked.more a e)
    (λ a i.
    subst_refl (Stacked w (suc n)) _
    ∙ ap (λ b. Stacked.more (from_by w n (base_at w n) b) refl) (subst⁻¹_refl (StackedBy w n) (to_by w a))
    ∙ ap (λ (a : Stacked w n (base_at w n)). Stacked.more a refl) i)
    e a (to-from w a)

pub stacked_prop : {w : List ℕ} {n m : ℕ} → IsProp (Stacked w n m)
stacked_prop {w} {n} {m} a b =
    sym (to-from w a) ∙ ap (from_by w n m) (by_prop w n m (to_by w a) (to_by w b)) ∙ to-from w b

pub holds_prop : (w : List ℕ) (h : Header) → IsProp (Holds w h)
holds_prop w h = Prim.hlevel (le_prop, stacked_prop)
