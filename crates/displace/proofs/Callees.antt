-- The functions that a function calls, from its last point to its first, and what D and d are of theirs.
use Prim.Native.Nat.{ℕ, ◌+◌, ◌<◌, min}
use native.Mathlib.Omega.{arith}
use native.Mathlib.Numerals.{add-one}
use mathlib.Core.List.{List, [], ◌∷◌, ◌++◌}
use mathlib.Core.Option as maybe
use mathlib.Core.Path.{◌≡◌, refl, ap, sym, ◌∙◌}
use lib.ListN.{drop}
use lib.Seq.{drop-cons, drop-length}
use Rattle.std.specs.Prelude.{◌≢◌, Option, Some, None}
use Rattle.model.specs.declared.Point.TheVariants.{Return}
use Rattle.model.specs.Basic.{joined, largest, smallest}
use Rattle.model.specs.Walk.{called}
use Rattle.model.specs.Figures.{the_called, callees}
use Rattle.tables.specs.declared.Span.{Span}
use Rattle.tables.specs.Tables.{item, point_at, points_of}
use Rattle.tables.proofs.Laws.{length-points, point-there}
use Rattle.columns.specs.Columns.{longest_column, shortest_column}
use Rattle.columns.specs.Values.{func_called_at, CallFits}
use Rattle.columns.proofs.Values.{among-some, among-none}
use Rattle.displace.specs.declared.CalleeRange.{CalleeRange}
use Rattle.displace.specs.Range.{widened, most_of, RangeIn, RangeOf}

-- the largest D of a range
pub range-most : (w l : List ℕ) (r : Option CalleeRange) → RangeIn w l r → most_of r ≡ largest (λ g. item w (longest_column + g)) l
unfolding largest
range-most w l None e = rw e
range-most w l (Some r) k = k.most

smallest-more : (f : ℕ → ℕ) (g : ℕ) (l : List ℕ) (a : ℕ) → l ≢ [] → a ≡ smallest f l → smallest f (g ∷ l) ≡ min a (f g)
unfolding smallest
smallest-more f g [] a some e = absurd (some refl)
smallest-more f g (b ∷ l) a some e = omega arith

range-more : (w l : List ℕ) (r : Option CalleeRange) (g : ℕ) → RangeIn w l r
    → RangeIn w (g ∷ l) (Some (widened r (item w (longest_column + g)) (item w (shortest_column + g))))
unfolding largest smallest
range-more w l None g e = rw e (record { some = λ i. cc; most = omega arith; least = refl })
range-more w l (Some r) g k =
    record {
      some = λ i. cc;
      most = omega (arith, k.most);
      least = sym (smallest-more (λ g. item w (shortest_column + g)) g l r.least k.some k.least);
    }

-- the functions that the points of s from p on call
unfoldable pub called_from : List ℕ → Span → ℕ → List ℕ
called_from w s p = joined (λ x. the_called (called x)) (drop p (points_of w s.base s.size))

-- their range
abbrev pub Seen : List ℕ → Span → ℕ → Option CalleeRange → Type 0
Seen w s p r = RangeIn w (called_from w s p) r

module _ (w : List ℕ) (s : Span) where
  pub seen_none : Seen w s s.size None
  unfolding called_from joined
  seen_none =
      let e : drop s.size (points_of w s.base s.size) ≡ [] =
      ap (λ (n : ℕ). drop n (points_of w s.base s.size)) (sym (length-points w s.base s.size)) ∙ drop-length (points_of w s.base s.size) in
      rw e

  module _ (p : ℕ) (h : p < s.size) where
    called_more : called_from w s p ≡ the_called (called (point_at w (s.base + p))) ++ called_from w s (p + 1)
    unfolding called_from joined
    called_more =
        rw (
          drop-cons (points_of w s.base s.size) p Return (omega (arith, length-points w s.base s.size)),
          point-there w s.base
              s.size p h,
          add-one p,
        )

    -- a point that calls g, and one that calls nothing
    pub seen-call : {n g : ℕ} (r : Option CalleeRange) → n ≡ p + 1 → func_called_at w s p ≡ maybe.some g → Seen w s n r
        → Seen w s p (Some (widened r (item w (longest_column + g)) (item w (shortest_column + g))))
    seen-call {g = g} r i e k =
        let c : called_from w s p ≡ g ∷ called_from w s (p + 1) =
        called_more ∙ ap (λ (o : maybe.Option ℕ). the_called o ++ called_from w s (p + 1)) (among-some (called (point_at w (s.base + p))) e) in
        rw c (range-more w (called_from w s (p + 1)) r g (rw i at k))

    pub seen_other : {n : ℕ} (r : Option CalleeRange) → n ≡ p + 1 → CallFits w s p → func_called_at w s p ≡ maybe.none → Seen w s n r → Seen w s p r
    seen_other r i fits e k =
        let c : called_from w s p ≡ called_from w s (p + 1) =
        called_more ∙ none-called (called (point_at w (s.base + p))) (λ g j. omega (arith, fits g j, among-none _ e g j)) in
        rw c (rw i at k)
      where
        none-called : (o : maybe.Option ℕ) → ((g : ℕ) → o ≡ maybe.some g → ⊥) → the_called o ++ called_from w s (p + 1) ≡ called_from w s (p + 1)
        none-called maybe.none f = refl
        none-called (maybe.some g) f = absurd (f g refl)

  pub seen_all : {p : ℕ} (r : Option CalleeRange) → p ≡ 0 → Seen w s p r → RangeOf w s r
  unfolding called_from callees
  seen_all r e k = rw e at k
