-- The numbers of the functions raised, point by point, to those of the points that call them.
use Prim.Native.Nat.{ℕ, ◌+◌, ◌≤◌, ◌<◌, max}
use native.Mathlib.Omega.{arith}
use native.Mathlib.Decide.{ℕ_discrete}
use native.Mathlib.Numerals.{add-one}
use mathlib.Core.Bool.{Bool, true, false}
use mathlib.Core.List.{List}
use mathlib.Core.Option.{Option, none, some}
use mathlib.Core.Path.{◌≡◌, refl, ap, sym, ◌∙◌}
use lib.Dec.{eqb}
use lib.ListN.{length, set}
use borrow.Author.Tests.{eq-eqb, ne_eqb}
use Rattle.model.specs.declared.Point.{Point}
use Rattle.model.specs.Limits.{most_funcs}
use Rattle.model.specs.Walk.{called, is, calls}
use Rattle.tables.specs.declared.Span.{Span}
use Rattle.tables.specs.Layout.{tables_length}
use Rattle.tables.specs.Tables.{item, point_at, func_in}
use Rattle.tables.specs.Valid.{Lies}
use Rattle.tables.proofs.Laws.{here, elsewhere, point-there}
use Rattle.columns.specs.Columns.{Changed}
use Rattle.columns.specs.Values.{raised_by, func_called_at, Raised}
use Rattle.columns.proofs.Values.{among-some, among-none}
use Rattle.columns.proofs.Writes.{changed-none, changed-set, changed-agree}

raised-yes : (test : ℕ → Bool) (v : ℕ → ℕ) (p m : ℕ) → test p ≡ true → raised_by test v (p + 1) m ≡ max (raised_by test v p m) (v p)
unfolding raised_by
raised-yes test v p m e = rw (add-one p, e)

raised-no : (test : ℕ → Bool) (v : ℕ → ℕ) (p m : ℕ) → test p ≡ false → raised_by test v (p + 1) m ≡ raised_by test v p m
unfolding raised_by
raised-no test v p m e = rw (add-one p, e)

-- the first p points of s have raised the numbers of their callees
pub record Raising (a : ℕ) (s : Span) (v : List ℕ) (p : ℕ) (w₀ w : List ℕ) : Type 0 where
  pub changed : Changed a most_funcs w₀ w
  pub each : (g : ℕ) → g < most_funcs → item w (a + g) ≡ raised_by (calls (func_in w₀ s) g) (item v) p (item w₀ (a + g))

pub raising-none : (a : ℕ) (s : Span) (v w : List ℕ) → Raising a s v 0 w w
unfolding raised_by
raising-none a s v w = record { changed = changed-none a most_funcs w; each = λ g h. refl }

pub raising-all : {a n : ℕ} {s : Span} {v w₀ w : List ℕ} → n ≡ s.size → Raising a s v n w₀ w → Raised a s v w₀ w
raising-all e k = let r = rw e at k in record { changed = r.changed; each = r.each }

module _ (a : ℕ) (s : Span) (v : List ℕ) {w₀ : List ℕ} (w : List ℕ) (p : ℕ) (behind : tables_length ≤ a) (lies : Lies w₀ s) (h : p < s.size)
    (r : Raising a s v p w₀ w) where
  calls-as : (f : ℕ) → calls (func_in w₀ s) f p ≡ is f (called (point_at w (s.base + p)))
  calls-as f =
      ap (λ (x : Point). is f (called x)) (point-there w₀ s.base s.size p h
      ∙ sym ((changed-agree behind r.changed 0 (omega arith)).point (s.base + p) (omega (arith, lies.within))))

  pub raising-call : {g x : ℕ} → func_called_at w s p ≡ some g → g < most_funcs → a + most_funcs ≤ length w → x ≡ max (item w (a + g)) (item v p)
      → Raising a s v (p + 1) w₀ (set w (a + g) x)
  raising-call {g} {x} e l room m =
      let calls-test : (f : ℕ) → calls (func_in w₀ s) f p ≡ eqb f g =
      λ f. calls-as f ∙ ap (is f) (among-some (called (point_at w (s.base + p))) e) in
      record {
        changed = changed-set a most_funcs w (a + g) x (omega arith) (omega arith) r.changed;
        each = λ f k.
            elim (ℕ_discrete f g) [
              | yes d ↦
                  let t = raised-yes (calls (func_in w₀ s) f) (item v) p (item w₀ (a + f)) (calls-test f ∙ eq-eqb f g d) in
                  let i : item (set w (a + g) x) (a + f) ≡ x = ap (λ (n : ℕ). item (set w (a + g) x) (a + n)) d ∙ here w (a + g) x (omega arith) in
                  omega (arith, i, m, t, r.each f k, ap (λ (n : ℕ). item w (a + n)) d)
              | no d ↦
                  elsewhere w (a + g) (a + f) x (omega arith)
                  ∙ (r.each f k ∙ sym (raised-no (calls (func_in w₀ s) f) (item v) p (item w₀ (a + f)) (calls-test f ∙ ne_eqb f g d)))
            ];
      }

  pub raising-other : func_called_at w s p ≡ none → Raising a s v (p + 1) w₀ w
  raising-other e =
      record {
        changed = r.changed;
        each = λ f k.
            r.each f k
            ∙ sym (raised-no (calls (func_in w₀ s) f) (item v) p (item w₀ (a + f)) (calls-as f ∙ not-called f k (called (point_at w (s.base + p))) (among-none _ e)));
      }
    where
      not-called : (f : ℕ) → f < most_funcs → (o : Option ℕ) → ((n : ℕ) → o ≡ some n → most_funcs ≤ n) → is f o ≡ false
      not-called f k none past = refl
      not-called f k (some n) past = ne_eqb f n (λ d. omega (arith, past n refl))
