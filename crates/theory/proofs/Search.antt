-- Searches through i, i + 1, .. below n: for the first refusal that they give, and for some number that passes a test.
use Prim.Native.Nat.{ℕ, zero, suc, ◌+◌, ◌-◌, ◌≤◌, ◌<◌}
use native.Mathlib.Nat.{add-suc, suc-add, zero-add}
use native.Mathlib.Omega.{arith}
use native.Mathlib.Numerals.{add-one, unary_clauses}
use mathlib.Core.Path.{◌≡◌, refl, ap, sym, ◌∙◌}
use mathlib.Core.Bool.{Bool, ◌||◌, or-false, or_assoc}
use mathlib.Core.List.{[], ◌∷◌}
use Rattle.std.proofs.Common.{Ok, Err}
use mathlib.Core.Option.{Option, none, some}
use Rattle.model.specs.declared.Refusal.{Refusal}
use Rattle.model.specs.Basic.{◌or_else◌, first_of, any, count_from, up_to}
use Rattle.model.specs.Rows.{Verdict, row_verdict}

-- the numbers that are left, one by one
pub count-more : (i n : ℕ) → i < n → count_from i (n - i) ≡ i ∷ count_from (i + 1) (n - (i + 1))
unfolding count_from
count-more i n h = let e : n - i ≡ suc (n - (i + 1)) = omega arith in rw (e, add-one)

pub count-end : (i n : ℕ) → n ≤ i → count_from i (n - i) ≡ []
unfolding count_from
count-end i n h = let e : n - i ≡ 0 = omega arith in rw e

-- the answer of a search is what the numbers from i on give
abbrev pub Rest : Option Refusal → (ℕ → Option Refusal) → ℕ → ℕ → Type 0
Rest whole row i n = whole ≡ first_of row (count_from i (n - i))

-- what a verdict says of the refusal that it stands for
pub verdict-none : (o : Option Refusal) → row_verdict o ≡ Ok tt → o ≡ none
verdict-none none d = refl
verdict-none (some r) d = let z : ◌≡◌ {A = ℕ} 0 1 = cc in absurd (omega arith)

pub verdict-some : (o : Option Refusal) {r : Refusal} → row_verdict o ≡ Err r → o ≡ some r
verdict-some none d = let z : ◌≡◌ {A = ℕ} 0 1 = cc in absurd (omega arith)
verdict-some (some q) d = cc

-- a row with no other after it decides alone
or-none : (o : Option Refusal) → (o or_else none) ≡ o
or-none none = refl
or-none (some r) = refl

-- one step of such a search, where number i has the verdict v; its last step, where the number q that was judged is i; and its end
module _ (row : ℕ → Option Refusal) (i n : ℕ) {whole : Option Refusal} (l : Rest whole row i n) where
  pub search-on : {v : Verdict} → v ≡ row_verdict (row i) → v ≡ Ok tt → i < n → Rest whole row (i + 1) n
  unfolding first_of
  search-on e a h =
      l
      ∙ rw
      (count-more i n h)
      (ap
      (λ (o : Option Refusal). o or_else first_of row (count_from (i + 1) (n - (i + 1))))
      (verdict-none (row i) (sym e ∙ a)))

  pub search-off : {v : Verdict} → v ≡ row_verdict (row i) → {r : Refusal} → v ≡ Err r → i < n → Err r ≡ row_verdict whole
  unfolding first_of
  search-off e a h =
      rw
      (l, count-more i n h)
      (ap
      (λ (o : Option Refusal). row_verdict (o or_else first_of row (count_from (i + 1) (n - (i + 1)))))
      (sym (verdict-some (row i) (sym e ∙ a))))

  pub search-last : {v : Verdict} (q : ℕ) → v ≡ row_verdict (row q) → q ≡ i → i + 1 ≡ n → v ≡ row_verdict whole
  unfolding first_of
  search-last q e d h =
      rw
      (l, count-more i n (omega arith), count-end (i + 1) n (omega arith))
      (e ∙ (ap (λ (j : ℕ). row_verdict (row j)) d ∙ ap row_verdict (sym (or-none (row i)))))

  pub search-end : n ≤ i → Ok tt ≡ row_verdict whole
  unfolding first_of
  search-end h = rw (l, count-end i n h)

-- a test of a range in two parts, and of one number more
pub any-add : (q : ℕ → Bool) (i n m : ℕ) → any q (count_from i (n + m)) ≡ (any q (count_from i n) || any q (count_from (i + n) m))
unfolding any count_from
any-add q i zero m = simp (unary_clauses, zero-add)
any-add q i (suc n) m =
    rw
    (suc-add n m, add-suc i n, ← suc-add i n)
    (ap (λ (b : Bool). q i || b) (any-add q (suc i) n m)
    ∙ sym (or_assoc (q i) (any q (count_from (suc i) n)) (any q (count_from (suc i + n) m))))

pub any_last : (q : ℕ → Bool) (n : ℕ) → any q (up_to (suc n)) ≡ (any q (up_to n) || q n)
unfolding any count_from
any_last q n =
    ap (λ (k : ℕ). any q (up_to k)) (sym (add-one n))
    ∙ (any-add q 0 n 1 ∙ ap (λ (b : Bool). any q (up_to n) || b) (or-false (q (0 + n)) ∙ ap q (zero-add n)))

-- two tests that agree on the range, and a test of numbers that are b further on
pub any_same : (q r : ℕ → Bool) (i n : ℕ) → ((j : ℕ) → i ≤ j → j < i + n → q j ≡ r j) → any q (count_from i n) ≡ any r (count_from i n)
unfolding any count_from
any_same q r i zero h = refl
any_same q r i (suc n) h =
    λ k. h i (omega arith) (omega arith) k
    || any_same q r (suc i) n (λ j a b. h j (omega arith) (omega arith)) k

pub any-shift : (q : ℕ → Bool) (b i n : ℕ) → any (λ p. q (b + p)) (count_from i n) ≡ any q (count_from (b + i) n)
unfolding any count_from
any-shift q b i zero = refl
any-shift q b i (suc n) = ap (λ (x : Bool). q (b + i) || x) (any-shift q b (suc i) n ∙ simp unary_clauses)
