-- The judgement of a text as one number, and what a service returns as the numbers of a result.
use Prim.Native.Nat.{ℕ, ◌≤◌, ◌<◌}
use mathlib.Core.Path.{◌≡◌, ap, ◌∙◌}
use mathlib.Core.List.{List, [], ◌∷◌}
use native.Mathlib.Omega.{arith}
use lib.ListN.{length, set}
use borrow.Rule.Slice.PartMut.{put_mid}
use Rattle.std.specs.Result.{result_unwrap_or}
use borrow.Author.Tests.{lt-ltb, le-ltb}
use Rattle.std.proofs.Common.{Result, Ok, Err}
use Rattle.model.specs.declared.Refusal.{Refusal}
use Rattle.model.specs.Rows.{packed}
use Rattle.model.specs.Task.{refused}
use Rattle.model.specs.Refusal.{judged}
use Rattle.model.specs.declared.Eviction.{Eviction}
use Rattle.model.specs.Services.{Written, bytes_written, over, judged_number, check_number, Called, called, exported, RunBuffers, run_numbers}
use Rattle.theory.specs.Exported.{RunAnswered}
use Rattle.theory.proofs.Faithful.{numbers-hold}
use Rattle.theory.proofs.Places.{judged-place}
use Rattle.tables.specs.declared.Header.{Header}
use Rattle.judge.specs.Judgement.{judged_in, Judges}

module _ (text : List ℕ) {r : Result Header Refusal} {w w' : List ℕ} (a : Judges (judged text) w r w') where
  number_is : check_number text ≡ judged_number (judged_in w' r)
  unfolding check_number
  number_is = rw a.same

  pub accepted : {g : Header} → r ≡ Ok g → 0 ≡ check_number text
  accepted e = rw (number_is, e)

  module _ {q : Refusal} (e : r ≡ Err q) where
    -- the place of a refused text fits 16 bits
    pub fits : q.place ≤ 65535
    fits = let i : judged text ≡ refused q = rw e at a.same in omega (arith, judged-place text q i)

    pub numbered : {n : ℕ} → n ≡ packed q → n ≡ check_number text
    numbered i = rw (number_is, e) i

-- code and place, and behind them the numbers that are added
pub put_all : (a b k i j : ℕ) (added l : List ℕ) {v : List ℕ} → i ≡ 0 → j ≡ 1 → v ≡ added → k ≡ length added → 2 ≤ length l
    → put_mid 2 k (set (set l i a) j b) v ≡ over (a ∷ b ∷ added) l
unfolding over
put_all a b k i j added [] p q e n h = absurd (omega arith)
put_all a b k i j added (x ∷ []) p q e n h = absurd (omega arith)
put_all a b k i j added (x ∷ y ∷ l) p q e n h = rw (p, q, e, n)

-- the bytes written, as a number of the result
pub bytes-are : (r : Written) {n : ℕ} → n ≡ result_unwrap_or r 0 → n ≡ bytes_written r
bytes-are (Ok n) e = e
bytes-are (Err q) e = e

-- a service as C calls it, where the buffer of the result has too few numbers and where it has not
module _ {A : Type 0} (numbers : List ℕ) (left lent : A) (result : List ℕ) where
  pub too_few : length result < length numbers → called 0 result lent ≡ exported numbers left lent result
  unfolding exported
  too_few h = rw (lt-ltb (length result) (length numbers) h)

  enough-is : length numbers ≤ length result → called 1 (over numbers result) left ≡ exported numbers left lent result
  unfolding exported
  enough-is h = rw (le-ltb (length result) (length numbers) h)

-- s: what the service returned and left
pub enough : {S A : Type 0} (numbers : S → List ℕ) (left : S → A) (lent : A) (result : List ℕ) {result' : List ℕ} {s s' : S} → s ≡ s'
    → length (numbers s) ≤ length result → result' ≡ over (numbers s) result → called 1 result' (left s) ≡ exported (numbers s') (left s') lent result
enough numbers left lent result {s = s} e h p =
    ap (λ (l : List ℕ). called 1 l (left s)) p ∙ enough-is (numbers s) (left s) lent result h ∙ ap (λ z. exported (numbers z) (left z) lent result) e

-- what run gives to C, with what C can rely on: moved is at most allowed
pub and-bounded : (x : Eviction) (text : List ℕ) (start each : ℕ) (work events answers cache memory result : List ℕ) {c : Called RunBuffers}
    → c ≡ run_numbers x text start each work events answers cache memory result
    → (c ≡ run_numbers x text start each work events answers cache memory result) × RunAnswered c.answer result c.result
and-bounded x text start each work events answers cache memory result e =
    (e, numbers-hold x text start each work events answers cache memory result _ e)
