-- Laws of the ten highest ranks: their order and their number, ranks that are met later, what one more rank does, and what ten zeros become.
use Rattle.std.specs.Prelude.{if◌then◌else◌}
use Prim.Native.Nat.{ℕ, zero, suc, ◌+◌, ◌≤◌, ◌<◌, min, max}
use mathlib.Core.Bool.{Bool, true, false}
use mathlib.Core.List.Memᴰ
use mathlib.Core.List.{List, [], ◌∷◌, ◌++◌, append-nil, Memᴰ}
use mathlib.Core.Logic.{⊎_elim}
use mathlib.Core.Path.{◌≡◌, refl, sym, ap, ◌∙◌}
use native.Mathlib.Decide.{dec_le}
use native.Mathlib.Numerals.{add-one}
use native.Mathlib.Omega.{arith}
use lib.Dec.{ltb→lt, nltb→le}
use lib.ListN.{length, get_or, set, take, drop, replicate, length-take, drop_of_length-le}
use lib.Seq.{take_all, take-length, take-take, take-append-le, drop-cons, append_snoc, take-suc-set, drop-set-lt}
use Rattle.model.specs.Limits.{most_dearest}
use Rattle.model.specs.Basic.{inserted, sorted_onto, sorted}
use Rattle.theory.proofs.Lists.{by-test}
use Rattle.theory.proofs.Between.{mem-get_or}
use Rattle.theory.proofs.Sorting.{pairs-take, mem-inserted, length-sorted_onto, sorted-append, window-sorted}
use Rattle.ranks.specs.Ranks.{higher, Falling, best, sunk}

-- ---- from the highest on

falling-inserted : (y : ℕ) (l : List ℕ) → Falling l → Falling (inserted higher y l)
unfolding inserted
falling-inserted y [] p = (λ z m. absurd (Memᴰ.not-nil m), tt)
falling-inserted y (x ∷ l) p =
    by-test Falling (higher y x)
    (λ h. (λ z m. ⊎_elim (λ (e : z ≡ x). omega (arith, ltb→lt)) (λ k. omega (arith, ltb→lt, p.0 z k)) (Memᴰ.cases_cons m), p))
    (λ h. (
      λ z m. ⊎_elim (λ (e : z ≡ y). omega (arith, nltb→le)) (λ k. p.0 z k) (Memᴰ.cases_cons ((mem-inserted higher y l).0 m)),
      falling-inserted y l p.1,
    ))

falling-sorted_onto : (l r : List ℕ) → Falling l → Falling (sorted_onto higher l r)
unfolding sorted_onto
falling-sorted_onto l [] p = p
falling-sorted_onto l (x ∷ r) p = falling-sorted_onto (inserted higher x l) r (falling-inserted x l p)

pub falling-best : (l r : List ℕ) → Falling l → Falling (best l r)
unfolding best
falling-best l r p = pairs-take (λ a b. b ≤ a) most_dearest (sorted_onto higher l r) (falling-sorted_onto l r p)

-- ---- ten, and ranks that are met later

pub length-best : (l r : List ℕ) → length l ≡ most_dearest → length (best l r) ≡ most_dearest
unfolding best
length-best l r h = length-take most_dearest (sorted_onto higher l r) ∙ omega (arith, length-sorted_onto higher l r)

pub best_none : (l : List ℕ) → length l ≡ most_dearest → l ≡ best l []
unfolding best sorted_onto
best_none l h = sym (take_all most_dearest l (omega arith))

pub best-append : (l r q : List ℕ) → best (best l r) q ≡ best l (r ++ q)
unfolding best
best-append l r q = window-sorted higher most_dearest (sorted_onto higher l r) q ∙ ap (take most_dearest) (sym (sorted-append higher l r q))

-- ---- one more rank

-- one that is above none of the first is put in behind them
low-inserted : (n y : ℕ) (l : List ℕ) → Falling l → n < length l → y ≤ get_or l n 0 → take (suc n) l ≡ take (suc n) (inserted higher y l)
unfolding inserted
low-inserted n y [] p h k = absurd (omega arith)
low-inserted zero y (x ∷ l) p h k = by-test (λ q. x ∷ [] ≡ take 1 q) (higher y x) (λ t. absurd (omega (arith, ltb→lt))) (λ t. refl)
low-inserted (suc n) y (x ∷ l) p h k =
    by-test (λ q. take (suc (suc n)) (x ∷ l) ≡ take (suc (suc n)) q) (higher y x)
    (λ t. absurd (omega (arith, ltb→lt, p.0 (get_or l n 0) (mem-get_or l n 0 (omega arith)))))
    (λ t. ap (λ q. x ∷ q) (low-inserted n y l p.1 (omega arith) k))

-- a rank that is no higher than the last of ten changes nothing
pub low-best : (y : ℕ) (l : List ℕ) → Falling l → length l ≡ most_dearest → y ≤ get_or l 9 0 → l ≡ best l (y ∷ [])
unfolding best sorted_onto
low-best y l p h k = sym (take_all most_dearest l (omega arith)) ∙ low-inserted 9 y l p (omega arith) k

-- one that is as high as all moves each one place down
sunk-high : (y : ℕ) (l : List ℕ) → Falling (y ∷ l) → sunk y l ≡ take (length l) (y ∷ l)
unfolding sunk
sunk-high y [] p = refl
sunk-high y (x ∷ l) p =
    let h = p.0 x (Memᴰ.head refl) in
    let e : max x y ≡ y = omega arith in
    let i : min x y ≡ x = omega arith in
    rw (e, i) (ap (λ q. y ∷ q) (sunk-high x l p.1))

sunk-inserted : (y : ℕ) (l : List ℕ) → Falling l → sunk y l ≡ take (length l) (inserted higher y l)
unfolding sunk inserted
sunk-inserted y [] p = refl
sunk-inserted y (x ∷ l) p =
    by-test (λ q. max x y ∷ sunk (min x y) l ≡ take (suc (length l)) q) (higher y x)
    (λ t.
    let e : max x y ≡ y = omega (arith, ltb→lt) in
    let i : min x y ≡ x = omega (arith, ltb→lt) in
    rw (e, i) (ap (λ q. y ∷ q) (sunk-high x l p)))
    (λ t.
    let e : max x y ≡ x = omega (arith, nltb→le) in
    let i : min x y ≡ y = omega (arith, nltb→le) in
    rw (e, i) (ap (λ q. x ∷ q) (sunk-inserted y l p.1)))

-- a rank that sinks through ten is taken in
pub sunk-best : (y : ℕ) (l : List ℕ) → Falling l → length l ≡ most_dearest → sunk y l ≡ best l (y ∷ [])
unfolding best sorted_onto
sunk-best y l p h = sunk-inserted y l p ∙ ap (λ (n : ℕ). take n (inserted higher y l)) h

-- the rank has sunk to place i as y; the places before it are done
pub record Sinking (rank y i : ℕ) (l l' : List ℕ) : Type 0 where
  pub so_far : sunk rank l ≡ take i l' ++ sunk y (drop i l')

-- place i keeps a, the higher one, and b goes on
pub sinking-on : {rank y i a b : ℕ} {l l' : List ℕ} → Sinking rank y i l l' → i < length l'
    → a ≡ max (get_or l' i 0) y → b ≡ min (get_or l' i 0) y → Sinking rank b (i + 1) l (set l' i a)
unfolding sunk
sinking-on {i = i} {a} {l' = l'} s k e d =
    record {
      so_far =
          rw (add-one i, take-suc-set l' i a k, drop-set-lt (suc i) l' i a (omega arith), append_snoc, e, d)
          (s.so_far ∙ rw (drop-cons l' i 0 k) refl);
    }

pub sinking-end : {rank y i : ℕ} {l l' : List ℕ} → Sinking rank y i l l' → length l' ≤ i → l' ≡ sunk rank l
unfolding sunk
sinking-end {i = i} {l' = l'} s k = sym (s.so_far ∙ rw (drop_of_length-le l' k, append-nil) (take_all i l' k))

-- ---- from ten zeros on

pub zeros-fall : (n : ℕ) → Falling (replicate n 0)
zeros-fall zero = tt
zeros-fall (suc n) = (λ y m. all-zero n y m, zeros-fall n)
  where
    all-zero : (n y : ℕ) → Memᴰ y (replicate n 0) → y ≤ 0
    all-zero zero y m = absurd (Memᴰ.not-nil m)
    all-zero (suc n) y m = ⊎_elim (λ (e : y ≡ 0). omega arith) (λ k. all-zero n y k) (Memᴰ.cases_cons m)

zeros-inserted : (y k : ℕ) (m : List ℕ) → inserted higher y (m ++ replicate k 0) ≡ inserted higher y m ++ replicate k 0
unfolding inserted
zeros-inserted y zero [] = refl
zeros-inserted y (suc k) [] =
    by-test (λ q. q ≡ y ∷ 0 ∷ replicate k 0) (higher y 0) (λ t. refl)
    (λ t. let e : 0 ≡ y = omega (arith, nltb→le) in ap (λ q. 0 ∷ q) (zeros-inserted y k []) ∙ rw e refl)
zeros-inserted y k (x ∷ m) = go (higher y x) (zeros-inserted y k m)
  where
    go : (b : Bool) → inserted higher y (m ++ replicate k 0) ≡ inserted higher y m ++ replicate k 0
        → (if b then y ∷ x ∷ (m ++ replicate k 0) else x ∷ inserted higher y (m ++ replicate k 0))
        ≡ (if b then y ∷ x ∷ m else x ∷ inserted higher y m) ++ replicate k 0
    go true e = refl
    go false e = ap (λ q. x ∷ q) e

zeros-sorted_onto : (k : ℕ) (m r : List ℕ) → sorted_onto higher (m ++ replicate k 0) r ≡ sorted_onto higher m r ++ replicate k 0
unfolding sorted_onto
zeros-sorted_onto k m [] = refl
zeros-sorted_onto k m (y ∷ r) = ap (λ q. sorted_onto higher q r) (zeros-inserted y k m) ∙ zeros-sorted_onto k (inserted higher y m) r

take_min : (n : ℕ) (l : List ℕ) → take (min n (length l)) l ≡ take n l
take_min n l =
    elim (dec_le n (length l)) [
      | yes h ↦ let e : min n (length l) ≡ n = omega arith in rw e refl
      | no h ↦ let e : min n (length l) ≡ length l = omega arith in rw e (take-length l ∙ sym (take_all n l (omega arith)))
    ]

-- the first places are then the ranks met, or the ten highest of them
pub best-zeros : (r : List ℕ) → take (min most_dearest (length r)) (best (replicate most_dearest 0) r) ≡ take most_dearest (sorted higher r)
unfolding best
best-zeros r =
    let s = sorted higher r in
    let e : length s ≡ length r = length-sorted_onto higher [] r ∙ omega arith in
    take-take (min most_dearest (length r)) most_dearest (sorted_onto higher (replicate most_dearest 0) r) (omega arith)
    ∙ ap (take (min most_dearest (length r))) (zeros-sorted_onto most_dearest [] r)
    ∙ take-append-le (min most_dearest (length r)) s (replicate most_dearest 0) (omega arith)
    ∙ ap (λ (n : ℕ). take (min most_dearest n) s) (sym e)
    ∙ take_min most_dearest s
