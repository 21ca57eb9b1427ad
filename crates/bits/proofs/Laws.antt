-- Laws of bits: of or, and, not, shifts and the masks with one bit or the lowest bits set; and of cleared tables.
use Prim.Native.Nat.{ℕ, zero, suc, ◌+◌, ◌-◌, ◌*◌, ◌/◌, ◌%◌, ◌^◌, ◌≤◌, ◌<◌, min, max}
use native.Mathlib.Nat.{pow-suc}
use native.Mathlib.Decide.{dec_lt, ℕ_discrete}
use native.Mathlib.Numerals.{one-add}
use native.Mathlib.Omega.{arith}
use mathlib.Core.Bool.{Bool, true, false, not}
use mathlib.Core.List.{List, ◌++◌}
use mathlib.Core.Logic.{◌↔◌}
use mathlib.Core.Path.{◌≡◌, refl, ap, sym, ◌∙◌}
use lib.Bits.{bit_and, bit_or, and_step, or_step, or_zero_r, or_add_and, and_le_r, and_mask}
use lib.Count.{count_leading_zeros, count_trailing_zeros, under, leading_length}
use lib.Dec.{T, eqb, ltb, eqb→eq, eqb_refl}
use lib.ListN.{length, get_or, take, drop, replicate, length-append, length-drop, length-replicate, get_or-append, get_or-replicate}
use lib.Pow.{pow_pos, shl_exact, shr-shr}
use Rattle.std.proofs.lemmas.List.{length-take-le}
use borrow.Author.Tests.{eq-eqb, ne_eqb, lt-ltb, le-ltb}
use Rattle.bits.specs.Bits.{set_bits, all_bits, bit, Marks, Single, Low, Top, Lowest, union, difference, transfer, cleared}

pub bit_le : (m j : ℕ) → bit m j ≤ 1
unfolding bit
bit_le m zero = omega arith
bit_le m (suc j) = bit_le (m / 2) j

pub bit-zero : (j : ℕ) → bit 0 j ≡ 0
unfolding bit
bit-zero zero = refl
bit-zero (suc j) = bit-zero j

-- the bits of a number that is twice q and a digit d, from the second on
bit-rest : (m q d j : ℕ) → m ≡ q * 2 + d → d ≤ 1 → bit m (suc j) ≡ bit q j
unfolding bit
bit-rest m q d j e h = let k : m / 2 ≡ q = omega arith in ap (λ (x : ℕ). bit x j) k

-- an operator that goes digit by digit goes bit by bit
bit-each : (f d : ℕ → ℕ → ℕ) → ((a b : ℕ) → f a b ≡ f (a / 2) (b / 2) * 2 + d (a % 2) (b % 2))
    → ((a b : ℕ) → a ≤ 1 → b ≤ 1 → d a b ≤ 1) → (a b j : ℕ) → bit (f a b) j ≡ d (bit a j) (bit b j)
unfolding bit
bit-each f d e h a b zero = let k = h (a % 2) (b % 2) (omega arith) (omega arith) in omega (arith, e a b)
bit-each f d e h a b (suc j) =
    bit-rest (f a b) (f (a / 2) (b / 2)) (d (a % 2) (b % 2)) j (e a b) (h (a % 2) (b % 2) (omega arith) (omega arith))
    ∙ bit-each f d e h (a / 2) (b / 2) j

-- a number of k digits has no bit from k on
bit_high : (k m j : ℕ) → m < 2 ^ k → k ≤ j → bit m j ≡ 0
unfolding bit
bit_high zero m j h l = let e : m ≡ 0 = omega arith in rw e (bit-zero j)
bit_high (suc k) m zero h l = absurd (omega arith)
bit_high (suc k) m (suc j) h l = bit_high k (m / 2) j (omega (arith, pow-suc 2 k)) (omega arith)

-- the complement among k digits
bit_not : (k a j : ℕ) → a < 2 ^ k → j < k → bit ((2 ^ k - 1) - a) j ≡ 1 - bit a j
unfolding bit
bit_not zero a j h l = absurd (omega arith)
bit_not (suc k) a zero h l = omega (arith, pow-suc 2 k)
bit_not (suc k) a (suc j) h l =
    bit-rest ((2 ^ suc k - 1) - a) ((2 ^ k - 1) - a / 2) (1 - a % 2) j (omega (arith, pow-suc 2 k)) (omega arith)
    ∙ bit_not k (a / 2) j (omega (arith, pow-suc 2 k)) (omega arith)

pub bit-not-word : (a j : ℕ) → a < 2 ^ set_bits → j < set_bits → bit (all_bits - a) j ≡ 1 - bit a j
bit-not-word a j h l = bit_not set_bits a j h l

-- a power of two has one bit; `1 << o` of a word is one
power-there : (o : ℕ) → bit (2 ^ o) o ≡ 1
unfolding bit
power-there zero = refl
power-there (suc o) = bit-rest (2 ^ suc o) (2 ^ o) 0 o (omega (arith, pow-suc 2 o)) (omega arith) ∙ power-there o

power-others : (o j : ℕ) → (j ≡ o → ⊥) → bit (2 ^ o) j ≡ 0
unfolding bit
power-others zero zero h = absurd (h refl)
power-others zero (suc j) h = bit-zero j
power-others (suc o) zero h = omega (arith, pow-suc 2 o)
power-others (suc o) (suc j) h =
    bit-rest (2 ^ suc o) (2 ^ o) 0 j (omega (arith, pow-suc 2 o)) (omega arith) ∙ power-others o j (λ e. h (ap suc e))

pub shifted_one : (o : ℕ) → o < set_bits → 1 * 2 ^ o % 2 ^ set_bits ≡ 2 ^ o
shifted_one o h = shl_exact {a = 1} 1 o set_bits (omega arith) (omega arith) ∙ omega arith

pub bit_shifted : (o : ℕ) → o < set_bits → Single o (1 * 2 ^ o % 2 ^ set_bits)
bit_shifted o h = rw (shifted_one o h) (record { there = power-there o; others = power-others o })

-- the k lowest bits
pub bit-ones : (k : ℕ) → Low k (2 ^ k - 1)
bit-ones k =
    record {
      below = λ j h.
          let e : (2 ^ k - 1) - 0 ≡ 2 ^ k - 1 = omega arith in
          let b : bit ((2 ^ k - 1) - 0) j ≡ 1 = omega (arith, bit_not k 0 j (pow_pos k) h, bit-zero j) in
          rw e at b;
      above = λ j h. bit_high k (2 ^ k - 1) j (omega (arith, pow_pos k)) h;
    }

-- `(m >> j) & 1` reads bit j
bit-shift : (m j : ℕ) → bit m j ≡ m / 2 ^ j % 2
unfolding bit
bit-shift m zero = omega arith
bit-shift m (suc j) =
    bit-shift (m / 2) j ∙ ap (λ (x : ℕ). x % 2) (shr-shr m 1 j ∙ ap (λ (x : ℕ). m / 2 ^ x) (one-add j))

pub bit-read : (m j : ℕ) → bit_and (m / 2 ^ j) 1 ≡ bit m j
bit-read m j = and_mask (m / 2 ^ j) 1 ∙ sym (bit-shift m j)

-- fewer members, no larger number; so a union is no smaller than its parts
pub le-bits : (k a b : ℕ) → a < 2 ^ k → ((j : ℕ) → j < k → bit a j ≤ bit b j) → a ≤ b
unfolding bit
le-bits zero a b h e = omega arith
le-bits (suc k) a b h e =
    omega
    (arith, e 0 (omega arith), le-bits k (a / 2) (b / 2) (omega (arith, pow-suc 2 k)) (λ j i. e (suc j) (omega arith)))

pub union-ge : (a b : ℕ) → a ≤ union a b
unfolding union
union-ge a b = omega (arith, or_add_and a b, and_le_r a b)

pub union-none : (a : ℕ) → union a 0 ≡ a
unfolding union
union-none a = or_zero_r a

-- the operators, bit by bit
pub bit-union : (a b j : ℕ) → bit (union a b) j ≡ max (bit a j) (bit b j)
unfolding union
bit-union a b j = bit-each bit_or max or_step (λ x y h i. omega arith) a b j

pub bit-difference : (a b j : ℕ) → b < 2 ^ set_bits → j < set_bits → bit (difference a b) j ≡ min (bit a j) (1 - bit b j)
unfolding difference
bit-difference a b j h l =
    bit-each bit_and min and_step (λ x y i k. omega arith) a (all_bits - b) j ∙ ap (λ (x : ℕ). min (bit a j) x) (bit-not-word b j h l)

pub bit-transfer : (m kills gens j : ℕ) → kills < 2 ^ set_bits → j < set_bits
    → bit (transfer m kills gens) j ≡ max (min (bit m j) (1 - bit kills j)) (bit gens j)
unfolding transfer
bit-transfer m kills gens j h l =
    bit-union (difference m kills) gens j ∙ ap (λ (x : ℕ). max x (bit gens j)) (bit-difference m kills j h l)

-- the highest bit of a number of j + 1 digits
bit-highest : (j m : ℕ) → 2 ^ j ≤ m → m < 2 ^ suc j → bit m j ≡ 1
unfolding bit
bit-highest zero m h l = omega arith
bit-highest (suc j) m h l = bit-highest j (m / 2) (omega (arith, pow-suc 2 j)) (omega (arith, pow-suc 2 j, pow-suc 2 (suc j)))

-- the zeros above the highest bit, and the digits from it on, make a word
pub top-leading : (m : ℕ) → m < 2 ^ set_bits → Top m (set_bits - count_leading_zeros set_bits m)
top-leading m h =
    let s = leading_length set_bits m h in
    record {
      within = omega arith;
      above = λ j l i. bit_high s.0 m j s.2 (omega (arith, s.1));
      attained = λ j e.
          let d : s.0 ≡ suc j = omega (arith, s.1) in
          bit-highest j m (omega (arith, s.3, ap (λ (x : ℕ). 2 ^ x) d, pow-suc 2 j)) (omega (arith, s.2, ap (λ (x : ℕ). 2 ^ x) d));
    }

-- the digits below the lowest bit, and that bit
trailing_below : (k m j : ℕ) → j < count_trailing_zeros k m → bit m j ≡ 0
unfolding count_trailing_zeros bit
trailing_below zero m j h = absurd (omega arith)
trailing_below (suc k) m zero h = first (m % 2) (count_trailing_zeros k (m / 2)) h
  where
    first : (d t : ℕ) → 0 < under d t → d ≡ 0
    first zero t h = refl
    first (suc d) t h = absurd (omega arith)
trailing_below (suc k) m (suc j) h = trailing_below k (m / 2) j (rest (m % 2) (count_trailing_zeros k (m / 2)) j h)
  where
    rest : (d t j : ℕ) → suc j < under d t → j < t
    rest zero t j h = omega arith
    rest (suc d) t j h = absurd (omega arith)

under-there : (k m d t : ℕ) → m % 2 ≡ d → (t < k → bit (m / 2) t ≡ 1) → under d t < suc k → bit m (under d t) ≡ 1
unfolding bit
under-there k m zero t e f h = f (omega arith)
under-there k m (suc d) t e f h = omega arith

trailing-there : (k m : ℕ) → count_trailing_zeros k m < k → bit m (count_trailing_zeros k m) ≡ 1
unfolding count_trailing_zeros
trailing-there zero m h = absurd (omega arith)
trailing-there (suc k) m h =
    under-there k m (m % 2) (count_trailing_zeros k (m / 2)) refl (λ i. trailing-there k (m / 2) i) h

-- the trailing zeros of a word, no more than k
pub lowest-trailing : (m k r : ℕ) → k ≤ set_bits → r ≡ min (count_trailing_zeros set_bits m) k → Lowest m k r
lowest-trailing m k r l e = record {
  within = omega arith;
  below = λ j h. trailing_below set_bits m j (omega arith);
  attained = λ h. let d : r ≡ count_trailing_zeros set_bits m = omega arith in rw d (trailing-there set_bits m (omega arith));
}

-- sets as tests: what passes is in the set
pub marked : {t : ℕ → Bool} {m : ℕ} → Marks t m → (j : ℕ) → j < set_bits → (bit m j ≡ 1) ↔ T (t j)
marked {t} {m} k j h = (
  λ e. rw (← k.same j h) (rw e (eqb_refl 1)),
  λ e. eqb→eq (bit m j) 1 (rw (k.same j h) e),
)

-- the set of no bit, of all bits, of one, of the lowest
pub marks-none : Marks (λ j. false) 0
marks-none = record { same = λ j h. ap (λ (b : ℕ). eqb b 1) (bit-zero j) }

pub marks-all : Marks (λ j. true) all_bits
marks-all = record { same = λ j h. ap (λ (b : ℕ). eqb b 1) ((bit-ones set_bits).below j h) }

pub marks-single : {o m : ℕ} → Single o m → Marks (λ j. eqb j o) m
marks-single {o} {m} s =
    record {
      same = λ j h. elim (ℕ_discrete j o) [
        | yes e ↦ ap (λ (b : ℕ). eqb b 1) (ap (bit m) e ∙ s.there) ∙ sym (eq-eqb j o e)
        | no e ↦ ap (λ (b : ℕ). eqb b 1) (s.others j e) ∙ sym (ne_eqb j o e)
      ];
    }

pub marks-low : {k m : ℕ} → Low k m → Marks (λ j. ltb j k) m
marks-low {k} {m} l =
    record {
      same = λ j h. elim (dec_lt j k) [
        | yes i ↦ ap (λ (b : ℕ). eqb b 1) (l.below j i) ∙ sym (lt-ltb j k i)
        | no i ↦ ap (λ (b : ℕ). eqb b 1) (l.above j (omega arith)) ∙ sym (le-ltb j k (omega arith))
      ];
    }

-- and the bits that are not in a set
pub marks-not : {t : ℕ → Bool} {m : ℕ} → m < 2 ^ set_bits → Marks t m → Marks (λ j. not (t j)) (all_bits - m)
marks-not {t} {m} l k =
    record { same = λ j h. ap (λ (b : ℕ). eqb b 1) (bit-not-word m j l h) ∙ (other (bit m j) (bit_le m j) ∙ ap not (k.same j h)) }
  where
    other : (b : ℕ) → b ≤ 1 → eqb (1 - b) 1 ≡ not (eqb b 1)
    other zero h = refl
    other (suc zero) h = refl
    other (suc (suc b)) h = absurd (omega arith)

-- a cleared table, entry by entry
pub length-cleared : (n : ℕ) (l : List ℕ) → n ≤ length l → length (cleared n l) ≡ length l
unfolding cleared
length-cleared n l h = simp (length-append, length-replicate, length-drop) (omega arith)

pub item-cleared : (n p : ℕ) (l : List ℕ) → p < n → get_or (cleared n l) p 0 ≡ 0
unfolding cleared
item-cleared n p l h =
    get_or-append (replicate n 0) (drop n l) 0 p (rw (length-replicate {A = ℕ} n 0) h) ∙ get_or-replicate n p 0 0 h

-- a table whose first n entries are filled with 0
pub filled-cleared : (n : ℕ) (l : List ℕ) {front : List ℕ} → n ≤ length l → front ≡ replicate (length (take n l)) 0 → front ++ drop n l ≡ cleared n l
unfolding cleared
filled-cleared n l h e = rw (e, length-take-le n l h)
