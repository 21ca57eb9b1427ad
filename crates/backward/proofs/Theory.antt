-- Why the rounds solve the problem: a bit of a set is met by a walk, sets only grow, and sets that no round changes have every bit that is
-- met. No code is mentioned.
use Prim.Native.Nat.{ℕ, ◌-◌, ◌^◌, ◌≤◌, ◌<◌, min, max}
use native.Mathlib.Omega.{arith}
use native.Mathlib.Decide.{ℕ_discrete}
use mathlib.Core.Path.{◌≡◌, refl, ap, sym, ◌∙◌}
use mathlib.Core.Bool.{Bool, true, false, true≢false}
use mathlib.Core.List.Memᴰ
use mathlib.Core.List.{List, [], ◌∷◌, Memᴰ}
use mathlib.Core.Logic.{⊎_elim}
use lib.Dec.{T, eqb→eq, eqb_refl, T_not}
use lib.ListN.{length, set}
use Rattle.bits.specs.Bits.{set_bits, bit, cleared}
use Rattle.bits.proofs.Laws.{bit_le, bit-zero, bit-union, bit-transfer, le-bits, item-cleared}
use Rattle.model.specs.Walk.{Walk, Met}
use Rattle.tables.specs.Tables.{item}
use Rattle.tables.proofs.Laws.{sum-but, here, elsewhere, set-each}
use Rattle.tables.proofs.Valid.{kept_same, kept_on, kept_set}
use Rattle.flow.specs.Flow.{LeadsWithin}
use Rattle.backward.specs.Backward.{has, Solved}
use Rattle.backward.specs.Rounds.{joined, set_at, cost, Right, Round}

-- a bit of a union of sets is a bit of one of them
joined-some : (sets l : List ℕ) (j : ℕ) → bit (joined sets l) j ≡ 1
    → (q : ℕ) × Memᴰ q l × (bit (item sets q) j ≡ 1)
unfolding joined
joined-some sets [] j e = absurd (omega (arith, bit-zero j))
joined-some sets (q ∷ l) j e =
    elim (ℕ_discrete (bit (item sets q) j) 1) [
      | yes d ↦ (q, Memᴰ.head refl, d)
      | no d ↦
          let u = bit-union (item sets q) (joined sets l) j in
          let v = bit_le (item sets q) j in
          let x = joined-some sets l j (omega arith) in
          (x.0, Memᴰ.tail x.1, x.2)
    ]

-- and a bit of one of them is a bit of the union
joined-all : (sets l : List ℕ) (j q : ℕ) → Memᴰ q l → bit (item sets q) j ≡ 1 → bit (joined sets l) j ≡ 1
unfolding joined
joined-all sets [] j q m e = absurd (Memᴰ.not-nil m)
joined-all sets (a ∷ l) j q m e =
    let u = bit-union (item sets a) (joined sets l) j in
    let v = bit_le (item sets a) j in
    let w = bit_le (joined sets l) j in
    ⊎_elim
    (λ d. let g : bit (item sets a) j ≡ 1 = rw (← d) e in omega arith)
    (λ k. let g = joined-all sets l j q k e in omega arith)
    (Memᴰ.cases_cons m)

module _ (next : ℕ → List ℕ) (gens kills : List ℕ) (n : ℕ) where
  -- empty sets
  pub right-cleared : (l : List ℕ) {sets : List ℕ} → sets ≡ cleared n l → Right next gens kills n sets
  right-cleared l {sets} e =
      let z : (p j : ℕ) → p < n → bit (item sets p) j ≡ 0 = λ p j k.
      ap (λ (s : ℕ). bit s j) (ap (λ (s : List ℕ). item s p) e ∙ item-cleared n p l k) ∙ bit-zero j in
      record { met = λ p j k i d. absurd (omega (arith, z p j k)); rises = λ p j k i. omega (arith, z p j k) }

  -- a round that starts, and one that leaves the set of the point before p as it is
  pub round-starts : {sets : List ℕ} → Right next gens kills n sets → Round next gens kills n n sets false sets
  round-starts {sets} r = record {
    right = r;
    kept = kept_same n sets;
    grows = omega arith;
    changes = λ e. absurd (true≢false (sym e));
    rests = λ e q h k. absurd (omega arith);
  }

  pub round-leaves : {p m : ℕ} {first sets : List ℕ} {b : Bool} → Round next gens kills n p first b sets
      → m ≡ set_at next gens kills sets (p - 1) → m ≡ item sets (p - 1) → Round next gens kills n (p - 1) first b sets
  round-leaves {p} r e d = record {
    right = r.right;
    kept = r.kept;
    grows = r.grows;
    changes = r.changes;
    rests = λ f q h k. elim (ℕ_discrete q (p - 1)) [
      | yes i ↦ rw i (sym e ∙ d)
      | no i ↦ r.rests f q (omega arith) k
    ];
  }

module _
    (next : ℕ → List ℕ)
    (gens kills : List ℕ)
    (n : ℕ)
    (inside : LeadsWithin next n)
    (small : (a : ℕ) → item kills a < 2 ^ set_bits) where
  -- the set of a point, bit by bit
  bit-set : (sets : List ℕ) (p j : ℕ) → j < set_bits
      → bit (set_at next gens kills sets p) j ≡ max (min (bit (joined sets (next p)) j) (1 - bit (item kills p) j)) (bit (item gens p) j)
  bit-set sets p j i = bit-transfer (joined sets (next p)) (item kills p) (item gens p) j (small p) i

  -- what the sets of the leads make is met
  met_at : {sets : List ℕ} → Right next gens kills n sets → (p j : ℕ) → p < n → j < set_bits → bit (set_at next gens kills sets p) j ≡ 1
      → Met next (has kills j) (has gens j) p
  met_at {sets} r p j h i e =
      elim (ℕ_discrete (bit (item gens p) j) 1) [
        | yes d ↦ (p, Walk.here, rw d (eqb_refl 1))
        | no d ↦
            let b = bit-set sets p j i in
            let g = bit_le (item gens p) j in
            let k = bit_le (item kills p) j in
            let l = bit_le (joined sets (next p)) j in
            let z : bit (item kills p) j ≡ 0 = omega arith in
            let (q, m, f) = joined-some sets (next p) j (omega arith) in
            let w = r.met q j (inside p q h m) i f in
            (w.0, Walk.step {p = p} (rw z tt) m w.1, w.2)
      ]

  -- larger sets make larger sets
  set-grows : (sets more : List ℕ) (j : ℕ) → ((p : ℕ) → p < n → bit (item sets p) j ≤ bit (item more p) j) → (p : ℕ) → p < n → j < set_bits
      → bit (set_at next gens kills sets p) j ≤ bit (set_at next gens kills more p) j
  set-grows sets more j grows p h i = omega (arith, joined-grows, bit-set sets p j i, bit-set more p j i)
    where
      joined-grows : bit (joined sets (next p)) j ≤ bit (joined more (next p)) j
      joined-grows =
          elim (ℕ_discrete (bit (joined sets (next p)) j) 1) [
            | yes d ↦
                let (q, m, e) = joined-some sets (next p) j d in
                let g = grows q (inside p q h m) in
                let u = bit_le (item more q) j in
                omega (arith, joined-all more (next p) j q m (omega arith))
            | no d ↦ omega (arith, bit_le (joined sets (next p)) j)
          ]

  -- a set becomes what the sets of its leads make it
  module _ {sets : List ℕ} {q m : ℕ} (r : Right next gens kills n sets) (h : q < n) (long : n ≤ length sets) (made : m ≡ set_at next gens kills sets q) where
    -- what is so of the set that is written and of every other set is so of all
    all : (P : ℕ → ℕ → Type 0) → P q (set_at next gens kills sets q) → ((p : ℕ) → p < n → P p (item sets p)) → (p : ℕ) → p < n
        → P p (item (set sets q m) p)
    all P a b = set-each (λ p s. p < n → P p s) sets (omega arith) (λ i. rw made a) (λ p d. b p)

    wider : (j : ℕ) → j < set_bits → (p : ℕ) → p < n → bit (item sets p) j ≤ bit (item (set sets q m) p) j
    wider j i = all (λ p s. bit (item sets p) j ≤ bit s j) (r.rises q j h i) (λ p k. omega arith)

    right-more : Right next gens kills n (set sets q m)
    right-more = record {
      met = λ p j k i. all (λ a s. bit s j ≡ 1 → Met next (has kills j) (has gens j) a) (met_at r q j h i) (λ a l. r.met a j l i) p k;
      rises = λ p j k i.
          let more : (a : ℕ) → a < n → bit (set_at next gens kills sets a) j ≤ bit (set_at next gens kills (set sets q m) a) j = λ a l.
          set-grows sets (set sets q m) j (wider j i) a l i in
          all
          (λ a s. bit s j ≤ bit (set_at next gens kills (set sets q m) a) j)
          (more q h)
          (λ a l. omega (arith, r.rises a j l i, more a l))
          p
          k;
    }

    -- and has grown where it has changed
    cost-more : item sets q < 2 ^ set_bits → (m ≡ item sets q → ⊥) → cost n (set sets q m) < cost n sets
    unfolding cost
    cost-more f d =
        let l = le-bits set_bits (item sets q) (set_at next gens kills sets q) f (λ j i. r.rises q j h i) in
        let e = sum-but (λ p. 2 ^ set_bits - item (set sets q m) p) (λ p. 2 ^ set_bits - item sets p) q n h
        (λ p k. ap (λ (s : ℕ). 2 ^ set_bits - s) (elsewhere sets q p m k)) in
        omega (arith, here sets q m (omega arith))

  pub round-writes : {p q m : ℕ} {first sets : List ℕ} {b : Bool} → Round next gens kills n p first b sets → n ≤ length sets → q < n
      → m ≡ set_at next gens kills sets q → item sets q < 2 ^ set_bits → (m ≡ item sets q → ⊥) → Round next gens kills n q first true (set sets q m)
  round-writes {q = q} {m = m} {sets = sets} r long h e f d =
      let c = cost-more r.right h long e f d in
      record {
        right = right-more r.right h long e;
        kept = kept_on r.kept (kept_set sets q m h);
        grows = omega (arith, r.grows);
        changes = λ i. omega (arith, r.grows);
        rests = λ i. absurd (true≢false i);
      }

  -- sets that are what the sets of their leads make them have every bit that is met
  module _ (sets : List ℕ) (rests : (q : ℕ) → q < n → set_at next gens kills sets q ≡ item sets q) where
    found : (j : ℕ) → j < set_bits → {p q : ℕ} → p < n → Walk next (has kills j) p q → T (has gens j q) → bit (item sets p) j ≡ 1
    found j i {p} h Walk.here g =
        let e = eqb→eq (bit (item gens p) j) 1 g in
        let k = bit_le (joined sets (next p)) j in
        omega (arith, ap (λ (s : ℕ). bit s j) (rests p h), bit-set sets p j i)
    found j i {p} h (Walk.step {q = q} s m w) g =
        let e = joined-all sets (next p) j q m (found j i (inside p q h m) w g) in
        let z : bit (item kills p) j ≡ 1 → ⊥ = λ d. T_not (has kills j p) s (rw d (eqb_refl 1)) in
        let k = bit_le (item kills p) j in
        let l = bit_le (item gens p) j in
        omega (arith, ap (λ (s : ℕ). bit s j) (rests p h), bit-set sets p j i)

  -- so a round that changes nothing leaves the answer
  pub solved-round : {first sets : List ℕ} {b : Bool} → Round next gens kills n 0 first b sets → b ≡ false → Solved next n gens kills sets
  solved-round {sets = sets} r e p j h i = (r.right.met p j h i, λ w. found sets (λ q k. r.rests e q (omega arith) k) j i h w.1 w.2)
