-- The sweep over sets and marks as lists: what an arrival does, and what is so after each point.
use Prim.Native.Nat.{ℕ, suc, ◌+◌, ◌≤◌, ◌<◌}
use native.Mathlib.Omega.{arith}
use native.Mathlib.Numerals.{add-one}
use native.Mathlib.Decide.{ℕ_discrete}
use mathlib.Core.Path.{◌≡◌, refl, ap, sym, ◌∙◌}
use mathlib.Core.Bool.{not}
use mathlib.Core.List.Memᴰ
use mathlib.Core.List.{List, [], ◌∷◌, Memᴰ}
use mathlib.Core.Logic.{◌⊎◌, inl, inr, ⊎_elim}
use lib.Dec.{T}
use lib.ListN.{length, set}
use Rattle.bits.specs.Bits.{set_bits, bit, union}
use Rattle.bits.proofs.Laws.{bit_le, bit-union}
use Rattle.model.specs.Task.{Func, point}
use Rattle.model.specs.Walk.{Walk, leads, loads, stores, never}
use Rattle.theory.proofs.Walks.{walk-trans}
use Rattle.tables.specs.Tables.{item}
use Rattle.tables.proofs.Laws.{here, elsewhere}
use Rattle.reach.specs.declared.sweep.Step.{Step}
use Rattle.reach.specs.declared.sweep.Step.TheVariants.{Falls, Leaves}
use Rattle.reach.specs.Sweep.{Covers, Most, UnionAt, Known, SetStands, Arrived, Stepped}

-- an equal set has the same bits
bit-same : {a b : ℕ} (j : ℕ) → a ≡ b → bit b j ≡ 1 → bit a j ≡ 1
bit-same j e h = ap (λ (v : ℕ). bit v j) e ∙ h

one-member : {q r : ℕ} → Memᴰ q (r ∷ []) → q ≡ r
one-member m = ⊎_elim (λ e. e) (λ k. absurd (Memᴰ.not-nil k)) (Memᴰ.cases_cons m)

-- a union has the bits of both sets
covers-left : (a b : ℕ) → Covers (union a b) a
covers-left a b j h = omega (arith, bit-union a b j, bit_le b j)

covers-right : (a b : ℕ) → Covers (union a b) b
covers-right a b j h = omega (arith, bit-union a b j, bit_le a j)

-- the set at a point that has the mark, and at one that does not
pub union-marked : {mark q m u : ℕ} {sets marks : List ℕ} → u ≡ union m (item sets q) → UnionAt mark q m sets marks u
union-marked {m = m} e = rw e (record { comes = covers-left m _; stays = λ k. covers-right m _ })

pub union-bare : {mark q m : ℕ} {sets marks : List ℕ} → (item marks q ≡ mark → ⊥) → UnionAt mark q m sets marks m
union-bare h = record { comes = λ j b. b; stays = λ e. absurd (h e) }

-- ---- arrivals

module _ {mark p m : ℕ} where
  -- nothing has come
  pub moved_none : (sets marks : List ℕ) → Arrived mark p [] m sets marks sets marks
  moved_none sets marks =
      record { low = λ a h. refl; stays = λ q j h. h; brought = λ q j k b. absurd (Memᴰ.not-nil k); marked = λ q. inl refl }

  -- one point more
  pub moved_more : {t : ℕ} {ts sets marks sets' marks' sets'' marks'' : List ℕ} → Arrived mark p (t ∷ []) m sets marks sets' marks'
      → Arrived mark p ts m sets' marks' sets'' marks'' → Arrived mark p (t ∷ ts) m sets marks sets'' marks''
  moved_more v u =
      record {
        low = λ a h. u.low a h ∙ v.low a h;
        stays = λ q j h. u.stays q j (v.stays q j h);
        brought = λ q j k b.
            ⊎_elim (λ e. u.stays q j (v.brought q j (Memᴰ.head e) b)) (λ n. u.brought q j n b) (Memᴰ.cases_cons k);
        marked = λ q.
            ⊎_elim
            (λ e. ⊎_elim (λ d. inl (e ∙ d)) (λ k. inr (e ∙ k.0, Memᴰ.head (one-member k.1))) (v.marked q))
            (λ k. inr (k.0, Memᴰ.tail k.1))
            (u.marked q);
      }

  module _ (q : ℕ) (sets marks : List ℕ) where
    -- the set m comes to a point above p, where its union with what stands there is u
    pub moved-above : (u : ℕ) → p < q → q < length sets → q < length marks → UnionAt mark q m sets marks u
        → Arrived mark p (q ∷ []) m sets marks (set sets q u) (set marks q mark)
    moved-above u l i k s =
        record {
          low = λ a h. elsewhere sets q a u (λ e. omega arith);
          stays = λ r j h. elim (ℕ_discrete r q) [
            | yes d ↦
                at r j d
                (⊎_elim
                (λ (y : r < suc p). absurd (omega arith))
                (λ e. s.stays (ap (item marks) (sym d) ∙ e) j (bit-same j (ap (item sets) (sym d)) h.1))
                h.0)
            | no d ↦ (⊎_elim inl (λ e. inr (elsewhere marks q r mark d ∙ e)) h.0, bit-same j (elsewhere sets q r u d) h.1)
          ];
          brought = λ r j n b. at r j (one-member n) (s.comes j b);
          marked = λ r. elim (ℕ_discrete r q) [ yes d ↦ inr (has-mark r d, Memᴰ.head d) | no d ↦ inl (elsewhere marks q r mark d) ];
        }
      where
        has-mark : (r : ℕ) → r ≡ q → item (set marks q mark) r ≡ mark
        has-mark r d = ap (item (set marks q mark)) d ∙ here marks q mark k

        at : (r j : ℕ) → r ≡ q → bit u j ≡ 1 → SetStands mark (suc p) (set sets q u) (set marks q mark) r j
        at r j d b = (inr (has-mark r d), bit-same j (ap (item (set sets q u)) d ∙ here sets q u i) b)

    -- the set m comes to p or to a point below it, where its union with what stands there is no other set
    pub moved-below : (u : ℕ) → q ≤ p → u ≡ union (item sets q) m → u ≡ item sets q → Arrived mark p (q ∷ []) m sets marks sets marks
    moved-below u l e d =
        record {
          low = λ a h. refl;
          stays = λ r j h. h;
          brought = λ r j n b.
              let i = one-member n in
              (inl (omega arith), bit-same j (ap (item sets) i ∙ (sym d ∙ e)) (covers-right (item sets q) m j b));
          marked = λ r. inl refl;
        }

-- ---- the sweep

-- bit j stands at point q, or comes with the set c to q, which is p
abbrev pub Has : ℕ → ℕ → ℕ → List ℕ → List ℕ → ℕ → ℕ → Type 0
Has mark p c sets marks q j = SetStands mark p sets marks q j ⊎ ((q ≡ p) × (bit c j ≡ 1))

-- the points before p are swept, and the set c comes from them to p
pub record Sweeping (x : Func) (n entry mark p c : ℕ) (sets marks : List ℕ) : Type 0 where
  pub reached : (a : ℕ) → Known mark p marks a → Walk (leads x) never 0 a
  pub next : p < n → Walk (leads x) never 0 p
  pub entered : (j : ℕ) → bit entry j ≡ 1 → Has mark p c sets marks 0 j
  pub clean : (a j : ℕ) → a < p → T (loads x j a) → bit (item sets a) j ≡ 0
  pub passed : (a q j : ℕ) → a < p → Memᴰ q (leads x a) → j < set_bits → T (not (stores x j a))
      → bit (item sets a) j ≡ 1 → Has mark p c sets marks q j
  pub most : Most mark marks

-- at the start no point has the mark
pub sweeping-none : (x : Func) (n entry mark : ℕ) (sets marks : List ℕ) → ((q : ℕ) → item marks q < mark)
    → Sweeping x n entry mark 0 entry sets marks
sweeping-none x n entry mark sets marks f =
    record {
      reached = λ a h. ⊎_elim (λ (y : a < 0). absurd (omega arith)) (λ e. absurd (omega (arith, f a))) h;
      next = λ h. Walk.here;
      entered = λ j b. inr (refl, b);
      clean = λ a j h. absurd (omega arith);
      passed = λ a q j h. absurd (omega arith);
      most = λ q. omega (arith, f q);
    }

-- what has come to p is stored there
has-stored : {mark p c m : ℕ} {sets marks : List ℕ} → p < length sets → UnionAt mark p c sets marks m → (q j : ℕ) → Has mark p c sets marks q j
    → SetStands mark (suc p) (set sets p m) marks q j
has-stored {mark} {p} {c} {m} {sets} {marks} l s q j h =
    elim (ℕ_discrete q p) [
      | yes d ↦ (inl (omega arith), bit-same j (ap (item (set sets p m)) d ∙ here sets p m l) (at d h))
      | no d ↦ ⊎_elim
          (λ (k : SetStands mark p sets marks q j). (⊎_elim (λ (i : q < p). inl (omega arith)) (λ e. inr e) k.0, bit-same j (elsewhere sets p q m d) k.1))
          (λ k. absurd (d k.0))
          h
    ]
  where
    at : q ≡ p → Has mark p c sets marks q j → bit m j ≡ 1
    at d (inl (inl i, b)) = absurd (omega arith)
    at d (inl (inr e, b)) = s.stays (ap (item marks) (sym d) ∙ e) j (bit-same j (ap (item sets) (sym d)) b)
    at d (inr (e, b)) = s.comes j b

-- one turn: the set m is stored at point p, and its visit leaves sets' and marks'
module _
    {x : Func}
    {n entry mark p c m : ℕ}
    {sets marks sets' marks' : List ℕ}
    (g : Sweeping x n entry mark p c sets marks)
    (i : p < n)
    (l : p < length sets)
    (s : UnionAt mark p c sets marks m) where
  module _ {ts : List ℕ} (v : Arrived mark p ts m (set sets p m) marks sets' marks') (t : (q : ℕ) → Memᴰ q ts → Memᴰ q (leads x p)) where
    at-point : item sets' p ≡ m
    at-point = v.low p (omega arith) ∙ here sets p m l

    before : (a : ℕ) → a < p → item sets' a ≡ item sets a
    before a h = v.low a (omega arith) ∙ elsewhere sets p a m (λ e. omega arith)

    stands : (q j : ℕ) → Has mark p c sets marks q j → SetStands mark (suc p) sets' marks' q j
    stands q j h = v.stays q j (has-stored l s q j h)

    finds : (a : ℕ) → Known mark (suc p) marks' a → Walk (leads x) never 0 a
    finds a (inl h) = elim (ℕ_discrete a p) [ yes d ↦ rw d (g.next i) | no d ↦ g.reached a (inl (omega arith)) ]
    finds a (inr e) =
        ⊎_elim (λ d. g.reached a (inr (sym d ∙ e))) (λ k. walk-trans (g.next i) (Walk.step tt (t a k.1) Walk.here)) (v.marked a)

    sweeping-on : (c' : ℕ) → ((j : ℕ) → T (loads x j p) → bit m j ≡ 0)
        → (suc p < n → Walk (leads x) never 0 (suc p))
        → ((q j : ℕ) → Memᴰ q (leads x p) → j < set_bits → T (not (stores x j p)) → bit m j ≡ 1 → Has mark (suc p) c' sets' marks' q j)
        → Sweeping x n entry mark (suc p) c' sets' marks'
    sweeping-on c' load after leaves =
        record {
          reached = finds;
          next = after;
          entered = λ j b. inl (stands 0 j (g.entered j b));
          clean = λ a j h k. elim (ℕ_discrete a p) [
            | yes d ↦ ap (λ (v : ℕ). bit v j) (ap (item sets') d ∙ at-point) ∙ load j (rw d at k)
            | no d ↦ ap (λ (v : ℕ). bit v j) (before a (omega arith)) ∙ g.clean a j (omega arith) k
          ];
          passed = λ a q j h k u f b. elim (ℕ_discrete a p) [
            | yes d ↦ leaves q j (rw d at k) u (rw d at f) (bit-same j (sym at-point ∙ ap (item sets') (sym d)) b)
            | no d ↦ inl (stands q j (g.passed a q j (omega arith) k u f (bit-same j (sym (before a (omega arith))) b)))
          ];
          most = λ q. ⊎_elim (λ (d : item marks' q ≡ item marks q). omega (arith, g.most q)) (λ k. omega (arith, k.0)) (v.marked q);
        }

  -- by what the step says
  module _ (r : Step) (v : Stepped mark p (leads x p) (point x p) m (set sets p m) marks sets' marks' r) where
    pub turn-falls : (next : ℕ) {c' : ℕ} → r ≡ Falls next → c' ≡ next → Sweeping x n entry mark (p + 1) c' sets' marks'
    turn-falls next d k =
        let f = rw d at v in
        rw (k, add-one)
        (sweeping-on (rw (f.2, f.3) (moved_none (set sets p m) marks)) (λ q k. absurd (Memᴰ.not-nil k)) next f.0.clean
        (λ h. walk-trans (g.next i) (Walk.step tt (rw f.1 (Memᴰ.head refl)) Walk.here))
        (λ q j k u o b. inr (one-member (rw f.1 at k), f.0.keeps j u o b)))

    pub turn-leaves : {c' : ℕ} → r ≡ Leaves → c' ≡ 0 → (p + 1 < n → item marks' (p + 1) ≡ mark) → Sweeping x n entry mark (p + 1) c' sets' marks'
    turn-leaves d k a =
        let f = rw d at v in
        rw (k, add-one)
        (sweeping-on f.1 (λ q k. k) 0 f.0.clean (λ h. finds f.1 (λ q k. k) (suc p) (inr ((rw add-one at a) h)))
        (λ q j k u o b. inl (f.1.brought q j k b)))
