-- From marks and sets to walks: what the end of a sweep shows of a function, and what the kernel answers of it.
use Prim.Native.Nat.{ℕ, zero, suc, ◌+◌, ◌≤◌, ◌<◌}
use native.Mathlib.Decide.{ℕ_discrete}
use native.Mathlib.Omega.{arith}
use mathlib.Core.Path.{◌≡◌, refl, ap}
use mathlib.Core.Bool.{not}
use mathlib.Core.List.{List, Memᴰ}
use mathlib.Core.Logic.{◌↔◌, inl, inr}
use mathlib.Core.Option.{Option, none, some}
use lib.Dec.{T, T_not, not_T, eqb, eqb→eq, eqb_refl}
use lib.ListN.{length, get_or, set, replicate}
use Rattle.bits.specs.Bits.{set_bits, bit, Low, Marks}
use Rattle.bits.proofs.Laws.{bit_le, bit-zero, marked}
use Rattle.forward.specs.Forward.{Carried, Solved}
use Rattle.model.specs.Figures as figure
use Rattle.model.specs.Refusal.{stored_before}
use Rattle.model.specs.Task.{Func, size, point}
use Rattle.model.specs.Walk.{Walk, leads, loaded, stored, is, stores, never}
use Rattle.theory.proofs.Lists.{same_test}
use Rattle.theory.proofs.Links.{lead-inside}
use Rattle.theory.proofs.Figures.{Closed, reached-walk, uninitialised-walk}
use Rattle.theory.proofs.Walks.{walk-trans}
use Rattle.tables.specs.declared.Span.{Span}
use Rattle.tables.specs.Tables.{item, point_at, func_in}
use Rattle.tables.specs.Valid.{Fits}
use Rattle.tables.proofs.Laws.{load_below, length-points, point-there, here, elsewhere}
use Rattle.reach.specs.Reach.{Clean, has, seen, Tells}
use Rattle.reach.specs.Sweep.{Most}
use Rattle.reach.proofs.Theory.{Has, Sweeping}

-- every walk stores an offset before it is loaded, by what is so of each walk with no store
stored-as : (x : Func) (p : ℕ) (o : Option ℕ) → ((j : ℕ) → o ≡ some j → T (figure.uninitialised x j p) → ⊥) → T (stored_before x p o)
stored-as x p none h = tt
stored-as x p (some j) h = not_T (figure.uninitialised x j p) (h j refl)

stored_same : (x : Func) (p m : ℕ) (o : Option ℕ) → ((j : ℕ) → o ≡ some j → (bit m j ≡ 1) ↔ T (figure.uninitialised x j p)) → not (has m o) ≡ stored_before x p o
stored_same x p m none h = refl
stored_same x p m (some j) h =
    ap not
    (same_test (eqb (bit m j) 1) (figure.uninitialised x j p) (λ t. (h j refl).0 (eqb→eq (bit m j) 1 t)) (λ t. rw ((h j refl).1 t) tt))

module _ {w : List ℕ} {s : Span} (k : Fits w s) where
  abbrev x : Func
  x = func_in w s

  -- the points of the function, its leads and its walks
  point-in : (p : ℕ) → p < s.size → point x p ≡ point_at w (s.base + p)
  point-in = point-there w s.base s.size

  closed_in : Closed x
  closed_in p q h m = let l = length-points w s.base s.size in omega (arith, k.inside p q (omega arith) m)

  some_in : 0 < size x
  some_in = omega (arith, length-points w s.base s.size, k.some)

  reached-in : (p : ℕ) → T (figure.reached x p) ↔ Walk (leads x) never 0 p
  reached-in = reached-walk x closed_in some_in

  bare-in : (j p : ℕ) → T (figure.uninitialised x j p) ↔ Walk (leads x) (stores x j) 0 p
  bare-in = uninitialised-walk x closed_in some_in

  -- an offset that is loaded is in the frame
  load-in : (p j : ℕ) → p < s.size → loaded (point x p) ≡ some j → j < s.frame
  load-in p j h e = load_below s.frame (point x p) (rw (point-in p h) (k.offsets p h)) e

  -- all points are swept
  module _
      {entry mark e c : ℕ}
      {sets marks : List ℕ}
      (low : Low s.frame entry)
      (g : Sweeping x s.size entry mark e c sets marks)
      (end : s.size ≤ e) where
    held : (q j : ℕ) → q < s.size → Has mark e c sets marks q j → bit (item sets q) j ≡ 1
    held q j h (inl i) = i.1
    held q j h (inr i) = absurd (omega (arith, i.0))

    -- a walk that stores an offset nowhere brings it
    brings : (j : ℕ) {p q : ℕ} → Walk (leads x) (stores x j) p q → j < set_bits → p < s.size → bit (item sets p) j ≡ 1 → bit (item sets q) j ≡ 1
    brings j Walk.here l h b = b
    brings j (Walk.step {p = p} {q = q} t m v) l h b =
        let i = k.inside p q h m in brings j v l i (held q j i (g.passed p q j (omega arith) m l t b))

    never-loads : (p j : ℕ) → p < s.size → loaded (point x p) ≡ some j → T (figure.uninitialised x j p) → ⊥
    never-loads p j h i t =
        let l = load-in p j h i in
        let f = k.frame in
        let b = brings j ((bare-in j p).0 t) (omega arith) k.some (held 0 j k.some (g.entered j (low.below j l))) in
        omega (arith, g.clean p j (omega arith) (rw i (eqb_refl j)))

    pub swept-clean : Clean w s × Most mark marks
    swept-clean = (
      record {
        reached = λ p h. (reached-in p).1 (g.reached p (inl (omega arith)));
        stored = λ p h. stored-as x p (loaded (point x p)) (λ j. never-loads p j h);
      },
      g.most,
    )

  -- the kernel is solved, with the offsets of the frame at the entry, no gen, and for each point the offset that it stores as its kill
  module _
      {entry : ℕ}
      {gens kills sets state : List ℕ}
      (low : Low s.frame entry)
      (no-gen : (p : ℕ) → item gens p ≡ 0)
      (kill : (p : ℕ) → p < s.size → Marks (λ j. is j (stored (point_at w (s.base + p)))) (item kills p))
      (z : Solved (leads x) s.size entry gens kills sets state) where
    killed : (p j : ℕ) {q : ℕ} → j < set_bits → Memᴰ q (leads x p) → (bit (item kills p) j ≡ 1) ↔ T (stores x j p)
    killed p j l m =
        let h : p < s.size = omega (arith, length-points w s.base s.size, lead-inside x p m) in
        rw (point-in p h) (marked (kill p h) j l)

    -- a walk that carries offset j stores it nowhere before, and one that stores it nowhere carries it
    carried-walk : {j p : ℕ} → j < set_bits → Carried (leads x) entry (item gens) (item kills) j p → Walk (leads x) (stores x j) 0 p
    carried-walk l (Carried.enter e) = Walk.here
    carried-walk {j} l (Carried.given {p = p} v e m) = absurd (omega (arith, e, ap (λ (g : ℕ). bit g j) (no-gen p), bit-zero j))
    carried-walk {j} l (Carried.kept {p = p} c e m) =
        walk-trans (carried-walk l c) (Walk.step (not_T (stores x j p) (λ t. omega (arith, (killed p j l m).1 t))) m Walk.here)

    walk-carried : {j p q : ℕ} → j < set_bits → Walk (leads x) (stores x j) p q → Carried (leads x) entry (item gens) (item kills) j p
        → Carried (leads x) entry (item gens) (item kills) j q
    walk-carried l Walk.here c = c
    walk-carried {j} l (Walk.step {p = p} t m v) c =
        let out : bit (item kills p) j ≡ 1 → ⊥ = λ b. T_not (stores x j p) t ((killed p j l m).0 b) in
        walk-carried l v (Carried.kept c (omega (arith, bit_le (item kills p) j)) m)

    bit_in : (p j : ℕ) → p < s.size → j < s.frame → (bit (item sets p) j ≡ 1) ↔ T (figure.uninitialised x j p)
    bit_in p j h i =
        let f = k.frame in
        let l : j < set_bits = omega arith in (
          λ b. (bare-in j p).1 (carried-walk l (z.carried p j h l b)),
          λ t. z.held p j h l (walk-carried l ((bare-in j p).0 t) (Carried.enter (low.below j i))),
        )

    pub answered : Tells w s sets state
    answered =
        record {
          reached = λ p h.
              same_test (seen state p) (figure.reached x p)
              (λ t.
              let n : item state p ≡ 0 → ⊥ = λ e. T_not (eqb (item state p) 0) t (rw e tt) in
              (reached-in p).1 ((z.reached p h).0 (omega (arith, z.marked p h))))
              (λ t. rw ((z.reached p h).1 ((reached-in p).0 t)) tt);
          stored = λ p h.
              rw (← point-in p h)
              (stored_same x p (item sets p) (loaded (point x p)) (λ j e. bit_in p j h (load-in p j h e)));
        }

-- an array that a pass starts with
pub all_same : {A : Type 0} (a : A) (n p : ℕ) → get_or (replicate n a) p a ≡ a
all_same a zero p = refl
all_same a (suc n) zero = refl
all_same a (suc n) (suc p) = all_same a n p

-- one more entry of a table
pub filled_more : (P : ℕ → ℕ → Type 0) (l : List ℕ) (p : ℕ) {v : ℕ} → p < length l → P p v → ((q : ℕ) → q < p → P q (item l q))
    → (q : ℕ) → q < p + 1 → P q (item (set l p v) q)
filled_more P l p {v} h k before q i =
    elim (ℕ_discrete q p) [ yes d ↦ rw (d, here l p v h) k | no d ↦ rw (elsewhere l p q v d) (before q (omega arith)) ]
