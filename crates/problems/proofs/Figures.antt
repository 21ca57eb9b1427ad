-- From the sets that a kernel leaves to the figures of a function.
use Rattle.std.specs.Prelude.{if◌then◌else◌}
use Prim.Native.Nat.{ℕ, zero, suc, ◌+◌, ◌-◌, ◌≤◌, ◌<◌, max}
use native.Mathlib.Omega.{arith}
use native.Mathlib.Decide.{dec_le, dec_lt}
use mathlib.Core.Path.{◌≡◌, refl, ap, sym, subst, ◌∙◌}
use mathlib.Core.Bool.{Bool, true, false, not}
use mathlib.Core.List.{List, Memᴰ}
use mathlib.Core.Logic.{◌↔◌, ◌⊎◌, inl, inr, ⊎_elim}
use mathlib.Core.Option.{some}
use lib.Dec.{T, eqb, ltb, eqb→eq, eqb_refl, ltb→lt, lt→ltb}
use borrow.Author.Tests.{lt-ltb}
use Rattle.model.specs.declared.Point.{Point}
use Rattle.model.specs.declared.Point.TheVariants.{Load, Store, Call, Ensure, Goto, Either, Return}
use Rattle.model.specs.Task.{Func, Task, size, point, offset_fits}
use Rattle.model.specs.Walk.{Walk, Met, Carries, Largest, Smallest, leads, called, ensured, present, touches, is_ensure, returns, never}
use Rattle.model.specs.Figures.{shortest, cut_by, after_with, after, dead, need, kept, kept_next, high_from}
use Rattle.theory.proofs.Lists.{and-holds, or-holds, smallest-unique, largest-unique}
use Rattle.theory.proofs.Links.{ensure-inside, lead-inside}
use Rattle.theory.proofs.Walks.{walk-trans}
use Rattle.theory.proofs.Figures.{Closed, InFrame, walk_inside, walk-carries, reached-walk, dead-is, need-is, lowest-met, kept_next-is, high_is}
use Rattle.bits.specs.Bits.{set_bits, bit, Low, Lowest, Top}
use Rattle.bits.proofs.Laws.{marked, marks-low}
use Rattle.tables.specs.declared.Span.{Span}
use Rattle.tables.specs.Tables.{item, point_at, func_in}
use Rattle.tables.specs.Valid.{Fits}
use Rattle.tables.proofs.Laws.{length-points, point-there}
use Rattle.backward.specs.Backward.{Solved, has}
use Rattle.forward.specs.Forward.{Carried}
use Rattle.forward.specs.Forward as forward
use Rattle.effects.specs.declared.Problem.{Problem}
use Rattle.effects.specs.declared.Problem.TheVariants.{Live, Touched, CallLevels, FirstEnsure, Occupied}
use Rattle.effects.specs.Effects.{gives, takes}
use Rattle.problems.specs.Problems.{Filled, Gives, Takes, Blocks, Answered, calls_over, lowest_level, KeptIn, CutIn, EachReached}
use Rattle.problems.proofs.Laws.{unmarked}

-- one more than the highest bit, where bit j tells of a number j + 1 of the kind P; the lowest bit, where bit j tells of j
largest-by-top : (P : ℕ → Type 0) {m r : ℕ} → Top m r → ((j : ℕ) → j < set_bits → (bit m j ≡ 1) ↔ P (suc j))
    → ((j : ℕ) → P (suc j) → j < set_bits) → Largest P r
largest-by-top P {m} {r} t is low = record { bounds = under; attained = there r t }
  where
    under : (n : ℕ) → P n → n ≤ r
    under zero h = omega arith
    under (suc j) h =
        elim (dec_lt j r) [ yes d ↦ d | no d ↦ absurd (omega (arith, t.above j (omega arith) (low j h), (is j (low j h)).1 h)) ]

    there : (r : ℕ) → Top m r → 0 < r → P r
    there zero u h = absurd (omega arith)
    there (suc j) u h = (is j (omega (arith, u.within))).0 (u.attained j refl)

smallest-by-lowest : (P : ℕ → Type 0) {m k r : ℕ} → Lowest m k r → ((j : ℕ) → j < k → (bit m j ≡ 1) ↔ P j) → Smallest P k r
smallest-by-lowest P {r = r} l is =
    record {
      within = l.within;
      bounds = λ i h p. elim (dec_le r i) [ yes d ↦ d | no d ↦ absurd (omega (arith, l.below i (omega arith), (is i h).1 p)) ];
      attained = λ h. (is r h).0 (l.attained h);
    }

-- tests that agree on the points of a function meet the same
module _
    (next : ℕ → List ℕ)
    (n : ℕ)
    (closed : (p q : ℕ) → p < n → Memᴰ q (next p) → q < n)
    {stop stop' goal goal' : ℕ → Bool}
    (stops : (p : ℕ) → p < n → stop p ≡ stop' p)
    (goals : (p : ℕ) → p < n → goal p ≡ goal' p) where
  met-same : {p q : ℕ} → p < n → Walk next stop p q → T (goal q) → Met next stop' goal' p
  met-same {p} h Walk.here g = (p, Walk.here, rw (← goals p h) g)
  met-same {p} h (Walk.step {q = q} s m w) g =
      let r = met-same (closed p q h m) w g in
      (r.0, Walk.step {p = p} (rw (← stops p h) s) m r.1, r.2)

-- an offset that a point touches is below the frame
touched-below : (k : ℕ) (x : Point) (o : ℕ) → T (offset_fits k x) → T (gives Touched k 0 x o) → o < k
touched-below k (Load a) o f t =
    ⊎_elim (λ l. omega (arith, ltb→lt a k f, eqb→eq o a l)) (λ l. absurd l) ((or-holds (eqb o a) false).0 t)
touched-below k (Store a) o f t = omega (arith, ltb→lt a k f, eqb→eq o a t)
touched-below k (Call g) o f t = absurd t
touched-below k (Ensure n) o f t = absurd t
touched-below k (Goto p) o f t = absurd t
touched-below k (Either p q) o f t = absurd t
touched-below k Return o f t = absurd t

-- the occupancy after a point is above j exactly where the point gives j, or where it was above j before and the point does not take j
passed : {A : Type 0} → A ↔ (T false ⊎ (A × T true))
passed = (λ h. inr (h, tt), ⊎_elim (λ f. absurd f) (λ h. h.0))

not-not : (b : Bool) → T (not (not b)) → T b
not-not true h = tt
not-not false h = absurd h

above-after : (t : Task) (x : Point) (h k a j : ℕ) → ((g : ℕ) → called x ≡ some g → a ≡ t.stack - shortest t g)
    → (j < (if present (ensured x) then max h k else cut_by (shortest t) t h (called x)))
    ↔ (T (gives Occupied k a x j) ⊎ ((j < h) × T (not (takes Occupied k a x j))))
above-after t (Load o) h k a j e = passed
above-after t (Store o) h k a j e = passed
above-after t (Call g) h k a j e = (
  λ l. inr (omega arith, rw (lt-ltb j a (omega (arith, e g refl))) tt),
  ⊎_elim (λ f. absurd f) (λ l. omega (arith, l.0, e g refl, ltb→lt j a (not-not (ltb j a) l.1))),
)
above-after t (Ensure i) h k a j e = (
  λ l. elim (dec_lt j k) [ yes d ↦ inl (lt→ltb j k d) | no d ↦ inr (omega arith, tt) ],
  ⊎_elim (λ l. omega (arith, ltb→lt j k l)) (λ l. omega (arith, l.0)),
)
above-after t (Goto p) h k a j e = passed
above-after t (Either p q) h k a j e = passed
above-after t Return h k a j e = passed

-- what is given is below the frame
given_below : (x : Point) (k a j : ℕ) → T (gives Occupied k a x j) → j < k
given_below x k a j h = ltb→lt j k ((and-holds (present (ensured x)) (ltb j k)).0 h).1

-- a walk that brings a value is a walk
carries-walk : {next : ℕ → List ℕ} {after : ℕ → ℕ → ℕ} {first p h : ℕ} → Carries next after first p h → Walk next never 0 p
carries-walk Carries.enter = Walk.here
carries-walk (Carries.step c m) = walk-trans (carries-walk c) (Walk.step tt m Walk.here)

-- the function s of the tables, whose walks stay in it
module _ (w : List ℕ) (s : Span) (fits : Fits w s) where
  abbrev x : Func
  x = func_in w s

  size_of : size x ≡ s.size
  size_of = length-points w s.base s.size

  point-of : (p : ℕ) → p < s.size → point x p ≡ point_at w (s.base + p)
  point-of p h = point-there w s.base s.size p h

  closed_of : Closed x
  closed_of p q h m = omega (arith, size_of, fits.inside p q (omega (arith, size_of)) m)

  frame-of : InFrame x
  frame-of o q h t =
      let k : q < s.size = omega (arith, size_of) in
      touched-below s.frame (point x q) o (rw (point-of q k) (fits.offsets q k)) t

  -- the sets of a backward problem
  pub answered : (problem : Problem) (column : List ℕ) {gens₀ gens kills₀ kills sets : List ℕ}
      → Filled (Gives problem w s column) s.size gens₀ gens → Filled (Takes problem w s column) s.size kills₀ kills
      → Solved (leads x) s.size gens kills sets → Answered problem x column sets
  answered problem column {gens = gens} {kills = kills} g k solved =
      record {
        met = λ p j h l.
            let i : p < s.size = omega (arith, size_of) in
            let stops : (q : ℕ) → q < s.size → has kills j q ≡ takes problem s.frame (item column q) (point x q) j =
            λ q n. (k.each q n).same j l ∙ sym (ap (λ (y : Point). takes problem s.frame (item column q) y j) (point-of q n)) in
            let goals : (q : ℕ) → q < s.size → has gens j q ≡ gives problem s.frame (item column q) (point x q) j =
            λ q n. (g.each q n).same j l ∙ sym (ap (λ (y : Point). gives problem s.frame (item column q) y j) (point-of q n)) in
            let same = solved p j i l in (
              λ e. let m = same.0 e in met-same (leads x) s.size fits.inside stops goals i m.1 m.2,
              λ m. same.1 (met-same (leads x) s.size fits.inside (λ q n. sym (stops q n)) (λ q n. sym (goals q n)) i m.1 m.2),
            );
      }

  -- dead, need: by the lowest and the highest bit of a point's set
  pub dead-read : {column sets : List ℕ} → Answered Live x column sets → (p v : ℕ) → p < s.size
      → Lowest (item sets p) s.frame v → v ≡ dead x p
  dead-read a p v h l =
      let i : p < size x = omega (arith, size_of) in
      smallest-unique (smallest-by-lowest _ l (λ j k. a.met p j i (omega (arith, fits.frame)))) (dead-is x closed_of p i)

  pub need-read : {column sets : List ℕ} → Answered Touched x column sets → (p v : ℕ) → p < s.size
      → Top (item sets p) v → v ≡ need x p
  need-read a p v h t =
      let i : p < size x = omega (arith, size_of) in
      largest-unique
      (largest-by-top (λ m. (o : ℕ) × (m ≡ suc o) × Met (leads x) (is_ensure x) (touches x o) p) t
      (λ j k. (λ e. (j, refl, (a.met p j i k).0 e), λ m. let e : j ≡ m.0 = omega (arith, m.1) in rw e ((a.met p m.0 i (rw (← e) k)).1 m.2)))
      (λ j m. omega (arith, m.1, fits.frame, frame-of m.0 m.2.0 (walk_inside x closed_of m.2.1 i) m.2.2)))
      (need-is x closed_of frame-of p i)

  -- the lowest level: by the lowest bit of point 0
  pub level-read : {column sets : List ℕ} {r : ℕ} → Answered CallLevels x column sets → Lowest (item sets 0) set_bits r → r ≡ lowest_level x column
  unfolding lowest_level
  level-read {column} a l =
      let i : 0 < size x = omega (arith, size_of, fits.some) in
      smallest-unique (smallest-by-lowest _ l (λ j h. a.met 0 j i h)) (lowest-met x closed_of (calls_over x column) (λ v. returns x) 0 i set_bits)

  -- kept_next: by the highest bit
  pub next-read : {column sets : List ℕ} → Blocks s.size column → Answered FirstEnsure x column sets → (p v : ℕ) → p < s.size
      → Top (item sets p) v → (t : Task) (g : ℕ) → KeptIn w s column t g → v ≡ kept_next t g p
  next-read {column} low a p v h top t g k =
      let i : p < size x = omega (arith, size_of) in
      let at : (e : ℕ) → T (is_ensure x e) → (e < s.size) × (item column e ≡ kept t g e) =
      λ e n. let l : e < s.size = omega (arith, size_of, ensure-inside x e n) in (l, k.at_ensures e l n) in
      largest-unique
      (largest-by-top (λ m. (e : ℕ) × Walk (leads x) (is_ensure x) p e × T (is_ensure x e) × (m ≡ kept t g e)) top
      (λ j l. (
        λ e.
            let m = (a.met p j i l).0 e in
            let b = (and-holds (is_ensure x m.0) (eqb (suc j) (item column m.0))).0 m.2 in
            (m.0, m.1, b.0, eqb→eq (suc j) (item column m.0) b.1 ∙ (at m.0 b.0).1),
        λ m.
            (a.met p j i l).1 (
              m.0,
              m.1,
              (and-holds (is_ensure x m.0) (eqb (suc j) (item column m.0))).1 (m.2, rw ((at m.0 m.2).1 ∙ sym m.3) (eqb_refl (suc j))),
            ),
      ))
      (λ j m. let n = at m.0 m.2 in omega (arith, m.3, n.1, low m.0 n.0)))
      (subst
      (λ (y : Func). Closed y → (p : ℕ) → p < size y
      → Largest (λ m. (e : ℕ) × Walk (leads y) (is_ensure y) p e × T (is_ensure y e) × (m ≡ kept t g e)) (kept_next t g p))
      k.same (kept_next-is t g) closed_of p i)

  -- a walk that carries bit j is one that brings a value above j
  module _
      (start entry : ℕ)
      (column : List ℕ)
      {gens₀ gens kills₀ kills : List ℕ}
      (low : Low start entry)
      (g : Filled (Gives Occupied w s column) s.size gens₀ gens)
      (k : Filled (Takes Occupied w s column) s.size kills₀ kills)
      (t : Task)
      (f e : ℕ)
      (r : CutIn w s start column t f e) where
    abbrev Brought : ℕ → ℕ → Type 0
    Brought = Carries (leads x) (after t f) start

    inside : {p q : ℕ} → Memᴰ q (leads x p) → p < s.size
    inside {p} m = omega (arith, lead-inside x p m, size_of)

    abbrev y : ℕ → Point
    y p = point_at w (s.base + p)

    above : (p h j : ℕ) → p < s.size → (j < after t f p h)
        ↔ (T (gives Occupied s.frame (item column p) (y p) j) ⊎ ((j < h) × T (not (takes Occupied s.frame (item column p) (y p) j))))
    unfolding after_with
    above p h j i =
        rw (r.same, point-of p i)
        (above-after t (y p) h s.frame (item column p) j (λ c d. r.at_calls p c i (ap called (point-of p i) ∙ d)))

    value_low : {p h : ℕ} → start ≤ set_bits → Brought p h → h ≤ set_bits
    value_low i Carries.enter = i
    value_low i (Carries.step {p = p} {h = h} c m) =
        elim (dec_lt set_bits (after t f p h)) [
          | yes d ↦
              absurd
              (⊎_elim (λ l. omega (arith, fits.frame, given_below (y p) s.frame (item column p) set_bits l))
              (λ l. omega (arith, value_low i c, l.0))
              ((above p h set_bits (inside m)).0 d))
          | no d ↦ omega arith
        ]

    carried-above : {j p : ℕ} → j < set_bits → Carried (leads x) entry (item gens) (item kills) j p → (h : ℕ) × Brought p h × (j < h)
    carried-above {j} l (Carried.enter b) = (start, Carries.enter, ltb→lt j start ((marked (marks-low low) j l).0 b))
    carried-above {j} l (Carried.given {p = p} v b m) =
        let c = walk-carries {after = after t f} {first = start} v Carries.enter in
        (after t f p c.0, Carries.step c.1 m, (above p c.0 j (inside m)).1 (inl ((marked (g.each p (inside m)) j l).0 b)))
    carried-above {j} l (Carried.kept {p = p} c b m) =
        let v = carried-above l c in
        (after t f p v.0, Carries.step v.1 m, (above p v.0 j (inside m)).1 (inr (v.2, (unmarked (k.each p (inside m)) j l).0 b)))

    above-carried : {j p h : ℕ} → j < set_bits → Brought p h → j < h → Carried (leads x) entry (item gens) (item kills) j p
    above-carried {j} l Carries.enter i = Carried.enter (low.below j i)
    above-carried {j} l (Carries.step {p = p} {h = h} c m) i =
        ⊎_elim
        (λ b. Carried.given (carries-walk c) ((marked (g.each p (inside m)) j l).1 b) m)
        (λ b. Carried.kept (above-carried l c b.0) ((unmarked (k.each p (inside m)) j l).1 b.1) m)
        ((above p h j (inside m)).0 i)

    -- high: by the highest bit
    pub high_read : {sets state : List ℕ} → start ≤ set_bits → EachReached w s → forward.Solved (leads x) s.size entry gens kills sets state
        → (p v : ℕ) → p < s.size → Top (item sets p) v → v ≡ high_from t f e p
    high_read i reach solved p v h top =
        let some-point : 0 < size x = omega (arith, size_of, fits.some) in
        let walk = (reached-walk x closed_of some-point p).0 (reach p h) in
        let is = rw (← r.first) at ((rw r.same at (high_is t f e)) closed_of some-point p walk) in
        largest-unique
        (largest-by-top (λ n. (h : ℕ) × Brought p h × (n ≤ h)) top
        (λ j l. (λ b. carried-above l (solved.carried p j h l b), λ m. solved.held p j h l (above-carried l m.1 m.2)))
        (λ j m. omega (arith, value_low i m.1, m.2)))
        (record { bounds = λ n m. omega (arith, is.0 m.0 m.1, m.2); attained = λ l. (high_from t f e p, is.1, omega arith) })
