-- The figures of document 01 obey the rules of a sheet, for every price of moves.
use Prim.Native.Nat.{ℕ, suc, ◌+◌, ◌-◌, ◌≤◌, ◌<◌, min, max}
use mathlib.Core.Bool.{not}
use mathlib.Core.List.{Memᴰ}
use mathlib.Core.Option.{Option, none, some}
use mathlib.Core.Path.{◌≡◌, refl, ap, ◌∙◌}
use native.Mathlib.Omega.{arith}
use native.Mathlib.Nat.{le_refl, le_trans}
use lib.Dec.{T, eqb, not_T, ltb→lt, lt→ltb}
use Rattle.model.specs.declared.Point.{Point}
use Rattle.model.specs.declared.Point.TheVariants.{Load, Store, Call, Ensure, Goto, Either, Return}
use Rattle.model.specs.Task.{Task, size, count, func, point}
use Rattle.model.specs.Walk.{Walk, leads, present, called, calls, is_call, returns}
use Rattle.model.specs.Figures.{dead, need, displacement_of, displacement_at, calls_above, minimax, longest, shortest, fill, after_with, after, entry, high}
use Rattle.model.specs.Figures.{spill_with, kept, kept_next, chain}
use Rattle.model.specs.Sheet.{costed, once_of, sheet_with, priced_sheet}
use Rattle.model.specs.Refusal.{no_rows}
use Rattle.theory.proofs.Lists.{by-largest}
use Rattle.theory.proofs.Walks.{walk-trans, walk-wider, walk-met}
use Rattle.model.specs.WellFormed.{WellFormed}
use Rattle.theory.proofs.Links.{is-holds, ensure-after-call, callee-later}
use Rattle.theory.proofs.Figures.{reached-walk}
use Rattle.theory.proofs.Between.{entry-is, entry_zero, chain-is, over_calls-is}
use Rattle.theory.proofs.Displacement.{minimax-low, minimax-met, shortest-is, shortest-met}
use Rattle.theory.proofs.Rules.{dead_frame, dead_live, need_frame, need_touch, need_ensure, need_along, kept_next-ensure, keptNext-along}
use Rattle.theory.proofs.Rules.{high_along, high-enter}
use Rattle.theory.proofs.Sheet.{closed_in, in_frame, calls-later}
use Rattle.theory.specs.Sound.{Price, Marked, SoundCall, Sound, SoundWhere}

-- no ensure of a function keeps more than its frame
kept_next-frame : (t : Task) (f p : ℕ) → kept_next t f p ≤ (func t f).frame
unfolding kept_next
kept_next-frame t f p = by-largest (kept t f) (λ m. m ≤ (func t f).frame) _ (omega arith) (λ e m. omega arith)

-- at the ensure after a call of g at most S − D(g) blocks are certain to be kept
kept-after : (t : Task) (f c g : ℕ) → point (func t f) c ≡ Call g → point (func t f) (suc c) ≡ Ensure (func t f).frame
    → kept t f (suc c) ≤ t.stack - longest t g
unfolding fill
kept-after t f c g e k = let z : suc c - 1 ≡ c = omega arith in rw (k, z, e) (omega arith)

-- how far the calls on the way to p have pushed at least: the smallest, over walks to p, of the largest d called
abbrev past : Task → ℕ → ℕ → ℕ
past t f p = minimax (shortest t) (func t f) (eqb p)

-- dead and need of a task's own walks
pub marked : (t : Task) → WellFormed t → (f p : ℕ) → f < count t → p < size (func t f)
    → Marked t (λ f. dead (func t f)) (λ f. need (func t f)) f p
marked t w f p h k =
    let x = func t f in
    let c = closed_in w f h in record {
      dead_frame = dead_frame x p;
      dead_live = dead_live x p;
      need_frame = need_frame x p;
      need_touch = λ o i. need_touch x c p k o (in_frame w f h o p k i) i;
      need_ensure = need_ensure x p;
      need_along = λ i q m. need_along x c p k q m (in_frame w f h) i;
    }

module _ (t : Task) (w : WellFormed t) where
  -- some walk comes to p and calls nothing above past
  past-walk : (f p : ℕ) → f < count t → p < size (func t f) → Walk (leads (func t f)) (calls_above (shortest t) (func t f) (past t f p)) 0 p
  past-walk f p h k =
      let x = func t f in
      let c = closed_in w f h in
      let z = w.shaped.nonempty f h in
      walk-met.1 (minimax-met (shortest t) x c z (eqb p) (walk-met.0 ((reached-walk x c z p).0 (w.reach f p h k))))

  -- no walk to p calls less than past at most
  past-low : (f p v : ℕ) → f < count t → Walk (leads (func t f)) (calls_above (shortest t) (func t f) v) 0 p → past t f p ≤ v
  past-low f p v h i = minimax-low (shortest t) (func t f) (closed_in w f h) (w.shaped.nonempty f h) (eqb p) v (walk-met.0 i)

  -- from p to q, where p calls u at most
  past-step : (f p q u : ℕ) → f < count t → p < size (func t f) → Memᴰ q (leads (func t f) p)
      → displacement_at (shortest t) (func t f) p ≤ u → past t f q ≤ max (past t f p) u
  past-step f p q u h k m c =
      let x = func t f in
      let n = max (past t f p) u in
      let more : (r : ℕ) → T (calls_above (shortest t) x n r) → T (calls_above (shortest t) x (past t f p) r) =
      λ r b. lt→ltb (past t f p) (displacement_at (shortest t) x r) (omega (arith, ltb→lt n (displacement_at (shortest t) x r) b)) in
      let free : T (not (calls_above (shortest t) x n p)) =
      not_T (calls_above (shortest t) x n p) (λ b. omega (arith, c, ltb→lt n (displacement_at (shortest t) x p) b)) in
      past-low f q n h (walk-trans (walk-wider more (past-walk f p h k)) (Walk.step free m Walk.here))

  past_along : (f p q : ℕ) → f < count t → p < size (func t f) → T (not (is_call (func t f) p)) → Memᴰ q (leads (func t f) p)
      → past t f q ≤ past t f p
  past_along f p q h k i m = omega (arith, past-step f p q 0 h k m (quiet (called (point (func t f) p)) i))
    where
      quiet : (c : Option ℕ) → T (not (present c)) → displacement_of (shortest t) c ≤ 0
      quiet none i = omega arith
      quiet (some g) i = absurd i

  -- d is at most the frame and past at each return
  past_return : (f p : ℕ) → f < count t → p < size (func t f) → point (func t f) p ≡ Return → shortest t f ≤ (func t f).frame + past t f p
  past_return f p h k e =
      let x = func t f in
      let c = closed_in w f h in
      let z = w.shaped.nonempty f h in
      let r : T (returns x p) = rw e tt in
      omega (
        arith,
        shortest-is t (calls-later w) f h ∙ shortest-met (shortest t) x c z (p, (reached-walk x c z p).0 (w.reach f p h k), r),
        minimax-low (shortest t) x c z (returns x) (past t f p) (p, past-walk f p h k, r),
      )

  -- after a point
  high-step : (f p q : ℕ) → f < count t → p < size (func t f) → Memᴰ q (leads (func t f) p) → after t f p (high t f p) ≤ high t f q
  high-step f p q h k m = high_along t f (closed_in w f h) p k q m (w.reach f p h k)

  high_same : (f p q : ℕ) → f < count t → p < size (func t f) → T (not (is_call (func t f) p)) → Memᴰ q (leads (func t f) p)
      → high t f p ≤ high t f q
  high_same f p q h k i m = le_trans (after_same (point (func t f) p) refl i) (high-step f p q h k m)
    where
      after_same : (y : Point) → point (func t f) p ≡ y → T (not (present (called y))) → high t f p ≤ after t f p (high t f p)
      after_same (Load o) e i = unfold after_with in rw e (omega arith)
      after_same (Store o) e i = unfold after_with in rw e (omega arith)
      after_same (Call g) e i = absurd i
      after_same (Ensure k) e i = unfold after_with in rw e (omega arith)
      after_same (Goto q) e i = unfold after_with in rw e (omega arith)
      after_same (Either q r) e i = unfold after_with in rw e (omega arith)
      after_same Return e i = unfold after_with in rw e (omega arith)

  high-filled : (f p : ℕ) → f < count t → p < size (func t f) → point (func t f) p ≡ Ensure (func t f).frame
      → (func t f).frame ≤ high t f (suc p)
  unfolding after_with leads
  high-filled f p h k e =
      let j : max (high t f p) (func t f).frame ≤ high t f (suc p) = rw e at (high-step f p (suc p) h k (rw e (Memᴰ.head refl))) in
      omega (arith, j)

  -- a call of g at p
  module _ (f p g : ℕ) (h : f < count t) (k : p < size (func t f)) (e : point (func t f) p ≡ Call g) where
    calls-it : T (calls (func t f) g p)
    calls-it = (is-holds g (called (point (func t f) p))).1 (ap called e)

    entry_at : high t f p ≤ entry t g
    entry_at = rw (entry-is t (calls-later w) g) ((over_calls-is t g (high t)).bounds (high t f p) (f, p, h, k, calls-it, refl))

    high_cut : min (high t f p) (t.stack - shortest t g) ≤ high t f (suc p)
    unfolding after_with leads
    high_cut = rw e at (high-step f p (suc p) h k (rw e (Memᴰ.head refl)))

    past-cut : past t f (suc p) ≤ max (past t f p) (shortest t g)
    unfolding leads
    past-cut = past-step f p (suc p) (shortest t g) h k (rw e (Memᴰ.head refl)) (rw e (omega arith))

    next-kept : kept_next t f (suc p) ≡ kept t f (suc p)
    next-kept =
        let n = ensure-after-call w.linked f p h (rw e tt) in
        kept_next-ensure t f (closed_in w f h) (suc p) n.0 (rw n.1 tt)

    chain-call : (price : ℕ → ℕ) → chain price t f + price (kept t f (suc p)) ≤ chain price t g
    chain-call price =
        rw (chain-is t (calls-later w) price g)
        ((over_calls-is t g (λ h p. chain price t h + price (kept t h (suc p)))).bounds _ (f, p, h, k, calls-it, refl))

  module _ (price : ℕ → ℕ) (c : Price price) (dead need : ℕ → ℕ → ℕ) where
    sound-call : (f p g : ℕ) → f < count t → p < size (func t f) → point (func t f) p ≡ Call g
        → SoundCall t (sheet_with price t (shortest t) dead need) (record { next = kept_next t; past = past t; shortest = shortest t }) f p g
    unfolding costed spill_with
    sound-call f p g h k e =
        let l = (callee-later w.linked f p g h k (ap called e)).1 in
        let a = entry_at f p g h k e in
        let n = ensure-after-call w.linked f p h (rw e tt) in record {
          enter = omega (arith, a, high-enter t g (closed_in w g l) (w.shaped.nonempty g l));
          spill = c.more _ _ (omega (arith, a));
          high = high_cut f p g h k e;
          past = past-cut f p g h k e;
          next = rw (next-kept f p g h k e) (kept-after t f p g e n.1);
          chain = rw (next-kept f p g h k e) (chain-call f p g h k e price);
        }

    -- a sheet by the formulas that stand, with dead and need from anywhere
    pub sound-with : ((f p : ℕ) → f < count t → p < size (func t f) → Marked t dead need f p) → Sound t (sheet_with price t (shortest t) dead need)
    unfolding costed once_of
    sound-with m = record {
      ground = record { next = kept_next t; past = past t; shortest = shortest t };
      price = c;
      start = λ l.
          omega (arith, entry_zero t, w.shaped.frames 0 l, high-enter t 0 (closed_in w 0 l) (w.shaped.nonempty 0 l));
      first = λ f h. omega (arith, past-low f 0 0 h Walk.here);
      at = λ f p h k. record {
        marked = m f p h k;
        next_frame = kept_next-frame t f p;
        next_along = λ i q n. keptNext-along t f (closed_in w f h) p k q n i;
        fill = λ i. c.more _ _ (omega (arith, kept_next-ensure t f (closed_in w f h) p k i));
        high_along = λ i q n. high_same f p q h k i n;
        high_ensure = high-filled f p h k;
        past_along = λ i q n. past_along f p q h k i n;
        past_return = past_return f p h k;
        call = λ g e. sound-call f p g h k e;
        cost = le_refl _;
        once = omega arith;
      };
    }

-- the sheet of a task
pub sound : (t : Task) → WellFormed t → (price : ℕ → ℕ) → Price price → Sound t (priced_sheet price t)
sound t w price c = sound-with t w price c (λ f. dead (func t f)) (λ f. need (func t f)) (marked t w)

pub priced-sound : (price : ℕ → ℕ) → Price price → SoundWhere no_rows (priced_sheet price)
priced-sound price c t w e = sound t w price c
