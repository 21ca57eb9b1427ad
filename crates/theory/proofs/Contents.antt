-- What cache and memory hold over a run: at the address of each live offset of each frame, the number that the plain stack has there.
-- So a run answers every event as the plain stack does.
use Prim.Native.Nat.{ℕ, suc, ◌+◌, ◌-◌, ◌≤◌, ◌<◌}
use mathlib.Core.Bool.{false, not}
use mathlib.Core.List.{List, [], ◌∷◌, Memᴰ}
use mathlib.Core.Logic.{inl}
use mathlib.Core.Path.{◌≡◌, refl, ap, sym, ◌∙◌}
use native.Mathlib.Decide.{ℕ_discrete}
use native.Mathlib.Omega.{arith}
use lib.Dec.{T, eqb, T_not, not_T, eqb→eq, eqb_refl}
use lib.ListN.{length, get_or, set}
use lib.Seq.{get_or-set_same, get_or-set_other}
use Rattle.model.specs.declared.Point.{Point}
use Rattle.model.specs.declared.Point.TheVariants.{Load, Store, Call, Ensure, Goto, Either, Return}
use Rattle.model.specs.Task.{Task, count, func, point}
use Rattle.model.specs.Walk.{leads, loaded, called, stores}
use Rattle.model.specs.Core.{Core, Clean, reserve, free, ensure, load, store, save, resume}
use Rattle.model.specs.Figures.{uninitialised, live}
use Rattle.model.specs.Sheet.{Sheet}
use Rattle.model.specs.Plain.{Frame, entered, moved_to, stepped, loaded_from, main_frames}
use Rattle.model.specs.Run.{step_turn}
use Rattle.theory.proofs.Lists.{by-test, or-holds}
use Rattle.model.specs.WellFormed.{WellFormed}
use Rattle.theory.proofs.Links.{is-holds, callee-later}
use Rattle.theory.proofs.Figures.{walk_inside, uninitialised-walk, live-met}
use Rattle.theory.proofs.Rules.{live-load, live-along}
use Rattle.theory.proofs.Sheet.{closed_in}
use Rattle.theory.specs.Sound.{Sound}
use Rattle.theory.proofs.Frames.{places, In, Below, total, Window}
use Rattle.theory.proofs.Window.{room-below, touched-cached, ensures-frame}
use Rattle.theory.proofs.Numbers.{number_at, number-cached, reserve-keeps, free-keeps, ensure-keeps, store_keeps, store_at, save-keeps, resume-brings}

-- a frame that starts at address a: the number at each live offset is the frame's; number gives what stands at an address
abbrev pub FrameHolds : Task → (ℕ → ℕ) → ℕ → Frame → Type 0
FrameHolds t number a x =
    (o : ℕ) → o < (func t x.fn).frame → T (live (func t x.fn) o x.at) → number (a + o) ≡ get_or x.numbers o 0

-- the same of these frames: the first starts at address a, each other where the one before it ends
unfoldable pub HoldsFrom : Task → (ℕ → ℕ) → ℕ → List Frame → Type 0
HoldsFrom t number a [] = Unit
HoldsFrom t number a (x ∷ fs) = FrameHolds t number a x × HoldsFrom t number (a + (func t x.fn).frame) fs

-- coherence: the core holds the numbers of these frames; the running frame starts at ST
abbrev pub Coherent : Task → List Frame → Core → Type 0
Coherent t fs c = HoldsFrom t (number_at c) c.st fs

-- the memory alone holds them: so it is while the task waits, whoever has the cache
abbrev pub Stored : Task → List Frame → Core → Type 0
Stored t fs c = HoldsFrom t (λ a. get_or c.memory a 0) c.st fs

-- a move that keeps the number at each address of the frames
coherent-same : (t : Task) (before now : ℕ → ℕ) (a : ℕ) (fs : List Frame)
    → ((b : ℕ) → a ≤ b → b < a + total t fs → now b ≡ before b) → HoldsFrom t before a fs → HoldsFrom t now a fs
unfolding HoldsFrom total
coherent-same t before now a [] same h = tt
coherent-same t before now a (x ∷ fs) same h = (
  λ o l v. same (a + o) (omega arith) (omega arith) ∙ h.0 o l v,
  coherent-same t before now (a + (func t x.fn).frame) fs (λ b l m. same b (omega arith) (omega arith)) h.1,
)

module _ (t : Task) (s : Sheet) (w : WellFormed t) (r : Sound t s) where
  -- nothing is live at the first point of a function
  live-first : (f o : ℕ) → f < count t → T (live (func t f) o 0) → ⊥
  live-first f o h l =
      let inside = closed_in w f h in
      let some-point = w.shaped.nonempty f h in
      let m = (live-met (func t f) inside o 0 some-point).0 l in
      let e = (is-holds o (loaded (point (func t f) m.0))).0 m.2 in
      T_not (uninitialised (func t f) o m.0) (rw e at (w.loads f m.0 h (walk_inside (func t f) inside m.1 some-point)))
      ((uninitialised-walk (func t f) inside some-point o m.0).1 m.1)

  -- the frames hold after a lead from a point that stores nothing
  coherent-along : (x : Frame) (fs : List Frame) (number : ℕ → ℕ) (a q : ℕ) → In t x → Memᴰ q (leads (func t x.fn) x.at)
      → ((o : ℕ) → T (not (stores (func t x.fn) o x.at))) → HoldsFrom t number a (x ∷ fs) → HoldsFrom t number a (moved_to q x ∷ fs)
  unfolding HoldsFrom
  coherent-along x fs number a q i m j h = (
    λ o l v. h.0 o l (live-along (func t x.fn) (closed_in w x.fn i.fn_in) x.at i.at_in q m o (j o) v),
    h.1,
  )

  -- what each move of the core leaves
  coherent-store : (x : Frame) (fs : List Frame) (c : Core) (o v : ℕ) → point (func t x.fn) x.at ≡ Store o → In t x
      → Window t s (x ∷ fs) c → Coherent t (x ∷ fs) c
      → Coherent t (record { fn = x.fn; at = suc x.at; numbers = set x.numbers o v } ∷ fs) (store o v c)
  unfolding HoldsFrom store leads
  coherent-store x fs c o v e i u h =
      let k = touched-cached t s w r x fs c o i (rw e (eqb_refl o)) u in
      let z : c.occupancy ≤ length c.cache = omega (arith, u.fits, u.blocks) in (
        λ a l live-after. elim (ℕ_discrete a o) [
          | yes y ↦ rw y (store_at c o v k.1 z ∙ sym (get_or-set_same x.numbers o v 0 (omega (arith, k.0, i.whole))))
          | no n ↦
              store_keeps c (c.st + a) o v k.1 z (omega arith) (λ y. n (omega arith))
              ∙ h.0 a l (live-along (func t x.fn) (closed_in w x.fn i.fn_in) x.at i.at_in (suc x.at)
              (rw e (mathlib.Core.List.Memᴰ.head refl)) a (rw e (not_T (eqb a o) (λ j. n (eqb→eq a o j)))) live-after)
              ∙ sym (get_or-set_other x.numbers o a v 0 n)
        ],
        coherent-same t (number_at c) (number_at (store o v c)) (c.st + (func t x.fn).frame) fs
            (λ b l m. store_keeps c b o v k.1 z (omega arith) (λ y. omega (arith, k.0))) h.1,
      )

  coherent-reserve : (fs : List Frame) (c : Core) (g : ℕ) → g < count t → (func t g).frame ≤ c.st
      → c.st + total t fs ≡ length c.memory → Clean c → Coherent t fs c → Coherent t (entered t g ∷ fs) (reserve (func t g).frame c).core
  unfolding HoldsFrom reserve
  coherent-reserve fs c g l k u i h =
      let e : c.st - (func t g).frame + (func t g).frame ≡ c.st = omega arith in (
        λ o m v. absurd (live-first g o l v),
        rw e (coherent-same t (number_at c) (number_at (reserve (func t g).frame c).core) c.st fs
            (λ b m n. reserve-keeps c b (func t g).frame i k m (omega arith)) h),
      )

  coherent-free : (x : Frame) (fs : List Frame) (c : Core) → Coherent t (x ∷ fs) c → Coherent t fs (free (func t x.fn).frame c)
  unfolding HoldsFrom free
  coherent-free x fs c h =
      coherent-same t (number_at c) (number_at (free (func t x.fn).frame c)) (c.st + (func t x.fn).frame) fs
      (λ b l m. free-keeps c b (func t x.fn).frame l) h.1

  coherent-ensure : (x : Frame) (fs : List Frame) (c : Core) → In t x → Window t s (x ∷ fs) c → Coherent t (x ∷ fs) c
      → Coherent t (x ∷ fs) (ensure (func t x.fn).frame c).core
  unfolding ensure
  coherent-ensure x fs c i u =
      coherent-same t (number_at c) (number_at (ensure (func t x.fn).frame c).core) c.st (x ∷ fs)
      (λ b l m. ensure-keeps c b (func t x.fn).frame (omega (arith, u.blocks, w.shaped.frames x.fn i.fn_in))
      (omega (arith, u.fits, u.blocks)) l)

  -- what keeps the number at each address from the lowest live one up keeps the contents
  coherent-above : (x : Frame) (fs : List Frame) (before now : ℕ → ℕ) (a : ℕ) → In t x
      → ((b : ℕ) → a + (s.at x.fn x.at).dead ≤ b → b < a + total t (x ∷ fs) → now b ≡ before b)
      → HoldsFrom t before a (x ∷ fs) → HoldsFrom t now a (x ∷ fs)
  unfolding HoldsFrom total
  coherent-above x fs before now a i same h =
      let k = r.at x.fn x.at i.fn_in i.at_in in (
        λ o l v. same (a + o) (omega (arith, k.marked.dead_live o l v)) (omega arith) ∙ h.0 o l v,
        coherent-same t before now (a + (func t x.fn).frame) fs (λ b l m. same b (omega (arith, k.marked.dead_frame)) (omega arith)) h.1,
      )

  -- the halves of a preemption: the first leaves in memory all that is live, and the second needs no more, whatever the cache holds
  pub coherent-save : (x : Frame) (fs : List Frame) (c : Core) → In t x → Window t s (x ∷ fs) c → Clean c → Coherent t (x ∷ fs) c
      → Stored t (x ∷ fs) (save (s.at x.fn x.at).dead c).core
  coherent-save x fs c i u k h =
      unfold save in coherent-above x fs (number_at c) (λ a. get_or (save (s.at x.fn x.at).dead c).core.memory a 0) c.st i
      (λ b l m. save-keeps c b (s.at x.fn x.at).dead k (omega (arith, l)) (omega (arith, m, u.top))) h

  pub coherent-resume : (x : Frame) (fs : List Frame) (c : Core) (n : ℕ) → In t x → Window t s (x ∷ fs) c → Stored t (x ∷ fs) c
      → Coherent t (x ∷ fs) (resume (s.at x.fn x.at).dead n c).core
  coherent-resume x fs c n i u h =
      unfold resume in coherent-above x fs (λ a. get_or c.memory a 0) (number_at (resume (s.at x.fn x.at).dead n c).core) c.st i
      (λ b l m. resume-brings c b (s.at x.fn x.at).dead n (omega (arith, u.fits, u.blocks)) (omega (arith, l))) h

  -- a step, by the point at which the running frame stands
  pub coherent-step : (x : Frame) (fs : List Frame) (c : Core) (y : Point) (v : ℕ) → point (func t x.fn) x.at ≡ y → In t x → Below t x.fn fs
      → Window t s (x ∷ fs) c → Clean c → Coherent t (x ∷ fs) c
      → Coherent t (stepped t x fs y v) (step_turn t x.fn x.at (places fs) c y v).state.core
  unfolding leads total
  coherent-step x fs c (Load o) v e i b u k h = coherent-along x fs (number_at c) c.st (suc x.at) i (rw e (mathlib.Core.List.Memᴰ.head refl)) (λ o. rw e tt) h
  coherent-step x fs c (Store o) v e i b u k h = coherent-store x fs c o v e i u h
  coherent-step x fs c (Call g) v e i b u k h =
      let l = callee-later w.linked x.fn x.at g i.fn_in i.at_in (ap called e) in
      let m : Memᴰ (suc x.at) (leads (func t x.fn) x.at) = rw e (mathlib.Core.List.Memᴰ.head refl) in
      coherent-reserve (moved_to (suc x.at) x ∷ fs) c g l.1 (room-below t s w r x fs c g i b e u) u.top k
      (coherent-along x fs (number_at c) c.st (suc x.at) i m (λ o. rw e tt) h)
  coherent-step x fs c (Ensure n) v e i b u k h =
      coherent-along x fs (number_at (ensure n c).core) (ensure n c).core.st (suc x.at) i (rw e (mathlib.Core.List.Memᴰ.head refl)) (λ o. rw e tt)
      (rw (ensures-frame t w x n i e) (coherent-ensure x fs c i u h))
  coherent-step x fs c (Goto q) v e i b u k h = coherent-along x fs (number_at c) c.st q i (rw e (mathlib.Core.List.Memᴰ.head refl)) (λ o. rw e tt) h
  coherent-step x fs c (Either q p) v e i b u k h =
      by-test (λ (a : ℕ). Coherent t (moved_to a x ∷ fs) c) (eqb v 0)
      (λ z. coherent-along x fs (number_at c) c.st q i (rw e (mathlib.Core.List.Memᴰ.head refl)) (λ o. rw e tt) h)
      (λ z. coherent-along x fs (number_at c) c.st p i (rw e (mathlib.Core.List.Memᴰ.tail (mathlib.Core.List.Memᴰ.head refl))) (λ o. rw e tt) h)
  coherent-step x fs c Return v e i b u k h = coherent-free x fs c h

  -- a fresh start holds nothing that is live
  pub coherent-start : 0 < count t → (c : Core) → Coherent t (main_frames t) (reserve (func t 0).frame c).core
  unfolding HoldsFrom
  coherent-start h c = (λ o l v. absurd (live-first 0 o h v), tt)

  -- a load answers the number of the plain stack
  load_same : (x : Frame) (fs : List Frame) (c : Core) (o : ℕ) → point (func t x.fn) x.at ≡ Load o → In t x → Window t s (x ∷ fs) c
      → Coherent t (x ∷ fs) c → load o c ≡ get_or x.numbers o 0
  unfolding HoldsFrom load
  load_same x fs c o e i u h =
      let k = touched-cached t s w r x fs c o i (rw e ((or-holds (eqb o o) false).1 (inl (eqb_refl o)))) u in
      sym (number-cached c (c.st + o) _ (omega (arith, k.1)) refl)
      ∙ h.0 o k.0 (live-load (func t x.fn) (closed_in w x.fn i.fn_in) x.at i.at_in o (rw e (eqb_refl o)))

  -- a step answers as on the plain stack
  pub answer-step : (x : Frame) (fs : List Frame) (c : Core) (y : Point) (v : ℕ) → point (func t x.fn) x.at ≡ y → In t x
      → Window t s (x ∷ fs) c → Coherent t (x ∷ fs) c → (step_turn t x.fn x.at (places fs) c y v).answer ≡ loaded_from x.numbers y
  answer-step x fs c (Load o) v e i u h = load_same x fs c o e i u h
  answer-step x fs c (Store o) v e i u h = refl
  answer-step x fs c (Call g) v e i u h = refl
  answer-step x fs c (Ensure k) v e i u h = refl
  answer-step x fs c (Goto q) v e i u h = refl
  answer-step x fs c (Either q p) v e i u h = refl
  answer-step x fs c Return v e i u h = refl
