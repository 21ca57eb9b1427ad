-- The frames of a run and of the plain stack stay the same: functions, points and callers. And where the stack stands.
use Rattle.std.specs.Prelude.{if◌then◌else◌}
use Prim.Native.Nat.{ℕ, suc, ◌+◌, ◌≤◌, ◌<◌}
use mathlib.Core.Bool.{Bool}
use mathlib.Core.List.{List, [], ◌∷◌, Memᴰ}
use mathlib.Core.Path.{◌≡◌, refl, ap, ◌∙◌}
use native.Mathlib.Omega.{arith}
use lib.Dec.{T, eqb}
use borrow.Author.Tests.{eq-eqb, ne_eqb}
use lib.ListN.{length, length-set, length-replicate}
use Rattle.model.specs.declared.Point.{Point}
use Rattle.model.specs.declared.Point.TheVariants.{Load, Store, Call, Ensure, Goto, Either, Return}
use Rattle.model.specs.Task.{Task, size, count, func, point}
use Rattle.model.specs.Walk.{leads, called, is_call}
use Rattle.model.specs.Core.{Core}
use Rattle.model.specs.Figures.{longest}
use Rattle.model.specs.Sheet.{Sheet}
use Rattle.model.specs.Plain.{Frame, Act, takes, preempted, moved_to, running, stepped, after_event, main_frames, first_frames}
use Rattle.model.specs.Run.{Place, running_place, step_turn, turn}
use Rattle.theory.proofs.Lists.{by-test}
use Rattle.model.specs.WellFormed.{WellFormed}
use Rattle.theory.proofs.Links.{closed, callee-later, ensure-after-call}

-- a frame of the plain stack without its numbers
abbrev pub place : Frame → Place
place x = record { fn = x.fn; at = x.at }

unfoldable pub places : List Frame → List Place
places [] = []
places (x ∷ fs) = place x ∷ places fs

-- the point that runs is the same
pub running-same : (t : Task) (fs : List Frame) → running_place t (places fs) ≡ running t fs
unfolding places
running-same t [] = refl
running-same t (x ∷ fs) = refl

-- a step changes the frames of a run as it changes those of the plain stack
pub frames-step : (t : Task) (x : Frame) (fs : List Frame) (c : Core) (y : Point) (v : ℕ)
    → (step_turn t x.fn x.at (places fs) c y v).state.frames ≡ places (stepped t x fs y v)
unfolding places
frames-step t x fs c (Load o) v = refl
frames-step t x fs c (Store o) v = refl
frames-step t x fs c (Call g) v = refl
frames-step t x fs c (Ensure k) v = refl
frames-step t x fs c (Goto q) v = refl
frames-step t x fs c (Either q r) v = refl
frames-step t x fs c Return v = refl

-- the frames after an event do not depend on the core
pub frames-turn : (t : Task) (s : Sheet) (fs : List Frame) (c : Core) (e : Act)
    → (turn t s (record { frames = places fs; core = c }) e).state.frames ≡ places (after_event t fs e)
unfolding turn places after_event
frames-turn t s [] c e = refl
frames-turn t s (x ∷ fs) c (takes v) = frames-step t x fs c (point (func t x.fn) x.at) v
frames-turn t s (x ∷ fs) c (preempted v) = refl

-- a frame is at a point of a function of the task
pub record In (t : Task) (x : Frame) : Type 0 where
  pub fn_in : x.fn < count t
  pub at_in : x.at < size (func t x.fn)
  pub whole : length x.numbers ≡ (func t x.fn).frame

-- these frames wait below a frame of function f: each at the ensure after its call of the function above it, the last of function 0
pub data Below (t : Task) : ℕ → List Frame → Type 0 where
  bottom : Below t 0 []
  above : {f c : ℕ} {x : Frame} {fs : List Frame}
      → In t x
      → point (func t x.fn) x.at ≡ Ensure (func t x.fn).frame
      → x.at ≡ suc c
      → point (func t x.fn) c ≡ Call f
      → Below t x.fn fs
      → Below t f (x ∷ fs)

pub data Standing (t : Task) : List Frame → Type 0 where
  finished : Standing t []
  runs : {x : Frame} {fs : List Frame} → In t x → Below t x.fn fs → Standing t (x ∷ fs)

-- the frames that wait run once the frame above them has returned
pub below-stands : {t : Task} {f : ℕ} {fs : List Frame} → Below t f fs → Standing t fs
below-stands Below.bottom = Standing.finished
below-stands (Below.above i s l c b) = Standing.runs i b

-- a task starts in function 0 where there is one, and has finished where there is none
pub first-main : (t : Task) → 0 < count t → first_frames t ≡ main_frames t
first-main t h = ap (λ (b : Bool). if b then [] else main_frames t) (ne_eqb (count t) 0 (λ e. omega arith))

pub first-none : (t : Task) → count t ≡ 0 → first_frames t ≡ []
first-none t e = ap (λ (b : Bool). if b then [] else main_frames t) (eq-eqb (count t) 0 e)

-- function 0 stands at its first point
pub standing-start : (t : Task) → WellFormed t → 0 < count t → Standing t (main_frames t)
standing-start t w h =
    Standing.runs
    (record { fn_in = h; at_in = w.shaped.nonempty 0 h; whole = length-replicate {A = ℕ} (func t 0).frame 0 })
    Below.bottom

module _ (t : Task) (w : WellFormed t) where
  -- a frame that moves along a lead stays at a point of its function
  in_moved : (x : Frame) (q : ℕ) → In t x → Memᴰ q (leads (func t x.fn) x.at) → In t (moved_to q x)
  in_moved x q i m =
      record { fn_in = i.fn_in; at_in = closed w.linked x.fn x.at q i.fn_in i.at_in m; whole = i.whole }

  -- a step keeps the frames at points of their functions
  pub standing-step : (x : Frame) (fs : List Frame) (y : Point) (v : ℕ) → point (func t x.fn) x.at ≡ y → In t x → Below t x.fn fs
      → Standing t (stepped t x fs y v)
  unfolding leads
  standing-step x fs (Load o) v e i b = Standing.runs (in_moved x (suc x.at) i (rw e (Memᴰ.head refl))) b
  standing-step x fs (Store o) v e i b =
      let j = in_moved x (suc x.at) i (rw e (Memᴰ.head refl)) in
      Standing.runs (record { fn_in = j.fn_in; at_in = j.at_in; whole = length-set x.numbers o v ∙ i.whole }) b
  standing-step x fs (Call g) v e i b =
      let c : T (is_call (func t x.fn) x.at) = rw e tt in
      let l = callee-later w.linked x.fn x.at g i.fn_in i.at_in (ap called e) in
      let n = ensure-after-call w.linked x.fn x.at i.fn_in c in
      Standing.runs
      (record { fn_in = l.1; at_in = w.shaped.nonempty g l.1; whole = length-replicate {A = ℕ} (func t g).frame 0 })
      (Below.above (record { fn_in = i.fn_in; at_in = n.0; whole = i.whole }) n.1 refl e b)
  standing-step x fs (Ensure k) v e i b = Standing.runs (in_moved x (suc x.at) i (rw e (Memᴰ.head refl))) b
  standing-step x fs (Goto q) v e i b = Standing.runs (in_moved x q i (rw e (Memᴰ.head refl))) b
  standing-step x fs (Either q r) v e i b =
      by-test (λ (p : ℕ). Standing t (moved_to p x ∷ fs)) (eqb v 0)
      (λ h. Standing.runs (in_moved x q i (rw e (Memᴰ.head refl))) b)
      (λ h. Standing.runs (in_moved x r i (rw e (Memᴰ.tail (Memᴰ.head refl)))) b)
  standing-step x fs Return v e i b = below-stands b

-- ---- where the stack stands

-- the blocks of these frames together
unfoldable pub total : Task → List Frame → ℕ
total t [] = 0
total t (x ∷ fs) = (func t x.fn).frame + total t fs

-- what the running frame needs is among the n cached blocks
unfoldable pub Needed : Sheet → List Frame → ℕ → Type 0
Needed s [] n = Unit
Needed s (x ∷ fs) n = (s.at x.fn x.at).need ≤ n

-- the frames fill the memory from ST up, and the occupancy covers no more than the frames and the cache, and no less than is needed
pub record Window (t : Task) (s : Sheet) (fs : List Frame) (c : Core) : Type 0 where
  pub top : c.st + total t fs ≡ length c.memory
  pub blocks : length c.cache ≡ t.stack
  pub room : longest t 0 ≤ length c.memory
  pub inside : c.occupancy ≤ total t fs
  pub fits : c.occupancy ≤ t.stack
  pub needed : Needed s fs c.occupancy
