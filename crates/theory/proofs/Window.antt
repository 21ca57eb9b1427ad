-- Where the stack stands over a run: the frames fill the memory from ST up, ST never falls below 0, and what the running frame needs is
-- cached after every event.
use Prim.Native.Nat.{ℕ, suc, ◌+◌, ◌-◌, ◌≤◌, ◌<◌}
use mathlib.Core.Bool.{not}
use mathlib.Core.List.{List, [], ◌∷◌, Memᴰ}
use mathlib.Core.Path.{◌≡◌, refl, ap, sym, ◌∙◌}
use native.Mathlib.Omega.{arith}
use lib.Dec.{T, eqb, eqb_refl}
use lib.ListN.{length, set, length-set}
use Rattle.model.specs.declared.Eviction.{Eviction}
use Rattle.model.specs.declared.Point.{Point}
use Rattle.model.specs.declared.Point.TheVariants.{Load, Store, Call, Ensure, Goto, Either, Return}
use Rattle.model.specs.Task.{Task, size, count, func, point}
use Rattle.model.specs.Walk.{leads, called, touches, is_ensure}
use Rattle.model.specs.Core.{Core, reserve, free, ensure, store, save, with_cache, resume, idle}
use Rattle.model.specs.Figures.{longest}
use Rattle.model.specs.Sheet.{Sheet}
use Rattle.model.specs.Plain.{Frame, entered, moved_to, stepped, main_frames}
use Rattle.model.specs.Run.{step_turn}
use Rattle.theory.proofs.Lists.{by-test, largest-bounds}
use Rattle.model.specs.WellFormed.{WellFormed}
use Rattle.theory.proofs.Links.{closed, call-before-ensure, callee-later}
use Rattle.theory.proofs.Between.{mem-callees, longest-is}
use Rattle.theory.proofs.Sheet.{in_frame, calls-later}
use Rattle.theory.specs.Sound.{Sound}
use Rattle.theory.proofs.Blocks.{length-spilled, length-filled}
use Rattle.theory.proofs.Frames.{places, In, Below, total, Needed, Window}

module _ (t : Task) (w : WellFormed t) where
  -- D of a function covers its frame
  pub frame-room : (f : ℕ) → f < count t → (func t f).frame ≤ longest t f
  frame-room f h = omega (arith, longest-is t (calls-later w) f h)

  -- and its frame with D of each function that it calls
  pub call-room : (f p g : ℕ) → f < count t → p < size (func t f) → point (func t f) p ≡ Call g → (func t f).frame + longest t g ≤ longest t f
  call-room f p g h k e =
      let m = (mem-callees (func t f) {f = g}).1 (p, k, rw e (eqb_refl g)) in
      omega (arith, longest-is t (calls-later w) f h, largest-bounds (longest t) m)

  -- the frames that wait below a function, and D of it, are within D of function 0
  pub below-room : {f : ℕ} {fs : List Frame} → Below t f fs → total t fs + longest t f ≤ longest t 0
  unfolding total
  below-room Below.bottom = omega arith
  below-room {f} (Below.above {c = c} {x = x} i s l k b) =
      omega (arith, below-room b, call-room x.fn c f i.fn_in (omega (arith, i.at_in)) k)

  -- the ensure at which a frame stands is of its whole frame
  pub ensures-frame : (x : Frame) (k : ℕ) → In t x → point (func t x.fn) x.at ≡ Ensure k → k ≡ (func t x.fn).frame
  ensures-frame x k i e = let r = (call-before-ensure w.linked x.fn x.at i.fn_in (rw e tt)).repeats in cc

module _ (t : Task) (s : Sheet) (w : WellFormed t) (r : Sound t s) where
  -- a call finds room below ST
  pub room-below : (x : Frame) (fs : List Frame) (c : Core) (g : ℕ) → In t x → Below t x.fn fs → point (func t x.fn) x.at ≡ Call g
      → Window t s (x ∷ fs) c → (func t g).frame ≤ c.st
  unfolding total
  room-below x fs c g i b e u =
      let l = callee-later w.linked x.fn x.at g i.fn_in i.at_in (ap called e) in
      omega (arith, u.top, u.room, below-room t w b, call-room t w x.fn x.at g i.fn_in i.at_in e, frame-room t w g l.1)

  -- a lead from a point that is no ensure; the frame's numbers do not matter
  window-along : (x : Frame) (fs : List Frame) (c : Core) (q : ℕ) (l : List ℕ) → In t x → Memᴰ q (leads (func t x.fn) x.at)
      → T (not (is_ensure (func t x.fn) x.at)) → Window t s (x ∷ fs) c → Window t s (record { fn = x.fn; at = q; numbers = l } ∷ fs) c
  unfolding total Needed
  window-along x fs c q l i m j u =
      record {
        top = u.top;
        blocks = u.blocks;
        room = u.room;
        inside = u.inside;
        fits = u.fits;
        needed =
            omega (arith, u.needed, (r.at x.fn x.at i.fn_in i.at_in).marked.need_along j q m);
      }

  -- what the running frame touches is cached
  pub touched-cached : (x : Frame) (fs : List Frame) (c : Core) (o : ℕ) → In t x → T (touches (func t x.fn) o x.at) → Window t s (x ∷ fs) c
      → (o < (func t x.fn).frame) × (o < c.occupancy)
  unfolding Needed
  touched-cached x fs c o i h u =
      let l = in_frame w x.fn i.fn_in o x.at i.at_in h in
      (l, omega (arith, u.needed, (r.at x.fn x.at i.fn_in i.at_in).marked.need_touch o h))

  -- what each move of the core leaves
  window-store : (fs : List Frame) (c : Core) (o v : ℕ) → Window t s fs c → Window t s fs (store o v c)
  unfolding store
  window-store fs c o v u =
      record {
        top = u.top;
        blocks = simp length-set u.blocks;
        room = u.room;
        inside = u.inside;
        fits = u.fits;
        needed = u.needed;
      }

  window-reserve : (fs : List Frame) (c : Core) (g : ℕ) → g < count t → (func t g).frame ≤ c.st → Window t s fs c
      → Window t s (entered t g ∷ fs) (reserve (func t g).frame c).core
  unfolding total Needed reserve
  window-reserve fs c g h k u =
      let e : length (reserve (func t g).frame c).core.memory ≡ length c.memory = length-spilled _ _ _ _ in
      let l = w.shaped.frames g h in
      record {
        top = omega (arith, e, u.top);
        blocks = u.blocks;
        room = omega (arith, e, u.room);
        inside = omega (arith, u.inside);
        fits = omega (arith, u.blocks);
        needed = omega (arith, u.blocks, (r.at g 0 h (w.shaped.nonempty g h)).marked.need_frame);
      }

  -- a frame that waits stands at an ensure and needs nothing
  waits-needs : {f : ℕ} {fs : List Frame} (n : ℕ) → Below t f fs → Needed s fs n
  unfolding Needed
  waits-needs n Below.bottom = tt
  waits-needs n (Below.above {x = x} i j l k b) = omega (arith, (r.at x.fn x.at i.fn_in i.at_in).marked.need_ensure (rw j tt))

  window-free : (x : Frame) (fs : List Frame) (c : Core) → Below t x.fn fs → Window t s (x ∷ fs) c
      → Window t s fs (free (func t x.fn).frame c)
  unfolding total free
  window-free x fs c b u =
      record {
        top = omega (arith, u.top);
        blocks = u.blocks;
        room = u.room;
        inside = omega (arith, u.inside);
        fits = omega (arith, u.fits);
        needed = waits-needs (c.occupancy - (func t x.fn).frame) b;
      }

  window-ensure : (x : Frame) (fs : List Frame) (c : Core) (q : ℕ) → In t x → q < size (func t x.fn) → Window t s (x ∷ fs) c
      → Window t s (moved_to q x ∷ fs) (ensure (func t x.fn).frame c).core
  unfolding total Needed ensure
  window-ensure x fs c q i j u =
      record {
        top = u.top;
        blocks = length-filled _ _ _ _ ∙ u.blocks;
        room = u.room;
        inside = omega (arith, u.inside);
        fits = omega (arith, u.fits, w.shaped.frames x.fn i.fn_in);
        needed = omega (arith, (r.at x.fn q i.fn_in j).marked.need_frame);
      }

  -- the halves of a preemption, with any cache of the right size between them
  pub window-save : (fs : List Frame) (c : Core) (d : ℕ) → Window t s fs c → Window t s fs (save d c).core
  unfolding save
  window-save fs c d u =
      let e : length (save d c).core.memory ≡ length c.memory = length-spilled _ _ _ _ in
      record {
        top = u.top ∙ sym e;
        blocks = u.blocks;
        room = omega (arith, e, u.room);
        inside = u.inside;
        fits = u.fits;
        needed = u.needed;
      }

  pub window-between : (fs : List Frame) (c : Core) (cache : List ℕ) → length cache ≡ t.stack → Window t s fs c
      → Window t s fs (with_cache cache c)
  window-between fs c cache e u =
      record { top = u.top; blocks = e; room = u.room; inside = u.inside; fits = u.fits; needed = u.needed }

  pub window-resume : (x : Frame) (fs : List Frame) (c : Core) (d : ℕ) → Window t s (x ∷ fs) c
      → Window t s (x ∷ fs) (resume d (s.at x.fn x.at).need c).core
  unfolding Needed resume
  window-resume x fs c d u =
      record {
        top = u.top;
        blocks = length-filled _ _ _ _ ∙ u.blocks;
        room = u.room;
        inside = omega (arith, u.inside);
        fits = omega (arith, u.fits);
        needed = omega (arith, u.needed);
      }

  -- a step, by the point at which the running frame stands
  pub window-step : (x : Frame) (fs : List Frame) (c : Core) (y : Point) (v : ℕ) → point (func t x.fn) x.at ≡ y → In t x → Below t x.fn fs
      → Window t s (x ∷ fs) c → Window t s (stepped t x fs y v) (step_turn t x.fn x.at (places fs) c y v).state.core
  unfolding leads
  window-step x fs c (Load o) v e i b u = window-along x fs c (suc x.at) x.numbers i (rw e (Memᴰ.head refl)) (rw e tt) u
  window-step x fs c (Store o) v e i b u =
      window-store _ c o v (window-along x fs c (suc x.at) (set x.numbers o v) i (rw e (Memᴰ.head refl)) (rw e tt) u)
  window-step x fs c (Call g) v e i b u =
      let l = callee-later w.linked x.fn x.at g i.fn_in i.at_in (ap called e) in
      window-reserve (moved_to (suc x.at) x ∷ fs) c g l.1 (room-below x fs c g i b e u)
      (window-along x fs c (suc x.at) x.numbers i (rw e (Memᴰ.head refl)) (rw e tt) u)
  window-step x fs c (Ensure k) v e i b u =
      let m = closed w.linked x.fn x.at (suc x.at) i.fn_in i.at_in (rw e (Memᴰ.head refl)) in
      rw (ensures-frame t w x k i e) (window-ensure x fs c (suc x.at) i m u)
  window-step x fs c (Goto q) v e i b u = window-along x fs c q x.numbers i (rw e (Memᴰ.head refl)) (rw e tt) u
  window-step x fs c (Either q r) v e i b u =
      by-test (λ (p : ℕ). Window t s (moved_to p x ∷ fs) c) (eqb v 0)
      (λ h. window-along x fs c q x.numbers i (rw e (Memᴰ.head refl)) (rw e tt) u)
      (λ h. window-along x fs c r x.numbers i (rw e (Memᴰ.tail (Memᴰ.head refl))) (rw e tt) u)
  window-step x fs c Return v e i b u = window-free x fs c b u

  -- a fresh start has room for function 0 below ST, and has entered it
  pub room-start : 0 < count t → (c : Core) → Window t s [] c → (func t 0).frame ≤ c.st
  unfolding total
  room-start h c u = omega (arith, frame-room t w 0 h, u.top, u.room)

  pub window-start : 0 < count t → (c : Core) → Window t s [] c → Window t s (main_frames t) (reserve (func t 0).frame c).core
  window-start h c u = window-reserve [] c 0 h (room-start h c u) u

-- an idle core has no frames
pub window-idle : (t : Task) (s : Sheet) (x : Eviction) (cache memory : List ℕ) → length cache ≡ t.stack → longest t 0 ≤ length memory
    → Window t s [] (idle x cache memory)
unfolding total Needed
window-idle t s x cache memory j k =
    record { top = omega arith; blocks = j; room = k; inside = omega arith; fits = omega arith; needed = tt }
