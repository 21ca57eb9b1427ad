-- What a state that a run can be in gives to each kind of step, to a preemption and to the rows of an event.
use Prim.Native.Nat.{ℕ, zero, suc, ◌+◌, ◌-◌, ◌≤◌, ◌<◌}
use mathlib.Core.List.{List, [], ◌∷◌}
use mathlib.Core.Path.{◌≡◌, refl, ap, sym, subst, ◌∙◌}
use mathlib.Core.Bool.{false}
use mathlib.Core.Logic.{inl}
use native.Mathlib.Omega.{arith}
use lib.Dec.{T, eqb, eqb_refl}
use lib.ListN.{length}
use Rattle.model.specs.declared.Point.{Point}
use Rattle.model.specs.declared.Point.TheVariants.{Load, Store, Call, Ensure}
use Rattle.model.specs.Limits.{most_stack, most_funcs, most_points, most_in_all}
use Rattle.model.specs.Task.{Task, func, point}
use Rattle.model.specs.Walk.{called, touches}
use Rattle.model.specs.Plain.{Frame}
use Rattle.model.specs.Run.{Place}
use Rattle.model.specs.WellFormed.{WellFormed}
use Rattle.theory.proofs.Lists.{or-holds}
use Rattle.theory.proofs.Links.{callee-later}
use Rattle.theory.proofs.Frames.{places, place, In, Below, Standing}
use Rattle.theory.proofs.Window.{room-below, ensures-frame, touched-cached}
use Rattle.theory.proofs.Fair.{Running}
use Rattle.tables.specs.declared.Header.{Header}
use Rattle.tables.specs.declared.Span.{Span}
use Rattle.tables.specs.Layout.{tables_length}
use Rattle.tables.specs.Tables.{point_at, base_at, size_at, span_at, task_of}
use Rattle.tables.proofs.Laws.{size_is, frame_is, point-is, count-is, stacked-within}
use Rattle.prices.specs.declared.Price.{Price}
use Rattle.readout.specs.Sheet.{sheet_in}
use Rattle.machine.specs.Moves.{core_of, most_address, Good}
use Rattle.machine.proofs.Kept.{window-good, window-frame}
use Rattle.steps.specs.declared.State.{State}
use Rattle.steps.specs.Frames.{places_in, frames_from}
use Rattle.steps.specs.Steps.{Counts, Reaches, Leaves}
use Rattle.moves.specs.Moves.{Inside, Enters}
use Rattle.moves.proofs.Laws.{inside-small}
use Rattle.turns.specs.Turns.{Runs, Placed, StandsAt}

-- ---- the running frame on the plain stack

-- frames with these functions and points, the running one first
pub record TopFrame (w : List ℕ) (d f p : ℕ) (fs : List Frame) : Type 0 where
  pub numbers : List ℕ
  pub rest : List Frame
  pub whole : fs ≡ record { fn = f; at = p; numbers = numbers } ∷ rest
  pub below : places_in w (d - 1) ≡ places rest

pub top_of : (w : List ℕ) (d f p : ℕ) (fs : List Frame) → 0 < d → frames_from w d f p ≡ places fs → TopFrame w d f p fs
unfolding places
top_of w zero f p fs h e = absurd (omega arith)
top_of w (suc n) f p [] h e = let z : ◌≡◌ {A = ℕ} 0 1 = cc in absurd (omega arith)
top_of w (suc n) f p (y ∷ fs) h e =
    let head : record { fn = f; at = p } ≡ place y = cc in
    let rest : places_in w n ≡ places fs = cc in
    let fn = ap (λ (z : Place). z.fn) head in
    let at = ap (λ (z : Place). z.at) head in
    let m : suc n - 1 ≡ n = omega arith in
    record {
      numbers = y.numbers;
      rest = fs;
      whole = λ i. record { fn = sym fn i; at = sym at i; numbers = y.numbers } ∷ fs;
      below = ap (places_in w) m ∙ rest;
    }

-- ---- the callers are of earlier functions, so there are fewer of them than functions

below-few : {t : Task} → WellFormed t → {f : ℕ} {fs : List Frame} → Below t f fs → length fs ≤ f
below-few w Below.bottom = omega arith
below-few w {f} (Below.above {c = c} {x = x} i s l k b) =
    let g = callee-later w.linked x.fn c f i.fn_in (omega (arith, i.at_in)) (ap called k) in
    omega (arith, g.0, below-few w b)

length-callers : (w : List ℕ) (n : ℕ) → length (places_in w n) ≡ n
unfolding places_in
length-callers w zero = refl
length-callers w (suc n) = ap suc (length-callers w n)

length-places : (fs : List Frame) → length (places fs) ≡ length fs
unfolding places
length-places [] = refl
length-places (x ∷ fs) = ap suc (length-places fs)

-- ---- a state that a run can be in

stands-in : {t : Task} {x : Frame} {fs : List Frame} → Standing t (x ∷ fs) → In t x × Below t x.fn fs
stands-in (Standing.runs i b) = (i, b)

module _ {price : Price} {w : List ℕ} {h : Header} {x : State} {cache memory : List ℕ} (k : Runs price w h x cache memory) (some : 0 < x.depth) where
  abbrev t : Task
  t = task_of w h

  formed : WellFormed t
  formed = k.bounded.readable.settled.formed

  top : TopFrame w x.depth x.f x.p k.frames
  top = top_of w x.depth x.f x.p k.frames some k.same

  abbrev frame : Frame
  frame = record { fn = x.f; at = x.p; numbers = top.numbers }

  runs-top : Running t (sheet_in price w h) k.sound.ground (frame ∷ top.rest) (core_of x.machine cache memory)
  runs-top =
      subst (λ (fs : List Frame). Running t (sheet_in price w h) k.sound.ground fs (core_of x.machine cache memory)) top.whole k.running

  top_in : In t frame
  top_in = (stands-in runs-top.standing).0

  top_below : Below t x.f top.rest
  top_below = (stands-in runs-top.standing).1

  pub fn-within : x.f < h.funcs
  fn-within = omega (arith, top_in.fn_in, count-is w h)

  pub at-within : x.p < size_at w x.f
  at-within = omega (arith, top_in.at_in, size_is w h x.f fn-within)

  pub runs-good : Good (core_of x.machine cache memory)
  runs-good = window-good t (sheet_in price w h) _ _ (formed.shaped.stack_low (omega (arith, top_in.fn_in))) runs-top.window runs-top.clean

  pub depth-few : x.depth ≤ most_funcs
  depth-few =
      let e = sym (length-callers w (x.depth - 1)) ∙ ap length top.below ∙ length-places top.rest in
      omega (arith, e, below-few formed top_below, fn-within, k.bounded.readable.settled.holds.few)

  pub runs-inside : (s : Span) → s ≡ span_at w x.f → Counts x → Inside price w h x s
  runs-inside s e c =
      let z : s.size ≡ size_at w x.f = ap (λ (y : Span). y.size) e in
      record { bounded = k.bounded; some = some; fn_in = fn-within; span = e; at_in = omega (arith, z, at-within); counts = c }

  -- a frame of the task fits the cache
  pub frame-fits : (g : ℕ) → g < h.funcs → (func t g).frame ≤ length cache
  frame-fits g l = omega (arith, runs-top.window.blocks, formed.shaped.frames g (omega (arith, l, count-is w h)))

  -- ---- at a point

  touch-reaches : (o : ℕ) → T (touches (func t x.f) o x.p) → x.p < most_points → Reaches x cache o
  touch-reaches o j l =
      let c = touched-cached t (sheet_in price w h) formed k.sound frame top.rest _ o top_in j runs-top.window in
      record { some = some; small = l; on = k.on; offset = omega (arith, c.1, runs-good.fits) }

-- what a run gives at any time
pub runs-placed : {price : Price} {w : List ℕ} {h : Header} {x : State} {cache memory : List ℕ} → Runs price w h x cache memory → Placed w h x
runs-placed k = record { settled = k.bounded.readable.settled; fn_in = λ i. fn-within k i; at_in = λ i. at-within k i }

-- ---- the point at which the running frame stands

module _ {w : List ℕ} {h : Header} {x : State} (k : Placed w h x) (some : 0 < x.depth) where
  pub placed-few : (x.f < most_funcs) × (tables_length ≤ length w)
  placed-few = (omega (arith, k.fn_in some, k.settled.holds.few), k.settled.holds.room)

  pub placed-point : (s : Span) → s ≡ span_at w x.f → s.base + x.p < most_in_all
  placed-point s e =
      let b : s.base ≡ base_at w x.f = ap (λ (y : Span). y.base) e in
      omega (arith, b, k.at_in some, stacked-within k.settled.holds.stacked x.f (k.fn_in some), k.settled.holds.all)

  pub placed-is : (s : Span) (y : Point) → s ≡ span_at w x.f → y ≡ point_at w (s.base + x.p) → point (func (task_of w h) x.f) x.p ≡ y
  placed-is s y e i =
      point-is w h x.f (k.fn_in some) x.p (k.at_in some)
      ∙ sym (i ∙ ap (λ (z : Span). point_at w (z.base + x.p)) e)

-- ---- each kind of point

module _ {price : Price} {w : List ℕ} {h : Header} {x : State} {cache memory : List ℕ} {s : Span} {y : Point} (k : StandsAt price w h x cache memory s y) where
  pub load_given : {o : ℕ} → y ≡ Load o → Reaches x cache o
  load_given {o} e =
      let i = k.here ∙ e in
      touch-reaches k.runs k.inside.some o (rw i ((or-holds (eqb o o) false).1 (inl (eqb_refl o)))) (inside-small k.inside)

  pub store_given : {o : ℕ} → y ≡ Store o → Reaches x cache o
  store_given {o} e =
      let i = k.here ∙ e in touch-reaches k.runs k.inside.some o (rw i (eqb_refl o)) (inside-small k.inside)

  pub call-given : {g : ℕ} → y ≡ Call g → Enters price w h x cache memory g
  call-given {g} e =
      let r = k.runs in
      let some = k.inside.some in
      let t = task_of w h in
      let m = formed r some in
      let i = k.here ∙ e in
      let j = top_in r some in
      let l = callee-later m.linked x.f x.p g j.fn_in j.at_in (ap called i) in
      record {
        bounded = r.bounded;
        some = some;
        few = depth-few r some;
        fn_in = k.inside.fn_in;
        small = inside-small k.inside;
        callee = omega (arith, l.1, count-is w h);
        on = r.on;
        good = runs-good r some;
        fits = frame-fits r some g (omega (arith, l.1, count-is w h));
        room = room-below t (sheet_in price w h) m r.sound (frame r some) _ _ g j (top_below r some) i (runs-top r some).window;
        counts = k.inside.counts;
      }

  -- the frame that runs lies in the memory
  frame-lies : x.machine.st + (func (task_of w h) x.f).frame ≤ length memory
  frame-lies = window-frame (task_of w h) _ (frame k.runs k.inside.some) _ _ (runs-top k.runs k.inside.some).window

  pub ensure-given : {n : ℕ} → y ≡ Ensure n → Good (core_of x.machine cache memory) × (x.machine.st + n ≤ length memory) × (n ≤ most_stack)
  ensure-given {n} e =
      let some = k.inside.some in
      let i = ensures-frame (task_of w h) (formed k.runs some) (frame k.runs some) n (top_in k.runs some) (k.here ∙ e) in
      let w = formed k.runs some in
      let f = w.shaped.frames x.f (top_in k.runs some).fn_in in
      (runs-good k.runs some, omega (arith, i, frame-lies), omega (arith, i, f, w.shaped.stack_high))

  pub frame_same : (func (task_of w h) x.f).frame ≡ s.frame
  frame_same = frame_is w h x.f k.inside.fn_in ∙ sym (ap (λ (z : Span). z.frame) k.inside.span)

  pub return-given : length memory ≤ most_address → Leaves w x cache s.frame
  return-given m = record {
    space = omega (arith, k.runs.bounded.readable.room);
    some = k.inside.some;
    few = depth-few k.runs k.inside.some;
    on = k.runs.on;
    fits = omega (arith, frame_same, frame-fits k.runs k.inside.some x.f k.inside.fn_in);
    address = omega (arith, frame-lies, frame_same);
  }
