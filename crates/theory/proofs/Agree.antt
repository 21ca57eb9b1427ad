-- Only the figures at the points of a task matter: sheets that agree there give the same report, the same list, the same runs, and allow the same; and
-- one obeys the rules where the other does. So the figures may be held in any form that has those of the task's points.
use Prim.Native.Nat.{ℕ, suc, ◌<◌}
use mathlib.Core.Bool.{Bool}
use mathlib.Core.List.{List, [], ◌∷◌, ◌++◌, Memᴰ}
use mathlib.Core.Path.{◌≡◌, refl, ap, sym, ◌∙◌}
use native.Mathlib.Omega.{arith}
use Rattle.model.specs.declared.Point.{Point}
use Rattle.model.specs.declared.Point.TheVariants.{Load, Store, Call, Ensure, Goto, Either, Return}
use Rattle.model.specs.Basic.{joined, up_to}
use Rattle.model.specs.Text.{bytes}
use Rattle.model.specs.Task.{Task, count, size, func, point}
use Rattle.model.specs.Walk.{leads, called}
use Rattle.model.specs.Core.{Core, effective, reserve, preempt, save_moves, resume_moves, filled_with}
use Rattle.model.specs.Sheet.{PointSheet, Sheet, record_at, records_in, records_of, head_text, point_text, total_text, func_text, report_with}
use Rattle.model.specs.Dearest.{dear_text, dearest, dearest_with}
use Rattle.model.specs.Refusal.{event_rows}
use Rattle.model.specs.Plain.{Event, Act, takes, preempted, act, Frame, running, after_event, main_frames}
use Rattle.model.specs.Run.{State, Turn, running_place, onwards, turn, or_ran, ran_from, ran, step_bound, event_bound, or_bound, allowed_from, allowed}
use Rattle.model.specs.WellFormed.{WellFormed}
use Rattle.theory.specs.Sound.{Ground, Marked, SoundCall, SoundAt, Sound}
use Rattle.theory.specs.Agree.{Agree}
use Rattle.theory.proofs.Lists.{map_same, joined_same, mem-up_to}
use Rattle.theory.proofs.Links.{closed, callee-later, ensure-after-call}
use Rattle.theory.proofs.Frames.{places, frames-turn, Standing, standing-start, standing-step}
use Rattle.theory.proofs.Fair.{state-is, by-start}

module _ {t : Task} {s r : Sheet} (a : Agree t s r) where
  records-in : (f : ℕ) → f < count t → records_in t s f ≡ records_in t r f
  unfolding records_in
  records-in f h =
      map_same (record_at s f) (record_at r f) (up_to (size (func t f)))
      (λ p m.
      let l : p < size (func t f) = (mem-up_to (size (func t f))).0 m in
      let e = a.at f p h (omega arith) in
      λ i. record { fn = f; at = p; figures = e i })

  pub records-agree : records_of t s ≡ records_of t r
  unfolding records_of
  records-agree = joined_same (records_in t s) (records_in t r) (up_to (count t)) (λ f m. records-in f ((mem-up_to (count t)).0 m))

  rows_agree : (once : Bool) (f : ℕ) → f < count t → func_text once t s f ≡ func_text once t r f
  unfolding func_text head_text
  rows_agree once f h =
      let head : head_text t s f ≡ head_text t r f = rw (a.spill f h, a.chain f h) refl in
      λ i. head i ++ joined (point_text once) (records-in f h i)

  -- the same report
  pub report-agree : (once : Bool) → report_with once t s ≡ report_with once t r
  unfolding report_with
  report-agree once =
      let lines = joined_same (func_text once t s) (func_text once t r) (up_to (count t)) (λ f m. rows_agree once f ((mem-up_to (count t)).0 m)) in
      λ i. bytes "(report\n" ++ (lines i ++ (total_text (records-agree i) ++ bytes ")\n"))

  -- and the same list of the dearest points
  pub dearest-agree : dearest_with t s ≡ dearest_with t r
  unfolding dearest_with
  dearest-agree = λ i. joined dear_text (dearest (records-agree i))

  -- the same turn at frames of the task
  turn_agree : (fs : List Frame) (c : Core) (e : Act) → Standing t fs
      → turn t s (record { frames = places fs; core = c }) e ≡ turn t r (record { frames = places fs; core = c }) e
  unfolding turn places
  turn_agree [] c e j = refl
  turn_agree (x ∷ fs) c (takes v) j = refl
  turn_agree (x ∷ fs) c (preempted v) (Standing.runs i b) =
      let e = a.at x.fn x.at i.fn_in i.at_in in
      λ k. onwards x.fn x.at (places fs) (preempt (e k).dead (e k).need (filled_with v c) c) 0 (save_moves (e k).dead c.occupancy (effective c))
      (resume_moves (e k).dead (e k).need c.occupancy)

  -- what is allowed there
  bound-agree : WellFormed t → (fs : List Frame) (e : Act) → Standing t fs → event_bound t s fs e ≡ event_bound t r fs e
  unfolding event_bound
  bound-agree w [] e j = refl
  bound-agree w (x ∷ fs) (preempted v) (Standing.runs i b) = ap (λ (y : PointSheet). y.cost) (a.at x.fn x.at i.fn_in i.at_in)
  bound-agree w (x ∷ fs) (takes v) (Standing.runs i b) = step (point (func t x.fn) x.at) refl
    where
      step : (y : Point) → point (func t x.fn) x.at ≡ y → step_bound s x.fn x.at y ≡ step_bound r x.fn x.at y
      step (Load o) e = refl
      step (Store o) e = refl
      step (Call g) e = a.spill g (callee-later w.linked x.fn x.at g i.fn_in i.at_in (ap called e)).1
      step (Ensure k) e = ap (λ (y : PointSheet). y.fill) (a.at x.fn x.at i.fn_in i.at_in)
      step (Goto q) e = refl
      step (Either q p) e = refl
      step Return e = refl

  -- an event leaves frames of the task
  standing-event : WellFormed t → (fs : List Frame) (e : Act) → Standing t fs → Standing t (after_event t fs e)
  unfolding after_event
  standing-event w [] e j = j
  standing-event w (x ∷ fs) (takes v) (Standing.runs i b) = standing-step t w x fs (point (func t x.fn) x.at) v refl i b
  standing-event w (x ∷ fs) (preempted v) j = j

  -- the same run
  ran-from : WellFormed t → (i : ℕ) (es : List Event) (fs : List Frame) (c : Core) → Standing t fs
      → ran_from t s i (record { frames = places fs; core = c }) es ≡ ran_from t r i (record { frames = places fs; core = c }) es
  unfolding ran_from
  ran-from w i [] fs c j = refl
  ran-from w i (e ∷ es) fs c j =
      let u = turn t s (record { frames = places fs; core = c }) (act e) in
      let same = turn_agree fs c (act e) j in
      let rest = ran-from w (suc i) es (after_event t fs (act e)) u.state.core (standing-event w fs (act e) j) in
      let state = state-is u.state (after_event t fs (act e)) (frames-turn t s fs c (act e)) in
      let later =
      ap (λ (x : State). ran_from t s (suc i) x es) state ∙ rest ∙ ap (λ (x : State). ran_from t r (suc i) x es) (sym state)
      ∙ ap (λ (v : Turn). ran_from t r (suc i) v.state es) same in
      λ k. or_ran (a.price k) (event_rows i e.kind e.value (running_place t (places fs))) c (same k) (later k)

  pub run_agree : WellFormed t → (c : Core) (es : List Event) → ran t s c es ≡ ran t r c es
  unfolding places
  run_agree w c es =
      by-start t (λ x fs. ran_from t s 0 (x c) es ≡ ran_from t r 0 (x c) es) (ran-from w 0 es [] c Standing.finished)
      (λ h. ran-from w 0 es (main_frames t) (reserve (func t 0).frame c).core (standing-start t w h))

  -- which is allowed the same
  allowed-from : WellFormed t → (i : ℕ) (es : List Event) (fs : List Frame) → Standing t fs → allowed_from t s i fs es ≡ allowed_from t r i fs es
  unfolding allowed_from
  allowed-from w i [] fs j = refl
  allowed-from w i (e ∷ es) fs j =
      let b = bound-agree w fs (act e) j in
      let rest = allowed-from w (suc i) es (after_event t fs (act e)) (standing-event w fs (act e) j) in
      λ k. or_bound (event_rows i e.kind e.value (running t fs)) (b k) (rest k)

  pub allowed-agree : WellFormed t → (es : List Event) → allowed t s es ≡ allowed t r es
  allowed-agree w es =
      by-start t (λ x fs. allowed_from t s 0 fs es ≡ allowed_from t r 0 fs es) (allowed-from w 0 es [] Standing.finished)
      (λ h. allowed-from w 0 es (main_frames t) (standing-start t w h))

  -- one obeys the rules where the other does
  module _ (w : WellFormed t) where
    -- a point and those to which it leads
    along : (f p q : ℕ) → f < count t → p < size (func t f) → Memᴰ q (leads (func t f) p) → s.at f q ≡ r.at f q
    along f p q h k m = a.at f q h (closed w.linked f p q h k m)

    marked-agree : (f p : ℕ) → f < count t → p < size (func t f) → Marked t (λ f p. (r.at f p).dead) (λ f p. (r.at f p).need) f p
        → Marked t (λ f p. (s.at f p).dead) (λ f p. (s.at f p).need) f p
    marked-agree f p h k x =
        let e = a.at f p h k in
        record {
          dead_frame = rw e x.dead_frame;
          dead_live = λ o i j. rw e (x.dead_live o i j);
          need_frame = rw e x.need_frame;
          need_touch = λ o i. rw e (x.need_touch o i);
          need_ensure = λ i. rw e (x.need_ensure i);
          need_along = λ i q m. rw (e, along f p q h k m) (x.need_along i q m);
        }

    call-agree : (b : Ground) (f p g : ℕ) → f < count t → p < size (func t f) → point (func t f) p ≡ Call g → SoundCall t r b f p g → SoundCall t s b f p g
    call-agree b f p g h k c x =
        let l = (callee-later w.linked f p g h k (ap called c)).1 in
        let e = a.at f p h k in
        let n = a.at f (suc p) h (ensure-after-call w.linked f p h (rw c tt)).0 in
        let i = a.at g 0 l (w.shaped.nonempty g l) in
        record {
          enter = rw (e, i) x.enter;
          spill = rw (a.price, e, a.spill g l) x.spill;
          high = rw (e, n) x.high;
          past = x.past;
          next = x.next;
          chain = rw (a.price, a.chain f h, a.chain g l) x.chain;
        }

    at_agree : (b : Ground) (f p : ℕ) → f < count t → p < size (func t f) → SoundAt t r b f p → SoundAt t s b f p
    unfolding leads
    at_agree b f p h k x =
        let e = a.at f p h k in
        record {
          marked = marked-agree f p h k x.marked;
          next_frame = x.next_frame;
          next_along = x.next_along;
          fill = λ i. rw (a.price, e) (x.fill i);
          high_along = λ i q m. rw (e, along f p q h k m) (x.high_along i q m);
          high_ensure = λ i. rw (along f p (suc p) h k (rw i (Memᴰ.head refl))) (x.high_ensure i);
          past_along = x.past_along;
          past_return = x.past_return;
          call = λ g c. call-agree b f p g h k c (x.call g c);
          cost = rw (a.price, e, a.chain f h) x.cost;
          once = rw (a.price, e, a.chain f h) x.once;
        }

    pub sound-agree : Sound t r → Sound t s
    sound-agree x =
        record {
          ground = x.ground;
          price = rw a.price x.price;
          start = λ h. rw (a.at 0 0 h (w.shaped.nonempty 0 h)) (x.start h);
          first = x.first;
          at = λ f p h k. at_agree x.ground f p h k (x.at f p h k);
        }
