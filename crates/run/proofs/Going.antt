-- A run after some of its events: what is done and what is left make up the whole.
use Prim.Native.Nat.{ℕ, suc, ◌+◌, ◌*◌, ◌/◌, ◌%◌, ◌≤◌, ◌<◌}
use mathlib.Core.List.{List, [], ◌∷◌, ◌++◌, append_assoc, append-nil}
use mathlib.Core.Option.{none, some}
use mathlib.Core.Path.{◌≡◌, refl, ap, sym, ◌∙◌}
use native.Mathlib.Numerals.{add-one}
use native.Mathlib.Omega.{arith}
use lib.ListN.{length, take, drop, get_or, set, length-set, take-append-drop, drop_of_length-le}
use lib.Seq.{drop-cons, drop-drop, drop-set-lt, take-suc-set, length-take-le}
use Rattle.model.specs.declared.Refusal.{Refusal}
use Rattle.model.specs.declared.Ending.{Ending}
use Rattle.model.specs.declared.Ending.TheVariants.{AllDone, Refused}
use Rattle.model.specs.Task.{Task}
use Rattle.model.specs.Core.{Core}
use Rattle.model.specs.Sheet.{Sheet}
use Rattle.model.specs.Refusal.{event_rows}
use Rattle.model.specs.Plain.{Event, act, events_of, Frame, running, after_event}
use Rattle.model.specs.Run.{State, Turn, running_place, turn, Ran, ran_from, event_bound, allowed_from}
use Rattle.model.specs.Services.{over, result_of}
use Rattle.run.specs.Events.{ended_with}

-- ---- the events that are left

module _ (l : List ℕ) (i : ℕ) where
  pub next-event : i < length l / 2
      → events_of (drop (2 * i) l) ≡ record { kind = get_or l (2 * i) 0; value = get_or l (2 * i + 1) 0 } ∷ events_of (drop (2 * (i + 1)) l)
  unfolding events_of
  next-event h =
      let m : suc (suc (2 * i)) ≡ 2 * (i + 1) = omega arith in
      rw (add-one (2 * i), ← m, drop-cons l (2 * i) 0 (omega arith), drop-cons l (suc (2 * i)) 0 (omega arith))

  pub no-event : length l % 2 ≡ 0 → length l / 2 ≤ i → events_of (drop (2 * i) l) ≡ []
  unfolding events_of
  no-event e h =
      let j : length l ≤ 2 * i = omega arith in
      rw (drop_of_length-le l j)

-- ---- a run that is under way

-- a run that ends at once, with its core as it is
abbrev pub ended_at : Ending → Core → Ran
ended_at z c = record { ending = z; done = 0; moved = 0; answers = []; core = c }

-- the whole run ended as z after i events at core c, having moved m and been allowed a
pub record Ended (whole : Ran) (all : ℕ) (buffer : List ℕ) (z : Ending) (i m a : ℕ) (answers : List ℕ) (c : Core) : Type 0 where
  pub result : ended_with z i m a ≡ result_of whole all
  pub written : answers ≡ over whole.answers buffer
  pub core : c ≡ whole.core

module _ (t : Task) (sheet : Sheet) where
  -- after i events the run stands at x, and the plain stack has the frames fs; es: the events left. buffer: the answers as they were lent
  pub record Going (whole : Ran) (all : ℕ) (buffer : List ℕ) (i : ℕ) (x : State) (fs : List Frame) (es : List Event) (m a : ℕ) (answers : List ℕ) : Type 0 where
    pub ending : whole.ending ≡ (ran_from t sheet i x es).ending
    pub core : whole.core ≡ (ran_from t sheet i x es).core
    pub done : whole.done ≡ i + (ran_from t sheet i x es).done
    pub moved : whole.moved ≡ m + (ran_from t sheet i x es).moved
    pub allowed : all ≡ a + allowed_from t sheet i fs es
    pub said : whole.answers ≡ take i answers ++ (ran_from t sheet i x es).answers
    pub behind : drop i answers ≡ drop i buffer
    pub size : length answers ≡ length buffer

  -- nothing is done yet
  pub going_start : (buffer : List ℕ) (x : State) (fs : List Frame) (es : List Event)
      → Going (ran_from t sheet 0 x es) (allowed_from t sheet 0 fs es) buffer 0 x fs es 0 0 buffer
  going_start buffer x fs es = record {
    ending = refl;
    core = refl;
    done = omega arith;
    moved = omega arith;
    allowed = omega arith;
    said = refl;
    behind = refl;
    size = refl;
  }

  module _ (whole : Ran) (all : ℕ) (buffer : List ℕ) (i : ℕ) (x : State) (fs : List Frame) (m a : ℕ) (answers : List ℕ) where
    -- nothing is left to do
    over-here : i ≤ length buffer → (es : List Event) (z : Ending) → ran_from t sheet i x es ≡ ended_at z x.core → allowed_from t sheet i fs es ≡ 0
        → Going whole all buffer i x fs es m a answers → Ended whole all buffer z i m a answers x.core
    unfolding over
    over-here h es z e b g =
        let l = rw e at g.said ∙ append-nil (take i answers) in
        let n = ap length l ∙ length-take-le i answers (omega (arith, g.size)) in
        let d : i ≡ whole.done = omega (arith, g.done, ap (λ (r : Ran). r.done) e) in
        let k : m ≡ whole.moved = omega (arith, g.moved, ap (λ (r : Ran). r.moved) e) in
        let p : a ≡ all = omega (arith, g.allowed) in
        record {
          result = λ j. ended_with (sym (g.ending ∙ ap (λ (r : Ran). r.ending) e) j) (d j) (k j) (p j);
          written = rw (n, l, ← g.behind) (sym (take-append-drop i answers));
          core = sym (g.core ∙ ap (λ (r : Ran). r.core) e);
        }

    pub going_end : i ≤ length buffer → Going whole all buffer i x fs [] m a answers → Ended whole all buffer AllDone i m a answers x.core
    unfolding ran_from allowed_from
    going_end h g = over-here h [] AllDone refl refl g

    module _ (e : Event) (es : List Event) (same : running_place t x.frames ≡ running t fs) where
      -- a row refuses the next event
      pub going-off : i ≤ length buffer → (r : Refusal) → event_rows i e.kind e.value (running_place t x.frames) ≡ some r
          → Going whole all buffer i x fs (e ∷ es) m a answers → Ended whole all buffer (Refused r) i m a answers x.core
      unfolding ran_from allowed_from
      going-off h r n g = over-here h (e ∷ es) (Refused r) (rw n refl) (rw (← same, n) refl) g

      module _ (n : event_rows i e.kind e.value (running_place t x.frames) ≡ none) (h : i < length buffer)
          (g : Going whole all buffer i x fs (e ∷ es) m a answers) where
        ran_on : ran_from t sheet i x (e ∷ es) ≡ record {
          ending = (ran_from t sheet (i + 1) (turn t sheet x (act e)).state es).ending;
          done = suc (ran_from t sheet (i + 1) (turn t sheet x (act e)).state es).done;
          moved = sheet.price (turn t sheet x (act e)).out + sheet.price (turn t sheet x (act e)).back
              + (ran_from t sheet (i + 1) (turn t sheet x (act e)).state es).moved;
          answers = (turn t sheet x (act e)).answer ∷ (ran_from t sheet (i + 1) (turn t sheet x (act e)).state es).answers;
          core = (ran_from t sheet (i + 1) (turn t sheet x (act e)).state es).core;
        }
        unfolding ran_from
        ran_on = rw (add-one i, n)

        allowed-on : allowed_from t sheet i fs (e ∷ es) ≡ event_bound t sheet fs (act e) + allowed_from t sheet (i + 1) (after_event t fs (act e)) es
        unfolding allowed_from
        allowed-on = rw (add-one i, ← same, n)

        turn_on : Going whole all buffer (i + 1) (turn t sheet x (act e)).state (after_event t fs (act e)) es
            (m + (sheet.price (turn t sheet x (act e)).out + sheet.price (turn t sheet x (act e)).back))
            (a + event_bound t sheet fs (act e))
            (set answers i (turn t sheet x (act e)).answer)
        turn_on = record {
          ending = g.ending ∙ ap (λ (r : Ran). r.ending) ran_on;
          core = g.core ∙ ap (λ (r : Ran). r.core) ran_on;
          done = omega (arith, g.done, ap (λ (r : Ran). r.done) ran_on);
          moved = omega (arith, g.moved, ap (λ (r : Ran). r.moved) ran_on);
          allowed = omega (arith, g.allowed, allowed-on);
          said =
              g.said
              ∙ ap (λ (r : Ran). take i answers ++ r.answers) ran_on
              ∙ rw (add-one i, take-suc-set answers i (turn t sheet x (act e)).answer (omega (arith, g.size))) (simp append_assoc);
          behind = rw (drop-set-lt (i + 1) answers i (turn t sheet x (act e)).answer (omega arith))
              (sym (drop-drop 1 i answers) ∙ ap (λ (l : List ℕ). drop 1 l) g.behind ∙ drop-drop 1 i buffer);
          size = simp length-set g.size;
        }

        -- the next event is done
        pub going_on : (u : Turn) (c b : ℕ) → u ≡ turn t sheet x (act e)
            → c ≡ m + (sheet.price (turn t sheet x (act e)).out + sheet.price (turn t sheet x (act e)).back) → b ≡ a + event_bound t sheet fs (act e)
            → Going whole all buffer (i + 1) u.state (after_event t fs (act e)) es
            c
            b
            (set answers i u.answer)
        going_on u c b p y q = rw (p, y, q) turn_on
