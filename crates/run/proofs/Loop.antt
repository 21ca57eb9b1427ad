-- What the loop over the events keeps, and what each way out of it gives.
use Prim.Native.Nat.{ℕ, ◌+◌, ◌*◌, ◌/◌, ◌%◌, ◌≤◌, ◌<◌}
use mathlib.Core.List.{List}
use mathlib.Core.Option.{Option, none, some}
use Rattle.std.proofs.Common.{Ok, Err}
use mathlib.Core.Path.{◌≡◌, refl, ap, sym, subst, ◌∙◌}
use native.Mathlib.Omega.{arith}
use lib.ListN.{length, drop, get_or, set}
use Rattle.model.specs.declared.Eviction.{Eviction}
use Rattle.model.specs.declared.Refusal.{Refusal}
use Rattle.model.specs.declared.Ending.{Ending}
use Rattle.model.specs.declared.Ending.TheVariants.{AllDone, Refused}
use Rattle.model.specs.declared.RunResult.{RunResult}
use Rattle.model.specs.Limits.{most_event_numbers}
use Rattle.model.specs.Task.{Task, count}
use Rattle.model.specs.Core.{Core, reserve, idle}
use Rattle.model.specs.Refusal.{event_rows}
use Rattle.model.specs.Plain.{events_of, running, after_event}
use Rattle.model.specs.Run as run
use Rattle.model.specs.Run.{running_place, turn, event_bound}
use Rattle.theory.proofs.Frames.{running-same}
use Rattle.theory.proofs.Fair.{ran-main, allowed-main}
use Rattle.tables.specs.declared.Header.{Header}
use Rattle.tables.specs.Tables.{task_of}
use Rattle.tables.specs.Valid.{Kept}
use Rattle.tables.proofs.Laws.{count-is}
use Rattle.tables.proofs.Valid.{kept_on}
use Rattle.prices.specs.declared.Price.{Price}
use Rattle.prices.specs.Prices.{price_of}
use Rattle.readout.specs.Sheet.{sheet_in}
use Rattle.steps.specs.declared.State.{State}
use Rattle.steps.specs.declared.Turned.{Turned}
use Rattle.steps.specs.Frames.{frames_end, frames_of, eviction_at, state_of, turn_of}
use Rattle.steps.specs.Steps.{most_part, Counts}
use Rattle.turns.specs.Turns.{Runs, model_turn, Turns, act_of, act_in, Decodes, Started}
use Rattle.turns.specs.declared.Event.{Event}
use Rattle.turns.proofs.Kept.{goes_on_lem, begins, accepted-runs}
use Rattle.run.specs.Events.{Fitting, ran_on, allowed_on, ended_with, ServesIn}
use Rattle.run.proofs.Going.{next-event, no-event, Ended, Going, going_start, going_end, going-off, going_on}

-- w₀, buffer, cache₀ and memory₀ as they were lent; after i events the state is x, whose totals fit 64 bits
pub record Loops (y : Eviction) (price : Price) (h : Header) (events buffer cache₀ memory₀ w₀ : List ℕ) (i : ℕ) (x : State)
    (answers cache memory w : List ℕ) : Type 0 where
  pub runs : Runs price w h x cache memory
  pub task : task_of w h ≡ task_of w₀ h
  pub sheet : sheet_in price w h ≡ sheet_in price w₀ h
  pub kept : Kept frames_end w₀ w
  pub going : Going (task_of w₀ h) (sheet_in price w₀ h) (ran_on y (task_of w₀ h) (sheet_in price w₀ h) events cache₀ memory₀) (allowed_on
      (task_of w₀ h) (sheet_in price w₀ h) events) buffer i
      (state_of w x cache memory) runs.frames (events_of (drop (2 * i) events)) x.moved x.allowed answers
  pub small : x.moved ≤ most_part * i
  pub little : x.allowed ≤ most_part * i

-- function 0 has been entered on the core that evicts as y
module _ {price : Price} {h : Header} {events buffer cache₀ memory₀ w₀ : List ℕ} (y : Eviction) (x : State)
    (f : Fitting price w₀ h events buffer cache₀ memory₀) (started : Started y w₀ h (length memory₀) x) where
  started-as : eviction_at x ≡ y
  unfolding reserve
  started-as = ap (λ (z : run.State). z.core.eviction) (started.state cache₀ memory₀ f.blocks refl)

  loops-first : Loops y price h events buffer cache₀ memory₀ w₀ 0 x buffer cache₀ memory₀ w₀
  loops-first =
      let j = begins y cache₀ memory₀ f.bounded f.sound f.some started f.blocks f.room in
      let t = task_of w₀ h in
      let c : 0 < count t = omega (arith, f.some, count-is w₀ h) in
      let ran-is = ran-main t (sheet_in price w₀ h) (idle y cache₀ memory₀) (events_of events) c in
      let allowed-is = allowed-main t (sheet_in price w₀ h) (events_of events) c in
      record {
        runs = j.runs;
        task = refl;
        sheet = refl;
        kept = record { size = refl; past = refl };
        going = rw (ran-is, allowed-is, started.state cache₀ memory₀ f.blocks refl, j.frames, started.moved, started.allowed) (going_start t (sheet_in price w₀ h) buffer _ _ (events_of events));
        small = omega (arith, started.moved);
        little = omega (arith, started.allowed);
      }

  -- the loop knows y by its first state
  pub loops-start : Loops (eviction_at x) price h events buffer cache₀ memory₀ w₀ 0 x buffer cache₀ memory₀ w₀
  loops-start =
      subst (λ (z : Eviction). Loops z price h events buffer cache₀ memory₀ w₀ 0 x buffer cache₀ memory₀ w₀) (sym started-as) loops-first

  pub serves-as : {q : RunResult} {answers cache memory w : List ℕ}
      → ServesIn (eviction_at x) price h events buffer cache₀ memory₀ w₀ q answers cache memory w
      → ServesIn y price h events buffer cache₀ memory₀ w₀ q answers cache memory w
  serves-as {q = q} {answers = answers} {cache = cache} {memory = memory} {w = w} d =
      subst (λ (z : Eviction). ServesIn z price h events buffer cache₀ memory₀ w₀ q answers cache memory w) started-as d

module _ {y : Eviction} {price : Price} {h : Header} {events buffer cache₀ memory₀ w₀ : List ℕ} where
  module _ {i : ℕ} {x : State} {answers cache memory w : List ℕ} (l : Loops y price h events buffer cache₀ memory₀ w₀ i x answers cache memory w) where
    -- the point that runs is that of the plain stack
    place_same : running_place (task_of w₀ h) (frames_of w x) ≡ running (task_of w₀ h) l.runs.frames
    place_same = ap (running_place (task_of w₀ h)) l.runs.same ∙ running-same (task_of w₀ h) l.runs.frames

    -- the row of an event, in the task as it was lent
    row-lent : (kind value : ℕ) (o : Option Refusal) → event_rows i kind value (running_place (task_of w h) (frames_of w x)) ≡ o
        → event_rows i kind value (running_place (task_of w₀ h) (frames_of w x)) ≡ o
    row-lent kind value o e = subst (λ (t : Task). event_rows i kind value (running_place t (frames_of w x)) ≡ o) l.task e

    served : {q : RunResult} {z : Ending} → q ≡ ended_with z i x.moved x.allowed
        → Ended (ran_on y (task_of w₀ h) (sheet_in price w₀ h) events cache₀ memory₀) (allowed_on (task_of w₀ h) (sheet_in price w₀ h) events) buffer z i x.moved x.allowed answers (state_of w x cache memory).core
        → ServesIn y price h events buffer cache₀ memory₀ w₀ q answers cache memory w
    served e d = record {
      returned = e ∙ d.result;
      answered = d.written;
      cached = ap (λ (c : Core). c.cache) d.core;
      stored = ap (λ (c : Core). c.memory) d.core;
      kept = l.kept;
    }

    -- no event is left
    pub loops-end : {q : RunResult} → length events % 2 ≡ 0 → length events / 2 ≤ length buffer → i ≡ length events / 2
        → q ≡ ended_with AllDone (length events / 2) x.moved x.allowed
        → ServesIn y price h events buffer cache₀ memory₀ w₀ q answers cache memory w
    loops-end p b e k =
        served (k ∙ ap (λ (n : ℕ). ended_with AllDone n x.moved x.allowed) (sym e))
        (going_end (task_of w₀ h) (sheet_in price w₀ h) _ _ _ _ _ _ _ _ _ (omega arith) (rw (no-event events i p (omega arith)) at l.going))

    abbrev kind : ℕ
    kind = get_or events (2 * i) 0

    abbrev value : ℕ
    value = get_or events (2 * i + 1) 0

    -- what the next event was decoded to
    module _ (b : i < length events / 2) (k : length events / 2 ≤ length buffer) where
      -- a row refuses it
      pub loops-off : {q : RunResult} (r : Refusal)
          → Decodes i kind value (running_place (task_of w h) (frames_of w x)) (Err r)
          → q ≡ ended_with (Refused r) i x.moved x.allowed → ServesIn y price h events buffer cache₀ memory₀ w₀ q answers cache memory w
      loops-off r e j =
          served j
          (going-off (task_of w₀ h) (sheet_in price w₀ h) _ _ _ _ _ _ _ _ _ _ _ place_same (omega arith) r
          (row-lent kind value (some r) e)
          (rw (next-event events i b) at l.going))

      module _ (e : Event)
          (d : Decodes i kind value (running_place (task_of w h) (frames_of w x)) (Ok e)) where
        -- it can be done
        pub loops-more : i ≤ most_event_numbers → Runs price w h x cache memory × (0 < x.depth) × Counts x
        loops-more m = (
          l.runs,
          accepted-runs (task_of w h) w x.depth x.f x.p i _ _ d.0,
          record { moved = omega (arith, l.small); allowed = omega (arith, l.little) },
        )

        -- it is done
        pub loops-on : {r : Turned} {w' cache' memory' : List ℕ} → Turns price w h x cache memory (act_in e) r w' cache' memory'
            → Loops y price h events buffer cache₀ memory₀ w₀ (i + 1) r.state (set answers i r.answer) cache' memory' w'
        loops-on {r = r} {w' = w'} {cache' = cache'} {memory' = memory'} u₀ =
            let t = task_of w₀ h in
            let d' = act_of kind value in
            let u = rw d.1 at u₀ in
            let n = row-lent kind value none d.0 in
            let j = goes_on_lem l.runs u in
            let fs : j.runs.frames ≡ after_event t l.runs.frames d' = j.frames ∙ ap (λ (z : Task). after_event z l.runs.frames d') l.task in
            let sheet = sheet_in price w₀ h in
            let v = turn t sheet (state_of w x cache memory) d' in
            let same : model_turn price w h x cache memory d' ≡ v = λ z. turn (l.task z) (l.sheet z) (state_of w x cache memory) d' in
            let p = subst (λ (z : run.Turn). turn_of w' r z.out z.back cache' memory' ≡ z) same u.turn in
            let c = u.moved.0 ∙ ap (λ (z : run.Turn). x.moved + (price_of price z.out + price_of price z.back)) same in
            let q = j.bound.0 ∙ (λ z. x.allowed + event_bound (l.task z) (l.sheet z) l.runs.frames d') in
            let g = rw (next-event events i b) at l.going in
            record {
              runs = j.runs;
              task = j.task ∙ l.task;
              sheet = j.sheet ∙ l.sheet;
              kept = kept_on l.kept u.stays.kept;
              going = rw fs
                  (going_on t sheet _ _ _ _ _ _ _ _ _ _ _ place_same n (omega arith) g (turn_of w' r v.out v.back cache' memory')
                  r.state.moved r.state.allowed p c q);
              small = omega (arith, l.small, u.moved.1);
              little = omega (arith, l.little, j.bound.1);
            }
