-- From a step and a preemption to an event, and the rows of an event by its tests.
use Prim.Native.Nat.{ℕ, ◌+◌, ◌-◌, ◌≤◌, ◌<◌}
use mathlib.Core.Bool.{Bool, or-true, true, false, ◌||◌}
use mathlib.Core.List.{List, ◌∷◌}
use mathlib.Core.Option as option
use Rattle.std.proofs.Common.{Result, Ok, Err}
use mathlib.Core.Path.{◌≡◌, refl, ap, sym, subst, ◌∙◌}
use native.Mathlib.Omega.{arith}
use lib.Dec.{eqb, leb}
use borrow.Author.Tests.{ne_eqb, le-leb, lt-leb}
use Rattle.model.specs.declared.Point.{Point}
use Rattle.model.specs.declared.Refusal.{Refusal}
use Rattle.model.specs.declared.Row.TheVariants.{AfterFinish, Kind, Choice}
use Rattle.model.specs.Rows.{Verdict, refuse, row_verdict}
use Rattle.model.specs.Task.{Task, func, point}
use Rattle.model.specs.Sheet.{Sheet}
use Rattle.model.specs.Refusal.{is_either, event_rows}
use Rattle.model.specs.Plain.{Frame, Act, takes, preempted, act}
use Rattle.model.specs.Run as run
use Rattle.model.specs.Run.{Place, running_place, step_turn, step_bound, turn_at, turn, event_bound}
use Rattle.theory.proofs.Search.{verdict-none}
use Rattle.tables.specs.declared.Header.{Header}
use Rattle.tables.specs.Tables.{task_of}
use Rattle.prices.specs.declared.Price.{Price}
use Rattle.readout.specs.Sheet.{sheet_in}
use Rattle.machine.specs.Moves.{core_of}
use Rattle.steps.specs.declared.State.{State}
use Rattle.steps.specs.declared.Turned.{Turned}
use Rattle.steps.specs.Frames.{places_in, frames_of, state_of, turn_of}
use Rattle.steps.specs.Steps.{Stays, Added, IsTurn}
use Rattle.steps.proofs.Laws.{frames-some}
use Rattle.moves.specs.Moves.{StepsIn, IsPreemption}
use Rattle.turns.specs.declared.Event.{Event}
use Rattle.turns.specs.declared.Event.TheVariants.{Step, Preempt}
use Rattle.turns.specs.Turns.{Turns, act_of, Decodes}
use Rattle.turns.proofs.Laws.{stays_same}
use Rattle.turns.proofs.Given.{top_of}

-- ---- an event is a step or a preemption, by its kind

pub act-step : (k v : ℕ) → k ≡ 0 → act_of k v ≡ takes v
unfolding act
act-step k v e = rw e refl

pub act-preempt : (k v : ℕ) → (k ≡ 0 → ⊥) → act_of k v ≡ preempted v
unfolding act
act-preempt k v n = rw (ne_eqb k 0 n) refl

-- a turn of the model under another name
turn-as : {price : ℕ → ℕ} {m a : ℕ} {r : Turned} {w cache memory : List ℕ} {u u' : run.Turn} {n : ℕ} → u ≡ u' → IsTurn price m a r w cache memory u n
    → (turn_of w r u'.out u'.back cache memory ≡ u') × Added m (price u'.out + price u'.back) r.state.moved
turn-as {price} {m} {r = r} {w} {cache} {memory} e d = (
  subst (λ (z : run.Turn). turn_of w r z.out z.back cache memory ≡ z) e d.turn,
  subst (λ (z : run.Turn). Added m (price z.out + price z.back) r.state.moved) e d.moved,
)

module _ (price : Price) (w : List ℕ) (h : Header) (x : State) (cache memory : List ℕ) (some : 0 < x.depth) where
  abbrev t : Task
  t = task_of w h

  abbrev sheet : Sheet
  sheet = sheet_in price w h

  -- the turn of an event, by what it asks for
  turn-of : (a : Act) → turn t sheet (state_of w x cache memory) a
      ≡ turn_at t sheet (record { fn = x.f; at = x.p } ∷ places_in w (x.depth - 1)) (core_of x.machine cache memory) a
  unfolding turn
  turn-of a =
      ap (λ (fs : List Place). turn_at t sheet fs (core_of x.machine cache memory) a) (frames-some w x.depth x.f x.p some)

  pub step-turns : {r : Turned} {w' cache' memory' : List ℕ} (y : Point) (v : ℕ) → point (func t x.f) x.p ≡ y
      → StepsIn price w h x y v cache memory r w' cache' memory'
      → Stays w w'
      → Turns price w h x cache memory (takes v) r w' cache' memory'
  unfolding event_bound
  step-turns {r = r} y v i d b =
      let same =
      ap (λ (z : Point). step_turn t x.f x.p (places_in w (x.depth - 1)) (core_of x.machine cache memory) z v) (sym i) ∙ sym (turn-of (takes v)) in
      record {
        turn = (turn-as same d).0;
        on = d.on;
        moved = (turn-as same d).1;
        bound = λ fs j.
            let e =
            ap (step_bound sheet x.f x.p) (sym i)
            ∙ ap (λ (gs : List Frame). event_bound t sheet gs (takes v)) (sym (top_of w x.depth x.f x.p fs some j).whole) in
            subst (λ (n : ℕ). Added x.allowed n r.state.allowed) e d.bound;
        stays = b;
      }

  pub preempt-turns : {r : Turned} {cache' memory' : List ℕ} (v : ℕ) → IsPreemption price w h x v cache memory r cache' memory'
      → Turns price w h x cache memory (preempted v) r w cache' memory'
  unfolding event_bound
  preempt-turns {r = r} v d =
      record {
        turn = (turn-as (sym (turn-of (preempted v))) d).0;
        on = d.on;
        moved = (turn-as (sym (turn-of (preempted v))) d).1;
        bound = λ fs j.
            let e = ap (λ (gs : List Frame). event_bound t sheet gs (preempted v)) (sym (top_of w x.depth x.f x.p fs some j).whole) in
            subst (λ (n : ℕ). Added x.allowed n r.state.allowed) e d.bound;
        stays = stays_same w;
      }

-- ---- rows

-- the rows by the point at which the running frame stands
pub row_at : (t : Task) (w : List ℕ) (x : State) (i k v : ℕ) (r : Verdict) → 0 < x.depth
    → r ≡ row_verdict (event_rows i k v (option.some (point (func t x.f) x.p)))
    → r ≡ row_verdict (event_rows i k v (running_place t (frames_of w x)))
row_at t w x i k v r h e =
    e ∙ ap (λ (fs : List Place). row_verdict (event_rows i k v (running_place t fs))) (sym (frames-some w x.depth x.f x.p h))

or-middle : (a c : Bool) → (a || true || c) ≡ true
or-middle true c = refl
or-middle false c = refl

pub row_other : (y : Point) (i k v : ℕ) → k ≤ 1 → is_either y ≡ false → Ok tt ≡ row_verdict (event_rows i k v (option.some y))
unfolding event_rows
row_other y i k v h e = rw (le-leb k 1 h, e, or-middle (eqb k 1) (leb v 1)) refl

module _ (t : Task) (w : List ℕ) (x : State) (i k v : ℕ) where
  abbrev Decoded : Result Event Refusal → Type 0
  Decoded r = Decodes i k v (running_place t (frames_of w x)) r

  -- 22: no frame is left
  pub row-finished : x.depth ≡ 0 → Decoded (Err (refuse AfterFinish i))
  unfolding event_rows
  row-finished e = rw e refl

  module _ (some : 0 < x.depth) where
    abbrev here : Point
    here = point (func t x.f) x.p

    -- else the rows by the point at which the running frame stands
    decoded_at : (r : Result Event Refusal) → Decodes i k v (option.some here) r → Decoded r
    decoded_at r d = rw (frames-some w x.depth x.f x.p some) d

    -- 20: neither a step nor a preemption
    pub row-kind : 1 < k → Decoded (Err (refuse Kind i))
    unfolding event_rows
    row-kind h = decoded_at (Err (refuse Kind i)) (rw (lt-leb k 1 h) refl)

    pub row-preempts : k ≡ 1 → Decoded (Ok (Preempt v))
    unfolding event_rows act
    row-preempts e = decoded_at (Ok (Preempt v)) (rw e (refl, refl))

    -- 21: a value that chooses no target, at an either
    pub row-value : k ≡ 0 → v ≤ 1 → Decoded (Ok (Step v))
    unfolding event_rows act
    row-value e l = decoded_at (Ok (Step v)) (rw (e, le-leb v 1 l, or-true) (refl, refl))

    pub row-choice : k ≡ 0 → 1 < v → is_either here ≡ true → Decoded (Err (refuse Choice i))
    unfolding event_rows
    row-choice e l h = decoded_at (Err (refuse Choice i)) (rw (e, lt-leb v 1 l, h) refl)

    pub row-steps-on : k ≡ 0 → is_either here ≡ false → Decoded (Ok (Step v))
    unfolding act
    row-steps-on e h =
        decoded_at (Ok (Step v))
        (verdict-none (event_rows i k v (option.some here)) (sym (row_other here i k v (omega (arith, e)) h)), rw e refl)
