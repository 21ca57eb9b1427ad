-- The turn of the model that a call, an ensure and a preemption are, and what the columns have for each.
use Prim.Native.Nat.{ℕ, suc, ◌+◌, ◌-◌, ◌≤◌, ◌<◌}
use mathlib.Core.List.{List, ◌∷◌}
use mathlib.Core.Path.{◌≡◌, refl, ap, sym, ◌∙◌}
use native.Mathlib.Omega.{arith}
use lib.ListN.{length}
use Rattle.model.specs.declared.Point.TheVariants.{Call}
use Rattle.model.specs.Limits.{most_stack, most_funcs, most_points, most_in_all}
use Rattle.model.specs.Task.{func}
use Rattle.model.specs.Core.{Core, effective, reserve, preempt, filled_with, save_moves, resume_moves}
use Rattle.model.specs.Run.{onwards}
use Rattle.tables.specs.declared.Header.{Header}
use Rattle.tables.specs.declared.Span.{Span}
use Rattle.tables.specs.Tables.{item, span_at, task_of}
use Rattle.tables.specs.Valid.{Lies}
use Rattle.tables.proofs.Laws.{count-is, frame_is}
use Rattle.tables.proofs.Valid.{settled-fits}
use Rattle.prices.specs.declared.Price.{Price}
use Rattle.prices.specs.Prices.{price_of}
use Rattle.columns.specs.Columns.{dead_column, need_column, Points}
use Rattle.readout.specs.Sheet.{sheet_in}
use Rattle.readout.proofs.Read.{lies-there, dead-there, need-there}
use Rattle.bounds.specs.Bounds.{cost_bounds, spill_bounds, bounds_end}
use Rattle.machine.specs.declared.Moved.{Moved}
use Rattle.machine.specs.declared.Preempted.{Preempted}
use Rattle.machine.specs.Moves as machine
use Rattle.machine.specs.Moves.{core_of, OnCache}
use Rattle.machine.proofs.Kept.{reserve-blocks}
use Rattle.steps.specs.declared.State.{State}
use Rattle.steps.specs.declared.Turned.{Turned}
use Rattle.steps.specs.Frames.{frames_end, put_caller, places_in}
use Rattle.steps.specs.Steps.{Added, IsTurn}
use Rattle.steps.proofs.Laws.{turn_on, caller-put}
use Rattle.moves.specs.Moves.{StepsIn, IsPreemption, Inside, Enters}

-- a step or a preemption that moves blocks, with the callers as they were
moved_does : (price : ℕ → ℕ) (x : State) (r : Turned) (p o b n : ℕ) (w cache memory : List ℕ) (c : Core) → 0 < x.depth → r.state.depth ≡ x.depth
    → r.state.f ≡ x.f
    → r.state.p ≡ p → core_of r.state.machine cache memory ≡ c → OnCache r.state.machine cache → r.answer ≡ 0
    → Added x.moved (price o + price b) r.state.moved → Added x.allowed n r.state.allowed
    → IsTurn price x.moved x.allowed r w cache memory (onwards x.f p (places_in w (x.depth - 1)) c 0 o b) n
moved_does price x r p o b n w cache memory c h d e f k z a i l =
    record {
      turn =
          turn_on r w cache memory _ _ _ _ _ _ _ (omega arith) e f (ap (λ (m : ℕ). places_in w (m - 1)) d) k a;
      on = z;
      moved = i;
      bound = l;
    }

-- a step that enters function g
call-does : (price : ℕ → ℕ) (x : State) (r : Turned) (w w' cache memory : List ℕ) (g o n : ℕ) (c : Core) → 0 < x.depth → x.depth ≤ most_funcs
    → frames_end ≤ length w
    → w' ≡ put_caller w (x.depth - 1) x.f (x.p + 1) → r.state.depth ≡ x.depth + 1 → r.state.f ≡ g → r.state.p ≡ 0
    → core_of r.state.machine cache memory ≡ c → OnCache r.state.machine cache → r.answer ≡ 0
    → Added x.moved (price o + price 0) r.state.moved → Added x.allowed n r.state.allowed
    → IsTurn price x.moved x.allowed r w' cache memory (onwards g 0 (record { fn = x.f; at = suc x.p } ∷ places_in w (x.depth - 1)) c 0 o 0) n
call-does price x r w w' cache memory g o n c h l u e d f p k z a i b =
    let m : r.state.depth - 1 ≡ suc (x.depth - 1) = omega arith in
    let q : x.p + 1 ≡ suc x.p = omega arith in
    let below =
    (λ z. places_in (e z) (m z))
    ∙ caller-put w (x.depth - 1) x.f (x.p + 1) (omega arith)
    ∙ ap (λ (z : ℕ). record { fn = x.f; at = z } ∷ places_in w (x.depth - 1)) q in
    record { turn = turn_on r w' cache memory _ _ _ _ _ _ _ (omega arith) f p below k a; on = z; moved = i; bound = b }

-- ---- the events that move blocks. cost: their price, and bound: what the sheet allows; moved and allowed: the totals with them

added-as : (total part part' sum : ℕ) → Added total part sum → part ≡ part' → Added total part' sum
added-as total part part' sum e f = (e.0 ∙ ap (λ (z : ℕ). total + z) f, e.1)

-- the running frame of a call goes on behind the callee, which is entered; frame: that of the callee
pub enters-does : (price : Price) (h : Header) (x : State) (e : Moved) (w w' cache memory memory' : List ℕ) {frame bound cost f moved allowed : ℕ} (g v : ℕ)
    → 0 < x.depth → x.depth ≤ most_funcs → frames_end ≤ length w → f ≡ g → frame ≡ (func (task_of w h) g).frame → bound ≡ (sheet_in price w h).spill g
    → cost ≡ price_of price e.blocks + price_of price 0 → Added x.moved cost moved → Added x.allowed bound allowed
    → w' ≡ put_caller w (x.depth - 1) x.f (x.p + 1) → machine.Does e cache memory' (reserve frame (core_of x.machine cache memory))
    → StepsIn price w h x (Call g) v cache memory
    (record {
      state = record { depth = x.depth + 1; f = f; p = 0; machine = e.machine; moved = moved; allowed = allowed };
      answer = 0;
    }) w' cache memory'
enters-does price h x e w w' cache memory memory' g v i l u k n b m y z a d =
    let c = core_of x.machine cache memory in
    call-does (price_of price) x _ w w' cache memory' g _ _ _ i l u a refl k refl (d.core ∙ ap (λ (z : ℕ). (reserve z c).core) n) d.on refl
    (added-as _ _ _ _ y (m ∙ ap (λ (z : ℕ). price_of price z + price_of price 0) (d.blocks ∙ ap (λ (z : ℕ). (reserve z c).blocks) n))) (added-as _ _ _ _ z b)

-- a preemption, with the figures of the point
module _ (price : Price) (h : Header) (x : State) (w cache memory cache' : List ℕ) (v : ℕ) (some : 0 < x.depth) where
  pub preempt-does : (e : Preempted) (memory' : List ℕ) {dead need bound cost moved allowed : ℕ} → dead ≡ ((sheet_in price w h).at x.f x.p).dead
      → need ≡ ((sheet_in price w h).at x.f x.p).need → bound ≡ ((sheet_in price w h).at x.f x.p).cost
      → cost ≡ price_of price e.out + price_of price e.back → Added x.moved cost moved → Added x.allowed bound allowed
      → machine.Preempts e cache' memory' dead need v (core_of x.machine cache memory)
      → IsPreemption price w h x v cache memory
      (record {
        state = record { depth = x.depth; f = x.f; p = x.p; machine = e.machine; moved = moved; allowed = allowed };
        answer = 0;
      }) cache' memory'
  preempt-does e memory' i j b m y z d =
      let c = core_of x.machine cache memory in
      let o = d.out ∙ ap (λ (z : ℕ). save_moves z c.occupancy (effective c)) i in
      let k = d.back ∙ (λ l. resume_moves (i l) (j l) c.occupancy) in
      moved_does (price_of price) x _ _ _ _ _ w cache' memory' _ some refl refl refl (d.core ∙ (λ l. preempt (i l) (j l) (filled_with v c) c)) d.on refl
      (added-as _ _ _ _ y (m ∙ (λ l. price_of price (o l) + price_of price (k l)))) (added-as _ _ _ _ z b)

-- a point of a function has a small number
pub inside-small : {price : Price} {w : List ℕ} {h : Header} {x : State} {s : Span} → Inside price w h x s → x.p < most_points
inside-small {x = x} {s = s} k =
    let e : s.size ≡ _ = ap (λ (z : Span). z.size) k.span in
    omega (arith, e, k.at_in, (settled-fits k.bounded.readable.settled x.f k.fn_in).small)

-- ---- what the columns have at the point of the running frame, and of a callee

module _ {price : Price} {w : List ℕ} {h : Header} {x : State} {s : Span} (k : Inside price w h x s) where
  pub read-inside : (column : ℕ) → column + most_in_all ≤ bounds_end → Lies w s × (x.p < s.size) × (column + most_in_all ≤ length w)
  read-inside column l = (
    lies-there k.bounded.readable k.fn_in k.span,
    k.at_in,
    omega (arith, k.bounded.readable.room),
  )

  column-inside : {figure : ℕ → ℕ → ℕ} {a : ℕ} → Points figure a h.funcs w → item w (a + s.base + x.p) ≡ figure x.f x.p
  column-inside {a = a} c =
      let z = ap (λ (s : Span). s.size) k.span in
      ap (λ (s : Span). item w (a + s.base + x.p)) k.span ∙ c.each x.f x.p k.fn_in (omega (arith, z, k.at_in))

  pub dead-inside : {n : ℕ} → n ≡ item w (dead_column + s.base + x.p) → n ≡ ((sheet_in price w h).at x.f x.p).dead
  dead-inside e = e ∙ dead-there k.bounded.readable k.fn_in k.span x.p k.at_in

  pub need-inside : {n : ℕ} → n ≡ item w (need_column + s.base + x.p) → n ≡ ((sheet_in price w h).at x.f x.p).need
  need-inside e = e ∙ need-there k.bounded.readable k.fn_in k.span x.p k.at_in

  pub cost-inside : {n : ℕ} → n ≡ item w (cost_bounds + s.base + x.p) → n ≡ ((sheet_in price w h).at x.f x.p).cost
  cost-inside e = e ∙ column-inside k.bounded.cost

module _ {price : Price} {w : List ℕ} {h : Header} {x : State} {cache memory : List ℕ} {f g : ℕ} (k : Enters price w h x cache memory g) (e : f ≡ g) where
  pub callee-frame : {s : Span} → s ≡ span_at w f → s.frame ≡ (func (task_of w h) g).frame
  callee-frame i =
      ap (λ (s : Span). s.frame) i ∙ ap (λ n. (span_at w n).frame) e ∙ sym (frame_is w h g k.callee)

  pub callee-spill : item w (spill_bounds + f) ≡ (sheet_in price w h).spill g
  callee-spill = ap (λ (n : ℕ). item w (spill_bounds + n)) e ∙ k.bounded.spill.each g (omega arith) k.callee

  -- a call moves no more than the frame of the callee
  pub callee-few : {s : Span} {n : ℕ} → s ≡ span_at w f → n ≡ (reserve s.frame (core_of x.machine cache memory)).blocks → n ≤ most_stack
  callee-few {s} i j =
      let t = k.bounded.readable.settled.formed.shaped in
      omega (
        arith,
        j,
        reserve-blocks (core_of x.machine cache memory) s.frame k.good.within k.good.fits,
        callee-frame i,
        t.frames g (omega (arith, k.callee, count-is w h)),
        t.stack_high,
      )
