-- A step that moves nothing, a start, and the number of an eviction.
use Prim.Native.Nat.{ℕ, ◌≤◌, ◌<◌}
use mathlib.Core.List.{List, [], ◌∷◌}
use mathlib.Core.Path.{◌≡◌, refl, ap, sym, ◌∙◌}
use native.Mathlib.Omega.{arith}
use denote.Enum.Declared.{tag_of}
use Rattle.model.specs.contracts.Eviction.{the_type}
use Rattle.model.specs.declared.Eviction.{Eviction}
use Rattle.model.specs.declared.Eviction.TheVariants.{Eager, Lazy}
use Rattle.model.specs.Task.{count, func}
use Rattle.model.specs.Core.{reserve, idle}
use Rattle.model.specs.Figures.{longest}
use Rattle.model.specs.Run as run
use Rattle.theory.proofs.Prices.{price-moves}
use Rattle.theory.proofs.Window.{frame-room}
use Rattle.tables.specs.declared.Header.{Header}
use Rattle.tables.specs.declared.Span.{Span}
use Rattle.tables.specs.Tables.{span_at, task_of}
use Rattle.tables.specs.Valid.{Settled}
use Rattle.tables.proofs.Laws.{count-is, frame_is}
use Rattle.tables.proofs.Valid.{kept_same}
use Rattle.prices.specs.declared.Price.{Price}
use Rattle.prices.specs.Prices.{price_of}
use Rattle.machine.specs.declared.Machine.{Machine}
use Rattle.theory.specs.Cores.{with_eviction}
use Rattle.machine.specs.Moves.{eviction_of, core_of, Entered}
use Rattle.machine.proofs.Laws.{entered-with}
use Rattle.steps.specs.declared.Turned.{Turned}
use Rattle.steps.specs.Frames.{frames_end, places_in}
use Rattle.steps.specs.Steps.{Stays, IsTurn, IsPlain}
use Rattle.steps.proofs.Laws.{plain-turn}
use Rattle.turns.specs.Turns.{Started}

-- a step that moves nothing costs nothing
pub plain_in : (price : Price) {m a : ℕ} {r : Turned} {w cache memory : List ℕ} {u : run.Turn} → IsPlain m a r w cache memory u
    → IsTurn (price_of price) m a r w cache memory u 0
plain_in price d = plain-turn (price_of price) (price-moves price.start price.each).none d

pub stays_same : (w : List ℕ) → Stays w w
stays_same w = record { below = λ i l. refl; kept = kept_same frames_end w }

-- ---- a start

module _ {w : List ℕ} {h : Header} (k : Settled w h) (some : 0 < h.funcs) where
  some-func : 0 < count (task_of w h)
  some-func = omega (arith, count-is w h, some)

  first_frame : (s : Span) → s ≡ span_at w 0 → s.frame ≡ (func (task_of w h) 0).frame
  first_frame s e = ap (λ (z : Span). z.frame) e ∙ sym (frame_is w h 0 some)

  pub start-room : (s : Span) (n : ℕ) → s ≡ span_at w 0 → longest (task_of w h) 0 ≤ n → (0 < h.stack) × (s.frame ≤ h.stack) × (s.frame ≤ n)
  start-room s n e l =
      let t = k.formed in
      let f = first_frame s e in
      (omega (arith, t.shaped.stack_low some-func), omega (arith, f, t.shaped.frames 0 some-func), omega (arith, f, frame-room (task_of w h) t 0 some-func))

  -- v: the eviction; l, the number that the machine has for it
  pub start_is : (v : Eviction) (s : Span) (l : ℕ) (m r : Machine) (n : ℕ) → s ≡ span_at w 0 → eviction_of l ≡ v → Entered Eager h.stack s.frame n m
      → ((cache memory : List ℕ) → core_of r cache memory ≡ with_eviction (eviction_of l) (core_of m cache memory)) × (r.top ≡ m.top)
      → Started v w h n (record { depth = 1; f = 0; p = 0; machine = r; moved = 0; allowed = 0 })
  unfolding places_in
  start_is v s l m r n e y a b =
      let f = k.formed.shaped.frames 0 some-func in
      let a' = entered-with m r (eviction_of l) Eager h.stack s.frame n (omega (arith, f, first_frame s e)) a b in
      record {
        state = λ cache memory i j.
            let core = a'.core cache memory i j ∙ (λ z. (reserve (first_frame s e z) (idle (y z) cache memory)).core) in
            λ z. record { frames = record { fn = 0; at = 0 } ∷ []; core = core z };
        top = a'.top;
        moved = refl;
        allowed = refl;
      }

-- an eviction cast to a number is the number that a machine has for it
pub number-of : (x : Eviction) → eviction_of (tag_of the_type x) ≡ x
unfolding eviction_of
number-of Eager = refl
number-of Lazy = refl
