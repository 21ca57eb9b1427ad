-- The frames of a state after a step, and the turn of the model that a step is.
use Prim.Native.Nat.{ℕ, zero, suc, ◌+◌, ◌-◌, ◌*◌, ◌≤◌, ◌<◌}
use mathlib.Core.List.{List, ◌∷◌}
use mathlib.Core.Path.{◌≡◌, refl, ap, sym, ◌∙◌}
use native.Mathlib.Omega.{arith}
use lib.ListN.{length, set, length-set}
use lib.Seq.{drop-set-lt}
use Rattle.model.specs.Limits.{most_funcs}
use Rattle.model.specs.Core.{Core}
use Rattle.model.specs.Run as run
use Rattle.model.specs.Run.{Place, onwards}
use Rattle.tables.specs.Tables.{item}
use Rattle.tables.proofs.Laws.{here, elsewhere}
use Rattle.machine.specs.Moves.{core_of}
use Rattle.steps.specs.declared.Turned.{Turned}
use Rattle.steps.specs.Frames.{frames_at, frames_end, caller_at, put_caller, places_in, frames_from, turn_of}
use Rattle.steps.specs.Steps.{Stays, IsTurn, IsPlain}

-- the running frame and its callers, where there is one
pub frames-some : (w : List ℕ) (d f p : ℕ) → 0 < d → frames_from w d f p ≡ record { fn = f; at = p } ∷ places_in w (d - 1)
frames-some w zero f p h = absurd (omega arith)
frames-some w (suc n) f p h =
    let e : n ≡ suc n - 1 = omega arith in ap (λ (m : ℕ). record { fn = f; at = p } ∷ places_in w m) e

-- ---- a turn, from the fields of what is returned

-- function f runs at point p, and the callers are those below it
pub turn_on : (r : Turned) (w cache memory : List ℕ) (f p a o b : ℕ) (fs : List Place) (c : Core) → 0 < r.state.depth → r.state.f ≡ f → r.state.p ≡ p
    → places_in w (r.state.depth - 1) ≡ fs → core_of r.state.machine cache memory ≡ c → r.answer ≡ a → turn_of w r o b cache memory ≡ onwards f p fs c a o b
turn_on r w cache memory f p a o b fs c h i j d k l =
    ap
    (λ (gs : List Place).
    record {
      state = record { frames = gs; core = core_of r.state.machine cache memory };
      answer = r.answer;
      out = o;
      back = b;
    })
    (frames-some w r.state.depth r.state.f r.state.p h)
    ∙ (λ t. onwards (i t) (j t) (d t) (k t) (l t) o b)

-- a turn that moves nothing is one at every price that has none for no move
pub plain-turn : (price : ℕ → ℕ) → price 0 ≡ 0 → {m a : ℕ} {r : Turned} {w cache memory : List ℕ} {u : run.Turn} → IsPlain m a r w cache memory u
    → IsTurn price m a r w cache memory u 0
plain-turn price n {r = r} {w} {cache} {memory} {u} d =
    let o : u.out ≡ 0 = sym (ap (λ (z : run.Turn). z.out) d.turn) in
    let b : u.back ≡ 0 = sym (ap (λ (z : run.Turn). z.back) d.turn) in
    record {
      turn = (λ i. turn_of w r (o i) (b i) cache memory) ∙ d.turn;
      on = d.on;
      moved = omega (arith, n, d.moved, ap price o, ap price b);
      bound = omega (arith, d.allowed);
    }

-- ---- the callers

-- a caller written behind n others
module _ (w : List ℕ) (n f p : ℕ) where
  abbrev first : ℕ
  first = frames_at + 2 * n

  unwritten : (j : ℕ) → (j ≡ first → ⊥) → (j ≡ first + 1 → ⊥) → item (put_caller w n f p) j ≡ item w j
  unwritten j h k = elsewhere (set w first f) (first + 1) j p k ∙ elsewhere w first j f h

  places-below : (m : ℕ) → m ≤ n → places_in (put_caller w n f p) m ≡ places_in w m
  unfolding places_in
  places-below zero h = refl
  places-below (suc m) h =
      let a = unwritten (frames_at + 2 * m) (λ e. omega arith) (λ e. omega arith) in
      let b = unwritten (frames_at + 2 * m + 1) (λ e. omega arith) (λ e. omega arith) in
      let r = places-below m (omega arith) in
      λ i. record { fn = a i; at = b i } ∷ r i

  pub caller-put : first + 1 < length w → places_in (put_caller w n f p) (suc n) ≡ record { fn = f; at = p } ∷ places_in w n
  unfolding places_in
  caller-put h =
      let a = elsewhere (set w first f) (first + 1) first p (λ e. omega arith) ∙ here w first f (omega arith) in
      let b = here (set w first f) (first + 1) p (simp length-set h) in
      let r = places-below n (omega arith) in
      λ i. record { fn = a i; at = b i } ∷ r i

  -- nothing else changes
  pub caller-stays : n < most_funcs → (w' : List ℕ) → w' ≡ put_caller w n f p → Stays w w'
  caller-stays h w' e =
      rw e
      (record {
        below = λ i l. unwritten i (λ j. omega arith) (λ j. omega arith);
        kept = record {
          size = simp length-set;
          past = drop-set-lt frames_end (set w first f) (first + 1) p (omega arith) ∙ drop-set-lt frames_end w first f (omega arith);
        };
      })

-- the last of n callers runs
pub callers-none : (w : List ℕ) (n f p : ℕ) → n ≡ 0 → frames_from w n f p ≡ places_in w n
unfolding places_in
callers-none w n f p e = rw e refl

pub caller_runs : (w : List ℕ) (n : ℕ) → (n ≡ 0 → ⊥)
    → frames_from w n (item w (frames_at + 2 * (n - 1))) (item w (frames_at + 2 * (n - 1) + 1)) ≡ places_in w n
unfolding places_in
caller_runs w zero h = absurd (h refl)
caller_runs w (suc n) h =
    let e : suc n - 1 ≡ n = omega arith in ap (λ (m : ℕ). caller_at w m ∷ places_in w n) e
