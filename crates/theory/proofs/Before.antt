-- Against the rule for d before request 4: d is no smaller, so high, spill, save and cost are no larger, of every accepted text and at every price.
use Rattle.std.specs.Prelude.{if◌then◌else◌}
use Prim.Native.Nat.{ℕ, zero, suc, pred, ◌+◌, ◌-◌, ◌*◌, ◌≤◌, ◌<◌, min, max}
use mathlib.Core.Bool.{Bool, true, false, not}
use mathlib.Core.List.{List, Memᴰ}
use mathlib.Core.Option.{Option, none, some}
use mathlib.Core.Path.{◌≡◌, refl}
use native.Mathlib.Decide.{dec_lt}
use native.Mathlib.Omega.{arith}
use lib.Dec.{T, lt→ltb, T_not}
use Rattle.model.specs.Basic.{smallest, up_to}
use Rattle.model.specs.Task.{Func, Task, task, size, count, func, point}
use Rattle.model.specs.Walk.{Met, leads, called, present, is_call, is_ensure, returns, never}
use Rattle.model.specs.Figures.{callees, calls_above, minimax, shortest_by, shortest_to, shortest, cut_by, after_with, high_from_with}
use Rattle.model.specs.Figures.{dead, call_points, over_calls, entry_to, entry_with, high_with, spill_with}
use Rattle.model.specs.Refusal.{judged}
use Rattle.model.specs.Sheet.{costed, priced_sheet}
use Rattle.model.specs.WellFormed.{WellFormed}
use Rattle.theory.specs.Sound.{Price}
use Rattle.theory.specs.Displacement.{call_free, smallest_to, smallest_called, sheet_before, NeverRises}
use Rattle.theory.proofs.Lists.{by-test, mem-up_to, largest-mono, smallest-mono, smallest-bounds}
use Rattle.theory.proofs.Walks.{walk-wider}
use Rattle.theory.proofs.Arrival.{arrival-less}
use Rattle.theory.proofs.Accepted.{judged-as}
use Rattle.theory.proofs.Figures.{Closed, some_walk-met}
use Rattle.theory.proofs.Displacement.{call-member, minimax-met, by-return}
use Rattle.theory.proofs.Sheet.{closed_in, calls-later}

-- where every walk to a return makes a call, each has called the smallest d at least
smallest-minimax : (d : ℕ → ℕ) (x : Func) → Closed x → 0 < size x → (Met (leads x) (is_call x) (returns x) 0 → ⊥)
    → Met (leads x) never (returns x) 0 → smallest d (callees x) ≤ minimax d x (returns x)
smallest-minimax d x inside z n m =
    elim (dec_lt (minimax d x (returns x)) (smallest d (callees x))) [
      | yes l ↦
          let w = minimax-met d x inside z (returns x) m in
          absurd (n (w.0, walk-wider (λ p c. above l p (called (point x p)) refl c) w.1, w.2))
      | no l ↦ omega arith
    ]
  where
    above : minimax d x (returns x) < smallest d (callees x) → (p : ℕ) (c : Option ℕ) → called (point x p) ≡ c → T (present c)
        → T (calls_above d x (minimax d x (returns x)) p)
    above l p none e h = absurd h
    above l p (some g) e h = rw e (lt→ltb _ (d g) (omega (arith, l, smallest-bounds d (call-member x p e))))

-- the rule before asks for a walk with no call
none_free : (x : Func) → Closed x → 0 < size x → T (not (call_free x)) → Met (leads x) (is_call x) (returns x) 0 → ⊥
unfolding call_free
none_free x c z h m = T_not (call_free x) h ((some_walk-met x c (is_call x) (returns x) 0 z).1 m)

pred-mono : {m n : ℕ} → m ≤ n → pred m ≤ pred n
pred-mono {m = zero} h = omega arith
pred-mono {m = suc m} {n = zero} h = omega arith
pred-mono {m = suc m} {n = suc n} h = omega arith

-- occupancies where calls displace no less are no larger
module _ (t : Task) (d e : ℕ → ℕ) (more : (f g : ℕ) → f < count t → Memᴰ g (callees (func t f)) → d g ≤ e g) where
  after_less : (f : ℕ) → f < count t → (p h k : ℕ) → h ≤ k → after_with e t f p h ≤ after_with d t f p k
  unfolding after_with
  after_less f l p h k i = at (is_ensure (func t f) p) (called (point (func t f) p)) refl
    where
      at : (b : Bool) (c : Option ℕ) → called (point (func t f) p) ≡ c
          → (if b then max h (func t f).frame else cut_by e t h c) ≤ (if b then max k (func t f).frame else cut_by d t k c)
      at true c j = omega arith
      at false none j = omega arith
      at false (some g) j = omega (arith, more f g l (call-member (func t f) p j))

  high-less : (f : ℕ) → f < count t → {a b : ℕ} → a ≤ b → (p : ℕ) → high_from_with e t f a p ≤ high_from_with d t f b p
  unfolding high_from_with
  high-less f l {a} {b} i p =
      let start : min t.stack (a + (func t f).frame) ≤ min t.stack (b + (func t f).frame) = omega arith in
      pred-mono (arrival-less (leads (func t f)) (size (func t f)) start (after_less f l) (2 * size (func t f)) p)

  entry-less : (n f : ℕ) → entry_to e t n f ≤ entry_to d t n f
  unfolding entry_to over_calls
  entry-less zero f = omega arith
  entry-less (suc n) f =
      largest-mono (up_to (count t)) (λ h m. largest-mono (call_points (func t h) f) (λ p _. high-less h ((mem-up_to (count t)).0 m) (entry-less n h) p))

module _ {t : Task} (w : WellFormed t) where
  displaces-to : (n f : ℕ) → f < count t → smallest_to t n f ≤ shortest_to t n f
  unfolding smallest_to shortest_to
  displaces-to zero f l = omega arith
  displaces-to (suc n) f l =
      let x = func t f in
      let c = closed_in w f l in
      let z = w.shaped.nonempty f l in
      let less : smallest (smallest_to t n) (callees x) ≤ smallest (shortest_to t n) (callees x) =
      smallest-mono (callees x) (λ g m. displaces-to n g (calls-later w f g l m).1) in
      by-test (λ m. m ≤ shortest_by (shortest_to t n) x) (call_free x)
      (λ h. by-return (shortest_to t n) x c z (λ m. x.frame ≤ m) (λ _. omega arith) (λ _. omega arith))
      (λ h. by-return (shortest_to t n) x c z (λ m. x.frame + smallest (smallest_to t n) (callees x) ≤ m)
      (λ m. omega (arith, less, smallest-minimax (shortest_to t n) x c z (none_free x c z h) m)) (λ _. omega (arith, less)))

  displaces : (f : ℕ) → f < count t → smallest_called t f ≤ shortest t f
  unfolding smallest_called shortest
  displaces = displaces-to (count t)

  called-displaces : (f g : ℕ) → f < count t → Memᴰ g (callees (func t f)) → smallest_called t g ≤ shortest t g
  called-displaces f g l m = displaces g (calls-later w f g l m).1

  rises-never : (price : ℕ → ℕ) → Price price → NeverRises t (shortest t) (smallest_called t) (priced_sheet price t) (sheet_before price t)
  unfolding costed high_with entry_with spill_with
  rises-never price c =
      let entries : (f : ℕ) → entry_with (shortest t) t f ≤ entry_with (smallest_called t) t f =
      λ f. entry-less t (smallest_called t) (shortest t) called-displaces f f in
      let highs : (f p : ℕ) → f < count t → high_with (shortest t) t f p ≤ high_with (smallest_called t) t f p =
      λ f p l. high-less t (smallest_called t) (shortest t) called-displaces f l (entries f) p in
      record {
        displaces = displaces;
        spill = λ f l. c.more _ _ (omega (arith, entries f));
        at = λ f p l k.
            let saved : (ℕ → ℕ) → ℕ = λ d. high_with d t f p - dead (func t f) p in
            let saves = c.more (saved (shortest t)) (saved (smallest_called t)) (omega (arith, highs f p l)) in
            record {
              high = highs f p l;
              save = saves;
              cost = omega (arith, saves);
              dead = refl;
              need = refl;
              reload = refl;
              later = refl;
              chain = refl;
              fill = refl;
            };
      }

-- the theorem: with d by whole walks no figure of an accepted text rises, at any price
pub never-rises : (text : List ℕ) (t : Task) → judged text ≡ task t → (price : ℕ → ℕ) → Price price
    → NeverRises t (shortest t) (smallest_called t) (priced_sheet price t) (sheet_before price t)
never-rises text t e price c = rises-never (judged-as text t e).formed price c
