-- Each figure of an accepted text is what document 01 says of all walks: no walk of any length passes it, and some walk attains it.
-- The record OverWalks names every such theorem; `over-walks` proves them all from acceptance.
use Prim.Native.Nat.{ℕ, suc, ◌+◌, ◌≤◌, ◌<◌, min}
use mathlib.Core.Path.{◌≡◌, ◌∙◌}
use mathlib.Core.Bool.{false, ◌||◌}
use mathlib.Core.List.{List}
use mathlib.Core.Logic.{◌↔◌, ⊎_elim}
use native.Mathlib.Omega.{arith}
use lib.Dec.{T, eqb, ltb→lt, eqb→eq}
use Rattle.model.specs.declared.Point.{Point}
use Rattle.model.specs.declared.Point.TheVariants.{Load, Store, Call, Ensure, Goto, Either, Return}
use Rattle.model.specs.Basic.{largest, smallest}
use Rattle.model.specs.Task.{Task, task, size, count, func, point, offset_fits}
use Rattle.model.specs.Walk.{Walk, Met, Carries, Largest, Smallest, Least, leads, never, loads, stores, touches, calls, called, is, is_ensure}
use Rattle.model.specs.Walk.{returns, loaded, stored}
use Rattle.model.specs.Figures as model
use Rattle.model.specs.Figures.{callees, after, kept}
use Rattle.model.specs.Refusal.{judged}
use Rattle.theory.proofs.Lists.{or-holds}
use Rattle.model.specs.WellFormed.{WellFormed}
use Rattle.theory.proofs.Accepted.{judged-as}
use Rattle.theory.proofs.Links.{is-holds, closed, callee-later}
use Rattle.theory.proofs.Figures.{Closed, InFrame, reached-walk, uninitialised-walk, dead-is, need-is, kept_next-is, high-entry-is}
use Rattle.theory.proofs.Between.{CallsLater, mem-callees, longest-is, entry-is, entry_zero}
use Rattle.theory.proofs.Between.{chain-is, chain_zero, over_calls-is}
use Rattle.theory.specs.Displacement.{CalledToReturn}
use Rattle.theory.proofs.Displacement.{minimax-least, shortest-is, shortest-met, shortest-none}

-- of function f, x = func t f
pub record OverWalksOf (t : Task) (f : ℕ) : Type 0 where
  -- 11 and 13: a walk from point 0 to p; one with no store of o before
  pub reached : (p : ℕ) → T (model.reached (func t f) p) ↔ Walk (leads (func t f)) never 0 p
  pub uninitialised : (o p : ℕ) → T (model.uninitialised (func t f) o p) ↔ Walk (leads (func t f)) (stores (func t f) o) 0 p
  -- dead: the smallest offset that some walk loads with no store of it before, or K
  pub dead : (p : ℕ) → p < size (func t f)
      → Smallest (λ o. Met (leads (func t f)) (stores (func t f) o) (loads (func t f) o) p) (func t f).frame (model.dead (func t f) p)
  -- need: one more than the largest offset that some walk touches before any ensure, or 0
  pub need : (p : ℕ) → p < size (func t f)
      → Largest (λ m. (o : ℕ) × (m ≡ suc o) × Met (leads (func t f)) (is_ensure (func t f)) (touches (func t f) o) p) (model.need (func t f) p)
  -- q of later: the largest K − fill over first ensures
  pub kept_next : (p : ℕ) → p < size (func t f)
      → Largest
      (λ m. (e : ℕ) × Walk (leads (func t f)) (is_ensure (func t f)) p e × T (is_ensure (func t f) e) × (m ≡ kept t f e))
      (model.kept_next t f p)
  -- high: the largest value over all walks from point 0
  pub high : (p : ℕ) → p < size (func t f)
      → ((h : ℕ) → Carries (leads (func t f)) (after t f) (min t.stack (model.entry t f + (func t f).frame)) p h → h ≤ model.high t f p)
      × Carries (leads (func t f)) (after t f) (min t.stack (model.entry t f + (func t f).frame)) p (model.high t f p)
  -- D; d: the frame and the smallest, over walks to a return, of the largest d called, or the smallest d called where no walk comes to a return
  pub longest : model.longest t f ≡ (func t f).frame + largest (model.longest t) (callees (func t f))
  pub shortest : Met (leads (func t f)) never (returns (func t f)) 0
      → (m : ℕ) × (model.shortest t f ≡ (func t f).frame + m) × Least (CalledToReturn (model.shortest t) (func t f)) m
  pub shortest-endless : (Met (leads (func t f)) never (returns (func t f)) 0 → ⊥)
      → model.shortest t f ≡ (func t f).frame + smallest (model.shortest t) (callees (func t f))
  -- E and chain: the largest over the points that call f
  pub entry : Largest
      (λ m. (h p : ℕ) × (h < count t) × (p < size (func t h)) × T (calls (func t h) f p) × (m ≡ model.high t h p))
      (model.entry t f)
  pub chain : (price : ℕ → ℕ)
      → Largest
      (λ m. (h p : ℕ) × (h < count t) × (p < size (func t h)) × T (calls (func t h) f p) × (m ≡ model.chain price t h + price (kept t h (suc p))))
      (model.chain price t f)

pub record OverWalks (t : Task) : Type 0 where
  pub of : (f : ℕ) → f < count t → OverWalksOf t f
  pub entry_zero : model.entry t 0 ≡ 0
  pub chain_zero : (price : ℕ → ℕ) → model.chain price t 0 ≡ 0

-- an offset that a point touches is below the frame
offset-below : (k o : ℕ) (x : Point) → T (offset_fits k x) → T (is o (loaded x) || is o (stored x)) → o < k
offset-below k o (Load a) h t =
    ⊎_elim
    (λ (z : T (eqb o a)). omega (arith, ltb→lt a k h, eqb→eq o a z))
    (λ z. absurd z)
    ((or-holds (eqb o a) false).0 t)
offset-below k o (Store a) h t = omega (arith, ltb→lt a k h, eqb→eq o a t)
offset-below k o (Call g) h t = absurd t
offset-below k o (Ensure n) h t = absurd t
offset-below k o (Goto p) h t = absurd t
offset-below k o (Either p q) h t = absurd t
offset-below k o Return h t = absurd t

module _ {t : Task} (w : WellFormed t) where
  pub closed_in : (f : ℕ) → f < count t → Closed (func t f)
  closed_in f h p q = closed w.linked f p q h

  pub in_frame : (f : ℕ) → f < count t → InFrame (func t f)
  in_frame f h o q k = offset-below (func t f).frame o (point (func t f) q) (w.shaped.offsets f q h k)

  pub calls-later : CallsLater t
  calls-later f g h m =
      let r = (mem-callees (func t f)).0 m in
      callee-later w.linked f r.0 g h r.1 ((is-holds g (called (point (func t f) r.0))).0 r.2)

  pub walks-of : (f : ℕ) → f < count t → OverWalksOf t f
  walks-of f h =
      let c = closed_in f h in
      let n = w.shaped.nonempty f h in
      record {
        reached = reached-walk (func t f) c n;
        uninitialised = uninitialised-walk (func t f) c n;
        dead = dead-is (func t f) c;
        need = need-is (func t f) c (in_frame f h);
        kept_next = kept_next-is t f c;
        high = λ p k. high-entry-is t f c n ((reached-walk (func t f) c n p).0 (w.reach f p h k));
        longest = longest-is t calls-later f h;
        shortest = λ m. (
          model.minimax (model.shortest t) (func t f) (returns (func t f)),
          shortest-is t calls-later f h ∙ shortest-met (model.shortest t) (func t f) c n m,
          minimax-least (model.shortest t) (func t f) c n m,
        );
        shortest-endless = λ m. shortest-is t calls-later f h ∙ shortest-none (model.shortest t) (func t f) c n m;
        entry = rw (entry-is t calls-later f) (over_calls-is t f (model.high t));
        chain = λ price. rw (chain-is t calls-later price f) (over_calls-is t f (λ h p. model.chain price t h + price (kept t h (suc p))));
      }

-- the top theorem: the figures of an accepted text are about all walks
pub over-walks : (text : List ℕ) (t : Task) → judged text ≡ task t → OverWalks t
over-walks text t e =
    record {
      of = walks-of (judged-as text t e).formed;
      entry_zero = entry_zero t;
      chain_zero = λ price. chain_zero price t;
    }
