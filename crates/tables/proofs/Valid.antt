-- From each fact about the tables to the next, and what stays so while the tables do.
use Prim.Native.Nat.{ℕ, ◌+◌, ◌<◌}
use native.Mathlib.Omega.{arith}
use mathlib.Core.Path.{◌≡◌, refl, sym, ap, ◌∙◌}
use mathlib.Core.List.{List}
use lib.Dec.{T}
use lib.ListN.{length, drop, set, length-set}
use lib.Seq.{drop-drop, drop-set-lt}
use Rattle.model.specs.Limits.{most_stack, most_in_all}
use Rattle.model.specs.Task.{count, offset_fits}
use Rattle.model.specs.WellFormed.{Shaped, Linked}
use Rattle.theory.proofs.Links.{closed}
use Rattle.tables.specs.declared.Header.{Header}
use Rattle.tables.specs.declared.Span.{Span}
use Rattle.tables.specs.Tables.{point_at, base_at, size_at, span_at, task_of}
use Rattle.tables.specs.Valid.{Kept, Holds, Lies, Fits, Settled}
use Rattle.tables.proofs.Laws.{fits_wider, length-points, point-there, func-is, count-is, stacked-within}
use Rattle.tables.proofs.Writes.{Agree, stacked-agree, funcs-agree}

-- each function of a task that the tables hold lies in them
pub lies_in : {w : List ℕ} {h : Header} → Holds w h → (f : ℕ) → f < h.funcs → Lies w (span_at w f)
lies_in k f l = record { room = k.room; within = omega (arith, stacked-within k.stacked f l, k.all) }

-- and fits a kernel where the task is shaped and linked
pub fits_in : {w : List ℕ} {h : Header} → Holds w h → Shaped (task_of w h) → Linked (task_of w h) → (f : ℕ) → f < h.funcs → Fits w (span_at w f)
fits_in {w} {h} k s l f i =
    let c : f < count (task_of w h) = rw (count-is w h) i in
    let e = func-is w h f i in
    let z = length-points w (base_at w f) (size_at w f) in
    record {
      lies = lies_in k f i;
      some = omega (arith, rw e at (s.nonempty f c), z);
      small = omega (arith, rw e at (s.small f c), z);
      frame = omega (arith, rw e at (s.frames f c), s.stack_high);
      offsets = λ p j. rw (← point-there w (base_at w f) (size_at w f) p j) ((rw e at (s.offsets f p c)) (omega arith));
      inside = λ p q j m. omega (arith, (rw e at (closed l f p q c)) (omega arith) m);
    }

-- of an accepted task
pub settled-fits : {w : List ℕ} {h : Header} → Settled w h → (f : ℕ) → f < h.funcs → Fits w (span_at w f)
settled-fits k = fits_in k.holds k.formed.shaped k.formed.linked

-- an offset that fits the frame fits a set
pub offsets-fit : {w : List ℕ} {s : Span} → Fits w s → (p : ℕ) → p < s.size → T (offset_fits most_stack (point_at w (s.base + p)))
offsets-fit {w} {s} k p h = fits_wider s.frame most_stack (point_at w (s.base + p)) k.frame (k.offsets p h)

-- what is kept past an entry is kept past a later one
pub kept-later : {m : ℕ} {l l' : List ℕ} (n : ℕ) → Kept m l l' → Kept (m + n) l l'
kept-later {m} {l} {l'} n k =
    record { size = k.size; past = sym (drop-drop n m l') ∙ (ap (drop n) k.past ∙ drop-drop n m l) }

pub kept_same : (n : ℕ) (l : List ℕ) → Kept n l l
kept_same n l = record { size = refl; past = refl }

pub kept_on : {n : ℕ} {k l m : List ℕ} → Kept n k l → Kept n l m → Kept n k m
kept_on a b = record { size = b.size ∙ a.size; past = b.past ∙ a.past }

-- a write below entry n keeps what comes from there on
pub kept_set : {n : ℕ} (l : List ℕ) (q v : ℕ) → q < n → Kept n l (set l q v)
kept_set {n} l q v h = record { size = length-set l q v; past = drop-set-lt n l q v h }

-- tables with the functions and points of others hold the same task
module _ {w w' : List ℕ} {h : Header} (k : Holds w h) (a : Agree h.funcs most_in_all w w') where
  pub task-same : task_of w' h ≡ task_of w h
  task-same = λ i. record { stack = h.stack; funcs = funcs-agree a k.stacked (omega arith) k.all i }

  pub holds_same : length w' ≡ length w → Holds w' h
  holds_same e =
      record { room = omega (arith, e, k.room); stacked = stacked-agree a k.stacked (omega arith); few = k.few; all = k.all }

  pub settled_same : length w' ≡ length w → Settled w h → Settled w' h
  settled_same e s = record { holds = holds_same e; formed = rw task-same s.formed }
