-- The task of an accepted text is well formed: rows 7 to 13 refuse nothing exactly where their tests hold.
use Prim.Native.Nat.{ℕ, ◌-◌, ◌≤◌}
use mathlib.Core.Bool.{Bool}
use mathlib.Core.List.{List}
use mathlib.Core.Logic.{◌↔◌}
use mathlib.Core.Option.{Option, none, some}
use mathlib.Core.Path.{◌≡◌, refl, ap, ◌∙◌}
use native.Mathlib.Omega.{arith}
use lib.Dec.{T, ltb, ltb→lt, nltb→le}
use lib.ListN.{length}
use Rattle.model.specs.declared.Refusal.{Refusal}
use Rattle.model.specs.declared.Row.TheVariants.{Callee, Pairing, Target, LastPoint, Unreachable, Uncalled, Uninitialised}
use Rattle.model.specs.Limits.{most_bytes}
use Rattle.model.specs.Rows.{refuse}
use Rattle.model.specs.Basic.{unless, ◌or_else◌}
use Rattle.model.specs.Task.{Task, Judged, refused, task, count, func, point, func_line, point_line, read_text}
use Rattle.model.specs.Walk.{loaded}
use Rattle.model.specs.Walk
use Rattle.model.specs.Figures.{reached}
use Rattle.model.specs.Refusal.{callee_fits, targets_fit, end_fits, is_called, stored_before, link_row, reach_row, call_row, load_row, link_rows}
use Rattle.model.specs.Refusal.{reach_rows, call_rows, load_rows, task_rows, or_task, with_rows, judged, judge}
use Rattle.model.specs.Refusal
use Rattle.theory.proofs.Lists.{by-test}
use Rattle.theory.proofs.Firsts.{or_else-none, unless-none, row-none, counted_none, points_none}
use Rattle.model.specs.WellFormed.{Linked, AllReached, AllCalled, AllStored, WellFormed}
use Rattle.theory.proofs.Reading.{read-shaped}

-- four tests, one after the other, give no answer where all of them hold
tests-none : (a b c d : Bool) (w x y z : Refusal)
    → ((unless a w or_else unless b x or_else unless c y or_else unless d z) ≡ none) ↔ (T a × T b × T c × T d)
tests-none a b c d w x y z = (
  λ e.
      let i = (row-none a w (unless b x or_else unless c y or_else unless d z)).0 e in
      let j = (row-none b x (unless c y or_else unless d z)).0 i.1 in
      let k = (row-none c y (unless d z)).0 j.1 in
      (i.0, j.0, k.0, (unless-none d z).0 k.1),
  λ h. (row-none a w _).1 (h.0, (row-none b x _).1 (h.1, (row-none c y _).1 (h.2, (unless-none d z).1 h.3))),
)

-- rows 7 to 10 refuse nothing at a point where their four tests hold
pub link-none : (t : Task) (f p : ℕ)
    → (link_row t f p ≡ none)
    ↔ (T (callee_fits t f (Walk.called (point (func t f) p)))
    × T (Refusal.paired (func t f) p)
    × T (targets_fit (func t f) (point (func t f) p))
    × T (end_fits (func t f) p))
unfolding link_row
link-none t f p =
    tests-none
    (callee_fits t f (Walk.called (point (func t f) p)))
    (Refusal.paired (func t f) p)
    (targets_fit (func t f) (point (func t f) p))
    (end_fits (func t f) p)
    (refuse Callee (point_line t f p))
    (refuse Pairing (point_line t f p))
    (refuse Target (point_line t f p))
    (refuse LastPoint (point_line t f p))

-- rows 7 to 10 refuse no point
pub links-none : (t : Task) → (link_rows t ≡ none) ↔ Linked t
links-none t = (
  λ e.
      let r = (points_none t (link_row t)).0 e in
      record {
        callee = λ f p h k. ((link-none t f p).0 (r f p h k)).0;
        paired = λ f p h k. ((link-none t f p).0 (r f p h k)).1;
        targets = λ f p h k. ((link-none t f p).0 (r f p h k)).2;
        end = λ f p h k. ((link-none t f p).0 (r f p h k)).3;
      },
  λ w.
      (points_none t (link_row t)).1 (λ f p h k. (link-none t f p).1 (w.callee f p h k, w.paired f p h k, w.targets f p h k, w.end f p h k)),
)

-- row 11 refuses no point
pub reach-none : (t : Task) → (reach_rows t ≡ none) ↔ AllReached t
unfolding reach_row
reach-none t = (
  λ e f p h k. (unless-none (reached (func t f) p) (refuse Unreachable (point_line t f p))).0 ((points_none t (reach_row t)).0 e f p h k),
  λ w. (points_none t (reach_row t)).1 (λ f p h k. (unless-none (reached (func t f) p) (refuse Unreachable (point_line t f p))).1 (w f p h k)),
)

-- row 12 refuses no function
pub calls-none : (t : Task) → (call_rows t ≡ none) ↔ AllCalled t
unfolding call_row
calls-none t = (
  λ e f h k. (unless-none (is_called t f) (refuse Uncalled (func_line t f))).0 ((counted_none (call_row t) 1 (count t - 1)).0 e f h (omega arith)),
  λ w. (counted_none (call_row t) 1 (count t - 1)).1 (λ f h k. (unless-none (is_called t f) (refuse Uncalled (func_line t f))).1 (w f h (omega arith))),
)

-- row 13 refuses no point
pub loads-none : (t : Task) → (load_rows t ≡ none) ↔ AllStored t
unfolding load_row
loads-none t = (
  λ e f p h k. (test f p).0 ((points_none t (load_row t)).0 e f p h k),
  λ w. (points_none t (load_row t)).1 (λ f p h k. (test f p).1 (w f p h k)),
)
  where
    test : (f p : ℕ) → (load_row t f p ≡ none) ↔ T (stored_before (func t f) p (loaded (point (func t f) p)))
    test f p = unless-none (stored_before (func t f) p (loaded (point (func t f) p))) (refuse Uninitialised (point_line t f p))

-- rows 7 to 13 refuse nothing
pub rows_none : (t : Task) → (task_rows t ≡ none) ↔ (Linked t × AllReached t × AllCalled t × AllStored t)
unfolding task_rows
rows_none t = (
  λ e.
      let i = (or_else-none (link_rows t) (reach_rows t or_else call_rows t or_else load_rows t)).0 e in
      let j = (or_else-none (reach_rows t) (call_rows t or_else load_rows t)).0 i.1 in
      let k = (or_else-none (call_rows t) (load_rows t)).0 j.1 in
      ((links-none t).0 i.0, (reach-none t).0 j.0, (calls-none t).0 k.0, (loads-none t).0 k.1),
  λ w.
      let k = (or_else-none (call_rows t) (load_rows t)).1 ((calls-none t).1 w.2, (loads-none t).1 w.3) in
      (or_else-none _ _).1 ((links-none t).1 w.0, (or_else-none _ _).1 ((reach-none t).1 w.1, k)),
)

-- what the judgement of a text as task t says
pub record JudgedAs (text : List ℕ) (t : Task) : Type 0 where
  pub short : length text ≤ most_bytes
  pub reads : read_text text ≡ task t
  pub formed : WellFormed t

refused-no-task : {r : Refusal} {t : Task} → refused r ≡ task t → ⊥
refused-no-task e = let z : ◌≡◌ {A = ℕ} 0 1 = cc in omega arith

-- rows that come after a judgement refuse nothing where the task stands
with_rows_lem : (rows : Task → Option Refusal) (j : Judged) (t : Task) → with_rows rows j ≡ task t → (j ≡ task t) × (rows t ≡ none)
with_rows_lem rows (refused r) t e = absurd (refused-no-task e)
with_rows_lem rows (task u) t e = go (rows u) refl e
  where
    go : (o : Option Refusal) → rows u ≡ o → or_task o u ≡ task t → (task u ≡ task t) × (rows t ≡ none)
    go none k e = let s : u ≡ t = cc in (e, cc)
    go (some r) k e = absurd (refused-no-task e)

pub judged-as : (text : List ℕ) (t : Task) → judged text ≡ task t → JudgedAs text t
unfolding judged
judged-as text t =
    by-test (λ j. j ≡ task t → JudgedAs text t) (ltb most_bytes (length text)) (λ k e. absurd (refused-no-task e)) (λ k e.
    let r = with_rows_lem task_rows (read_text text) t e in
    let w = (rows_none t).0 r.1 in
    record {
      short = nltb→le most_bytes (length text) k;
      reads = r.0;
      formed = record { shaped = read-shaped text t r.0; linked = w.0; reach = w.1; called = w.2; loads = w.3 };
    })

-- such a text is judged as its task
pub judges : (text : List ℕ) (t : Task) → JudgedAs text t → judged text ≡ task t
unfolding judged
judges text t a =
    by-test (λ j. j ≡ task t) (ltb most_bytes (length text)) (λ k. absurd (omega (arith, ltb→lt most_bytes (length text) k, a.short))) (λ k.
    let w = a.formed in
    ap (with_rows task_rows) a.reads ∙ ap (λ o. or_task o t) ((rows_none t).1 (w.linked, w.reach, w.called, w.loads)))

-- a service has accepted a text as task t
pub record AcceptedAs (first : Option Refusal) (own : Task → Option Refusal) (text : List ℕ) (t : Task) : Type 0 where
  pub no-first : first ≡ none
  pub task : JudgedAs text t
  pub no_own : own t ≡ none

pub accepted : (first : Option Refusal) (own : Task → Option Refusal) (text : List ℕ) (t : Task) → judge first own text ≡ task t
    → AcceptedAs first own text t
unfolding judge
accepted none own text t e =
    let r = with_rows_lem own (judged text) t e in record { no-first = refl; task = judged-as text t r.0; no_own = r.1 }
accepted (some r) own text t e = absurd (refused-no-task e)

-- such a text is accepted
pub accepts : (first : Option Refusal) (own : Task → Option Refusal) (text : List ℕ) (t : Task) → AcceptedAs first own text t
    → judge first own text ≡ task t
unfolding judge
accepts none own text t a = ap (with_rows own) (judges text t a.task) ∙ ap (λ o. or_task o t) a.no_own
accepts (some r) own text t a = let e = a.no-first in let z : ◌≡◌ {A = ℕ} 0 1 = cc in absurd (omega arith)
