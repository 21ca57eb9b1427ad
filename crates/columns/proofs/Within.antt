-- What a change within the columns leaves: the task. And what its points call.
use native.Mathlib.Omega.{arith}
use Prim.Native.Nat.{ℕ, ◌+◌, ◌<◌}
use mathlib.Core.List.{List}
use mathlib.Core.Option.{some}
use mathlib.Core.Path.{◌≡◌}
use Rattle.model.specs.Walk.{called}
use Rattle.theory.proofs.Links.{callee-later}
use Rattle.tables.specs.declared.Header.{Header}
use Rattle.tables.specs.Tables.{point_at, base_at, size_at, task_of}
use Rattle.tables.proofs.Laws.{size_is, point-is, count-is}
use Rattle.tables.proofs.Valid.{task-same, settled_same}
use Rattle.columns.specs.Columns.{OnlyColumns}
use Rattle.columns.proofs.Writes.{changed-agree}
use Rattle.columns.specs.Displaced.{Ready}

module _ {w w' : List ℕ} {h : Header} (c : OnlyColumns w w') (r : Ready w h) where
  pub within-ready : Ready w' h
  within-ready =
      record {
        settled = settled_same r.settled.holds (changed-agree (omega arith) c h.funcs r.settled.holds.few) c.size r.settled;
        room = omega (arith, c.size, r.room);
      }

  pub within-task : task_of w' h ≡ task_of w h
  within-task = task-same r.settled.holds (changed-agree (omega arith) c h.funcs r.settled.holds.few)

module _ {w : List ℕ} {h : Header} {f : ℕ} (r : Ready w h) (k : f < h.funcs) where
  -- what a point calls is a later function
  pub callee-in : (p g : ℕ) → p < size_at w f → called (point_at w (base_at w f + p)) ≡ some g → (f < g) × (g < h.funcs)
  callee-in p g l e =
      let c = callee-later r.settled.formed.linked f p g (rw (count-is w h) k) (rw (size_is w h f k) l) (rw (point-is w h f k p l) e) in
      (c.0, rw (count-is w h) at c.1)
