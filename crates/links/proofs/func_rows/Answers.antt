-- The points that are left give the answer of all, and in the end only the last is left.
use native.Mathlib.Omega.{arith}
use mathlib.Core.Path.{refl, ap, ◌∙◌}
use mathlib.Core.List.{List}
use Prim.Native.Nat.{ℕ, ◌+◌}
use Rattle.std.proofs.lemmas.Result.{err_from_is_err_and}
use Rattle.tables.specs.Tables.{is_access, point_at}
use Rattle.theory.proofs.Search.{search-on, search-off, search-last, search-end}
use Rattle.links.proofs.Laws.{func-start, row-access}
use Rattle.links.proofs.func_rows.Goals as goal
use Rattle.links.proofs.func_rows.Goals.{then-not-accesses+in_ok-link_row, else-not-accesses}

-- the point was accepted, or it is a load or a store before the last point
pub loop-p-preserved : goal.loop-p-preserved
loop-p-preserved c =
    let i = c.loop-p.invariant in
    let s = c.func-func.ensures.span in
    let w = c.func-func.ensures.work in
    elim c.if-not-accesses.branch [
      | then-not-accesses+in_ok-link_row r ↦ search-on _ _ _ i r.in_ok-link_row.ensures refl (omega arith)
      | else-not-accesses r ↦
          let e = c.accesses.ensures ∙ ap (λ (l : List ℕ). is_access (point_at l (c.func-func.result.span.base + c.loop-p.p))) w in
          search-on _ _ _ i (row-access c.args.task.holds _ c.requires _ s _ (omega arith) e r.if-not-accesses.false (omega arith)) refl (omega arith)
    ]

pub returns : goal.returns
returns c =
    search-last _ _ _ c.loop-p.invariant _ c.link_row-2.ensures (omega arith) (omega arith)

pub returns-then-func-eq0 : goal.returns-then-func-eq0
returns-then-func-eq0 c = search-end _ _ _ (func-start c.args.task.holds _ c.requires _ c.func-func.ensures.span) (omega arith)

pub loop-p-init : goal.loop-p-init
loop-p-init c = func-start c.args.task.holds _ c.requires _ c.func-func.ensures.span

pub returns-in_err-link_row : goal.returns-in_err-link_row
returns-in_err-link_row c =
    let p = err_from_is_err_and c.from_residual.result c.from_residual.ensures.1 in
    rw (p.1, p.2) (search-off _ _ _ c.loop-p.invariant c.in_err-link_row.ensures refl (omega arith))
