-- 16, 17 and 18 refuse, or a task without a stack has finished, or the figures are worked out; then 19 refuses, or the events are run.
use mathlib.Core.Path.{refl, ◌∙◌}
use native.Mathlib.Omega.{arith}
use Rattle.std.proofs.lemmas.Result.{err_from_is_err_and}
use Rattle.model.specs.Limits.{work_length}
use Rattle.tables.proofs.Laws.{count-is}
use Rattle.bounds.proofs.Laws.{only-task, only_kept}
use Rattle.serving.proofs.Laws.{cleared-same}
use Rattle.running.proofs.Events.{unfit, all_finished, too-little, all-run, first-room, fits, serves-own}
use Rattle.running.proofs.run_task.Goals as goal

pub returns-in_err-buffer_row : goal.returns-in_err-buffer_row
returns-in_err-buffer_row c =
    let r = c.from_residual-in_err-buffer_row in
    let p = err_from_is_err_and r.result r.ensures.1 in
    rw (c.in_ok-h.was, p.1, p.2) (unfit _ _ _ _ refl (count-is _ c.in_ok-h.h) _ _ _ _ _ c.in_err-buffer_row.ensures)

pub returns-then-h-eq0 : goal.returns-then-h-eq0
returns-then-h-eq0 c =
    rw c.in_ok-h.was
    (all_finished _ _ _ _ refl (count-is _ c.in_ok-h.h) _ _ _ _ _ c.in_ok-buffer_row.ensures (omega (arith, c.if-h-eq0.true)) c.finished.ensures)

pub returns-then-memory-room : goal.returns-then-memory-room
returns-then-memory-room c =
    let f = c.figure_task.ensures in
    let p = rw c.in_ok-h.was at c.requires in
    let s = cleared-same (omega arith) p.1 f.2 in
    rw c.in_ok-h.was
    (too-little _ _ _ _ refl (count-is _ c.in_ok-h.h) _ _ _ _ c.in_ok-buffer_row.ensures (first-room _ _ _ c.func-room.ensures f.1) s
    (omega (arith, c.if-memory-room.true)))

pub run_events-requires : goal.run_events-requires
run_events-requires c =
    let b = c.bound_task.ensures in
    fits _ c.figure_task.ensures.0 b.0 b.1 (omega (arith, c.if-h-eq0.false)) _ _ _ _ c.in_ok-buffer_row.ensures c.func-room.ensures
    (omega (arith, c.if-memory-room.false))

pub returns : goal.returns
returns c =
    let f = c.figure_task.ensures in
    let b = c.bound_task.ensures in
    let r = c.run_events.ensures in
    let p = (rw c.in_ok-h.was at c.requires).1 in
    let s = cleared-same (omega arith) p f.2 in
    let u = cleared-same {asked = work_length} (omega arith) (omega (arith, p, f.2.size)) (only_kept b.1) in
    let d = cleared-same {asked = work_length} (omega arith) (omega (arith, p, f.2.size, b.1.size)) r.kept in
    rw c.in_ok-h.was
    (all-run _ _ _ _ refl (count-is _ c.in_ok-h.h) _ _ _ _ c.in_ok-buffer_row.ensures (first-room _ _ _ c.func-room.ensures f.1) (u ∙ s)
    (only-task f.0.readable b.1 ∙ f.1) (omega (arith, c.if-memory-room.false)) (serves-own _ f.0 b.0 b.1 r) d)
