-- One function a turn.
use native.Mathlib.Omega.{arith}
use mathlib.Core.Path.{◌≡◌}
use Rattle.report.specs.Report.{func_part}
use Rattle.report.proofs.Laws.{none-added, next-added, next-has-room, next-sum}
use Rattle.report.proofs.put_funcs.Goals as goal

pub loop-f-init : goal.loop-f-init
loop-f-init g c =
    let s = c.args.sheet in
    none-added g.met.S.Sink.laws (func_part s.price s.work.now s.header) _ (omega (arith, c.requires.bytes))

pub put_func-cost-requires : goal.put_func-cost-requires
put_func-cost-requires g c =
    let s = c.args.sheet in
    let l = c.loop-f in (
      omega arith,
      next-has-room g.met.S.Sink.laws (func_part s.price s.work.now s.header) l.f s.header.funcs (omega arith) c.requires l.invariant,
    )

pub overflow_add-total : goal.overflow_add-total
overflow_add-total g c =
    let s = c.args.sheet in
    let l = c.loop-f in
    omega (
      arith,
      next-sum g.met.S.Sink.laws (func_part s.price s.work.now s.header) l.f s.header.funcs (omega arith) c.requires l.invariant
          c.put_func-cost.ensures,
    )

pub loop-f-preserved : goal.loop-f-preserved
loop-f-preserved g c =
    let s = c.args.sheet in
    next-added g.met.S.Sink.laws (func_part s.price s.work.now s.header) c.loop-f.f (omega arith) c.loop-f.invariant c.put_func-cost.ensures

pub returns : goal.returns
returns g c =
    let e : c.loop-f.f ≡ c.args.sheet.header.funcs = omega arith in
    rw e at c.loop-f.invariant
