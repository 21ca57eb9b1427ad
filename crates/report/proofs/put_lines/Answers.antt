-- The first line, those of the functions, the foot line, and the last.
use native.Mathlib.Omega.{arith}
use mathlib.Core.Path.{ap}
use lib.ListN.{length}
use Rattle.report.proofs.Laws.{report-size, foot-text, report-put}
use Rattle.report.proofs.Limits.{funcs-room}
use Rattle.report.proofs.put_lines.Goals as goal

pub put-requires : goal.put-requires
put-requires g c =
    let s = c.args.sheet in
    omega (arith, c.requires, report-size s.price s.work.now s.header)

pub put_funcs-total-requires : goal.put_funcs-total-requires
put_funcs-total-requires g c =
    let laws = g.met.S.Sink.laws in
    let room = funcs-room c.args.sheet.readable _ c.requires in
    record {
      bytes = omega (arith, room.bytes, laws.ends _ _ _ c.put.ensures, laws.rooms _ _ _ c.put.ensures);
      sum = room.sum;
    }

pub put_line-requires : goal.put_line-requires
put_line-requires g c =
    let s = c.args.sheet in
    let laws = g.met.S.Sink.laws in
    let funcs = c.put_funcs-total.ensures in
    omega (
      arith,
      c.requires,
      report-size s.price s.work.now s.header,
      ap length (foot-text s.price s.work.now s.header _ funcs.sum),
      laws.ends _ _ _ c.put.ensures,
      laws.rooms _ _ _ c.put.ensures,
      laws.ends _ _ _ funcs.put,
      laws.rooms _ _ _ funcs.put,
    )

pub put-requires-2 : goal.put-requires-2
put-requires-2 g c =
    let s = c.args.sheet in
    let laws = g.met.S.Sink.laws in
    let funcs = c.put_funcs-total.ensures in
    omega (
      arith,
      c.requires,
      report-size s.price s.work.now s.header,
      ap length (foot-text s.price s.work.now s.header _ funcs.sum),
      laws.ends _ _ _ c.put.ensures,
      laws.rooms _ _ _ c.put.ensures,
      laws.ends _ _ _ funcs.put,
      laws.rooms _ _ _ funcs.put,
      laws.ends _ _ _ c.put_line.ensures,
      laws.rooms _ _ _ c.put_line.ensures,
    )

pub returns : goal.returns
returns g c =
    let s = c.args.sheet in
    let funcs = c.put_funcs-total.ensures in
    let foot = rw (foot-text s.price s.work.now s.header _ funcs.sum) at c.put_line.ensures in
    report-put s.price s.work.now s.header g.met.S.Sink.laws c.put.ensures funcs.put foot c.put-2.ensures
