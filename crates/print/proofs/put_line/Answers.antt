-- The word, the numbers and the end of the line.
use native.Mathlib.Omega.{arith}
use Rattle.print.proofs.Laws.{length-line}
use Rattle.print.proofs.Sinks.{line-put}
use Rattle.print.proofs.put_line.Goals as goal

pub put-requires : goal.put-requires
put-requires g c = omega (arith, c.requires, length-line c.args.word.now c.args.numbers.now)

pub put_numbers-requires : goal.put_numbers-requires
put_numbers-requires g c =
    let laws = g.met.S.Sink.laws in
    omega (arith, c.requires, length-line c.args.word.now c.args.numbers.now, laws.ends _ _ _ c.put.ensures, laws.rooms _ _ _ c.put.ensures)

pub put-requires-2 : goal.put-requires-2
put-requires-2 g c =
    let laws = g.met.S.Sink.laws in
    omega (
      arith,
      c.requires,
      length-line c.args.word.now c.args.numbers.now,
      laws.ends _ _ _ c.put.ensures,
      laws.rooms _ _ _ c.put.ensures,
      laws.ends _ _ _ c.put_numbers.ensures,
      laws.rooms _ _ _ c.put_numbers.ensures,
    )

pub returns : goal.returns
returns g c =
    line-put g.met.S.Sink.laws c.args.word.now c.args.numbers.now c.put.ensures c.put_numbers.ensures c.put-2.ensures
