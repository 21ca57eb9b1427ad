-- The line is put into a count, which begins at 0. It is short, so the count has room.
use native.Mathlib.Omega.{arith}
use Rattle.print.proofs.Laws.{line-most}
use Rattle.print.proofs.line_length.Goals as goal

pub put_line-requires : goal.put_line-requires
put_line-requires c =
    let a = c.args in
    omega (arith, line-most a.word.now a.numbers.now (λ k. (c.type_inv.numbers k).fits))

pub returns : goal.returns
returns c =
    let a = c.args in
    omega (arith, c.put_line.ensures.count, line-most a.word.now a.numbers.now (λ k. (c.type_inv.numbers k).fits))
