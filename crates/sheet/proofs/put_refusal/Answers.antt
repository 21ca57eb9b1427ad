-- The line of a refusal has its code and its place, and there is room for it.
use Rattle.std.proofs.Common.{arith, rules, List, ℕ, ◌∷◌, []}
use Rattle.model.specs.Text.{bytes}
use Rattle.model.specs.Sheet.{line_text}
use Rattle.print.proofs.Laws.{wrote-within}
use Rattle.sheet.specs.Answer.{refusal_line}
use Rattle.sheet.proofs.Laws.{line-fits}
use Rattle.sheet.proofs.put_refusal.Goals as goal

pub put_line-requires : goal.put_line-requires
unfolding refusal_line
put_line-requires c = line-fits _ _ _ _ (omega arith) (omega arith) (omega arith) (omega arith)

pub returns : goal.returns
unfolding refusal_line
returns c =
    let l : List ℕ = line_text (bytes "(refused") (c.code_of.result ∷ c.args.r.place ∷ []) in
    record {
      line = rw (← c.code_of.ensures) (search rules);
      fits = wrote-within l c.args.output.now (line-fits _ _ _ _ (omega arith) (omega arith) (omega arith) (omega arith)) (search rules);
    }
