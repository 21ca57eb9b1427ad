-- The lines are written from the first byte on.
use borrow.Author.Rules.{rules}
use Rattle.print.proofs.Laws.{wrote-over}
use Rattle.dearest.specs.Ranking.{list_text}
use Rattle.dearest.proofs.put_list.Goals as goal

pub returns : goal.returns
returns c = wrote-over (list_text c.args.ranks.now) c.args.output.now (search rules)
