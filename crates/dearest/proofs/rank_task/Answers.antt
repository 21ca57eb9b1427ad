-- No rank is taken in yet, and then the points of all functions.
use mathlib.Core.Path.{ap, ◌∙◌}
use Rattle.ranks.specs.Ranks.{best}
use Rattle.dearest.specs.Ranking.{ranks_in}
use Rattle.dearest.proofs.Laws.{listing}
use Rattle.dearest.proofs.rank_task.Goals as goal

pub returns : goal.returns
returns c =
    let s = c.args.sheet in
    listing _ s.readable (c.rank_funcs.ensures ∙ ap (λ l. best l (ranks_in s.price s.work.now s.header)) c.none-ranks.ensures)
