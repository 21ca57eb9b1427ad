-- Function 0 is entered.
use Rattle.turns.proofs.Laws.{start-room, start_is, number-of}
use Rattle.turns.proofs.start.Goals as goal

pub returns : goal.returns
returns c =
    start_is c.requires.0 c.requires.1 _ _ _ c.fresh.result c.evicting-machine.result _ c.span_at-s.ensures (number-of c.args.eviction)
    c.fresh.ensures c.evicting-machine.ensures

pub fresh-requires : goal.fresh-requires
fresh-requires c = start-room c.requires.0 c.requires.1 _ _ c.span_at-s.ensures c.requires.2
