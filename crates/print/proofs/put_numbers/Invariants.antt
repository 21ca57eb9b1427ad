-- The loop's invariant: the numbers so far are put.
use lib.ListN.{take}
use Rattle.print.specs.Print.{spaced}
use Rattle.print.proofs.put_numbers.Given as goal

abbrev pub invariant-loop-n : goal.invariant-loop-n
invariant-loop-n g l = g.S.Sink.Puts (spaced (take l.n-index l.numbers)) l.initial.out l.out
