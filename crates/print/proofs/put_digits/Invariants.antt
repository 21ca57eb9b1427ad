-- The loop's invariant: before the digits that are written belong the last ones of the rest.
use mathlib.Core.Path.{◌≡◌}
use mathlib.Core.List.{◌++◌}
use lib.ListN.{length, drop}
use Rattle.print.proofs.LastDigits.{last_digits}
use Rattle.print.proofs.put_digits.Given as goal

abbrev pub invariant-loop-i : goal.invariant-loop-i
invariant-loop-i l = last_digits l.i l.rest ++ drop l.i l.out ≡ last_digits (length l.initial.out) l.n
