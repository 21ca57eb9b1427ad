-- `scan::starts` meets its contract. The loop's invariant: `all` is the answer for the first i bytes of the word.
use Rattle.std.proofs.Common.{◌≡◌, take}
use Rattle.model.specs.Text as Text
use Rattle.scan.proofs.starts.Given as goal

abbrev pub invariant-loop-i : goal.invariant-loop-i
invariant-loop-i l = l.all ≡ Text.starts (take l.i l.w) l.s
