-- `scan::number` meets its contract. The loop's invariant: the first i bytes are digits, and v is their value.
use Rattle.std.proofs.Common.{◌≡◌, ◌+◌, ◌^◌, ◌<◌, take, drop}
use Rattle.model.specs.Text.{digits, value}
use Rattle.scan.proofs.number.Given as goal

abbrev pub invariant-loop-i : goal.invariant-loop-i
invariant-loop-i l = (l.v < 10 ^ l.i) × (digits l.s ≡ l.i + digits (drop l.i l.s)) × (l.v ≡ value 0 (take l.i l.s))
