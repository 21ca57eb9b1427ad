-- Nothing, or the stack line and its test, then the functions.
use mathlib.Core.Path.{refl}
use native.Mathlib.Omega.{arith}
use Rattle.tables.specs.Tables.{Stacked}
use Rattle.tables.proofs.Valid.{kept_same}
use Rattle.reader.proofs.Laws.{next-line, text-none, stack-none, stack_off, stack-on, read-from}
use Rattle.reader.proofs.read_text.Goals as goal

-- no byte
pub returns-then-b-eq0 : goal.returns-then-b-eq0
returns-then-b-eq0 c =
    let p = c.requires in
    (text-none _ _ _ _ (omega arith) refl refl, kept_same _ _, record { room = p.0; stacked = Stacked.none; few = omega arith; all = omega arith })

pub returns-in_default : goal.returns-in_default
returns-in_default c = rw c.refusal.ensures (stack-none _ c.in_default.ensures (omega arith), kept_same _ _)

pub returns-then-s-lt1 : goal.returns-then-s-lt1
returns-then-s-lt1 c =
    rw c.refusal-then-s-lt1.ensures (stack_off _ _ _ (next-line _ 0 _ _ (omega arith) c.in-Some.ensures) (omega arith), kept_same _ _)

pub returns : goal.returns
returns c =
    read-from c.read_funcs.result _ _ _ _
    (stack-on _ _ _ (next-line _ 0 _ _ (omega arith) c.in-Some.ensures) (omega arith) (omega arith)) c.read_funcs.ensures
