-- Each arm is one clause of takes.
use native.Mathlib.Omega.{arith}
use Rattle.bits.proofs.Laws.{marks-low, marks-not}
use Rattle.effects.proofs.Laws.{marks-if, all-if}
use Rattle.effects.proofs.kills_of.Goals as goal

pub returns-in-CallLevels : goal.returns-in-CallLevels
returns-in-CallLevels c =
    rw (c.in-CallLevels.is, c.only_if-in-CallLevels.ensures) (λ x k d. marks-if d.calls (marks-low c.low_bits.ensures))

pub returns-in-Occupied : goal.returns-in-Occupied
returns-in-Occupied c =
    rw (c.in-Occupied.is, c.only_if-in-Occupied.ensures)
    (λ x k d. marks-if d.calls (marks-not (omega arith) (marks-low c.low_bits-in-Occupied.ensures)))

pub returns-in-Live : goal.returns-in-Live
returns-in-Live c = rw c.in-Live.is (λ x k d. d.stores)

pub returns-in-Touched : goal.returns-in-Touched
returns-in-Touched c = rw (c.in-Touched.is, c.only_if.ensures) (λ x k d. all-if d.ensures)

pub returns-in-FirstEnsure : goal.returns-in-FirstEnsure
returns-in-FirstEnsure c = rw (c.in-FirstEnsure.is, c.only_if-in-FirstEnsure.ensures) (λ x k d. all-if d.ensures)
