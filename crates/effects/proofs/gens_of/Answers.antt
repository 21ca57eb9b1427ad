-- Each arm is one clause of gives.
use Rattle.bits.proofs.Laws.{marks-low}
use Rattle.effects.proofs.Laws.{marks-if, all-if, marks-union}
use Rattle.effects.proofs.gens_of.Goals as goal

pub returns-in-Live : goal.returns-in-Live
returns-in-Live c = rw c.in-Live.is (λ x d. d.loads)

pub returns-in-Touched : goal.returns-in-Touched
returns-in-Touched c = rw (c.in-Touched.is, c.union_of.ensures) (λ x d. marks-union d.loads d.stores)

pub returns-in-CallLevels : goal.returns-in-CallLevels
returns-in-CallLevels c = rw (c.in-CallLevels.is, c.only_if.ensures) (λ x d. all-if d.returns)

pub returns-in-FirstEnsure : goal.returns-in-FirstEnsure
returns-in-FirstEnsure c = rw (c.in-FirstEnsure.is, c.only_if-in-FirstEnsure.ensures) (λ x d. marks-if d.ensures c.kept_bit.ensures)

pub returns-in-Occupied : goal.returns-in-Occupied
returns-in-Occupied c = rw (c.in-Occupied.is, c.only_if-in-Occupied.ensures) (λ x d. marks-if d.ensures (marks-low c.low_bits.ensures))
