-- A point does at most one thing: the rest is that of the default.
use mathlib.Core.Logic.{⊎_elim}
use mathlib.Core.Path.{refl}
use Rattle.bits.proofs.Laws.{marks-single}
use Rattle.effects.proofs.Laws.{marks-empty}
use Rattle.effects.proofs.effect_of.Goals as goal

pub returns-in-Load : goal.returns-in-Load
returns-in-Load c =
    let d = c.default.ensures in
    rw c.in-Load.is (record { loads = marks-single c.single_bit.ensures; stores = marks-empty d.1.0; calls = d.1.1.0; ensures = d.1.1.1.0; returns = d.1.1.1.1 })

pub returns-in-Store : goal.returns-in-Store
returns-in-Store c =
    let d = c.default-in-Store.ensures in
    rw c.in-Store.is (record { loads = marks-empty d.0; stores = marks-single c.single_bit-in-Store.ensures; calls = d.1.1.0; ensures = d.1.1.1.0; returns = d.1.1.1.1 })

pub returns-in-Call : goal.returns-in-Call
returns-in-Call c =
    let d = c.default-in-Call.ensures in
    rw c.in-Call.is (record { loads = marks-empty d.0; stores = marks-empty d.1.0; calls = refl; ensures = d.1.1.1.0; returns = d.1.1.1.1 })

pub returns-in-Ensure : goal.returns-in-Ensure
returns-in-Ensure c =
    let d = c.default-in-Ensure.ensures in
    rw c.in-Ensure.is (record { loads = marks-empty d.0; stores = marks-empty d.1.0; calls = d.1.1.0; ensures = refl; returns = d.1.1.1.1 })

pub returns-in-Return : goal.returns-in-Return
returns-in-Return c =
    let d = c.default-in-Return.ensures in
    rw c.in-Return.is (record { loads = marks-empty d.0; stores = marks-empty d.1.0; calls = d.1.1.0; ensures = d.1.1.1.0; returns = refl })

pub returns-in-Goto : goal.returns-in-Goto
returns-in-Goto c =
    let d = c.default-in-Goto.ensures in
    ⊎_elim (λ e. rw e.1 (record { loads = marks-empty d.0; stores = marks-empty d.1.0; calls = d.1.1.0; ensures = d.1.1.1.0; returns = d.1.1.1.1 })) (λ e. rw e.2 (record { loads = marks-empty d.0; stores = marks-empty d.1.0; calls = d.1.1.0; ensures = d.1.1.1.0; returns = d.1.1.1.1 })) c.in-Goto.is
