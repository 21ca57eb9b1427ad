-- The opening line and its tests in the order of the definition, then the points.
use native.Mathlib.Omega.{arith}
use Rattle.tables.proofs.Valid.{kept_same}
use Rattle.reader.proofs.Laws.{next-line, line-stops, line-goes, func-none, func-large, func-many, func-goes, func-from}
use Rattle.reader.proofs.read_func.Goals as goal

pub returns-in_default : goal.returns-in_default
returns-in_default c = rw c.refusal.ensures (func-none _ _ _ _ c.in_default.ensures c.requires.2, kept_same _ _)

pub returns-then-h-k : goal.returns-then-h-k
returns-then-h-k c =
    rw c.refusal-then-h-k.ensures
    (line-stops (next-line _ _ _ _ c.requires.0.within c.in-Some.ensures) _ _ _ (func-large _ c.args.h _ _ c.if-h-k.true), kept_same _ _)

pub returns-then-h-ge-FUNCS : goal.returns-then-h-ge-FUNCS
returns-then-h-ge-FUNCS c =
    rw c.refusal-then-h-ge-FUNCS.ensures
    (line-stops (next-line _ _ _ _ c.requires.0.within c.in-Some.ensures) _ _ _ (func-many _ c.args.h _ _ c.if-h-k.false (omega arith)), kept_same _ _)

pub returns : goal.returns
returns c =
    let o = next-line _ _ _ _ c.requires.0.within c.in-Some.ensures in
    let e = line-goes o _ _ _ (func-goes _ _ _ _ c.if-h-k.false (omega arith)) in
    func-from c.read_points.result _ _ _ _ _ _ _ e (omega arith) c.read_points.ensures
