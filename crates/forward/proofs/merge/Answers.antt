-- Each arm is one way in which the set is merged.
use native.Mathlib.Omega.{arith}
use mathlib.Core.Path.{◌≡◌, ap}
use Rattle.std.proofs.lemmas.Bool.{false≢true}
use Rattle.tables.specs.Tables.{item}
use Rattle.worklist.specs.Worklist.{waiting, code, codes}
use Rattle.worklist.proofs.Laws.{code_at, added-ends}
use Rattle.forward.proofs.Steps.{ready-added, merged-rests, merged-grows, merged-adds, progress-same}
use Rattle.forward.proofs.merge.Goals.{in_default-via-in-Seen+else-new-old, in_default-via-in_default}
use Rattle.forward.proofs.merge.Goals as goal

pub returns-in-Waiting : goal.returns-in-Waiting
returns-in-Waiting c = (merged-grows c.union_of-new.ensures (omega (arith, code_at c.args.state.now c.args.q, ap code c.in-Waiting.is)), λ e. absurd (false≢true e))

pub returns-in-Seen : goal.returns-in-Seen
returns-in-Seen c =
    (merged-rests c.union_of-new.ensures (λ e. omega (arith, code_at c.args.state.now c.args.q, ap code c.in-Seen.is)) c.if-new-old.true, λ e. absurd (false≢true e))

pub put-requires : goal.put-requires
put-requires c = elim c.in_default.branch [
  | in_default-via-in-Seen+else-new-old w ↦
      (omega arith, ready-added c.requires (λ e. omega (arith, code_at c.args.state.now c.args.q, ap code w.in-Seen.is)))
  | in_default-via-in_default w ↦
      (omega arith, ready-added c.requires (λ e. omega (arith, code_at c.args.state.now c.args.q, ap code w.in_default.is)))
]

pub returns-in_default : goal.returns-in_default
returns-in_default c =
    let u = c.union_of-new in
    elim c.in_default.branch [
      | in_default-via-in-Seen+else-new-old w ↦
          let s = ap code w.in-Seen.is in
          let k : item (codes c.args.state.now) c.args.q ≡ waiting → ⊥ = λ e. omega (arith, code_at c.args.state.now c.args.q, s) in (
            merged-adds u.ensures (omega (arith, u.type_inv)) (progress-same c.put.ensures.0) k (λ k. w.if-new-old.false),
            λ e. rw c.put.ensures.0 (added-ends (ready-added c.requires k)),
          )
      | in_default-via-in_default w ↦
          let s = ap code w.in_default.is in
          let k : item (codes c.args.state.now) c.args.q ≡ waiting → ⊥ = λ e. omega (arith, code_at c.args.state.now c.args.q, s) in (
            merged-adds u.ensures (omega (arith, u.type_inv)) (progress-same c.put.ensures.0) k (λ k. absurd (k (omega (arith, code_at c.args.state.now c.args.q, s)))),
            λ e. rw c.put.ensures.0 (added-ends (ready-added c.requires k)),
          )
    ]
