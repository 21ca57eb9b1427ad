-- The running frame is put aside, and the callee is entered.
use Prim.Native.Nat.{◌-◌}
use mathlib.Core.Path.{refl}
use native.Mathlib.Omega.{arith}
use Rattle.steps.proofs.Laws.{caller-stays}
use Rattle.moves.proofs.Laws.{enters-does, callee-frame, callee-spill, callee-few}
use Rattle.moves.proofs.call_step.Goals as goal

pub returns : goal.returns
returns c =
    let p = c.requires in (
      λ v.
          enters-does _ c.args.h c.args.x _ _ _ _ _ _ _ v p.some p.few (omega (arith, p.bounded.readable.room)) refl (callee-frame p refl c.span_at-callee.ensures)
          (callee-spill p refl) c.moves_price-cost.ensures c.added.ensures c.added-2.ensures c.put_caller.ensures
          c.reserve-moved.ensures,
      caller-stays _ (c.args.x.depth - 1) _ _ (omega (arith, p.some, p.few)) _ c.put_caller.ensures,
    )

pub reserve-moved-requires : goal.reserve-moved-requires
reserve-moved-requires c =
    let p = c.requires in
    let e = callee-frame p refl c.span_at-callee.ensures in
    (p.on, p.good, omega (arith, e, p.room), omega (arith, e, p.fits))

pub moves_price-cost-requires : goal.moves_price-cost-requires
moves_price-cost-requires c =
    let p = c.requires in (
      p.bounded.readable.small,
      callee-few p refl c.span_at-callee.ensures c.reserve-moved.ensures.blocks,
      omega arith,
    )
