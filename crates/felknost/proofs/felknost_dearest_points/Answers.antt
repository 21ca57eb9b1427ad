-- Nothing happens, or the points are listed and the result is written.
use native.Mathlib.Omega.{arith}
use Rattle.std.proofs.Common.{rules, ◌≡◌, ◌∙◌, [], ◌∷◌}
use Rattle.model.specs.Rows.{verdict_numbers}
use Rattle.model.specs.Services.{AfterWrite, written_verdict, over, result_numbers, write_left}
use Rattle.felknost.proofs.Laws.{too_few, enough, bytes-are}
use Rattle.felknost.proofs.felknost_dearest_points.Goals as goal

pub returns-then-res-lt-WRITE : goal.returns-then-res-lt-WRITE
returns-then-res-lt-WRITE c = too_few _ _ _ _ (omega (arith, c.if-res-lt-WRITE.true))

pub returns : goal.returns
returns c =
    let r = c.dearest_points-list.result in
    let v : c.map.result ≡ written_verdict r = search rules in
    let n = bytes-are r c.unwrap_or.ensures in
    enough (λ (a : AfterWrite). result_numbers a.result) write_left _ _ c.dearest_points-list.ensures.left (omega (arith, c.if-res-lt-WRITE.false))
    (c.put_numbers.ensures ∙ (λ i. over (verdict_numbers (v i) (n i ∷ [])) c.args.res.now))
