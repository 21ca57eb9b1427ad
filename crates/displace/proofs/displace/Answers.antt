-- D, d and the level of a function from those of the functions behind it.
use Rattle.std.proofs.Common.{rules}
use native.Mathlib.Omega.{arith}
use mathlib.Core.Path.{◌≡◌}
use Rattle.columns.proofs.Limits.{longest-low}
use Rattle.displace.specs.Range.{most_of}
use Rattle.displace.proofs.Displaces.{ordered-calls, longest-here, written-room, ordered-more}
use Rattle.displace.proofs.displace.Goals as goal

pub callee_range-range-requires : goal.callee_range-range-requires
callee_range-range-requires c =
    let a = c.requires in
    ordered-calls a.0 a.1 c.span_at-s.ensures

pub overflow_add-work : goal.overflow_add-work
overflow_add-work c =
    let a = c.requires in
    let e = longest-here a.0 a.1 c.span_at-s.ensures _ c.callee_range-range.ensures in
    let m : c.map_or.result ≡ most_of c.callee_range-range.result = search rules in
    omega (arith, e, m, longest-low a.0.displacing.ready.settled.formed.shaped c.args.f)

pub insert-requires : goal.insert-requires
insert-requires c =
    let a = c.requires in
    let e = longest-here a.0 a.1 c.span_at-s.ensures _ c.callee_range-range.ensures in
    let m : c.map_or.result ≡ most_of c.callee_range-range.result = search rules in
    written-room a.0 a.1 _ _ (rw m e) c.shortest_of-d.ensures

pub returns : goal.returns
returns c =
    let a = c.requires in
    let e = longest-here a.0 a.1 c.span_at-s.ensures _ c.callee_range-range.ensures in
    let m : c.map_or.result ≡ most_of c.callee_range-range.result = search rules in
    ordered-more a.0 a.1 _ _ (rw m e) c.shortest_of-d.ensures c.insert.ensures
