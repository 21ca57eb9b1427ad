-- The point and its line are those of the task.
use Rattle.std.proofs.Common.{◌≡◌, ◌+◌, ◌-◌, List, ℕ, rules, ap, ◌∙◌}
use lib.Dec.{ltb}
use Rattle.tables.specs.Tables.{point_at, func_in}
use Rattle.links.specs.Links.{on_line, kind_row}
use Rattle.links.proofs.Laws.{row_is}
use Rattle.links.proofs.link_row.Goals as goal

pub returns : goal.returns
returns c =
    let a = c.args in
    let s = a.func.span in
    let pre = c.requires in
    let e : c.map_err.result ≡ on_line c.line_in-place.result c.kind_row.result = search rules in
    let x = c.point-x.ensures ∙ ap (λ (l : List ℕ). point_at l (s.base + a.p)) pre.1 in
    let k =
    c.kind_row.ensures
    ∙ ap (λ (l : List ℕ). kind_row a.task.header.funcs a.f (func_in l s) a.p (ltb a.p (s.size - 1)) c.point-x.result) pre.1 in
    e ∙ (ap (on_line _) k ∙ row_is a.task.holds _ pre.0 _ pre.2 _ pre.3 x c.line_in-place.ensures)
