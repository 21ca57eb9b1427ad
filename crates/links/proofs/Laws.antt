-- Laws of the rows 7 to 10: the points of a function in the tables, the row of a point, and the searches at their start.
use Rattle.std.specs.Prelude.{Result, Ok}
use Prim.Native.Nat.{ℕ, suc, ◌+◌, ◌-◌, ◌<◌}
use native.Mathlib.Nat.{sub-zero}
use native.Mathlib.Omega.{arith}
use native.Mathlib.Decide.{dec_lt}
use native.Mathlib.Numerals.{add-one}
use mathlib.Core.Path.{◌≡◌, refl, ap, sym, ◌∙◌}
use mathlib.Core.Bool.{Bool, true, false, not, ◌&&◌, ◌||◌, or-false, or-true, and-true}
use mathlib.Core.List.{List}
use lib.Dec.{ltb}
use borrow.Author.Tests.{lt-ltb, le-ltb}
use Rattle.model.specs.declared.Point.{Point}
use Rattle.model.specs.declared.Point.TheVariants.{Load, Store, Call, Ensure, Goto, Either, Return}
use Rattle.model.specs.declared.Row.{Row}
use Rattle.model.specs.declared.Row.TheVariants.{Callee, Pairing, Target, LastPoint}
use Rattle.model.specs.Rows.{refuse, row_verdict}
use Rattle.model.specs.Basic.{unless, ◌or_else◌, first_of, up_to}
use Rattle.model.specs.Task.{Func, Task, size, count, func, point, point_line}
use Rattle.model.specs.Walk.{called, ensured, present, is_ensure}
use Rattle.model.specs.Refusal.{callee_fits, ensure_fits, paired, targets_fit, may_end, end_fits, link_row, first_point, link_rows}
use Rattle.tables.specs.declared.Header.{Header}
use Rattle.tables.specs.declared.Span.{Span}
use Rattle.tables.specs.Tables.{is_access, point_at, span_at, func_in, task_of, line_in}
use Rattle.tables.specs.Valid.{Holds}
use Rattle.tables.proofs.Laws.{length-points, func-is, point-there, count-is, line-is}
use Rattle.theory.proofs.Search.{Rest}
use Rattle.links.specs.Links.{refuse_unless, kind_row, on_line, func_row}

-- the four tests, one after the other
abbrev four : Bool → Bool → Bool → Bool → Result Unit Row
four a b c d = refuse_unless a Callee (refuse_unless b Pairing (refuse_unless c Target (refuse_unless d LastPoint (Ok tt))))

four_is : (a b c d : Bool) (n : ℕ) → on_line n (four a b c d)
    ≡ row_verdict (unless a (refuse Callee n) or_else unless b (refuse Pairing n) or_else unless c (refuse Target n) or_else unless d (refuse LastPoint n))
four_is false b c d n = refl
four_is true false c d n = refl
four_is true true false d n = refl
four_is true true true false n = refl
four_is true true true true n = refl

-- the row of a point is that of its kind
kind_row_lem : (t : Task) (f p : ℕ)
    → on_line (point_line t f p) (kind_row (count t) f (func t f) p (ltb (p + 1) (size (func t f))) (point (func t f) p)) ≡ row_verdict (link_row t f p)
unfolding link_row
kind_row_lem t f p =
    ap (on_line (point_line t f p)) (go (point (func t f) p))
    ∙ four_is
    (callee_fits t f (called (point (func t f) p)))
    (paired (func t f) p)
    (targets_fit (func t f) (point (func t f) p))
    (end_fits (func t f) p)
    (point_line t f p)
  where
    go : (x : Point) → kind_row (count t) f (func t f) p (ltb (p + 1) (size (func t f))) x
        ≡ four
        (callee_fits t f (called x))
        ((not (present (called x)) || is_ensure (func t f) (suc p)) && ensure_fits (func t f) p (ensured x))
        (targets_fit (func t f) x)
        (ltb (suc p) (size (func t f)) || may_end x)
    go (Load o) = rw (add-one p, or-false)
    go (Store o) = rw (add-one p, or-false)
    go (Call g) = rw (add-one p, and-true, or-false)
    go (Ensure k) = rw (add-one p, or-false)
    go (Goto q) = rw or-true
    go (Either q r) = rw or-true
    go Return = rw or-true

-- function f of the task, which lies in the tables as s says
module _ {w : List ℕ} {h : Header} (k : Holds w h) (f : ℕ) (l : f < h.funcs) (s : Span) (e : s ≡ span_at w f) where
  same : func_in w s ≡ func (task_of w h) f
  same = ap (func_in w) e ∙ sym (func-is w h f l)

  points : s.size ≡ size (func (task_of w h) f)
  points = sym (length-points w s.base s.size) ∙ ap size same

  -- the search for its first row, at the start
  pub func-start : Rest (func_row (task_of w h) f) (link_row (task_of w h) f) 0 s.size
  func-start = ap (λ (n : ℕ). first_of (link_row (task_of w h) f) (up_to n)) (sym points ∙ sym (sub-zero s.size))

  module _ (p : ℕ) (i : p < s.size) where
    there : point_at w (s.base + p) ≡ point (func (task_of w h) f) p
    there = sym (point-there w s.base s.size p i) ∙ ap (λ (x : Func). point x p) same

    line : line_in f s.base p ≡ point_line (task_of w h) f p
    line =
        ap (λ (x : Span). line_in f x.base p) e ∙ ap (λ (n : ℕ). n + 1 + p) (sym (line-is h k.stacked f l))

    next : ltb p (s.size - 1) ≡ ltb (p + 1) s.size
    next =
        elim (dec_lt (p + 1) s.size) [
          | yes j ↦ lt-ltb p (s.size - 1) (omega arith) ∙ sym (lt-ltb (p + 1) s.size j)
          | no j ↦ le-ltb p (s.size - 1) (omega arith) ∙ sym (le-ltb (p + 1) s.size (omega arith))
        ]

    -- the row of point p, from what the code finds: the point x, and its line n
    pub row_is : {x : Point} → x ≡ point_at w (s.base + p) → {n : ℕ} → n ≡ line_in f s.base p
        → on_line n (kind_row h.funcs f (func_in w s) p (ltb p (s.size - 1)) x) ≡ row_verdict (link_row (task_of w h) f p)
    row_is a b =
        (λ j. on_line ((b ∙ line) j) (kind_row (sym (count-is w h) j) f (same j) p ((next ∙ ap (ltb (p + 1)) points) j) ((a ∙ there) j)))
        ∙ kind_row_lem (task_of w h) f p

    -- before the last point a load or a store passes
    pub row-access : {b : Bool} → b ≡ is_access (point_at w (s.base + p)) → b ≡ true → p < s.size - 1 → Ok tt ≡ row_verdict (link_row (task_of w h) f p)
    row-access a d j = go (point_at w (s.base + p)) (sym a ∙ d) ∙ row_is refl refl
      where
        go : (x : Point) → is_access x ≡ true
            → Ok tt ≡ on_line (line_in f s.base p) (kind_row h.funcs f (func_in w s) p (ltb p (s.size - 1)) x)
        go (Load o) c = rw (lt-ltb p (s.size - 1) j)
        go (Store o) c = rw (lt-ltb p (s.size - 1) j)
        go (Call g) c = cc
        go (Ensure k) c = cc
        go (Goto q) c = cc
        go (Either q r) c = cc
        go Return c = cc

-- the search through the functions, at its start
pub links-start : {w : List ℕ} {h : Header} → Holds w h → Rest (link_rows (task_of w h)) (func_row (task_of w h)) 0 h.funcs
unfolding first_point
links-start {w} {h} k =
    ap (λ (n : ℕ). first_of (func_row (task_of w h)) (up_to n)) (count-is w h ∙ sym (sub-zero h.funcs))
