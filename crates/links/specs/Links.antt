-- 7 to 10 at a point, by the tests that the code makes.
use Rattle.std.specs.Prelude.{ℕ, ◌+◌, Bool, true, false, ◌&&◌, ltb, Result, Ok, Err}
use Rattle.std.proofs.Math.Option.{Option, some}
use Rattle.model.specs.declared.Point.{Point}
use Rattle.model.specs.declared.Point.TheVariants.{Load, Store, Call, Ensure, Goto, Either, Return}
use Rattle.model.specs.declared.Refusal.{Refusal}
use Rattle.model.specs.declared.Row.{Row}
use Rattle.model.specs.declared.Row.TheVariants.{Callee, Pairing, Target, LastPoint}
use Rattle.model.specs.Rows.{Verdict, refuse}
use Rattle.model.specs.Basic.{first_of, up_to}
use Rattle.model.specs.Task.{Func, Task, size, func}
use Rattle.model.specs.Walk.{is_ensure}
use Rattle.model.specs.Refusal.{ensure_fits, target_fits, link_row}

-- refused by this row, unless the test holds and what is tried after it decides
abbrev pub refuse_unless : Bool → Row → Result Unit Row → Result Unit Row
refuse_unless true row after = after
refuse_unless false row after = Err row

-- 7 to 10 by the kind of a point: it is point p of x, which is function f of n, and next tells whether a point comes after it
abbrev pub kind_row : ℕ → ℕ → Func → ℕ → Bool → Point → Result Unit Row
kind_row n f x p next (Load o) = refuse_unless next LastPoint (Ok tt)
kind_row n f x p next (Store o) = refuse_unless next LastPoint (Ok tt)
kind_row n f x p next (Call g) =
    refuse_unless (ltb f g && ltb g n) Callee (refuse_unless (is_ensure x (p + 1)) Pairing (refuse_unless next LastPoint (Ok tt)))
kind_row n f x p next (Ensure k) = refuse_unless (ensure_fits x p (some k)) Pairing (refuse_unless next LastPoint (Ok tt))
kind_row n f x p next (Goto q) = refuse_unless (target_fits x q) Target (Ok tt)
kind_row n f x p next (Either q r) = refuse_unless (target_fits x q && target_fits x r) Target (Ok tt)
kind_row n f x p next Return = Ok tt

-- such a row on this line
abbrev pub on_line : ℕ → Result Unit Row → Verdict
on_line line (Ok u) = Ok u
on_line line (Err row) = Err (refuse row line)

-- 7 to 10 in function f
abbrev pub func_row : Task → ℕ → Option Refusal
func_row t f = first_of (link_row t f) (up_to (size (func t f)))
