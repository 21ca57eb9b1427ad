-- The patterns of a line, and the line that a text begins with by them, with the bytes that the line takes.
use Rattle.std.specs.Prelude.{ℕ, ◌+◌, Bool, true, false, List, [], ◌∷◌, ◌++◌, length, Some, None}
use Rattle.std.specs.Prelude as std
use Rattle.std.proofs.Math.Option.{Option, none, some}
use Rattle.model.specs.Basic.{first_of}
use Rattle.model.specs.Text.{bytes, starts}
use Rattle.model.specs.declared.Point.{Point}
use Rattle.model.specs.declared.Point.TheVariants as point
use Rattle.model.specs.declared.Line.{Line}
use Rattle.model.specs.declared.Line.TheVariants.{Stack, Func, At, Close}
use Rattle.scan.specs.Answers.{Num, Pair, scan_one, scan_two}

-- the words of a line before its line feed, with none, one or two numbers between them, and the line that they make
pub data Pattern : Type 0 where
  fixed : List ℕ → Line → Pattern
  one : List ℕ → List ℕ → (ℕ → Line) → Pattern
  two : List ℕ → List ℕ → List ℕ → (ℕ → ℕ → Line) → Pattern

-- a line, and how many bytes it takes with its line feed
abbrev pub Parse : Type 0
Parse = Option (Line × ℕ)

abbrev pub parse_fixed : Line → ℕ → Bool → Parse
parse_fixed l k true = some (l, k)
parse_fixed l k false = none

abbrev pub parse_one : (ℕ → Line) → Num → Parse
parse_one f (Some x) = some (f x.0, x.1)
parse_one f None = none

abbrev pub parse_two : (ℕ → ℕ → Line) → Pair → Parse
parse_two f (Some x) = some (f x.0 x.1, x.2)
parse_two f None = none

-- the line l, its line feed and the text t
abbrev pub ◌↵◌ : List ℕ → List ℕ → List ℕ
l ↵ t = l ++ (10 ∷ t)

infixr 6 ◌↵◌
-- the line of the pattern that s begins with
abbrev pub parse : Pattern → List ℕ → Parse
parse (fixed w l) s = parse_fixed l (length w + 1) (starts (w ↵ []) s)
parse (one w e f) s = parse_one f (scan_one w (e ↵ []) s)
parse (two w m e f) s = parse_two f (scan_two w m (e ↵ []) s)

-- the same by the first of the patterns that fits
abbrev pub parse_by : List Pattern → List ℕ → Parse
parse_by ps s = first_of (λ p. parse p s) ps

-- the point line of one number, whose opening word is w
abbrev pub numbered : List ℕ → (ℕ → Point) → Pattern
numbered w f = one w (bytes ")") (λ n. At (f n))

abbrev pub either : Pattern
either = two (bytes "  (either ") (bytes " ") (bytes ")") (λ p q. At (point.Either p q))

abbrev pub return : Pattern
return = fixed (bytes "  (return)") (At point.Return)

-- the lines whose letter is an e
abbrev pub ensure_or_either : List Pattern
ensure_or_either = numbered (bytes "  (ensure ") point.Ensure ∷ either ∷ []

-- the patterns of point lines, and of all lines, in the order of model
abbrev pub points : List Pattern
points =
    numbered (bytes "  (load ") point.Load ∷ numbered (bytes "  (store ") point.Store ∷ numbered (bytes "  (call ") point.Call
    ∷ numbered (bytes "  (ensure ") point.Ensure ∷ numbered (bytes "  (goto ") point.Goto ∷ either ∷ return ∷ []

abbrev pub stack : Pattern
stack = one (bytes "(stack ") (bytes ")") Stack

abbrev pub func : Pattern
func = one (bytes "(func ") (bytes "") Func

abbrev pub close : Pattern
close = fixed (bytes ")") Close

abbrev pub lines : List Pattern
lines = stack ∷ func ∷ close ∷ points

-- a point, and how many bytes its line takes
abbrev pub Parsed : Type 0
Parsed = std.Option (Point × ℕ)

-- the line that an answer of a reader of point lines says
abbrev pub parsed_as : Parsed → Parse
parsed_as (Some x) = some (At x.0, x.1)
parsed_as None = none
