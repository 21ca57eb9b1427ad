-- What the first line of a text is: the text is what follows a line feed of a task text, or the whole of it.
use Rattle.std.specs.Prelude.{ℕ, ◌≤◌, Bool, true, false, List, [], ◌∷◌, ◌≡◌, length, drop, Option, Some, None}
use Rattle.model.specs.Text.{lines_of}
use Rattle.model.specs.declared.Line.{Line}
use Rattle.model.specs.declared.Line.TheVariants.{Stack, Func, At, Close, Malformed}
use Rattle.scan.specs.Answers.{Num}
use Rattle.line.specs.declared.Inside.{Inside}
use Rattle.line.specs.declared.Inside.TheVariants as inside

-- the first line of s is l, and takes k bytes with its line feed
pub record First (s : List ℕ) (l : Line) (k : ℕ) : Type 0 where
  pub some : 1 ≤ k
  pub within : k ≤ length s
  pub lines : lines_of s ≡ l ∷ lines_of (drop k s)

-- a test that answers a for a line that opens a text, b for one that opens a function, and c for one inside a function
abbrev pub test_of : Bool → Bool → Bool → Line → Bool
test_of a b c (Stack n) = a
test_of a b c (Func n) = b
test_of a b c (At x) = c
test_of a b c Close = c
test_of a b c Malformed = false

abbrev pub is_stack : Line → Bool
is_stack = test_of true false false

abbrev pub is_func : Line → Bool
is_func = test_of false true false

abbrev pub is_inside : Line → Bool
is_inside = test_of false false true

-- the first of these lines is such a line
abbrev pub first_is : (Line → Bool) → List Line → Bool
first_is test [] = false
first_is test (l ∷ ls) = test l

-- what each reader says of the text s

abbrev pub NumAs : (ℕ → Line) → (Line → Bool) → Num → List ℕ → Type 0
NumAs f test (Some x) s = First s (f x.0) x.1
NumAs f test None s = first_is test (lines_of s) ≡ false

abbrev pub StackAs : Num → List ℕ → Type 0
StackAs = NumAs Stack is_stack

abbrev pub FuncAs : Num → List ℕ → Type 0
FuncAs = NumAs Func is_func

abbrev pub InsideAs : Option Inside → List ℕ → Type 0
InsideAs (Some (inside.Point x k)) s = First s (At x) k
InsideAs (Some inside.Close) s = First s Close 2
InsideAs None s = first_is is_inside (lines_of s) ≡ false
