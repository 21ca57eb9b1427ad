-- The task text: its lines, numbers and opening words, from the bytes.
use Rattle.std.specs.Prelude.{if◌then◌else◌, ℕ, suc, ◌+◌, ◌-◌, ◌*◌, Bool, true, false, not, ◌&&◌, ◌||◌, List, [], ◌∷◌, ◌++◌, length, take, drop, get_or, leb, eqb}
use Prim.Native.Char.{code}
use Prim.Native.String.{String}
use Rattle.std.proofs.Math.Option.{Option, none, some}
use Rattle.model.specs.declared.Point.TheVariants.{Load, Store, Call, Ensure, Goto, Either, Return}
use Rattle.model.specs.declared.Line.{Line}
use Rattle.model.specs.declared.Line.TheVariants.{Stack, Func, At, Close, Malformed}

-- the bytes of a quoted text
abbrev pub bytes : String → List ℕ
bytes String.[] = []
bytes (String.◌∷◌ c s) = code c ∷ bytes s

-- s begins with the word w, byte for byte
unfoldable pub starts : List ℕ → List ℕ → Bool
starts [] s = true
starts (a ∷ w) [] = false
starts (a ∷ w) (b ∷ s) = eqb a b && starts w s

-- s is the word w and nothing more
abbrev pub same : List ℕ → List ℕ → Bool
same w s = starts w s && leb (length s) (length w)

abbrev pub is_digit : ℕ → Bool
is_digit b = leb 48 b && leb b 57

-- how many digits s begins with
unfoldable pub digits : List ℕ → ℕ
digits [] = 0
digits (b ∷ s) = if is_digit b then suc (digits s) else 0

-- the value of the digits ds, read after a
unfoldable pub value : ℕ → List ℕ → ℕ
value a [] = a
value a (d ∷ ds) = value (a * 10 + (d - 48)) ds

-- s begins with a number: one to four digits, no leading zero but in 0 itself
abbrev pub is_number : List ℕ → Bool
is_number s = eqb (digits s) 1 || leb 2 (digits s) && leb (digits s) 4 && not (eqb (get_or s 0 0) 48)

-- the number that s begins with, and what follows it
abbrev pub number_of : List ℕ → ℕ
number_of s = value 0 (take (digits s) s)

abbrev pub after_number : List ℕ → List ℕ
after_number s = drop (digits s) s

-- s is a number and the word e
unfoldable pub number_then : List ℕ → List ℕ → Option ℕ
number_then e s = if is_number s && same e (after_number s) then some (number_of s) else none

-- s is the word w, a number and the word e
unfoldable pub one_number : List ℕ → List ℕ → List ℕ → Option ℕ
one_number w e s = if starts w s then number_then e (drop (length w) s) else none

-- s is a number, the word m, a number and the word e
abbrev pub with_first : ℕ → Option ℕ → Option (ℕ × ℕ)
with_first m none = none
with_first m (some n) = some (m, n)

unfoldable pub numbers_then : List ℕ → List ℕ → List ℕ → Option (ℕ × ℕ)
numbers_then m e s =
    if is_number s && starts m (after_number s)
    then with_first (number_of s) (number_then e (drop (length m) (after_number s)))
    else none

-- s is the word w, a number, the word m, a number and the word e
unfoldable pub two_numbers : List ℕ → List ℕ → List ℕ → List ℕ → Option (ℕ × ℕ)
two_numbers w m e s = if starts w s then numbers_then m e (drop (length w) s) else none

abbrev pub or_one : Option ℕ → (ℕ → Line) → Line → Line
or_one (some n) f l = f n
or_one none f l = l

abbrev pub or_two : Option (ℕ × ℕ) → (ℕ → ℕ → Line) → Line → Line
or_two (some n) f l = f n.0 n.1
or_two none f l = l

-- a point line
unfoldable pub point_form : List ℕ → Line
point_form s =
    or_one (one_number (bytes "  (load ") (bytes ")") s) (λ o. At (Load o))
    (or_one (one_number (bytes "  (store ") (bytes ")") s) (λ o. At (Store o))
    (or_one (one_number (bytes "  (call ") (bytes ")") s) (λ f. At (Call f))
    (or_one (one_number (bytes "  (ensure ") (bytes ")") s) (λ k. At (Ensure k))
    (or_one (one_number (bytes "  (goto ") (bytes ")") s) (λ p. At (Goto p))
    (or_two (two_numbers (bytes "  (either ") (bytes " ") (bytes ")") s) (λ p q. At (Either p q))
    (if same (bytes "  (return)") s then At Return else Malformed))))))

-- a line without its line feed
unfoldable pub line_of : List ℕ → Line
line_of s =
    or_one (one_number (bytes "(stack ") (bytes ")") s) Stack
    (or_one (one_number (bytes "(func ") (bytes "") s) Func (if same (bytes ")") s then Close else point_form s))

-- the lines of a text, l being the bytes of the current one so far; bytes after the last line feed are a malformed line
unfoldable pub lines_from : List ℕ → List ℕ → List Line
lines_from [] [] = []
lines_from (a ∷ l) [] = Malformed ∷ []
lines_from l (b ∷ s) = if eqb b 10 then line_of l ∷ lines_from [] s else lines_from (l ++ (b ∷ [])) s

abbrev pub lines_of : List ℕ → List Line
lines_of text = lines_from [] text
