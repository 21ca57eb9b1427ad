-- What a text begins with, by the definitions of model: its numbers, and how many bytes they take with the words around them.
use Rattle.std.specs.Prelude.{if◌then◌else◌, ◌≡◌, ℕ, ◌+◌, ◌≤◌, Bool, false, not, ◌&&◌, List, [], ◌∷◌, length, take, drop, ◌==◌, Option, Some, None}
use Rattle.model.specs.Text.{starts, is_digit, digits, value, is_number, number_of, after_number}

-- a number, and how many bytes it takes with the words around it
abbrev pub Num : Type 0
Num = Option (ℕ × ℕ)

-- two numbers, and how many bytes they take with the words around them
abbrev pub Pair : Type 0
Pair = Option (ℕ × ℕ × ℕ)

-- the word e can stand after a number: it has a first byte, which is no digit
abbrev pub delimits : List ℕ → Bool
delimits [] = false
delimits (b ∷ e) = not (is_digit b)

-- s begins with a number and the word e
unfoldable pub scan_number : List ℕ → List ℕ → Num
scan_number e s = if is_number s && starts e (after_number s) then Some (number_of s, digits s + length e) else None

-- a number that stands after k bytes
abbrev pub later : ℕ → Num → Num
later k (Some x) = Some (x.0, k + x.1)
later k None = None

-- s begins with the word w, a number and the word e
unfoldable pub scan_one : List ℕ → List ℕ → List ℕ → Num
scan_one w e s = if starts w s then later (length w) (scan_number e (drop (length w) s)) else None

-- the second number, which stands after the number p and k bytes
abbrev pub second : ℕ → ℕ → Num → Pair
second p k (Some x) = Some (p, x.0, k + x.1)
second p k None = None

-- after the first number, s goes on with a number and the word e
abbrev pub scan_second : List ℕ → List ℕ → Num → Pair
scan_second e s (Some x) = second x.0 x.1 (scan_number e (drop x.1 s))
scan_second e s None = None

-- s begins with the word w, a number, the word m, a number and the word e
unfoldable pub scan_two : List ℕ → List ℕ → List ℕ → List ℕ → Pair
scan_two w m e s = scan_second e s (scan_one w m s)

-- how many digits a number has at most that begins with the digit v
unfoldable pub limit : ℕ → ℕ
limit v = if v == 0 then 1 else 4

-- v is the value of the first k digits of s. No digit is left exactly if s begins with a number.
pub record Taken (s : List ℕ) (v k : ℕ) : Type 0 where
  pub some : 1 ≤ k
  pub within : k ≤ length s
  pub left : digits s ≡ k + digits (drop k s)
  pub whole : is_number s ≡ (digits s == k)
  pub is : v ≡ value 0 (take k s)

abbrev pub TakenAs : Num → List ℕ → Type 0
TakenAs (Some x) s = Taken s x.0 x.1
TakenAs None s = digits s ≡ 0
