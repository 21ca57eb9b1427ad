-- A buffer after bytes were written into it.
use Rattle.std.specs.Prelude.{ℕ, ◌+◌, ◌≡◌, List, ◌++◌, length, take, drop}
use Rattle.model.specs.Basic.{joined}
use Rattle.model.specs.Text.{bytes}
use Rattle.model.specs.Sheet.{decimal}

-- out with the bytes w from byte at on
unfoldable pub pasted : ℕ → List ℕ → List ℕ → List ℕ
pasted at w out = take at out ++ (w ++ drop (at + length w) out)

-- the bytes w are written into out from byte at on: they end at r, and the buffer is then out'
pub record Wrote (at : ℕ) (w out : List ℕ) (r : ℕ) (out' : List ℕ) : Type 0 where
  pub end : r ≡ at + length w
  pub buffer : out' ≡ pasted at w out

-- a number in decimal with a space before it, and several, as a line of the report has them
abbrev pub spaced_number : ℕ → List ℕ
spaced_number m = bytes " " ++ decimal m

abbrev pub spaced : List ℕ → List ℕ
spaced l = joined spaced_number l
