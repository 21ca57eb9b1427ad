-- What C can rely on in the answer of run, on either core, and in the buffer of its result.
use Rattle.std.specs.Prelude.{ℕ, ◌≤◌, ◌<◌, List, ◌↔◌, ◌≡◌, length, get_or}

-- the result has five numbers: code, place, events done, moved and allowed. Where the last two stand
abbrev pub result_length : ℕ
result_length = 5

abbrev pub moved_at : ℕ
moved_at = 3

abbrev pub allowed_at : ℕ
allowed_at = 4

-- where the answer is 1, moved is at most allowed
abbrev pub BoundedNumbers : (answer : ℕ) (result : List ℕ) → Type 0
BoundedNumbers answer result = answer ≡ 1 → get_or result moved_at 0 ≤ get_or result allowed_at 0

-- of the buffer of the result before and after: the answer is 1 exactly where it has room for five numbers; where it has less, the answer is 0 and the buffer is
-- untouched; it keeps its length
pub record RunAnswered (answer : ℕ) (before result : List ℕ) : Type 0 where
  pub answered : (answer ≡ 1) ↔ (result_length ≤ length before)
  pub short : length before < result_length → (answer ≡ 0) × (result ≡ before)
  pub kept : length result ≡ length before
  pub bounded : BoundedNumbers answer result
