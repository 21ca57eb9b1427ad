-- What the program writes for a text.
use Rattle.std.specs.Prelude.{ℕ, true, ◌≡◌, ◌≤◌, List, [], ◌∷◌, length, take}
use Rattle.model.specs.declared.Refusal.{Refusal}
use Rattle.model.specs.Limits.{work_length}
use Rattle.model.specs.Rows.{code_of}
use Rattle.model.specs.Text.{bytes}
use Rattle.model.specs.Task.{Task, Judged, refused, task}
use Rattle.model.specs.Sheet.{line_text, in_blocks, report_text}
use Rattle.model.specs.Refusal.{judge, work_row, output_rows}
use Rattle.model.specs.Services.{over, cleared}

-- the line of a refusal, `(refused CODE PLACE)`
unfoldable pub refusal_line : Refusal → List ℕ
refusal_line r = line_text (bytes "(refused") (code_of r.row ∷ r.place ∷ [])

-- the report of document 01, which counts blocks; so the lines of its points have once
abbrev pub blocks_report : Task → List ℕ
blocks_report t = report_text true in_blocks t

unfoldable pub answered : Judged → List ℕ
answered (refused r) = refusal_line r
answered (task t) = blocks_report t

-- the report of a text, or the line of its refusal, for an output and a working space of these lengths
unfoldable pub answer_of : List ℕ → ℕ → ℕ → List ℕ
answer_of text output work = answered (judge (work_row work_length work) (output_rows blocks_report output) text)

-- the answer to a text stands at the front of the output and has n bytes; the rest of the output is untouched, and the working space is cleared
pub record Answers (text output work : List ℕ) (n : ℕ) (output' work' : List ℕ) : Type 0 where
  pub size : n ≡ length (answer_of text (length output) (length work))
  pub buffer : output' ≡ over (answer_of text (length output) (length work)) output
  pub emptied : work' ≡ cleared work_length work

-- bytes that are enough for the line of any refusal: its word, a space and at most ten digits twice, the closing bracket and the line feed
abbrev pub most_line : ℕ
most_line = 32

-- the first n elements of a list are there; the second part follows from the first
abbrev pub IsPrefixLen : ℕ → List ℕ → Type 0
IsPrefixLen n l = (n ≤ length l) × (n ≡ length (take n l))
