-- What every service starts from: the judgement of a text and of the working space that was lent. And what a service that writes bytes does with an
-- accepted text.
use Rattle.std.specs.Prelude.{ℕ, ◌≤◌, ◌≡◌, List, leb, length, Result, Ok, Err}
use Rattle.std.proofs.Math.Option.{Option}
use Rattle.model.specs.declared.Refusal.{Refusal}
use Rattle.model.specs.declared.Row.TheVariants.{OutputTooSmall}
use Rattle.model.specs.Basic.{unless}
use Rattle.model.specs.Rows.{Verdict, refuse}
use Rattle.model.specs.Task.{Task, Judged}
use Rattle.model.specs.Refusal.{judge, no_rows, with_rows, rows_before, output_rows}
use Rattle.model.specs.Services.{cleared, Written, AfterWrite, after_write, written_or, written_as}
use Rattle.tables.specs.Valid.{Settled}
use Rattle.prices.specs.declared.Price.{Price}
use Rattle.prices.specs.Prices.{Small}
use Rattle.tables.specs.declared.Header.{Header}
use Rattle.judge.specs.Judgement.{judged_in}

-- where the rows before those of the text pass, there is room for all that a service asks for
abbrev pub Passes : ℕ → Verdict → List ℕ → Type 0
Passes asked (Ok u) w = asked ≤ length w
Passes asked (Err q) w = Unit {0}

-- a task that r hands on sits in w, with that room
abbrev pub ReadyBy : ℕ → List ℕ → Result Header Refusal → Type 0
ReadyBy asked w (Ok h) = Settled w h × (asked ≤ length w)
ReadyBy asked w (Err q) = Unit {0}

-- and the price of a move is small
abbrev pub ReadyAt : ℕ → Price → List ℕ → Result Header Refusal → Type 0
ReadyAt asked price w (Ok h) = Settled w h × (asked ≤ length w) × Small price
ReadyAt asked price w (Err q) = Unit {0}

-- r is the judgement of a text and of the working space w, which is then w': the rows before those of the text, and these
pub record Lent (asked : ℕ) (first : Option Refusal) (text w : List ℕ) (r : Result Header Refusal) (w' : List ℕ) : Type 0 where
  pub same : judge first no_rows text ≡ judged_in w' r
  pub after : cleared asked w' ≡ cleared asked w
  pub ready : ReadyBy asked w' r

-- 14, for an output of this length and so many bytes
abbrev pub length_row : ℕ → ℕ → Option Refusal
length_row room n = unless (leb n room) (refuse OutputTooSmall n)

-- what is returned and left where these bytes are to be written over an output: 14, or the bytes; whatever becomes of the working space
pub record Puts (l output : List ℕ) (r : Written) (output' : List ℕ) : Type 0 where
  pub left : (work : List ℕ) → after_write r work output' ≡ written_or (length_row (length output) (length l)) l work output

-- what a service with these rows that writes these bytes of a task returns and leaves of what was judged as j: for an accepted task one of the rows or 14,
-- or its bytes
abbrev pub printed : (Task → Option Refusal) → (Task → List ℕ) → Judged → List ℕ → List ℕ → AfterWrite
printed rows print j work output = written_as print (with_rows (rows_before rows (output_rows print (length output))) j) work output

pub record Writes (asked : ℕ) (rows : Task → Option Refusal) (print : Task → List ℕ) (j : Judged) (w output : List ℕ) (r : Written) (w' output' : List ℕ) : Type 0 where
  pub left : (work : List ℕ) → after_write r work output' ≡ printed rows print j work output
  pub after : cleared asked w' ≡ cleared asked w
