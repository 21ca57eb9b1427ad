-- What the judgement of a text says of the working space: an accepted task sits in the tables, and nothing past them has changed.
use Rattle.std.specs.Prelude.{ℕ, ◌≡◌, List, Result, Ok, Err}
use Rattle.model.specs.declared.Refusal.{Refusal}
use Rattle.model.specs.Task.{Judged, refused, task}
use Rattle.tables.specs.declared.Header.{Header}
use Rattle.tables.specs.Layout.{tables_length}
use Rattle.tables.specs.Tables.{task_of}
use Rattle.tables.specs.Valid.{Kept, Settled}

-- what the judgement r stands for, with the tables w
abbrev pub judged_in : List ℕ → Result Header Refusal → Judged
judged_in w (Ok h) = task (task_of w h)
judged_in w (Err q) = refused q

-- the tables w hold the task that r hands on
abbrev pub SettledBy : List ℕ → Result Header Refusal → Type 0
SettledBy w (Ok h) = Settled w h
SettledBy w (Err q) = Unit {0}

-- the judgement r of what is judged as j; w, w': the working space before and after
pub record Judges (j : Judged) (w : List ℕ) (r : Result Header Refusal) (w' : List ℕ) : Type 0 where
  pub same : j ≡ judged_in w' r
  pub kept : Kept tables_length w w'
  pub settled : SettledBy w' r
