-- What a service returns and leaves of the empty text (document 02, request 14).
use Rattle.std.specs.Prelude.{ℕ, List, [], ◌∷◌, ◌++◌}
use Rattle.std.proofs.Math.Option.{Option, none, some}
use Rattle.model.specs.declared.Refusal.{Refusal}
use Rattle.model.specs.declared.Row.TheVariants.{AfterFinish}
use Rattle.model.specs.declared.Ending.{Ending}
use Rattle.model.specs.declared.Ending.TheVariants as ending
use Rattle.model.specs.declared.RunResult.{RunResult}
use Rattle.model.specs.Text.{bytes}
use Rattle.model.specs.Rows.{refuse}
use Rattle.model.specs.Core.{Core}
use Rattle.model.specs.Plain.{Event, Plain}
use Rattle.model.specs.Run.{Ran}
use Rattle.model.specs.Services.{AfterRun, after_run}

-- the report of the empty text
abbrev pub empty_report : List ℕ
empty_report = bytes "(report\n" ++ bytes "  (total 0)\n" ++ bytes ")\n"

-- the first event, if there is one, of a task that has finished is refused
abbrev pub first_row : List Event → Option Refusal
first_row [] = none
first_row (e ∷ es) = some (refuse AfterFinish 0)

-- the end of a run that does no event
abbrev pub ending_by : Option Refusal → Ending
ending_by none = ending.AllDone
ending_by (some r) = ending.Refused r

-- no event is done, nothing is moved or answered, and the core is as it was; so it is of the plain stack
abbrev pub none_ran : Option Refusal → Core → Ran
none_ran row c = record { ending = ending_by row; done = 0; moved = 0; answers = []; core = c }

abbrev pub none_plain : Option Refusal → Plain
none_plain row = record { ending = ending_by row; done = 0; answers = [] }

-- so it is of the service, which leaves answers, cache and memory as they were lent
abbrev pub nothing_done : Option Refusal → RunResult
nothing_done row = record { ending = ending_by row; done = 0; moved = 0; allowed = 0 }

abbrev pub untouched : Option Refusal → (work answers cache memory : List ℕ) → AfterRun
untouched row work answers cache memory = after_run (nothing_done row) work answers cache memory
