-- The refusals: the number of each row of the table, a row with its place, and the numbers that a verdict and an ending stand for.
use Rattle.std.specs.Prelude.{ℕ, ◌+◌, ◌*◌, List, [], ◌∷◌, Result, Ok, Err}
use Rattle.std.proofs.Math.Option.{Option, none, some}
use Rattle.model.specs.declared.Row.{Row}
use Rattle.model.specs.declared.Row.TheVariants.{WorkTooSmall, PriceRange, TextTooLong, Form, StackSize, FrameSize, Offset, TooMany, Callee, Pairing}
use Rattle.model.specs.declared.Row.TheVariants.{Target, LastPoint, Unreachable, Uncalled, Uninitialised, OutputTooSmall, EventList}
use Rattle.model.specs.declared.Row.TheVariants.{AnswersTooSmall, CacheSize, MemoryTooSmall, AfterFinish, Kind, Choice}
use Rattle.model.specs.declared.Refusal.{Refusal}
use Rattle.model.specs.declared.Ending.{Ending}
use Rattle.model.specs.declared.Ending.TheVariants as ending

-- CODE: the number of a row
abbrev pub code_of : Row → ℕ
code_of WorkTooSmall = 15
code_of PriceRange = 23
code_of TextTooLong = 1
code_of Form = 2
code_of StackSize = 3
code_of FrameSize = 4
code_of Offset = 5
code_of TooMany = 6
code_of Callee = 7
code_of Pairing = 8
code_of Target = 9
code_of LastPoint = 10
code_of Unreachable = 11
code_of Uncalled = 12
code_of Uninitialised = 13
code_of OutputTooSmall = 14
code_of EventList = 16
code_of AnswersTooSmall = 17
code_of CacheSize = 18
code_of MemoryTooSmall = 19
code_of AfterFinish = 22
code_of Kind = 20
code_of Choice = 21

-- row r, with PLACE n
abbrev pub refuse : Row → ℕ → Refusal
refuse r n = record { row = r; place = n }

-- what check says: Ok for acceptance, Err with a refusal
abbrev pub Verdict : Type 0
Verdict = Result Unit Refusal

-- a row that refuses, or none, as a verdict
abbrev pub row_verdict : Option Refusal → Verdict
row_verdict none = Ok tt
row_verdict (some r) = Err r

-- the numbers that a verdict stands for: 0 and 0 for acceptance
abbrev pub verdict_code : Verdict → ℕ
verdict_code (Ok u) = 0
verdict_code (Err r) = code_of r.row

abbrev pub verdict_place : Verdict → ℕ
verdict_place (Ok u) = 0
verdict_place (Err r) = r.place

-- an ending stands for the numbers of this verdict
abbrev pub ending_verdict : Ending → Verdict
ending_verdict ending.AllDone = Ok tt
ending_verdict (ending.Refused r) = Err r

-- the numbers of a result: code, place, and those that a service adds
abbrev pub verdict_numbers : Verdict → List ℕ → List ℕ
verdict_numbers v more = verdict_code v ∷ verdict_place v ∷ more

-- code and place of an ending
abbrev pub ending_numbers : Ending → List ℕ
ending_numbers e = verdict_numbers (ending_verdict e) []

-- both in one number
abbrev pub packed : Refusal → ℕ
packed r = code_of r.row * 65536 + r.place
