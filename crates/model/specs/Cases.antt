-- Outside cases and cases of refusal order, by computation: the definitions are tried on them before any code rests on them.
use Rattle.std.specs.Prelude.{ℕ, true, false, ◌≡◌, refl, List, [], ◌∷◌, ◌++◌, replicate, Ok, Err}
use Prim.Native.String.{String}
use Rattle.std.proofs.Math.Option.{none, some}
use Rattle.model.specs.declared.Row.TheVariants.{WorkTooSmall, PriceRange, TextTooLong, Form, StackSize, FrameSize, Offset, TooMany, Callee, Pairing}
use Rattle.model.specs.declared.Row.TheVariants.{Target, LastPoint, Unreachable, Uncalled, Uninitialised, AnswersTooSmall}
use Rattle.model.specs.declared.Row.TheVariants.{OutputTooSmall, MemoryTooSmall, AfterFinish, Kind, Choice}
use Rattle.model.specs.declared.Eviction.TheVariants.{Eager, Lazy}
use Rattle.model.specs.declared.Ending.TheVariants.{AllDone, Refused}
use Rattle.model.specs.declared.RunResult.{RunResult}
use Rattle.model.specs.Limits.{work_length}
use Rattle.model.specs.Text.{bytes}
use Rattle.model.specs.Task.{Task, without, Judged, refused, task}
use Rattle.model.specs.Figures.{shortest}
use Rattle.model.specs.Sheet.{move_price, in_blocks, priced_sheet, sheet_of, once_of, charging_once, records_of, total_of, report_text}
use Rattle.model.specs.Dearest.{dearest_text}
use Rattle.model.specs.Rows.{refuse}
use Rattle.model.specs.Refusal.{judged, work_row, priced_rows, judge, no_rows}
use Rattle.model.specs.Plain.{events_of, plain}
use Rattle.model.specs.Run.{Place, allowed}
use Rattle.model.specs.Preemptions.{preemptions, spills_and_fills}
use Rattle.model.specs.Services.{bytes_written, cleared, after_write, written_by, report_of, dearest_of, run_judged, run_of, called, exported}
use Rattle.model.specs.Opened.{opened}
use Rattle.model.specs.Examples.{lines, sample, seven_steps, with_preemption}

-- a working space of the length asked for, before and after a service
abbrev space : List ℕ
space = replicate 16384 3

abbrev space_after : List ℕ
space_after = replicate 16384 0

-- the task of an accepted text
abbrev pub the : Judged → Task
the (task t) = t
the (refused r) = without

-- refusals 2 to 13, and the empty text, which none of them refuses
pub refusals :
    (judged (lines ([])) ≡ task without)
    × (judged (lines ("" ∷ [])) ≡ refused (refuse Form 1))
    × (judged (lines ("(stack 1)" ∷ [])) ≡ refused (refuse Form 2))
    × (judged (bytes "(stack 1)") ≡ refused (refuse Form 1))
    × (judged (bytes "(st") ≡ refused (refuse Form 1))
    × (judged (lines ("(stack 65)" ∷ "(stack 16)" ∷ "(func 4" ∷ [])) ≡ refused (refuse StackSize 1))
    × (judged (lines ("(stack 5)" ∷ "(func 6" ∷ "  (return)" ∷ ")" ∷ [])) ≡ refused (refuse FrameSize 2))
    × (judged (lines ("(stack 5)" ∷ "(func 5" ∷ "  (store 5)" ∷ [])) ≡ refused (refuse Offset 3))
    × (judged (lines ("(stack 4)" ∷ "(func 1" ∷ (replicate 256 "  (store 0)" ++ ("  (return)" ∷ ")" ∷ []))))
    ≡ refused (refuse TooMany 259))
    × (judged (lines ("(stack 5)" ∷ "(func 1" ∷ "  (store 0)" ∷ "  (ensure 1)" ∷ "  (either 7 4)" ∷ "  (load 0)"
    ∷ "  (load 0)" ∷ "  (load 0)" ∷ "  (load 0)" ∷ "  (either 9 11)" ∷ "  (load 0)" ∷ "  (store 0)" ∷ "  (return)" ∷ ")"
    ∷ "(func 0" ∷ "  (either 1 1)" ∷ "  (goto 2)" ∷ "  (goto 3)" ∷ "  (goto 4)" ∷ "  (goto 5)" ∷ "  (goto 6)" ∷ "  (return)"
    ∷ ")" ∷ [])) ≡ refused (refuse Pairing 4))
    × (judged (lines ("(stack 6)" ∷ "(func 5" ∷ "  (store 0)" ∷ "  (store 2)" ∷ "  (store 1)" ∷ "  (store 3)"
    ∷ "  (store 4)" ∷ "  (load 2)" ∷ "  (store 2)" ∷ "  (load 0)" ∷ "  (call 1)" ∷ "  (ensure 5)" ∷ "  (either 11 13)"
    ∷ "  (call 5)" ∷ "  (ensure 5)" ∷ "  (store 0)" ∷ "  (store 1)" ∷ "  (store 2)" ∷ "  (call 1)" ∷ "  (ensure 5)"
    ∷ "  (either 3 19)" ∷ "  (store 1)" ∷ "  (return)" ∷ ")" ∷ "(func 0" ∷ "  (goto 2)" ∷ "  (goto 2)" ∷ "  (either 3 4)"
    ∷ "  (goto 4)" ∷ "  (goto 5)" ∷ "  (goto 6)" ∷ "  (goto 1)" ∷ ")" ∷ [])) ≡ refused (refuse Callee 14))
    × (judged (lines ("(stack 8)" ∷ "(func 0" ∷ "  (goto 1)" ∷ ")" ∷ [])) ≡ refused (refuse Target 3))
    × (judged (lines ("(stack 1)" ∷ "(func 1" ∷ "  (either 1 1)" ∷ "  (store 0)" ∷ ")" ∷ [])) ≡ refused (refuse LastPoint 4))
    × (judged (lines ("(stack 5)" ∷ "(func 0" ∷ "  (goto 2)" ∷ "  (goto 1)" ∷ "  (return)" ∷ ")" ∷ []))
    ≡ refused (refuse Unreachable 4))
    × (judged (lines ("(stack 3)" ∷ "(func 1" ∷ "  (call 4)" ∷ "  (ensure 1)" ∷ "  (call 1)" ∷ "  (ensure 1)"
    ∷ "  (store 0)" ∷ "  (call 1)" ∷ "  (ensure 1)" ∷ "  (call 2)" ∷ "  (ensure 1)" ∷ "  (call 1)" ∷ "  (ensure 1)"
    ∷ "  (return)" ∷ ")" ∷ "(func 3" ∷ "  (store 2)" ∷ "  (store 1)" ∷ "  (store 0)" ∷ "  (store 1)" ∷ "  (store 1)"
    ∷ "  (load 2)" ∷ "  (goto 7)" ∷ "  (either 8 8)" ∷ "  (return)" ∷ ")" ∷ "(func 1" ∷ "  (store 0)" ∷ "  (either 2 5)"
    ∷ "  (goto 3)" ∷ "  (load 0)" ∷ "  (store 0)" ∷ "  (either 6 7)" ∷ "  (load 0)" ∷ "  (either 8 10)" ∷ "  (load 0)"
    ∷ "  (either 10 4)" ∷ "  (return)" ∷ ")" ∷ "(func 0" ∷ "  (call 4)" ∷ "  (ensure 0)" ∷ "  (goto 3)" ∷ "  (either 4 4)"
    ∷ "  (call 4)" ∷ "  (ensure 0)" ∷ "  (goto 7)" ∷ "  (call 4)" ∷ "  (ensure 0)" ∷ "  (goto 10)" ∷ "  (either 11 11)"
    ∷ "  (goto 3)" ∷ ")" ∷ "(func 0" ∷ "  (goto 1)" ∷ "  (return)" ∷ ")" ∷ [])) ≡ refused (refuse Uncalled 40))
    × (judged (lines ("(stack 16)" ∷ "(func 6" ∷ "  (store 3)" ∷ "  (store 2)" ∷ "  (store 0)" ∷ "  (load 1)"
    ∷ "  (either 1 5)" ∷ "  (return)" ∷ ")" ∷ [])) ≡ refused (refuse Uninitialised 6))
unfolding opened lines sample
refusals = (refl, refl, refl, refl, refl, refl, refl, refl, refl, refl, refl, refl, refl, refl, refl, refl)

-- reports: loops and branches; calls in a row; a chain of calls in a small cache
pub reports :
    (report_text true in_blocks (the (judged (lines ("(stack 4)" ∷ "(func 4" ∷ "  (either 1 3)" ∷ "  (store 0)" ∷ "  (goto 5)"
    ∷ "  (store 3)" ∷ "  (either 5 1)" ∷ "  (either 6 6)" ∷ "  (either 7 1)" ∷ "  (store 0)" ∷ "  (either 7 4)" ∷ ")" ∷ []))))
    ≡ lines ("(report" ∷ "  (func 0 4 4 4 0 0)" ∷ "  (at 0 4 4 4 0 0 0 0 0 0 0)" ∷ "  (at 1 4 4 1 0 0 0 0 0 0 0)"
    ∷ "  (at 2 4 4 1 0 0 0 0 0 0 0)" ∷ "  (at 3 4 4 4 0 0 0 0 0 0 0)" ∷ "  (at 4 4 4 1 0 0 0 0 0 0 0)" ∷ "  (at 5 4 4 1 0 0 0 0 0 0 0)"
    ∷ "  (at 6 4 4 1 0 0 0 0 0 0 0)" ∷ "  (at 7 4 4 1 0 0 0 0 0 0 0)" ∷ "  (at 8 4 4 1 0 0 0 0 0 0 0)" ∷ "  (total 0)" ∷ ")" ∷ []))
    × (report_text true in_blocks (the (judged (lines ("(stack 6)" ∷ "(func 0" ∷ "  (goto 1)" ∷ "  (call 1)" ∷ "  (ensure 0)"
    ∷ "  (goto 4)" ∷ "  (goto 5)" ∷ "  (goto 4)" ∷ ")" ∷ "(func 6" ∷ "  (store 2)" ∷ "  (store 5)" ∷ "  (store 1)"
    ∷ "  (call 2)" ∷ "  (ensure 6)" ∷ "  (call 2)" ∷ "  (ensure 6)" ∷ "  (store 2)" ∷ "  (either 9 9)" ∷ "  (return)" ∷ ")"
    ∷ "(func 5" ∷ "  (store 2)" ∷ "  (store 0)" ∷ "  (goto 2)" ∷ ")" ∷ [])))) ≡ lines ("(report" ∷ "  (func 0 0 11 11 0 0)"
    ∷ "  (at 0 0 0 0 0 0 0 0 0 0 0)" ∷ "  (at 1 0 0 0 0 0 0 0 0 0 0)" ∷ "  (at 2 0 0 0 0 0 0 0 0 0 0)" ∷ "  (at 3 0 0 0 0 0 0 0 0 0 0)"
    ∷ "  (at 4 0 0 0 0 0 0 0 0 0 0)" ∷ "  (at 5 0 0 0 0 0 0 0 0 0 0)" ∷ "  (func 1 6 11 11 0 0)" ∷ "  (at 0 6 6 6 0 0 0 0 0 0 0)"
    ∷ "  (at 1 6 6 6 0 0 0 0 0 0 0)" ∷ "  (at 2 6 6 2 0 0 0 0 0 0 0)" ∷ "  (at 3 6 6 0 0 0 1 0 1 0 0)" ∷ "  (at 4 1 6 0 0 0 1 0 1 5 0)"
    ∷ "  (at 5 6 6 0 0 0 1 0 1 0 0)" ∷ "  (at 6 1 6 0 0 0 1 0 1 5 0)" ∷ "  (at 7 6 6 3 0 0 0 0 0 0 0)" ∷ "  (at 8 6 6 0 0 0 0 0 0 0 0)"
    ∷ "  (at 9 6 6 0 0 0 0 0 0 0 0)" ∷ "  (func 2 5 5 5 5 1)" ∷ "  (at 0 6 5 3 1 0 0 1 2 0 2)" ∷ "  (at 1 6 5 1 1 0 0 1 2 0 2)"
    ∷ "  (at 2 6 5 0 1 0 0 1 2 0 2)" ∷ "  (total 10)" ∷ ")" ∷ []))
    × (report_text true in_blocks (the (judged (lines ("(stack 2)" ∷ "(func 1" ∷ "  (call 2)" ∷ "  (ensure 1)" ∷ "  (call 2)"
    ∷ "  (ensure 1)" ∷ "  (call 1)" ∷ "  (ensure 1)" ∷ "  (goto 7)" ∷ "  (call 1)" ∷ "  (ensure 1)" ∷ "  (either 10 10)"
    ∷ "  (store 0)" ∷ "  (return)" ∷ ")" ∷ "(func 1" ∷ "  (either 1 4)" ∷ "  (either 2 4)" ∷ "  (call 2)" ∷ "  (ensure 1)"
    ∷ "  (call 2)" ∷ "  (ensure 1)" ∷ "  (return)" ∷ ")" ∷ "(func 0" ∷ "  (either 1 1)" ∷ "  (return)" ∷ ")" ∷ []))))
    ≡ lines ("(report" ∷ "  (func 0 1 2 2 0 0)" ∷ "  (at 0 1 1 0 0 0 1 0 1 0 0)" ∷ "  (at 1 1 1 0 0 0 1 0 1 0 0)"
    ∷ "  (at 2 1 1 0 0 0 1 0 1 0 0)" ∷ "  (at 3 1 1 0 0 0 1 0 1 0 0)" ∷ "  (at 4 1 1 0 0 0 1 0 1 0 0)" ∷ "  (at 5 1 1 0 0 0 1 0 1 0 0)"
    ∷ "  (at 6 1 1 0 0 0 1 0 1 0 0)" ∷ "  (at 7 1 1 0 0 0 1 0 1 0 0)" ∷ "  (at 8 1 1 0 0 0 1 0 1 0 0)" ∷ "  (at 9 1 1 1 0 0 0 0 0 0 0)"
    ∷ "  (at 10 1 1 1 0 0 0 0 0 0 0)" ∷ "  (at 11 1 1 0 0 0 0 0 0 0 0)" ∷ "  (func 1 1 1 1 0 1)" ∷ "  (at 0 2 1 0 1 0 1 1 3 0 2)"
    ∷ "  (at 1 2 1 0 1 0 1 1 3 0 2)" ∷ "  (at 2 2 1 0 1 0 1 1 3 0 2)" ∷ "  (at 3 2 1 0 1 0 1 1 3 0 2)" ∷ "  (at 4 2 1 0 1 0 1 1 3 0 2)"
    ∷ "  (at 5 2 1 0 1 0 1 1 3 0 2)" ∷ "  (at 6 2 1 0 1 0 0 1 2 0 2)" ∷ "  (func 2 0 0 0 0 2)" ∷ "  (at 0 2 0 0 2 0 0 2 4 0 4)"
    ∷ "  (at 1 2 0 0 2 0 0 2 4 0 4)" ∷ "  (total 37)" ∷ ")" ∷ []))
unfolding opened lines sample
reports = (refl, refl, refl)

-- where several rows hold: 11 before 12 before 13 whatever the lines; 7 before 8 on one line, 9 before 7 by line, 8 before 10; 4 by
-- line before 5; 3 before 2 by line; the first of two lines; 15 before all
pub orders :
    (judged (lines ("(stack 4)" ∷ "(func 2" ∷ "  (load 0)" ∷ "  (return)" ∷ ")" ∷ "(func 1" ∷ "  (goto 2)"
    ∷ "  (return)" ∷ "  (return)" ∷ ")" ∷ [])) ≡ refused (refuse Unreachable 8))
    × (judged (lines ("(stack 4)" ∷ "(func 2" ∷ "  (load 0)" ∷ "  (return)" ∷ ")" ∷ "(func 1" ∷ "  (return)" ∷ ")"
    ∷ "(func 1" ∷ "  (return)" ∷ ")" ∷ [])) ≡ refused (refuse Uncalled 6))
    × (judged (lines ("(stack 4)" ∷ "(func 2" ∷ "  (load 0)" ∷ "  (load 1)" ∷ "  (return)" ∷ ")" ∷ []))
    ≡ refused (refuse Uninitialised 3))
    × (judged (lines ("(stack 4)" ∷ "(func 2" ∷ "  (call 0)" ∷ "  (goto 9)" ∷ ")" ∷ [])) ≡ refused (refuse Callee 3))
    × (judged (lines ("(stack 4)" ∷ "(func 2" ∷ "  (goto 9)" ∷ "  (call 0)" ∷ ")" ∷ [])) ≡ refused (refuse Target 3))
    × (judged (lines ("(stack 4)" ∷ "(func 2" ∷ "  (call 1)" ∷ ")" ∷ "(func 0" ∷ "  (return)" ∷ ")" ∷ []))
    ≡ refused (refuse Pairing 3))
    × (judged (lines ("(stack 4)" ∷ "(func 5" ∷ "  (load 7)" ∷ "x" ∷ [])) ≡ refused (refuse FrameSize 2))
    × (judged (lines ("(stack 65)" ∷ "x" ∷ [])) ≡ refused (refuse StackSize 1))
    × (judge (work_row work_length 16383) no_rows (lines ("x" ∷ [])) ≡ refused (refuse WorkTooSmall 16384))
unfolding opened lines sample
orders = (refl, refl, refl, refl, refl, refl, refl, refl, refl)

-- the wrong turns that the paper names: only the first ensure of a frame pays, a call that may be skipped leaves a high occupancy, and a
-- store in one branch leaves the other branch live.
-- Then refusals of events, in their order, and 17 and 19
pub turns :
    (report_text true in_blocks (the (judged (lines ("(stack 4)" ∷ "(func 2" ∷ "  (store 1)" ∷ "  (call 1)" ∷ "  (ensure 2)"
    ∷ "  (call 2)" ∷ "  (ensure 2)" ∷ "  (load 1)" ∷ "  (return)" ∷ ")" ∷ "(func 4" ∷ "  (return)" ∷ ")" ∷ "(func 0"
    ∷ "  (return)" ∷ ")" ∷ [])))) ≡ lines ("(report" ∷ "  (func 0 2 6 6 0 0)" ∷ "  (at 0 2 2 2 0 0 0 0 0 0 0)"
    ∷ "  (at 1 2 1 0 1 0 0 0 1 0 1)" ∷ "  (at 2 0 1 0 0 0 0 0 0 2 0)" ∷ "  (at 3 2 1 0 1 0 2 0 3 0 2)" ∷ "  (at 4 2 1 0 1 0 2 0 3 0 2)"
    ∷ "  (at 5 2 1 2 1 1 0 0 2 0 2)" ∷ "  (at 6 2 2 0 0 0 0 0 0 0 0)" ∷ "  (func 1 4 4 4 2 0)" ∷ "  (at 0 4 4 0 0 0 0 0 0 0 0)"
    ∷ "  (func 2 0 0 0 0 2)" ∷ "  (at 0 2 0 0 2 0 0 2 4 0 4)" ∷ "  (total 13)" ∷ ")" ∷ []))
    × (report_text true in_blocks (the (judged (lines ("(stack 4)" ∷ "(func 3" ∷ "  (call 1)" ∷ "  (ensure 3)" ∷ "  (return)" ∷ ")"
    ∷ "(func 1" ∷ "  (either 1 3)" ∷ "  (call 2)" ∷ "  (ensure 1)" ∷ "  (return)" ∷ ")" ∷ "(func 2" ∷ "  (return)" ∷ ")"
    ∷ [])))) ≡ lines ("(report" ∷ "  (func 0 3 4 6 0 0)" ∷ "  (at 0 3 3 0 0 0 1 0 1 0 0)" ∷ "  (at 1 3 3 0 0 0 1 0 1 2 0)"
    ∷ "  (at 2 3 3 0 0 0 0 0 0 0 0)" ∷ "  (func 1 1 1 3 0 1)" ∷ "  (at 0 4 1 0 3 0 1 1 5 0 5)" ∷ "  (at 1 4 1 0 3 0 1 1 5 0 5)"
    ∷ "  (at 2 2 1 0 1 0 1 1 3 0 2)" ∷ "  (at 3 4 1 0 3 0 0 1 4 0 4)" ∷ "  (func 2 2 2 2 2 2)" ∷ "  (at 0 4 2 0 2 0 0 2 4 0 4)" ∷ "  (total 23)" ∷ ")"
    ∷ []))
    × (report_text true in_blocks (the (judged (lines ("(stack 2)" ∷ "(func 1" ∷ "  (store 0)" ∷ "  (either 2 4)" ∷ "  (store 0)"
    ∷ "  (goto 4)" ∷ "  (load 0)" ∷ "  (return)" ∷ ")" ∷ [])))) ≡ lines ("(report" ∷ "  (func 0 1 1 1 0 0)"
    ∷ "  (at 0 1 1 1 0 0 0 0 0 0 0)" ∷ "  (at 1 1 0 1 1 1 0 0 2 0 2)" ∷ "  (at 2 1 1 1 0 0 0 0 0 0 0)" ∷ "  (at 3 1 0 1 1 1 0 0 2 0 2)"
    ∷ "  (at 4 1 0 1 1 1 0 0 2 0 2)" ∷ "  (at 5 1 1 0 0 0 0 0 0 0 0)" ∷ "  (total 6)" ∷ ")" ∷ []))
    × ((run_of Eager (lines ("(stack 2)" ∷ "(func 1" ∷ "  (store 0)" ∷ "  (either 2 4)" ∷ "  (store 0)" ∷ "  (goto 4)" ∷ "  (load 0)"
    ∷ "  (return)" ∷ ")" ∷ [])) 0 1 space (0 ∷ 5 ∷ 0 ∷ 2 ∷ []) (replicate 2 0) (replicate 2 0) (replicate 1 0)).result.ending
    ≡ Refused (refuse Choice 1))
    × ((run_of Eager (lines ("(stack 2)" ∷ "(func 1" ∷ "  (store 0)" ∷ "  (either 2 4)" ∷ "  (store 0)" ∷ "  (goto 4)" ∷ "  (load 0)"
    ∷ "  (return)" ∷ ")" ∷ [])) 0 1 space (0 ∷ 5 ∷ 1 ∷ 2 ∷ 0 ∷ 1 ∷ 2 ∷ 0
    ∷ []) (replicate 4 0) (replicate 2 0) (replicate 1 0)).result.ending ≡ Refused (refuse Kind 3))
    × ((run_of Eager (sample) 0 1 space (0 ∷ 0 ∷ 0 ∷ 0 ∷ 0 ∷ 0 ∷ 0 ∷ 0 ∷ 0 ∷ 0 ∷ 0 ∷ 0 ∷ 0 ∷ 0 ∷ 0 ∷ 0 ∷ 9 ∷ 9
    ∷ []) (replicate 9 0) (replicate 5 0) (replicate 6 0)).result.ending ≡ Refused (refuse AfterFinish 8))
    × ((run_of Eager (sample) 0 1 space (0 ∷ 0 ∷ []) (replicate 0 0) (replicate 5 0) (replicate 6 0)).result.ending ≡ Refused (refuse AnswersTooSmall 1))
    × ((run_of Eager (sample) 0 1 space (0 ∷ 0 ∷ []) (replicate 1 0) (replicate 5 0) (replicate 5 0)).result.ending ≡ Refused (refuse MemoryTooSmall 6))
unfolding opened lines sample
turns = (refl, refl, refl, refl, refl, refl, refl, refl)

-- d of function 0, which has two blocks and these points, before two functions of one block and of five
abbrev d0 : List String → ℕ
d0 points =
    shortest
    (the (judged (lines ("(stack 8)" ∷ "(func 2" ∷ points ++ ")" ∷ "(func 1" ∷ "  (return)" ∷ ")" ∷ "(func 5" ∷ "  (return)" ∷ ")" ∷ []))))
    0

-- document 02, request 4. A small call and then a large one on every walk;
-- one of the two on each side; a small call on a side that goes round for ever; no return at all; and a call in a loop that a walk may pass by
pub displacements :
    (d0 ("  (call 1)" ∷ "  (ensure 2)" ∷ "  (call 2)" ∷ "  (ensure 2)" ∷ "  (return)" ∷ []) ≡ 7)
    × (d0 ("  (either 1 4)" ∷ "  (call 1)" ∷ "  (ensure 2)" ∷ "  (return)" ∷ "  (call 2)" ∷ "  (ensure 2)" ∷ "  (return)" ∷ []) ≡ 3)
    × (d0 ("  (either 1 4)" ∷ "  (call 1)" ∷ "  (ensure 2)" ∷ "  (goto 1)" ∷ "  (call 2)" ∷ "  (ensure 2)" ∷ "  (return)" ∷ []) ≡ 7)
    × (d0 ("  (call 2)" ∷ "  (ensure 2)" ∷ "  (call 1)" ∷ "  (ensure 2)" ∷ "  (goto 0)" ∷ []) ≡ 3)
    × (d0 ("  (either 1 7)" ∷ "  (call 1)" ∷ "  (ensure 2)" ∷ "  (call 2)" ∷ "  (ensure 2)" ∷ "  (goto 0)" ∷ "  (return)" ∷ "  (goto 6)" ∷ []) ≡ 2)
unfolding opened lines
displacements = (refl, refl, refl, refl, refl)

-- document 02, request 1, on the example of document 01: a move of n blocks costs 10 + n. A preemption makes two moves, each with a start
pub prices :
    (report_text false (move_price 10 1) (the (judged sample))
    ≡ lines ("(report" ∷ "  (func 0 2 6 6 0 0)" ∷ "  (at 0 2 2 2 0 0 0 0 0 0)" ∷ "  (at 1 2 1 0 11 0 11 0 22 0)"
    ∷ "  (at 2 1 1 0 0 0 11 0 11 11)" ∷ "  (at 3 2 1 2 11 11 0 0 22 0)" ∷ "  (at 4 2 2 0 0 0 0 0 0 0)"
    ∷ "  (func 1 4 4 4 11 11)" ∷ "  (at 0 5 4 1 11 0 0 11 22 0)" ∷ "  (at 1 5 0 1 15 11 0 11 37 0)"
    ∷ "  (at 2 5 4 0 11 0 0 11 22 0)" ∷ "  (total 136)" ∷ ")" ∷ []))
    × ((run_of Eager sample 10 1 space seven_steps (replicate 7 0) (replicate 5 0) (replicate 6 0)).result
    ≡ record { ending = AllDone; done = 7; moved = 22; allowed = 22 })
    × ((run_of Eager sample 10 1 space with_preemption (replicate 8 0) (replicate 5 0) (replicate 6 0)).result
    ≡ record { ending = AllDone; done = 8; moved = 49; allowed = 59 })
    × ((run_of Eager sample 0 3 space with_preemption (replicate 8 0) (replicate 5 0) (replicate 6 0)).result
    ≡ record { ending = AllDone; done = 8; moved = 27; allowed = 27 })
unfolding opened lines sample seven_steps with_preemption
prices = (refl, refl, refl, refl)

-- a chain of two callers, of which each keeps one block: its shares are priced one by one
pub shares :
    report_text false (move_price 10 1) (the (judged (lines ("(stack 4)" ∷ "(func 1" ∷ "  (call 1)" ∷ "  (ensure 1)"
    ∷ "  (return)" ∷ ")" ∷ "(func 1" ∷ "  (call 2)" ∷ "  (ensure 1)" ∷ "  (return)" ∷ ")" ∷ "(func 2" ∷ "  (return)" ∷ ")"
    ∷ []))))
    ≡ lines ("(report" ∷ "  (func 0 1 4 4 0 0)" ∷ "  (at 0 1 1 0 0 0 11 0 11 0)" ∷ "  (at 1 1 1 0 0 0 11 0 11 0)"
    ∷ "  (at 2 1 1 0 0 0 0 0 0 0)" ∷ "  (func 1 1 3 3 0 11)" ∷ "  (at 0 2 1 0 11 0 11 11 33 0)" ∷ "  (at 1 2 1 0 11 0 11 11 33 0)"
    ∷ "  (at 2 2 1 0 11 0 0 11 22 0)" ∷ "  (func 2 2 2 2 0 22)" ∷ "  (at 0 4 2 0 12 0 0 22 34 0)" ∷ "  (total 144)" ∷ ")" ∷ [])
unfolding opened lines
shares = refl

-- 23 for a start above 255 and for each 0 or above 255, after 15 and before 1; the ends of both ranges pass
pub price_rows :
    (judge (priced_rows work_length 16384 256 1) no_rows sample ≡ refused (refuse PriceRange 0))
    × (judge (priced_rows work_length 16384 0 0) no_rows sample ≡ refused (refuse PriceRange 0))
    × (judge (priced_rows work_length 16384 0 256) no_rows sample ≡ refused (refuse PriceRange 0))
    × (judge (priced_rows work_length 16383 256 0) no_rows sample ≡ refused (refuse WorkTooSmall 16384))
    × (judge (priced_rows work_length 16384 256 1) no_rows (replicate 32769 0) ≡ refused (refuse PriceRange 0))
    × (judge (priced_rows work_length 16384 255 1) no_rows (replicate 32769 0) ≡ refused (refuse TextTooLong 0))
    × (judge (priced_rows work_length 16384 255 255) no_rows sample ≡ judged sample)
    × (judge (priced_rows work_length 16384 0 1) no_rows sample ≡ judged sample)
unfolding opened lines sample
price_rows = (refl, refl, refl, refl, refl, refl, refl, refl)

-- a service that asks for another length: 15 gives that length, and so many numbers become 0. Rows of a service come after those of the text and before 14, and before 16.
-- As C calls it: the numbers of what it returns over the first of the result, or nothing where the result has fewer
pub buffers :
    (judge (work_row 262144 16384) no_rows sample ≡ refused (refuse WorkTooSmall 262144))
    × (cleared 2 (3 ∷ 3 ∷ 3 ∷ []) ≡ 0 ∷ 0 ∷ 3 ∷ [])
    × (cleared 4 (3 ∷ 3 ∷ 3 ∷ []) ≡ 3 ∷ 3 ∷ 3 ∷ [])
    × (written_by 2 none (λ t. some (refuse Choice 6)) (λ t. 1 ∷ []) sample (3 ∷ 3 ∷ 3 ∷ []) []
    ≡ after_write (Err (refuse Choice 6)) (0 ∷ 0 ∷ 3 ∷ []) [])
    × (written_by 2 none no_rows (λ t. 1 ∷ []) sample (3 ∷ 3 ∷ 3 ∷ []) []
    ≡ after_write (Err (refuse OutputTooSmall 1)) (0 ∷ 0 ∷ 3 ∷ []) [])
    × (run_judged none (λ t. some (refuse Choice 6)) sample (1 ∷ []) [] [] [] ≡ refused (refuse Choice 6))
    × (exported {A = ℕ} (7 ∷ 8 ∷ []) 1 0 (9 ∷ 9 ∷ 9 ∷ []) ≡ called 1 (7 ∷ 8 ∷ 9 ∷ []) 1)
    × (exported {A = ℕ} (7 ∷ 8 ∷ []) 1 0 (9 ∷ []) ≡ called 0 (9 ∷ []) 0)
unfolding opened lines sample
buffers = (refl, refl, refl, refl, refl, refl, refl, refl)

-- document 02, request 5, on the example of document 01: its total in blocks and at a price, and what the service returns and leaves of an output that has
-- room for all but the last byte
abbrev total_at : (ℕ → ℕ) → ℕ
total_at price = let t = the (judged sample) in total_of (records_of t (priced_sheet price t))

pub totals :
    (total_at in_blocks ≡ 16)
    × (total_at (move_price 10 1) ≡ 136)
    × (report_of sample 0 1 space (replicate 296 7)
    ≡ record {
      result = Err (refuse OutputTooSmall 297);
      work = space_after;
      output = replicate 296 7;
    })
unfolding opened lines sample
totals = (refl, refl, refl)

-- document 02, request 7. Once of figures in which the blocks that are missing are fewer than later and the chain, and need is above dead; and the
-- length of the report of document 01's example at two other prices, where its lines do not have the field.
-- Then runs of the example, with what once allows, where they are preempted, and the spills and fills: the run of document 01 with its preemption; one that
-- is preempted at the ensure, which moves what once allows and less than cost does; the same where an event behind the preemption is refused; and the
-- same with a second preemption, which is refused since the task has finished, so that one is done
abbrev before_ensure : List ℕ → List ℕ
before_ensure rest = 0 ∷ 11 ∷ 0 ∷ 0 ∷ 0 ∷ 22 ∷ 0 ∷ 0 ∷ 0 ∷ 0 ∷ 1 ∷ 99 ∷ rest

pub record Charged : Type 0 where
  pub once : ℕ
  pub at : List Place
  pub besides : ℕ

abbrev charged_for : List ℕ → Charged
charged_for events =
    let t = the (judged sample) in
    let es = events_of events in
    record { once = allowed t (charging_once (sheet_of t)) es; at = preemptions t es; besides = spills_and_fills t (sheet_of t) es }

abbrev place : ℕ → ℕ → Place
place f p = record { fn = f; at = p }

abbrev at_ensure : List ℕ → RunResult
at_ensure rest = (run_of Eager sample 0 1 space (before_ensure rest) (replicate 10 0) (replicate 5 0) (replicate 6 0)).result

pub once :
    (once_of (record { high = 5; dead = 1; need = 3; save = 4; reload = 2; later = 1; chain = 4; cost = 11; fill = 0 }) ≡ 8)
    × (bytes_written (report_of sample 0 2 space (replicate 400 7)).result ≡ 283)
    × (bytes_written (report_of sample 1 1 space (replicate 400 7)).result ≡ 282)
    × (charged_for with_preemption ≡ record { once = 9; at = place 1 1 ∷ []; besides = 2 })
    × (charged_for (before_ensure (0 ∷ 0 ∷ 0 ∷ 0 ∷ [])) ≡ record { once = 2; at = place 0 2 ∷ []; besides = 2 })
    × (at_ensure (0 ∷ 0 ∷ 0 ∷ 0 ∷ []) ≡ record { ending = AllDone; done = 8; moved = 2; allowed = 3 })
    × (charged_for (before_ensure (0 ∷ 0 ∷ 2 ∷ 0 ∷ [])) ≡ record { once = 2; at = place 0 2 ∷ []; besides = 2 })
    × (at_ensure (0 ∷ 0 ∷ 2 ∷ 0 ∷ []) ≡ record { ending = Refused (refuse Kind 7); done = 7; moved = 2; allowed = 3 })
    × (charged_for (before_ensure (0 ∷ 0 ∷ 0 ∷ 0 ∷ 0 ∷ 0 ∷ 1 ∷ 7 ∷ [])) ≡ record { once = 2; at = place 0 2 ∷ []; besides = 2 })
    × (at_ensure (0 ∷ 0 ∷ 0 ∷ 0 ∷ 0 ∷ 0 ∷ 1 ∷ 7 ∷ []) ≡ record { ending = Refused (refuse AfterFinish 9); done = 9; moved = 2; allowed = 3 })
unfolding opened lines sample with_preemption
once = (refl, refl, refl, refl, refl, refl, refl, refl, refl, refl)

-- document 02, request 2, on the example of document 01, whose eight points are all listed: in blocks, at a price, and what the service returns and leaves
-- of an output with six bytes more than the list, and of one that is a byte too short
abbrev dearest_lines : List ℕ
dearest_lines =
    lines ("(dear 1 1 7)" ∷ "(dear 0 1 2)" ∷ "(dear 0 3 2)" ∷ "(dear 1 0 2)" ∷ "(dear 1 2 2)" ∷ "(dear 0 2 1)" ∷ "(dear 0 0 0)" ∷ "(dear 0 4 0)" ∷ [])

pub dearest_points :
    (dearest_text in_blocks (the (judged sample)) ≡ dearest_lines)
    × (dearest_text (move_price 10 1) (the (judged sample))
    ≡ lines ("(dear 1 1 37)" ∷ "(dear 0 1 22)" ∷ "(dear 0 3 22)" ∷ "(dear 1 0 22)" ∷ "(dear 1 2 22)" ∷ "(dear 0 2 11)"
    ∷ "(dear 0 0 0)" ∷ "(dear 0 4 0)" ∷ []))
    × (dearest_of sample 0 1 space (replicate 110 7)
    ≡ record {
      result = Ok 104;
      work = space_after;
      output = dearest_lines ++ replicate 6 7;
    })
    × (dearest_of sample 0 1 space (replicate 103 7)
    ≡ record {
      result = Err (refuse OutputTooSmall 104);
      work = space_after;
      output = replicate 103 7;
    })
unfolding opened lines sample
dearest_points = (refl, refl, refl, refl)

-- ten of nineteen points: equal costs go by function and then by point, also where the tenth costs as much as the eleventh
pub dearest_ties :
    dearest_text in_blocks (the (judged (lines ("(stack 6)" ∷ "(func 0" ∷ "  (goto 1)" ∷ "  (call 1)" ∷ "  (ensure 0)"
    ∷ "  (goto 4)" ∷ "  (goto 5)" ∷ "  (goto 4)" ∷ ")" ∷ "(func 6" ∷ "  (store 2)" ∷ "  (store 5)" ∷ "  (store 1)"
    ∷ "  (call 2)" ∷ "  (ensure 6)" ∷ "  (call 2)" ∷ "  (ensure 6)" ∷ "  (store 2)" ∷ "  (either 9 9)" ∷ "  (return)" ∷ ")"
    ∷ "(func 5" ∷ "  (store 2)" ∷ "  (store 0)" ∷ "  (goto 2)" ∷ ")" ∷ []))))
    ≡ lines ("(dear 2 0 2)" ∷ "(dear 2 1 2)" ∷ "(dear 2 2 2)" ∷ "(dear 1 3 1)" ∷ "(dear 1 4 1)" ∷ "(dear 1 5 1)"
    ∷ "(dear 1 6 1)" ∷ "(dear 0 0 0)" ∷ "(dear 0 1 0)" ∷ "(dear 0 2 0)" ∷ [])
unfolding opened lines
dearest_ties = refl

-- document 02, request 10: of two points that cost 6, the one that saves 4 blocks comes before the one that saves 3; a point that costs 6 and saves 3
-- comes before one that costs 5 and saves 4
pub dearest_saves :
    (dearest_text in_blocks (the (judged (lines ("(stack 8)" ∷ "(func 4" ∷ "  (store 1)" ∷ "  (store 3)" ∷ "  (store 2)" ∷ "  (store 0)"
    ∷ "  (load 0)" ∷ "  (goto 6)" ∷ "  (load 1)" ∷ "  (return)" ∷ ")" ∷ []))))
    ≡ lines ("(dear 0 4 6)" ∷ "(dear 0 1 6)" ∷ "(dear 0 2 5)" ∷ "(dear 0 3 4)" ∷ "(dear 0 5 4)" ∷ "(dear 0 6 4)" ∷ "(dear 0 0 0)" ∷ "(dear 0 7 0)"
    ∷ []))
    × (dearest_text in_blocks (the (judged (lines ("(stack 8)" ∷ "(func 4" ∷ "  (store 1)" ∷ "  (store 3)" ∷ "  (load 1)" ∷ "  (store 0)"
    ∷ "  (load 0)" ∷ "  (return)" ∷ ")" ∷ []))))
    ≡ lines ("(dear 0 1 6)" ∷ "(dear 0 4 5)" ∷ "(dear 0 2 4)" ∷ "(dear 0 0 0)" ∷ "(dear 0 3 0)" ∷ "(dear 0 5 0)" ∷ []))
unfolding opened lines
dearest_saves = (refl, refl)

-- document 02, request 14: runs of a task without a stack on either core, with any cache and memory, without an event and with a first one of no kind,
-- which is 22 and not 20; and its plain stack. Its report, its list and its other rows are in the crate cases
pub without_stack :
    (run_of Eager [] 0 1 space [] [] (6 ∷ 6 ∷ []) (8 ∷ [])
    ≡ record {
      result = record { ending = AllDone; done = 0; moved = 0; allowed = 0 };
      work = space_after;
      answers = [];
      cache = 6 ∷ 6 ∷ [];
      memory = 8 ∷ [];
    })
    × (run_of Lazy [] 0 1 space (7 ∷ 3 ∷ 0 ∷ 0 ∷ []) (5 ∷ 5 ∷ []) [] []
    ≡ record {
      result = record { ending = Refused (refuse AfterFinish 0); done = 0; moved = 0; allowed = 0 };
      work = space_after;
      answers = 5 ∷ 5 ∷ [];
      cache = [];
      memory = [];
    })
    × (plain without (events_of (1 ∷ 1 ∷ [])) ≡ record { ending = Refused (refuse AfterFinish 0); done = 0; answers = [] })
unfolding opened lines
without_stack = (refl, refl, refl)
