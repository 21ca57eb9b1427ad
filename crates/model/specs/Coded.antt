-- Numbers of the rules, by computation: code and place of refusals, the code of every row, and each limit at both its sides.
use Rattle.std.specs.Prelude.{ℕ, ◌+◌, ◌*◌, true, false, ◌≡◌, refl, List, [], ◌∷◌, ◌++◌, map, length, replicate, ltb, Ok}
use Prim.Native.String.{String}
use Rattle.std.proofs.Math.Option.{none, some}
use Rattle.model.specs.declared.Row.TheVariants.{WorkTooSmall, PriceRange, TextTooLong, Form, StackSize, FrameSize, Offset, TooMany, Callee, Pairing}
use Rattle.model.specs.declared.Row.TheVariants.{Target, LastPoint, Unreachable, Uncalled, Uninitialised, OutputTooSmall, EventList}
use Rattle.model.specs.declared.Row.TheVariants.{AnswersTooSmall, CacheSize, MemoryTooSmall, AfterFinish, Kind, Choice}
use Rattle.model.specs.declared.Point.TheVariants.{Return}
use Rattle.model.specs.declared.Line.TheVariants as line
use Rattle.model.specs.declared.Eviction.TheVariants.{Eager}
use Rattle.model.specs.Limits.{most_bytes, work_length}
use Rattle.model.specs.Basic.{count_from}
use Rattle.model.specs.Text.{bytes}
use Rattle.model.specs.Task.{Func, Task, without, Judged, refused, task, Step, goes, stop, between, inside, read_line, read_text}
use Rattle.model.specs.Rows.{code_of, verdict_code, verdict_place, refuse}
use Rattle.model.specs.Refusal.{with_rows, task_rows, judged, work_row, priced_rows, judge, no_rows, run_rows}
use Rattle.model.specs.Services.{judged_numbers, check_of, check_number, result_numbers, after_write, written_by, report_of, dearest_of, run_judged, run_of, run_result_numbers}
use Rattle.model.specs.Opened.{opened}
use Rattle.model.specs.Examples.{lines, five, sample, sample_report, space, space_after, seven_steps, with_preemption, sample_run}

-- the task of an accepted text
abbrev pub the : Judged → Task
the (task t) = t
the (refused r) = without

-- refusals 2 to 13, and the empty text, which none of them refuses
pub refusals :
    (judged (lines ([])) ≡ task without)
    × (check_number (lines ("" ∷ [])) ≡ 2 * 65536 + 1)
    × (check_number (lines ("(stack 1)" ∷ [])) ≡ 2 * 65536 + 2)
    × (check_number (bytes "(stack 1)") ≡ 2 * 65536 + 1)
    × (check_number (bytes "(st") ≡ 2 * 65536 + 1)
    × (check_number (lines ("(stack 65)" ∷ "(stack 16)" ∷ "(func 4" ∷ [])) ≡ 3 * 65536 + 1)
    × (check_number (lines ("(stack 5)" ∷ "(func 6" ∷ "  (return)" ∷ ")" ∷ [])) ≡ 4 * 65536 + 2)
    × (check_number (lines ("(stack 5)" ∷ "(func 5" ∷ "  (store 5)" ∷ [])) ≡ 5 * 65536 + 3)
    × (check_number (lines ("(stack 5)" ∷ "(func 1" ∷ "  (store 0)" ∷ "  (ensure 1)" ∷ "  (either 7 4)" ∷ "  (load 0)"
    ∷ "  (load 0)" ∷ "  (load 0)" ∷ "  (load 0)" ∷ "  (either 9 11)" ∷ "  (load 0)" ∷ "  (store 0)" ∷ "  (return)" ∷ ")"
    ∷ "(func 0" ∷ "  (either 1 1)" ∷ "  (goto 2)" ∷ "  (goto 3)" ∷ "  (goto 4)" ∷ "  (goto 5)" ∷ "  (goto 6)" ∷ "  (return)"
    ∷ ")" ∷ [])) ≡ 8 * 65536 + 4)
    × (check_number (lines ("(stack 6)" ∷ "(func 5" ∷ "  (store 0)" ∷ "  (store 2)" ∷ "  (store 1)" ∷ "  (store 3)"
    ∷ "  (store 4)" ∷ "  (load 2)" ∷ "  (store 2)" ∷ "  (load 0)" ∷ "  (call 1)" ∷ "  (ensure 5)" ∷ "  (either 11 13)"
    ∷ "  (call 5)" ∷ "  (ensure 5)" ∷ "  (store 0)" ∷ "  (store 1)" ∷ "  (store 2)" ∷ "  (call 1)" ∷ "  (ensure 5)"
    ∷ "  (either 3 19)" ∷ "  (store 1)" ∷ "  (return)" ∷ ")" ∷ "(func 0" ∷ "  (goto 2)" ∷ "  (goto 2)" ∷ "  (either 3 4)"
    ∷ "  (goto 4)" ∷ "  (goto 5)" ∷ "  (goto 6)" ∷ "  (goto 1)" ∷ ")" ∷ [])) ≡ 7 * 65536 + 14)
    × (check_number (lines ("(stack 8)" ∷ "(func 0" ∷ "  (goto 1)" ∷ ")" ∷ [])) ≡ 9 * 65536 + 3)
    × (check_number (lines ("(stack 1)" ∷ "(func 1" ∷ "  (either 1 1)" ∷ "  (store 0)" ∷ ")" ∷ [])) ≡ 10 * 65536 + 4)
    × (check_number (lines ("(stack 5)" ∷ "(func 0" ∷ "  (goto 2)" ∷ "  (goto 1)" ∷ "  (return)" ∷ ")" ∷ []))
    ≡ 11 * 65536 + 4)
    × (check_number (lines ("(stack 3)" ∷ "(func 1" ∷ "  (call 4)" ∷ "  (ensure 1)" ∷ "  (call 1)" ∷ "  (ensure 1)"
    ∷ "  (store 0)" ∷ "  (call 1)" ∷ "  (ensure 1)" ∷ "  (call 2)" ∷ "  (ensure 1)" ∷ "  (call 1)" ∷ "  (ensure 1)"
    ∷ "  (return)" ∷ ")" ∷ "(func 3" ∷ "  (store 2)" ∷ "  (store 1)" ∷ "  (store 0)" ∷ "  (store 1)" ∷ "  (store 1)"
    ∷ "  (load 2)" ∷ "  (goto 7)" ∷ "  (either 8 8)" ∷ "  (return)" ∷ ")" ∷ "(func 1" ∷ "  (store 0)" ∷ "  (either 2 5)"
    ∷ "  (goto 3)" ∷ "  (load 0)" ∷ "  (store 0)" ∷ "  (either 6 7)" ∷ "  (load 0)" ∷ "  (either 8 10)" ∷ "  (load 0)"
    ∷ "  (either 10 4)" ∷ "  (return)" ∷ ")" ∷ "(func 0" ∷ "  (call 4)" ∷ "  (ensure 0)" ∷ "  (goto 3)" ∷ "  (either 4 4)"
    ∷ "  (call 4)" ∷ "  (ensure 0)" ∷ "  (goto 7)" ∷ "  (call 4)" ∷ "  (ensure 0)" ∷ "  (goto 10)" ∷ "  (either 11 11)"
    ∷ "  (goto 3)" ∷ ")" ∷ "(func 0" ∷ "  (goto 1)" ∷ "  (return)" ∷ ")" ∷ [])) ≡ 12 * 65536 + 40)
    × (check_number (lines ("(stack 16)" ∷ "(func 6" ∷ "  (store 3)" ∷ "  (store 2)" ∷ "  (store 0)" ∷ "  (load 1)"
    ∷ "  (either 1 5)" ∷ "  (return)" ∷ ")" ∷ [])) ≡ 13 * 65536 + 6)
unfolding opened lines sample
refusals = (refl, refl, refl, refl, refl, refl, refl, refl, refl, refl, refl, refl, refl, refl, refl)

-- the number of every row
pub codes :
    map code_of (TextTooLong ∷ Form ∷ StackSize ∷ FrameSize ∷ Offset ∷ TooMany ∷ Callee ∷ Pairing ∷ Target ∷ LastPoint ∷ Unreachable ∷ Uncalled
    ∷ Uninitialised ∷ OutputTooSmall ∷ WorkTooSmall ∷ EventList ∷ AnswersTooSmall ∷ CacheSize ∷ MemoryTooSmall ∷ Kind ∷ Choice ∷ AfterFinish
    ∷ PriceRange ∷ []) ≡ count_from 1 23
unfolding opened
codes = refl

-- a function of so many points, and a task of functions of so many points each
abbrev returns : ℕ → Func
returns n = record { frame = 0; points = replicate n Return }

abbrev of_sizes : List ℕ → Task
of_sizes l = record { stack = 1; funcs = map returns l }

-- a line that opens a function, or is a point, read after those of such a task
abbrev opens : Task → Step
opens t = read_line 9 (between t) (line.Func 0)

abbrev adds : Task → Func → Step
adds t x = read_line 9 (inside t x) (line.At Return)

-- each limit at both its sides. S (65 is starred) and its least; the digits of a number; functions; points of one function and of all; bytes of a text;
-- numbers of an event list; an output that just fits (one byte less is in totals). The crate cases has whole texts of so many functions and points
pub limits :
    (check_number (lines ("(stack 64)" ∷ "(func 64" ∷ "  (return)" ∷ ")" ∷ [])) ≡ 0)
    × (check_number (lines ("(stack 1)" ∷ "(func 1" ∷ "  (return)" ∷ ")" ∷ [])) ≡ 0)
    × (check_number (lines ("(stack 0)" ∷ "(func 0" ∷ "  (return)" ∷ ")" ∷ [])) ≡ 3 * 65536 + 1)
    × (check_number (lines ("(stack 1)" ∷ "(func 0" ∷ "  (goto 9999)" ∷ ")" ∷ [])) ≡ 9 * 65536 + 3)
    × (check_number (lines ("(stack 1)" ∷ "(func 0" ∷ "  (goto 10000)" ∷ ")" ∷ [])) ≡ 2 * 65536 + 3)
    × (opens (of_sizes (replicate 63 1)) ≡ goes (inside (of_sizes (replicate 63 1)) (returns 0)))
    × (opens (of_sizes (replicate 64 1)) ≡ stop (refuse TooMany 9))
    × (adds (of_sizes []) (returns 255) ≡ goes (inside (of_sizes []) (returns 256)))
    × (adds (of_sizes []) (returns 256) ≡ stop (refuse TooMany 9))
    × (adds (of_sizes (replicate 4 255)) (returns 3) ≡ goes (inside (of_sizes (replicate 4 255)) (returns 4)))
    × (adds (of_sizes (replicate 4 255)) (returns 4) ≡ stop (refuse TooMany 9))
    × ((text : List ℕ) → length text ≡ 32768 → judged text ≡ with_rows task_rows (read_text text))
    × ((text : List ℕ) → length text ≡ 32769 → judged_numbers (judged text) ≡ 1 ∷ 0 ∷ [])
    × (run_rows 131072 65536 5 6 (the (judged sample)) ≡ none)
    × (run_rows 131074 65537 5 6 (the (judged sample)) ≡ some (refuse EventList 0))
    × (report_of sample 0 1 space (replicate 297 7)
    ≡ after_write (Ok 297) space_after sample_report)
unfolding opened lines sample sample_report space space_after
limits =
    (refl, refl, refl, refl, refl, refl, refl, refl, refl, refl, refl, λ text h. let fits : ltb most_bytes (length text) ≡ false = rw h refl in rw fits refl, λ text h. let longer : ltb most_bytes (length text) ≡ true = rw h refl in rw longer refl, refl, refl, refl)

-- where several rows hold: 11 before 12 before 13 whatever the lines; 7 before 8 on one line, 9 before 7 by line, 8 before 10; 4 by
-- line before 5; 3 before 2 by line; the first of two lines; 15 before all
pub orders :
    (check_number (lines ("(stack 4)" ∷ "(func 2" ∷ "  (load 0)" ∷ "  (return)" ∷ ")" ∷ "(func 1" ∷ "  (goto 2)"
    ∷ "  (return)" ∷ "  (return)" ∷ ")" ∷ [])) ≡ 11 * 65536 + 8)
    × (check_number (lines ("(stack 4)" ∷ "(func 2" ∷ "  (load 0)" ∷ "  (return)" ∷ ")" ∷ "(func 1" ∷ "  (return)" ∷ ")"
    ∷ "(func 1" ∷ "  (return)" ∷ ")" ∷ [])) ≡ 12 * 65536 + 6)
    × (check_number (lines ("(stack 4)" ∷ "(func 2" ∷ "  (load 0)" ∷ "  (load 1)" ∷ "  (return)" ∷ ")" ∷ []))
    ≡ 13 * 65536 + 3)
    × (check_number (lines ("(stack 4)" ∷ "(func 2" ∷ "  (call 0)" ∷ "  (goto 9)" ∷ ")" ∷ [])) ≡ 7 * 65536 + 3)
    × (check_number (lines ("(stack 4)" ∷ "(func 2" ∷ "  (goto 9)" ∷ "  (call 0)" ∷ ")" ∷ [])) ≡ 9 * 65536 + 3)
    × (check_number (lines ("(stack 4)" ∷ "(func 2" ∷ "  (call 1)" ∷ ")" ∷ "(func 0" ∷ "  (return)" ∷ ")" ∷ []))
    ≡ 8 * 65536 + 3)
    × (check_number (lines ("(stack 4)" ∷ "(func 5" ∷ "  (load 7)" ∷ "x" ∷ [])) ≡ 4 * 65536 + 2)
    × (check_number (lines ("(stack 65)" ∷ "x" ∷ [])) ≡ 3 * 65536 + 1)
    × (judged_numbers (judge (work_row work_length 16383) no_rows (lines ("x" ∷ []))) ≡ 15 ∷ 16384 ∷ [])
unfolding opened lines sample
orders = (refl, refl, refl, refl, refl, refl, refl, refl, refl)

-- a store in one branch of two
abbrev branches : List ℕ
branches =
    lines ("(stack 2)" ∷ "(func 1" ∷ "  (store 0)" ∷ "  (either 2 4)" ∷ "  (store 0)" ∷ "  (goto 4)" ∷ "  (load 0)" ∷ "  (return)" ∷ ")" ∷ [])

-- the numbers that a run in blocks returns, for so many answers, blocks of the cache and numbers of the memory
abbrev run_on : List ℕ → List ℕ → ℕ → ℕ → ℕ → List ℕ
run_on text events answers cache memory =
    run_result_numbers (run_of Eager text 0 1 space events (replicate answers 0) (replicate cache 0) (replicate memory 0)).result

-- refusals of events, in their order, and 16 to 19
pub events :
    (run_on branches (0 ∷ 5 ∷ 0 ∷ 2 ∷ []) 2 2 1 ≡ 21 ∷ 1 ∷ 1 ∷ 0 ∷ 0 ∷ [])
    × (run_on branches (0 ∷ 5 ∷ 1 ∷ 2 ∷ 0 ∷ 1 ∷ 2 ∷ 0 ∷ []) 4 2 1 ≡ 20 ∷ 3 ∷ 3 ∷ 2 ∷ 2 ∷ [])
    × (run_on sample (replicate 16 0 ++ (9 ∷ 9 ∷ [])) 9 5 6 ≡ 22 ∷ 8 ∷ 8 ∷ 2 ∷ 2 ∷ [])
    × (run_on sample (0 ∷ 0 ∷ 0 ∷ []) 2 5 6 ≡ 16 ∷ 0 ∷ 0 ∷ 0 ∷ 0 ∷ [])
    × (run_on sample (0 ∷ 0 ∷ []) 0 5 6 ≡ 17 ∷ 1 ∷ 0 ∷ 0 ∷ 0 ∷ [])
    × (run_on sample (0 ∷ 0 ∷ []) 1 4 6 ≡ 18 ∷ 5 ∷ 0 ∷ 0 ∷ 0 ∷ [])
    × (run_on sample (0 ∷ 0 ∷ []) 1 5 5 ≡ 19 ∷ 6 ∷ 0 ∷ 0 ∷ 0 ∷ [])
unfolding opened lines sample space
events = (refl, refl, refl, refl, refl, refl, refl)

-- 23 for a start above 255 and for each 0 or above 255, after 15 and before 1
pub price_numbers :
    (judged_numbers (judge (priced_rows work_length 16384 256 1) no_rows sample) ≡ 23 ∷ 0 ∷ [])
    × (judged_numbers (judge (priced_rows work_length 16384 0 0) no_rows sample) ≡ 23 ∷ 0 ∷ [])
    × (judged_numbers (judge (priced_rows work_length 16384 0 256) no_rows sample) ≡ 23 ∷ 0 ∷ [])
    × (judged_numbers (judge (priced_rows work_length 16383 256 0) no_rows sample) ≡ 15 ∷ 16384 ∷ [])
    × (judged_numbers (judge (priced_rows work_length 16384 256 1) no_rows (replicate 32769 0)) ≡ 23 ∷ 0 ∷ [])
unfolding opened lines sample
price_numbers = (refl, refl, refl, refl, refl)

-- a service that asks for another length, and rows of a service before 16
pub own_numbers :
    (judged_numbers (judge (work_row 262144 16384) no_rows sample) ≡ 15 ∷ 262144 ∷ [])
    × (judged_numbers (run_judged none (λ t. some (refuse Choice 6)) sample (1 ∷ []) [] [] []) ≡ 21 ∷ 6 ∷ [])
unfolding opened lines sample
own_numbers = (refl, refl)

-- check of a text of these lines: the number that C gets, and code, place and working space of the service
pub record Checked : Type 0 where
  pub number : ℕ
  pub code : ℕ
  pub place : ℕ
  pub work : List ℕ

abbrev pub checked : List String → Checked
checked l =
    let after = check_of (lines l) space in
    record { number = check_number (lines l); code = verdict_code after.verdict; place = verdict_place after.verdict; work = after.work }

-- the numbers of the starred examples
pub starred_numbers :
    (result_numbers (report_of sample 0 1 space (replicate 400 7)).result ≡ 0 ∷ 0 ∷ 297 ∷ [])
    × (run_result_numbers (sample_run Eager seven_steps).result ≡ 0 ∷ 0 ∷ 7 ∷ 2 ∷ 2 ∷ [])
    × (run_result_numbers (sample_run Eager with_preemption).result ≡ 0 ∷ 0 ∷ 8 ∷ 9 ∷ 9 ∷ [])
    × (run_result_numbers (sample_run Eager []).result ≡ 0 ∷ 0 ∷ 0 ∷ 0 ∷ 0 ∷ [])
    × (checked [] ≡ record { number = 0; code = 0; place = 0; work = space_after })
    × (checked ("(stack 65)" ∷ []) ≡ record { number = 3 * 65536 + 1; code = 3; place = 1; work = space_after })
    × (checked ("(stack 5)" ∷ "(func 5" ∷ "  (return)" ∷ ")" ∷ []) ≡ record { number = 0; code = 0; place = 0; work = space_after })
    × (checked ("(stack 5)" ∷ "(func 6" ∷ "  (return)" ∷ ")" ∷ [])
    ≡ record { number = 4 * 65536 + 2; code = 4; place = 2; work = space_after })
    × (checked ("(stack 5)" ∷ "(func 0" ∷ "  (load 0)" ∷ "  (return)" ∷ ")" ∷ [])
    ≡ record { number = 5 * 65536 + 3; code = 5; place = 3; work = space_after })
unfolding opened lines five sample sample_report space space_after seven_steps with_preemption
starred_numbers = (refl, refl, refl, refl, refl, refl, refl, refl, refl)

-- the numbers of a result of refusal: no bytes are written, be it for a row of the service's own, the output, the working space or the price
pub refused_numbers :
    (result_numbers (written_by 2 none (λ t. some (refuse Choice 6)) (λ t. 1 ∷ []) sample (3 ∷ 3 ∷ 3 ∷ []) []).result ≡ 21 ∷ 6 ∷ 0 ∷ [])
    × (result_numbers (written_by 2 none no_rows (λ t. 1 ∷ []) sample (3 ∷ 3 ∷ 3 ∷ []) []).result ≡ 14 ∷ 1 ∷ 0 ∷ [])
    × (result_numbers (report_of sample 0 1 space (replicate 296 7)).result ≡ 14 ∷ 297 ∷ 0 ∷ [])
    × (result_numbers (dearest_of sample 0 1 space (replicate 103 7)).result ≡ 14 ∷ 104 ∷ 0 ∷ [])
    × (result_numbers (report_of [] 0 1 space (replicate 21 7)).result ≡ 14 ∷ 22 ∷ 0 ∷ [])
    × (result_numbers (report_of [] 0 1 (9 ∷ []) (replicate 30 7)).result ≡ 15 ∷ 16384 ∷ 0 ∷ [])
    × (result_numbers (report_of [] 256 1 space []).result ≡ 23 ∷ 0 ∷ 0 ∷ [])
unfolding opened lines sample space
refused_numbers = (refl, refl, refl, refl, refl, refl, refl)
