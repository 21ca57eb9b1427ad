-- The starred examples of document 01, as one list with a single conclusion, by computation.
use Rattle.std.specs.Prelude.{ℕ, ◌≡◌, refl, List, [], ◌∷◌, ◌++◌, replicate, Ok, Err}
use Prim.Native.String.{String}
use Rattle.model.specs.declared.Row.TheVariants.{StackSize, FrameSize, Offset}
use Rattle.model.specs.declared.Ending.TheVariants.{AllDone}
use Rattle.model.specs.Rows.{refuse}
use Rattle.model.specs.Basic.{joined}
use Rattle.model.specs.Text.{bytes}
use Rattle.model.specs.declared.Eviction.{Eviction}
use Rattle.model.specs.declared.Eviction.TheVariants.{Eager}
use Rattle.model.specs.Core.{Core, reserve, ensure, free}
use Rattle.model.specs.Services.{AfterCheck, check_of, report_of, AfterRun, run_of}
use Rattle.model.specs.Opened.{opened}

-- a text from its lines
unfoldable pub lines : List String → List ℕ
lines l = joined (λ s. bytes s ++ bytes "\n") l

-- a cache of 5 blocks at occupancy n
unfoldable pub five : ℕ → Core
five n = record { st = 20; occupancy = n; pointer = n; eviction = Eager; cache = replicate 5 0; memory = replicate 40 0 }

unfoldable pub sample : List ℕ
unfolding lines
sample =
    lines
    ("(stack 5)"
    ∷ "(func 2"
    ∷ "  (store 1)"
    ∷ "  (call 1)"
    ∷ "  (ensure 2)"
    ∷ "  (load 1)"
    ∷ "  (return)"
    ∷ ")"
    ∷ "(func 4"
    ∷ "  (store 0)"
    ∷ "  (load 0)"
    ∷ "  (return)"
    ∷ ")"
    ∷ [])

unfoldable pub sample_report : List ℕ
unfolding lines
sample_report =
    lines
    ("(report"
    ∷ "  (func 0 2 6 6 0 0)"
    ∷ "  (at 0 2 2 2 0 0 0 0 0 0 0)"
    ∷ "  (at 1 2 1 0 1 0 1 0 2 0 2)"
    ∷ "  (at 2 1 1 0 0 0 1 0 1 1 0)"
    ∷ "  (at 3 2 1 2 1 1 0 0 2 0 2)"
    ∷ "  (at 4 2 2 0 0 0 0 0 0 0 0)"
    ∷ "  (func 1 4 4 4 1 1)"
    ∷ "  (at 0 5 4 1 1 0 0 1 2 0 2)"
    ∷ "  (at 1 5 0 1 5 1 0 1 7 0 7)"
    ∷ "  (at 2 5 4 0 1 0 0 1 2 0 2)"
    ∷ "  (total 16)"
    ∷ ")"
    ∷ [])

-- a working space of the length asked for, and one number more
unfoldable pub space : List ℕ
space = replicate 16385 3

unfoldable pub space_after : List ℕ
space_after = replicate 16384 0 ++ (3 ∷ [])

-- the example's seven steps: store 11, call, store 22, load, return, ensure, load. And with a preemption, 99 left behind, before
-- function 1's load
unfoldable pub seven_steps : List ℕ
seven_steps = 0 ∷ 11 ∷ 0 ∷ 0 ∷ 0 ∷ 22 ∷ 0 ∷ 0 ∷ 0 ∷ 0 ∷ 0 ∷ 0 ∷ 0 ∷ 0 ∷ []

unfoldable pub with_preemption : List ℕ
with_preemption = 0 ∷ 11 ∷ 0 ∷ 0 ∷ 0 ∷ 22 ∷ 1 ∷ 99 ∷ 0 ∷ 0 ∷ 0 ∷ 0 ∷ 0 ∷ 0 ∷ 0 ∷ 0 ∷ []

-- what is lent to the runs: eight answers and one number more, five blocks, a memory of seven numbers
abbrev pub sample_run : Eviction → List ℕ → AfterRun
sample_run x events = run_of x sample 0 1 space events (replicate 9 5) (replicate 5 6) (replicate 7 8)

-- the verdict on a text of these lines
abbrev pub verdict_on : List String → AfterCheck
verdict_on l = check_of (lines l) space

pub starred :
    ((reserve 4 (five 1)).blocks ≡ 0)
    × ((reserve 4 (five 2)).blocks ≡ 1)
    × ((ensure 2 (five 2)).blocks ≡ 0)
    × ((ensure 2 (five 1)).blocks ≡ 1)
    × ((free 4 (five 1)).occupancy ≡ 0)
    × (report_of sample 0 1 space (replicate 400 7)
    ≡ record {
      result = Ok 297;
      work = space_after;
      output = sample_report ++ replicate 103 7;
    })
    × (sample_run Eager seven_steps
    ≡ record {
      result = record { ending = AllDone; done = 7; moved = 2; allowed = 2 };
      work = space_after;
      answers = 0 ∷ 0 ∷ 0 ∷ 22 ∷ 0 ∷ 0 ∷ 11 ∷ 5 ∷ 5 ∷ [];
      cache = 6 ∷ 11 ∷ 6 ∷ 6 ∷ 6 ∷ [];
      memory = 8 ∷ 8 ∷ 8 ∷ 8 ∷ 8 ∷ 8 ∷ 11 ∷ [];
    })
    × (sample_run Eager with_preemption
    ≡ record {
      result = record { ending = AllDone; done = 8; moved = 9; allowed = 9 };
      work = space_after;
      answers = 0 ∷ 0 ∷ 0 ∷ 0 ∷ 22 ∷ 0 ∷ 0 ∷ 11 ∷ 5 ∷ [];
      cache = 6 ∷ 11 ∷ 99 ∷ 99 ∷ 99 ∷ [];
      memory = 8 ∷ 22 ∷ 6 ∷ 6 ∷ 6 ∷ 6 ∷ 11 ∷ [];
    })
    × ((sample_run Eager []).result ≡ record { ending = AllDone; done = 0; moved = 0; allowed = 0 })
    × (verdict_on [] ≡ record { verdict = Ok tt; work = space_after })
    × (verdict_on ("(stack 65)" ∷ []) ≡ record { verdict = Err (refuse StackSize 1); work = space_after })
    × (verdict_on ("(stack 5)" ∷ "(func 5" ∷ "  (return)" ∷ ")" ∷ []) ≡ record { verdict = Ok tt; work = space_after })
    × (verdict_on ("(stack 5)" ∷ "(func 6" ∷ "  (return)" ∷ ")" ∷ [])
    ≡ record { verdict = Err (refuse FrameSize 2); work = space_after })
    × (verdict_on ("(stack 5)" ∷ "(func 0" ∷ "  (load 0)" ∷ "  (return)" ∷ ")" ∷ [])
    ≡ record { verdict = Err (refuse Offset 3); work = space_after })
unfolding opened lines five sample sample_report space space_after seven_steps with_preemption
starred = (refl, refl, refl, refl, refl, refl, refl, refl, refl, refl, refl, refl, refl, refl)
