-- Runs on the core with a lazy pointer, by computation: those of document 01, which move as they do there; one that moves less, beside the same
-- run on the core of document 01; and runs found by a second simulator.
use Rattle.std.specs.Prelude.{ℕ, ◌≡◌, refl, List, [], ◌∷◌, replicate}
use Rattle.model.specs.declared.Ending.TheVariants.{AllDone}
use Rattle.model.specs.declared.Eviction.{Eviction}
use Rattle.model.specs.declared.Eviction.TheVariants.{Eager, Lazy}
use Rattle.model.specs.Core.{idle}
use Rattle.model.specs.Sheet.{move_price, priced_sheet}
use Rattle.model.specs.Plain.{events_of}
use Rattle.model.specs.Refusal.{judged}
use Rattle.model.specs.Run.{Ran, ran}
use Rattle.model.specs.Services.{AfterRun, run_of}
use Rattle.model.specs.Opened.{opened}
use Rattle.model.specs.Examples.{lines, sample, space, space_after, seven_steps, with_preemption, sample_run}
use Rattle.model.specs.Cases.{the}

-- the runs of document 01 return and leave what they do on its core (Examples.starred), and so does one at a price
pub sample_runs :
    (sample_run Lazy seven_steps ≡ sample_run Eager seven_steps)
    × (sample_run Lazy with_preemption ≡ sample_run Eager with_preemption)
    × ((run_of Lazy sample 10 1 space with_preemption (replicate 8 0) (replicate 5 0) (replicate 6 0)).result
    ≡ record { ending = AllDone; done = 8; moved = 49; allowed = 59 })
unfolding opened lines sample space seven_steps with_preemption
sample_runs = (refl, refl, refl)

-- eleven steps: function 0 calls function 1 twice, and stores nothing between the calls, so the second finds its blocks clean
abbrev twice : Eviction → AfterRun
twice x =
    run_of x (lines ("(stack 4)" ∷ "(func 3" ∷ "  (store 2)" ∷ "  (call 1)" ∷ "  (ensure 3)" ∷ "  (call 1)" ∷ "  (ensure 3)" ∷ "  (load 2)"
    ∷ "  (return)" ∷ ")" ∷ "(func 3" ∷ "  (store 0)" ∷ "  (return)" ∷ ")" ∷ [])) 0 1 space (0 ∷ 7 ∷ replicate 20 0)
    (replicate 11 5) (replicate 4 6) (replicate 7 8)

pub second_clean :
    (twice Eager
    ≡ record {
      result = record { ending = AllDone; done = 11; moved = 8; allowed = 8 };
      work = space_after;
      answers = 0 ∷ 0 ∷ 0 ∷ 0 ∷ 0 ∷ 0 ∷ 0 ∷ 0 ∷ 0 ∷ 7 ∷ 0 ∷ [];
      cache = 6 ∷ 6 ∷ 7 ∷ 6 ∷ [];
      memory = 8 ∷ 8 ∷ 8 ∷ 8 ∷ 8 ∷ 6 ∷ 7 ∷ [];
    })
    × (twice Lazy
    ≡ record {
      result = record { ending = AllDone; done = 11; moved = 6; allowed = 8 };
      work = space_after;
      answers = 0 ∷ 0 ∷ 0 ∷ 0 ∷ 0 ∷ 0 ∷ 0 ∷ 0 ∷ 0 ∷ 7 ∷ 0 ∷ [];
      cache = 6 ∷ 6 ∷ 7 ∷ 6 ∷ [];
      memory = 8 ∷ 8 ∷ 8 ∷ 8 ∷ 8 ∷ 6 ∷ 7 ∷ [];
    })
unfolding opened lines space space_after
second_clean = (refl, refl)

-- what a run of these events leaves, with LP, a move having this start and this price of each block
abbrev pub lazily : List ℕ → ℕ → ℕ → List ℕ → List ℕ → List ℕ → Ran
lazily text start each events cache memory =
    let t = the (judged text) in
    ran t (priced_sheet (move_price start each) t) (idle Lazy cache memory) (events_of events)

-- the events are all done: how many, what was moved, the answers, ST, the occupancy, LP − ST, the cache and the memory
abbrev pub finished : ℕ → ℕ → List ℕ → ℕ → ℕ → ℕ → List ℕ → List ℕ → Ran
finished done moved answers st occupancy pointer cache memory =
    record {
      ending = AllDone;
      done = done;
      moved = moved;
      answers = answers;
      core = record { st = st; occupancy = occupancy; pointer = pointer; eviction = Lazy; cache = cache; memory = memory };
    }

-- ten runs; the crate cases has fifty more. Of the sixty 25 move less than on the core of document 01
pub lazy_runs :
    (lazily (lines ("(stack 2)" ∷ "(func 2" ∷ "  (store 1)" ∷ "  (goto 3)" ∷ "  (either 3 4)" ∷ "  (goto 2)" ∷ "  (call 1)" ∷ "  (ensure 2)"
    ∷ "  (store 0)" ∷ "  (store 1)" ∷ "  (store 1)" ∷ "  (call 1)" ∷ "  (ensure 2)" ∷ "  (call 1)" ∷ "  (ensure 2)" ∷ "  (load 1)"
    ∷ "  (store 1)" ∷ "  (load 1)" ∷ "  (load 1)" ∷ "  (return)" ∷ ")" ∷ "(func 1" ∷ "  (store 0)" ∷ "  (store 0)" ∷ "  (load 0)"
    ∷ "  (store 0)" ∷ "  (goto 4)" ∷ ")" ∷ [])) 0 1 (0 ∷ 4059547180 ∷ 1 ∷ 2540389634 ∷ 0 ∷ 639063361 ∷ 0 ∷ 294697058 ∷ 0 ∷ 1 ∷ 0
    ∷ 1204847942 ∷ 0 ∷ 1792508049 ∷ 1 ∷ 4044881537 ∷ 0 ∷ 3386153478 ∷ 1 ∷ 2324037018 ∷ 0 ∷ 2141509431 ∷ 1 ∷ 2439891992 ∷ 0 ∷ 3430723242 ∷ 0
    ∷ 68292459 ∷ []) (16 ∷ 12 ∷ []) (21 ∷ 22 ∷ 22 ∷ 22 ∷ [])
    ≡ finished 14 4 (0 ∷ 0 ∷ 0 ∷ 0 ∷ 0 ∷ 0 ∷ 0 ∷ 0 ∷ 0 ∷ 0 ∷ 3386153478 ∷ 0 ∷ 0 ∷ 0 ∷ []) 1 1 1 (2439891992 ∷ 3430723242 ∷ []) (21
    ∷ 3386153478 ∷ 2540389634 ∷ 2540389634 ∷ []))
    × (lazily (lines ("(stack 2)" ∷ "(func 2" ∷ "  (store 0)" ∷ "  (store 0)" ∷ "  (load 0)" ∷ "  (load 0)" ∷ "  (either 5 6)"
    ∷ "  (load 0)" ∷ "  (either 7 3)" ∷ "  (return)" ∷ ")" ∷ [])) 10 1 (0 ∷ 373911205 ∷ 0 ∷ 1598992857 ∷ 0 ∷ 2393732399 ∷ 1 ∷ 2277823630 ∷ 0
    ∷ 879763973 ∷ []) (13 ∷ 10 ∷ []) (23 ∷ 21 ∷ 25 ∷ [])
    ≡ finished 5 23 (0 ∷ 0 ∷ 1598992857 ∷ 0 ∷ 1598992857 ∷ []) 1 1 0 (2277823630 ∷ 1598992857 ∷ []) (23 ∷ 1598992857 ∷ 13 ∷ []))
    × (lazily (lines ("(stack 2)" ∷ "(func 2" ∷ "  (store 0)" ∷ "  (store 1)" ∷ "  (either 3 1)" ∷ "  (either 4 6)" ∷ "  (call 1)"
    ∷ "  (ensure 2)" ∷ "  (either 7 3)" ∷ "  (call 1)" ∷ "  (ensure 2)" ∷ "  (load 0)" ∷ "  (return)" ∷ ")" ∷ "(func 1" ∷ "  (store 0)"
    ∷ "  (either 2 5)" ∷ "  (call 2)" ∷ "  (ensure 1)" ∷ "  (store 0)" ∷ "  (load 0)" ∷ "  (store 0)" ∷ "  (call 2)" ∷ "  (ensure 1)"
    ∷ "  (call 2)" ∷ "  (ensure 1)" ∷ "  (store 0)" ∷ "  (return)" ∷ ")" ∷ "(func 1" ∷ "  (store 0)" ∷ "  (load 0)" ∷ "  (store 0)"
    ∷ "  (return)" ∷ ")" ∷ [])) 0 1 (0 ∷ 1870612345 ∷ 0 ∷ 3073067489 ∷ 1 ∷ 2034967483 ∷ 0 ∷ 0 ∷ 0 ∷ 1 ∷ 0 ∷ 1 ∷ 0 ∷ 1 ∷ 0 ∷ 0 ∷ 0
    ∷ 4030299761 ∷ 0 ∷ 3883552545 ∷ 0 ∷ 1 ∷ 0 ∷ 1801976878 ∷ 0 ∷ 2597000637 ∷ []) (10 ∷ 15 ∷ []) (29 ∷ 27 ∷ 24 ∷ 21 ∷ 29 ∷ 26 ∷ [])
    ≡ finished 13 4 (0 ∷ 0 ∷ 0 ∷ 0 ∷ 0 ∷ 0 ∷ 0 ∷ 0 ∷ 0 ∷ 0 ∷ 0 ∷ 3883552545 ∷ 0 ∷ []) 3 2 1 (1870612345 ∷ 2597000637 ∷ []) (29 ∷ 27 ∷ 24
    ∷ 21 ∷ 1870612345 ∷ 3073067489 ∷ []))
    × (lazily (lines ("(stack 6)" ∷ "(func 2" ∷ "  (store 1)" ∷ "  (store 0)" ∷ "  (load 1)" ∷ "  (either 4 6)" ∷ "  (load 0)"
    ∷ "  (either 6 3)" ∷ "  (load 0)" ∷ "  (return)" ∷ ")" ∷ [])) 10 1 (0 ∷ 457952994 ∷ 0 ∷ 1695234482 ∷ 0 ∷ 143922428 ∷ 0 ∷ 1 ∷ 0
    ∷ 156395130 ∷ 0 ∷ 154807979 ∷ []) (12 ∷ 12 ∷ 12 ∷ 19 ∷ 16 ∷ 15 ∷ []) (25 ∷ 22 ∷ 23 ∷ 26 ∷ [])
    ≡ finished 6 0 (0 ∷ 0 ∷ 457952994 ∷ 0 ∷ 1695234482 ∷ 0 ∷ []) 4 0 0 (12 ∷ 12 ∷ 1695234482 ∷ 457952994 ∷ 16 ∷ 15 ∷ []) (25 ∷ 22 ∷ 23 ∷ 26
    ∷ []))
    × (lazily (lines ("(stack 3)" ∷ "(func 2" ∷ "  (store 1)" ∷ "  (store 0)" ∷ "  (load 0)" ∷ "  (load 0)" ∷ "  (load 0)" ∷ "  (call 1)"
    ∷ "  (ensure 2)" ∷ "  (store 0)" ∷ "  (either 9 4)" ∷ "  (call 1)" ∷ "  (ensure 2)" ∷ "  (either 4 1)" ∷ ")" ∷ "(func 2"
    ∷ "  (either 3 1)" ∷ "  (goto 2)" ∷ "  (return)" ∷ "  (store 0)" ∷ "  (store 0)" ∷ "  (store 1)" ∷ "  (goto 7)" ∷ "  (goto 8)"
    ∷ "  (either 9 12)" ∷ "  (load 0)" ∷ "  (call 2)" ∷ "  (ensure 2)" ∷ "  (load 1)" ∷ "  (return)" ∷ ")" ∷ "(func 2" ∷ "  (store 1)"
    ∷ "  (store 1)" ∷ "  (goto 1)" ∷ ")" ∷ [])) 0 1 (0 ∷ 3020655013 ∷ 0 ∷ 1446361025 ∷ 0 ∷ 3665646099 ∷ 0 ∷ 1560635105 ∷ 1 ∷ 2012917571 ∷ 1
    ∷ 298845636 ∷ 1 ∷ 3442776302 ∷ 1 ∷ 3532719687 ∷ 0 ∷ 3306100252 ∷ 0 ∷ 3406185217 ∷ 1 ∷ 1030950999 ∷ 0 ∷ 0 ∷ 0 ∷ 1983191988 ∷ 0
    ∷ 1455105495 ∷ 0 ∷ 2690593567 ∷ 0 ∷ 418019005 ∷ 0 ∷ 885050365 ∷ 0 ∷ 0 ∷ []) (19 ∷ 18 ∷ 13 ∷ []) (21 ∷ 21 ∷ 29 ∷ 25 ∷ 24 ∷ 25 ∷ [])
    ≡ finished 18 6 (0 ∷ 0 ∷ 1446361025 ∷ 1446361025 ∷ 0 ∷ 0 ∷ 0 ∷ 0 ∷ 1446361025 ∷ 0 ∷ 0 ∷ 0 ∷ 0 ∷ 0 ∷ 0 ∷ 0 ∷ 0 ∷ 0 ∷ []) 2 2 2
    (2690593567 ∷ 1030950999 ∷ 1455105495 ∷ []) (21 ∷ 21 ∷ 29 ∷ 25 ∷ 1446361025 ∷ 3020655013 ∷ []))
    × (lazily (lines ("(stack 1)" ∷ "(func 0" ∷ "  (goto 1)" ∷ "  (call 1)" ∷ "  (ensure 0)" ∷ "  (return)" ∷ ")" ∷ "(func 1"
    ∷ "  (store 0)" ∷ "  (store 0)" ∷ "  (load 0)" ∷ "  (load 0)" ∷ "  (goto 5)" ∷ "  (load 0)" ∷ "  (either 7 10)" ∷ "  (call 2)"
    ∷ "  (ensure 1)" ∷ "  (return)" ∷ "  (return)" ∷ ")" ∷ "(func 0" ∷ "  (either 5 1)" ∷ "  (goto 2)" ∷ "  (either 3 4)" ∷ "  (goto 2)"
    ∷ "  (goto 8)" ∷ "  (goto 6)" ∷ "  (goto 7)" ∷ "  (goto 8)" ∷ "  (goto 4)" ∷ ")" ∷ [])) 10 1 (0 ∷ 3696193903 ∷ 0 ∷ 2712381509 ∷ 0
    ∷ 295087824 ∷ 0 ∷ 3181253354 ∷ 1 ∷ 1370929266 ∷ 0 ∷ 3751393729 ∷ 0 ∷ 3737488671 ∷ 0 ∷ 1453776991 ∷ 0 ∷ 782736945 ∷ 0 ∷ 1 ∷ 1 ∷ 62403643
    ∷ 0 ∷ 1446753420 ∷ 0 ∷ 2049307349 ∷ 0 ∷ 608400895 ∷ []) (18 ∷ []) (25 ∷ 27 ∷ [])
    ≡ finished 14 22 (0 ∷ 0 ∷ 0 ∷ 0 ∷ 0 ∷ 3181253354 ∷ 3181253354 ∷ 0 ∷ 3181253354 ∷ 0 ∷ 0 ∷ 0 ∷ 0 ∷ 0 ∷ []) 2 0 0 (62403643 ∷ []) (25
    ∷ 3181253354 ∷ []))
    × (lazily (lines ("(stack 3)" ∷ "(func 1" ∷ "  (store 0)" ∷ "  (load 0)" ∷ "  (goto 3)" ∷ "  (goto 4)" ∷ "  (either 1 2)" ∷ ")"
    ∷ [])) 0 1 (0 ∷ 594672390 ∷ 0 ∷ 3999549210 ∷ 1 ∷ 642823261 ∷ 0 ∷ 4258519732 ∷ 0 ∷ 3710956952 ∷ 0 ∷ 1 ∷ 0 ∷ 1773278633 ∷ 0 ∷ 1748220002
    ∷ 0 ∷ 0 ∷ 0 ∷ 2863231849 ∷ 0 ∷ 436997475 ∷ 1 ∷ 284495516 ∷ 0 ∷ 2839853866 ∷ 0 ∷ 1 ∷ 0 ∷ 3850147883 ∷ 0 ∷ 4101264537 ∷ 1 ∷ 1005018805 ∷ 0
    ∷ 1 ∷ []) (12 ∷ 15 ∷ 14 ∷ []) (28 ∷ [])
    ≡ finished 18 4 (0 ∷ 594672390 ∷ 0 ∷ 0 ∷ 0 ∷ 0 ∷ 0 ∷ 0 ∷ 0 ∷ 594672390 ∷ 0 ∷ 0 ∷ 0 ∷ 0 ∷ 0 ∷ 0 ∷ 0 ∷ 0 ∷ []) 0 1 0 (594672390
    ∷ 1005018805 ∷ 1005018805 ∷ []) (594672390 ∷ []))
    × (lazily (lines ("(stack 2)" ∷ "(func 2" ∷ "  (store 1)" ∷ "  (store 0)" ∷ "  (load 1)" ∷ "  (call 1)" ∷ "  (ensure 2)"
    ∷ "  (either 8 6)" ∷ "  (either 7 9)" ∷ "  (load 0)" ∷ "  (either 9 9)" ∷ "  (call 1)" ∷ "  (ensure 2)" ∷ "  (load 0)" ∷ "  (load 1)"
    ∷ "  (return)" ∷ ")" ∷ "(func 0" ∷ "  (either 1 2)" ∷ "  (goto 2)" ∷ "  (either 3 1)" ∷ "  (either 4 0)" ∷ "  (either 4 5)"
    ∷ "  (goto 2)" ∷ ")" ∷ [])) 0 1 (1 ∷ 686620495 ∷ 0 ∷ 560105363 ∷ 0 ∷ 1039390829 ∷ 0 ∷ 3429480252 ∷ 0 ∷ 3007934630 ∷ 0 ∷ 0 ∷ 0
    ∷ 2177368859 ∷ 1 ∷ 2318156880 ∷ 0 ∷ 0 ∷ 0 ∷ 0 ∷ 0 ∷ 1 ∷ 0 ∷ 17597242 ∷ 0 ∷ 1 ∷ 1 ∷ 296368527 ∷ 1 ∷ 50573090 ∷ 0 ∷ 1462955205 ∷ 0 ∷ 1 ∷ 0
    ∷ 2831559503 ∷ 1 ∷ 1278177579 ∷ 0 ∷ 0 ∷ 0 ∷ 1 ∷ 1 ∷ 4214226993 ∷ 0 ∷ 0 ∷ 0 ∷ 3668415588 ∷ 0 ∷ 1 ∷ 0 ∷ 4073970309 ∷ 0 ∷ 0 ∷ 0 ∷ 1
    ∷ []) (16 ∷ 10 ∷ []) (29 ∷ 20 ∷ 20 ∷ 21 ∷ [])
    ≡ finished 28 2 (0 ∷ 0 ∷ 0 ∷ 560105363 ∷ 0 ∷ 0 ∷ 0 ∷ 0 ∷ 0 ∷ 0 ∷ 0 ∷ 0 ∷ 0 ∷ 0 ∷ 0 ∷ 0 ∷ 0 ∷ 0 ∷ 0 ∷ 0 ∷ 0 ∷ 0 ∷ 0 ∷ 0 ∷ 0 ∷ 0 ∷ 0 ∷ 0
    ∷ []) 2 0 0 (4214226993 ∷ 4214226993 ∷ []) (29 ∷ 20 ∷ 1039390829 ∷ 560105363 ∷ []))
    × (lazily (lines ("(stack 3)" ∷ "(func 0" ∷ "  (goto 1)" ∷ "  (either 2 1)" ∷ "  (either 3 3)" ∷ "  (call 1)" ∷ "  (ensure 0)"
    ∷ "  (return)" ∷ ")" ∷ "(func 2" ∷ "  (store 0)" ∷ "  (store 0)" ∷ "  (either 3 3)" ∷ "  (return)" ∷ ")" ∷ [])) 3 2 (1 ∷ 4111773564 ∷ 0
    ∷ 2386907773 ∷ 1 ∷ 308938820 ∷ 0 ∷ 0 ∷ 1 ∷ 483694341 ∷ 0 ∷ 0 ∷ 0 ∷ 182453522 ∷ 0 ∷ 3465002026 ∷ 0 ∷ 1116727737 ∷ 0 ∷ 0 ∷ 0 ∷ 605786143
    ∷ 0 ∷ 1603825140 ∷ 0 ∷ 2353879933 ∷ []) (16 ∷ 11 ∷ 16 ∷ []) (23 ∷ 29 ∷ 25 ∷ 22 ∷ [])
    ≡ finished 13 0 (0 ∷ 0 ∷ 0 ∷ 0 ∷ 0 ∷ 0 ∷ 0 ∷ 0 ∷ 0 ∷ 0 ∷ 0 ∷ 0 ∷ 0 ∷ []) 4 0 0 (483694341 ∷ 483694341 ∷ 1116727737 ∷ []) (23 ∷ 29 ∷ 25
    ∷ 22 ∷ []))
    × (lazily (lines ("(stack 3)" ∷ "(func 2" ∷ "  (store 0)" ∷ "  (store 1)" ∷ "  (store 0)" ∷ "  (call 2)" ∷ "  (ensure 2)"
    ∷ "  (either 9 6)" ∷ "  (store 0)" ∷ "  (call 1)" ∷ "  (ensure 2)" ∷ "  (return)" ∷ ")" ∷ "(func 1" ∷ "  (store 0)" ∷ "  (load 0)"
    ∷ "  (either 1 3)" ∷ "  (goto 4)" ∷ "  (goto 5)" ∷ "  (goto 6)" ∷ "  (call 2)" ∷ "  (ensure 1)" ∷ "  (load 0)" ∷ "  (load 0)"
    ∷ "  (return)" ∷ ")" ∷ "(func 3" ∷ "  (store 1)" ∷ "  (store 0)" ∷ "  (load 0)" ∷ "  (either 4 4)" ∷ "  (goto 2)" ∷ ")" ∷ [])) 3 2 (0
    ∷ 4277958565 ∷ 1 ∷ 3466234212 ∷ 1 ∷ 4009441235 ∷ 0 ∷ 532673996 ∷ 0 ∷ 2686677410 ∷ 0 ∷ 309326166 ∷ 0 ∷ 1687552780 ∷ 0 ∷ 3047271676 ∷ 0
    ∷ 4082379292 ∷ 1 ∷ 1922440282 ∷ 0 ∷ 0 ∷ 1 ∷ 586044006 ∷ 0 ∷ 2449395368 ∷ 1 ∷ 3347364410 ∷ 0 ∷ 3380288651 ∷ 0 ∷ 0 ∷ 0 ∷ 1145494085 ∷ 0
    ∷ 2936307514 ∷ 0 ∷ 0 ∷ 0 ∷ 4050842874 ∷ 0 ∷ 3731104984 ∷ 1 ∷ 2490585008 ∷ 0 ∷ 1 ∷ 0 ∷ 3103472884 ∷ 0 ∷ 1677703005 ∷ 1 ∷ 2670235252 ∷ 0
    ∷ 0 ∷ 1 ∷ 1395855307 ∷ 0 ∷ 2948742709 ∷ 0 ∷ 1675821406 ∷ []) (11 ∷ 17 ∷ 15 ∷ []) (21 ∷ 22 ∷ 28 ∷ 24 ∷ 28 ∷ 21 ∷ 22 ∷ 21 ∷ [])
    ≡ finished 30 46 (0 ∷ 0 ∷ 0 ∷ 0 ∷ 0 ∷ 0 ∷ 0 ∷ 0 ∷ 3047271676 ∷ 0 ∷ 0 ∷ 0 ∷ 0 ∷ 0 ∷ 3047271676 ∷ 0 ∷ 0 ∷ 3047271676 ∷ 0 ∷ 0 ∷ 3047271676
    ∷ 0 ∷ 0 ∷ 0 ∷ 3047271676 ∷ 0 ∷ 0 ∷ 0 ∷ 0 ∷ 3047271676 ∷ []) 3 1 0 (3047271676 ∷ 1395855307 ∷ 1395855307 ∷ []) (21 ∷ 22 ∷ 28
    ∷ 3047271676 ∷ 1687552780 ∷ 4009441235 ∷ 2686677410 ∷ 532673996 ∷ []))
unfolding opened lines
lazy_runs = (refl, refl, refl, refl, refl, refl, refl, refl, refl, refl)
