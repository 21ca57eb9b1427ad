-- Runs on the core of document 01, by computation.
use Rattle.std.specs.Prelude.{◌≡◌, refl, [], ◌∷◌}
use Rattle.model.specs.declared.Row.TheVariants.{EventList, CacheSize, AfterFinish}
use Rattle.model.specs.declared.Eviction.TheVariants.{Eager}
use Rattle.model.specs.declared.Ending.TheVariants.{AllDone, Refused}
use Rattle.model.specs.Rows.{refuse}
use Rattle.model.specs.Services.{run_of}
use Rattle.model.specs.Opened.{opened}
use Rattle.model.specs.Examples.{lines, sample, space, space_after}

-- runs: a step after the finish; preemptions in a loop-free task; calls and ensures with preemptions; refusals 16 and 18
pub runs :
    (run_of Eager (lines ("(stack 5)" ∷ "(func 1" ∷ "  (store 0)" ∷ "  (goto 2)" ∷ "  (return)" ∷ ")" ∷ [])) 0 1 space (0 ∷ 2934011270 ∷ 0
    ∷ 589427096 ∷ 0 ∷ 3997777106 ∷ 0 ∷ 0 ∷ 0 ∷ 0 ∷ []) (373894995 ∷ 2968548144 ∷ 886888172 ∷ 3830429940 ∷ 3190996365
    ∷ []) (898285158 ∷ 1500554193 ∷ 2598987744 ∷ 1007897788 ∷ 1265440252 ∷ []) (858584284 ∷ [])
    ≡ record {
      result = record { ending = Refused (refuse AfterFinish 3); done = 3; moved = 0; allowed = 0 };
      work = space_after;
      answers = 0
          ∷ 0 ∷ 0 ∷ 3830429940 ∷ 3190996365 ∷ [];
      cache = 2934011270 ∷ 1500554193 ∷ 2598987744 ∷ 1007897788 ∷ 1265440252
          ∷ [];
      memory = 858584284 ∷ [];
    })
    × (run_of Eager (lines ("(stack 4)" ∷ "(func 1" ∷ "  (goto 1)" ∷ "  (goto 2)" ∷ "  (store 0)" ∷ "  (goto 4)" ∷ "  (load 0)"
    ∷ "  (goto 6)" ∷ "  (load 0)" ∷ "  (return)" ∷ ")" ∷ [])) 0 1 space (0 ∷ 2895956331 ∷ 0 ∷ 909425933 ∷ 0 ∷ 1896762787 ∷ 1
    ∷ 2804987225 ∷ 0 ∷ 1839070548 ∷ 0 ∷ 3101506463 ∷ 0 ∷ 3370136954 ∷ 1 ∷ 1911718603 ∷ 1 ∷ 2495569231 ∷ 1 ∷ 1025133807 ∷ 0
    ∷ 3222885024 ∷ 0 ∷ 4274936422 ∷ []) (2953963103 ∷ 774874867 ∷ 1597049441 ∷ 1054608902 ∷ 3584791696 ∷ 2295094126 ∷ 254103220
    ∷ 2238442858 ∷ 2439674725 ∷ 3205676868 ∷ 1670587855 ∷ 3353686216 ∷ []) (3681709112 ∷ 2385878438 ∷ 3345814839 ∷ 3210900165
    ∷ []) (2414184793 ∷ 3897494404 ∷ 3591637451 ∷ 1488934572 ∷ 3163266442 ∷ 2404110971 ∷ [])
    ≡ record {
      result = record { ending = AllDone; done = 12; moved = 8; allowed = 8 };
      work = space_after;
      answers = 0 ∷ 0 ∷ 0
          ∷ 0 ∷ 0 ∷ 1896762787 ∷ 0 ∷ 0 ∷ 0 ∷ 0 ∷ 1896762787 ∷ 0 ∷ [];
      cache = 1025133807 ∷ 1896762787 ∷ 1025133807 ∷ 1025133807
          ∷ [];
      memory = 2414184793 ∷ 3897494404 ∷ 3591637451 ∷ 1488934572 ∷ 3163266442 ∷ 1896762787 ∷ [];
    })
    × (run_of Eager (lines ("(stack 8)" ∷ "(func 8" ∷ "  (store 1)" ∷ "  (store 5)" ∷ "  (store 3)" ∷ "  (store 6)" ∷ "  (load 1)"
    ∷ "  (call 1)" ∷ "  (ensure 8)" ∷ "  (call 1)" ∷ "  (ensure 8)" ∷ "  (store 6)" ∷ "  (call 1)" ∷ "  (ensure 8)"
    ∷ "  (either 12 2)" ∷ ")" ∷ "(func 3" ∷ "  (store 0)" ∷ "  (store 1)" ∷ "  (store 2)" ∷ "  (store 1)" ∷ "  (goto 5)"
    ∷ "  (return)" ∷ ")" ∷ [])) 0 1 space (0 ∷ 343548935 ∷ 0 ∷ 1382360379 ∷ 0 ∷ 2831718133 ∷ 0 ∷ 4244988237 ∷ 0 ∷ 1184329595 ∷ 0
    ∷ 3996152404 ∷ 0 ∷ 2874150811 ∷ 1 ∷ 614367015 ∷ 0 ∷ 184484199 ∷ 0 ∷ 181731476 ∷ 0 ∷ 178036337 ∷ 0 ∷ 1427494250 ∷ 1
    ∷ 1789875070 ∷ 0 ∷ 555757364 ∷ 0 ∷ 2479613213 ∷ 0 ∷ 3770896815 ∷ 0 ∷ 2817283816 ∷ 0 ∷ 239142375 ∷ 0 ∷ 2841588492 ∷ 0
    ∷ 731878003 ∷ []) (1312826082 ∷ 3007879134 ∷ 3249559854 ∷ 594189102 ∷ 1003021628 ∷ 3075854954 ∷ 3300767047 ∷ 1332354898
    ∷ 2142794415 ∷ 205333238 ∷ 3425538620 ∷ 3853149224 ∷ 1905902347 ∷ 4219321020 ∷ 3327701956 ∷ 2706750067 ∷ 3602063796
    ∷ 4250023341 ∷ 159836219 ∷ 1133340427 ∷ []) (3727233847 ∷ 3180727928 ∷ 2130549762 ∷ 1714817226 ∷ 1810988266 ∷ 24717597
    ∷ 357127227 ∷ 1221336634 ∷ []) (2839140983 ∷ 2500482646 ∷ 443744283 ∷ 2510779550 ∷ 1305496735 ∷ 1745604338 ∷ 1557541568
    ∷ 2026975510 ∷ 2361847538 ∷ 400976173 ∷ 1993639439 ∷ 1365413304 ∷ 3690443241 ∷ 2720607234 ∷ 2502797216 ∷ 341990167 ∷ [])
    ≡ record {
      result = record { ending = AllDone; done = 20; moved = 19; allowed = 29 };
      work = space_after;
      answers = 0 ∷ 0 ∷ 0
          ∷ 0 ∷ 343548935 ∷ 0 ∷ 0 ∷ 0 ∷ 0 ∷ 0 ∷ 0 ∷ 0 ∷ 0 ∷ 0 ∷ 0 ∷ 0 ∷ 0 ∷ 0 ∷ 0 ∷ 0 ∷ [];
      cache = 3727233847 ∷ 343548935
          ∷ 2130549762 ∷ 2831718133 ∷ 1810988266 ∷ 2817283816 ∷ 731878003 ∷ 2841588492 ∷ [];
      memory = 2839140983 ∷ 2500482646
          ∷ 443744283 ∷ 2510779550 ∷ 1305496735 ∷ 1745604338 ∷ 1557541568 ∷ 2026975510 ∷ 3727233847 ∷ 343548935 ∷ 2130549762
          ∷ 2831718133 ∷ 1810988266 ∷ 1382360379 ∷ 4244988237 ∷ 1221336634 ∷ [];
    })
    × (run_of Eager (lines ("(stack 2)" ∷ "(func 2" ∷ "  (store 0)" ∷ "  (store 1)" ∷ "  (call 1)" ∷ "  (ensure 2)" ∷ "  (call 1)"
    ∷ "  (ensure 2)" ∷ "  (goto 1)" ∷ ")" ∷ "(func 0" ∷ "  (either 1 3)" ∷ "  (goto 2)" ∷ "  (goto 4)" ∷ "  (goto 4)"
    ∷ "  (goto 5)" ∷ "  (goto 7)" ∷ "  (return)" ∷ "  (either 5 8)" ∷ "  (goto 6)" ∷ ")" ∷ [])) 0 1 space (7 ∷ []) ([]) (1138740478
    ∷ 3583472818 ∷ []) (670524004 ∷ 1676998962 ∷ [])
    ≡ record {
      result = record { ending = Refused (refuse EventList 0); done = 0; moved = 0; allowed = 0 };
      work = space_after;
      answers = [];
      cache = 1138740478
          ∷ 3583472818 ∷ [];
      memory = 670524004 ∷ 1676998962 ∷ [];
    })
    × (run_of Eager (lines ("(stack 5)" ∷ "(func 3" ∷ "  (store 2)" ∷ "  (store 1)" ∷ "  (store 0)" ∷ "  (load 2)" ∷ "  (either 5 5)"
    ∷ "  (return)" ∷ ")" ∷ [])) 0 1 space (0 ∷ 3400196418 ∷ 0 ∷ 3513183446 ∷ 0 ∷ 476545124 ∷ 0 ∷ 2604493378 ∷ 0 ∷ 1 ∷ []) (344260931
    ∷ 4174468066 ∷ 2193317402 ∷ 3117858009 ∷ 69215398 ∷ []) (3996965014 ∷ 2450955901 ∷ 4248015098 ∷ 371480247 ∷ 2559686712 ∷ 1
    ∷ []) (2908766338 ∷ 935844569 ∷ 3984743703 ∷ 2776743189 ∷ [])
    ≡ record {
      result = record { ending = Refused (refuse CacheSize 5); done = 0; moved = 0; allowed = 0 };
      work = space_after;
      answers = 344260931
          ∷ 4174468066 ∷ 2193317402 ∷ 3117858009 ∷ 69215398 ∷ [];
      cache = 3996965014 ∷ 2450955901 ∷ 4248015098 ∷ 371480247
          ∷ 2559686712 ∷ 1 ∷ [];
      memory = 2908766338 ∷ 935844569 ∷ 3984743703 ∷ 2776743189 ∷ [];
    })
unfolding opened lines sample space space_after
runs = (refl, refl, refl, refl, refl)
