-- The services on the empty text, by computation (document 02, request 14).
use Rattle.std.specs.Prelude.{◌≡◌, refl, [], ◌∷◌, ◌++◌, replicate, Ok, Err}
use Rattle.model.specs.declared.Row.TheVariants.{WorkTooSmall, PriceRange, OutputTooSmall, EventList, AnswersTooSmall}
use Rattle.model.specs.declared.Eviction.TheVariants.{Eager}
use Rattle.model.specs.declared.Ending.TheVariants as ending
use Rattle.model.specs.Rows.{refuse}
use Rattle.model.specs.Services.{report_of, dearest_of, run_of}
use Rattle.model.specs.Opened.{opened}
use Rattle.model.specs.Examples.{lines, space, space_after}

-- its report, in blocks and at a price, rows 14, 15 and 23, and its list of no line
pub written :
    (report_of [] 0 1 space (replicate 30 7)
    ≡ record {
      result = Ok 22;
      work = space_after;
      output = lines ("(report" ∷ "  (total 0)" ∷ ")" ∷ []) ++ replicate 8 7;
    })
    × ((report_of [] 10 3 space (replicate 22 7)).output ≡ lines ("(report" ∷ "  (total 0)" ∷ ")" ∷ []))
    × ((report_of [] 0 1 space (replicate 21 7)).result ≡ Err (refuse OutputTooSmall 22))
    × (report_of [] 0 1 (9 ∷ []) (replicate 30 7)
    ≡ record {
      result = Err (refuse WorkTooSmall 16384);
      work = 9 ∷ [];
      output = replicate 30 7;
    })
    × ((report_of [] 256 1 space []).result ≡ Err (refuse PriceRange 0))
    × (dearest_of [] 0 1 space (7 ∷ [])
    ≡ record { result = Ok 0; work = space_after; output = 7 ∷ [] })
unfolding opened lines space space_after
written = (refl, refl, refl, refl, refl, refl)

-- rows 16 and 17
pub lists :
    ((run_of Eager [] 0 1 space (1 ∷ []) [] [] []).result.ending ≡ ending.Refused (refuse EventList 0))
    × ((run_of Eager [] 0 1 space (1 ∷ 1 ∷ []) [] [] []).result.ending ≡ ending.Refused (refuse AnswersTooSmall 1))
unfolding opened lines space space_after
lists = (refl, refl)
