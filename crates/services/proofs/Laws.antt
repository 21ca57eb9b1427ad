-- What check returns and leaves, and code and place of what was judged.
use mathlib.Core.Path.{◌≡◌, refl, ap, ◌∙◌}
use mathlib.Core.List.{List, []}
use mathlib.Core.Option.{Option}
use Prim.Native.Nat.{ℕ}
use lib.ListN.{length}
use Rattle.model.specs.declared.Refusal.{Refusal}
use Rattle.std.proofs.Common.{Result, Ok, Err}
use Rattle.model.specs.Limits.{work_length}
use Rattle.model.specs.Rows.{Verdict, verdict_numbers, ending_numbers}
use Rattle.model.specs.Plain.{events_of}
use Rattle.model.specs.Task.{Task, Judged, refused, task}
use Rattle.model.specs.Refusal.{work_row, no_rows}
use Rattle.model.specs.Services.{cleared, verdict_of, judged_numbers, AfterCheck, after_check, check_judged_of, check_of}
use Rattle.model.specs.Services.{Written, written_verdict, AfterWrite, after_write, written_as, write_judged, written_by, written_of, AfterRun, plain_as, Demand3}
use Rattle.tables.specs.declared.Header.{Header}
use Rattle.serving.specs.Served.{Lent}

-- check adds no row to those; l is its working space in the end
module _ {text w w' l : List ℕ} {r : Result Header Refusal} (a : Lent work_length (work_row work_length (length w)) text w r w') (c : l ≡ cleared work_length w') where
  pub accepts : {g : Header} → r ≡ Ok g → after_check (Ok tt) l ≡ check_of text w
  unfolding check_of verdict_of
  accepts e = rw (a.same, e) (λ i. after_check (Ok tt) ((c ∙ a.after) i))

  pub refuses : {q : Refusal} {v : Verdict} → r ≡ Err q → v ≡ Err q → after_check v l ≡ check_of text w
  unfolding check_of verdict_of
  refuses {q} e d = rw (d, a.same, e) (λ i. after_check (Err q) ((c ∙ a.after) i))

-- code and place are those of what was judged
pub check-numbers : (text w : List ℕ) {l : List ℕ} {v : Verdict} → after_check v l ≡ check_of text w → verdict_numbers v [] ≡ judged_numbers (check_judged_of text w)
unfolding check_of
check-numbers text w e = ap (λ (x : AfterCheck). verdict_numbers x.verdict []) e

written-numbers : (print : Task → List ℕ) (j : Judged) (work output : List ℕ)
    → verdict_numbers (written_verdict (written_as print j work output).result) [] ≡ judged_numbers j
unfolding verdict_of
written-numbers print (refused r) work output = refl
written-numbers print (task t) work output = refl

pub write-numbers : (first : Option Refusal) (print : Task → List ℕ) (text work output : List ℕ) {w o : List ℕ} {r : Written}
    → after_write r w o ≡ written_of first print text work output → verdict_numbers (written_verdict r) [] ≡ judged_numbers (write_judged first no_rows print text output)
unfolding written_by
write-numbers first print text work output e =
    ap (λ (x : AfterWrite). verdict_numbers (written_verdict x.result) []) e
    ∙ written-numbers print (write_judged first no_rows print text output) (cleared work_length work) output

-- and those of a run are the plain stack's
pub run-numbers : {j : Judged} {events answers : List ℕ} {after : AfterRun} → Demand3 j events answers after
    → ending_numbers after.result.ending ≡ ending_numbers (plain_as j (events_of events)).ending
run-numbers d = ap ending_numbers d.ending
