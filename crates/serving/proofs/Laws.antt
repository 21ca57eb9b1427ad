-- The judgement that every service starts from, the working space after a service, and what one that writes bytes returns.
use Prim.Native.Nat.{ℕ, ◌+◌, ◌-◌, ◌≤◌, ◌<◌}
use native.Mathlib.Omega.{arith}
use mathlib.Core.Path.{◌≡◌, refl, ap, sym, ◌∙◌}
use mathlib.Core.List.{List, ◌++◌}
use mathlib.Core.Option.{Option, none, some}
use lib.Dec.{leb, leb→le}
use lib.ListN.{length, take, drop, replicate}
use Rattle.std.proofs.lemmas.List.{length-take-le}
use borrow.Author.Tests.{lt-ltb, le-ltb, lt-leb, le-leb}
use Rattle.model.specs.declared.Row.TheVariants.{OutputTooSmall}
use Rattle.model.specs.declared.Refusal.{Refusal}
use Rattle.std.proofs.Common.{Result, Ok, Err}
use Rattle.model.specs.Rows.{Verdict, refuse, row_verdict}
use Rattle.model.specs.Task.{Task, Judged, refused, task}
use Rattle.model.specs.Refusal.{or_task, with_rows, judged, priced_rows, judge, no_rows, rows_before, output_rows}
use Rattle.model.specs.Services.{cleared, over, Written, after_write, written_or, written_as, written_by}
use Rattle.theory.proofs.Accepted.{accepted}
use Rattle.theory.proofs.Firsts.{unless-none}
use Rattle.theory.proofs.Search.{verdict-none, verdict-some}
use Rattle.tables.specs.Layout.{tables_length}
use Rattle.tables.specs.Valid.{Kept}
use Rattle.tables.proofs.Valid.{kept-later}
use Rattle.tables.specs.declared.Header.{Header}
use Rattle.judge.specs.Judgement.{judged_in, SettledBy, Judges}
use Rattle.prices.specs.declared.Price.{Price}
use Rattle.serving.specs.Served.{Passes, ReadyBy, ReadyAt, Lent, length_row, Puts, Writes}
use Rattle.serving.proofs.Before.{priced-small}

-- the working space after a service, where it is too small and where it is not
module _ (asked : ℕ) where
  pub cleared-short : (w : List ℕ) → length w < asked → w ≡ cleared asked w
  unfolding cleared
  cleared-short w h = rw (lt-ltb (length w) asked h)

  pub cleared-full : (w : List ℕ) → asked ≤ length w → replicate asked 0 ++ drop asked w ≡ cleared asked w
  unfolding cleared
  cleared-full w h = rw (le-ltb (length w) asked h)

  -- zeros over as many numbers as there are in front
  pub cleared-filled : (w : List ℕ) {front : List ℕ} → asked ≤ length w → front ≡ replicate (length (take asked w)) 0 → front ++ drop asked w ≡ cleared asked w
  cleared-filled w h e = rw (e, length-take-le asked w h) (cleared-full w h)

-- what is kept past the numbers asked for is all that matters
pub cleared-same : {n asked : ℕ} {w w' : List ℕ} → n ≤ asked → asked ≤ length w → Kept n w w' → cleared asked w' ≡ cleared asked w
cleared-same {n} {asked} {w} {w'} l h k =
    let e : n + (asked - n) ≡ asked = omega arith in
    let past = rw e at (kept-later (asked - n) k).past in
    sym (cleared-full asked w' (omega (arith, k.size))) ∙ ap (λ (l : List ℕ). replicate asked 0 ++ l) past ∙ cleared-full asked w h

-- the rows before those of the text, and these
pub lent-refused : (asked : ℕ) (first : Option Refusal) (text w : List ℕ) {q : Refusal} → first ≡ some q
    → Lent asked first text w (Err q) w
unfolding judge
lent-refused asked first text w e = record { same = rw e refl; after = refl; ready = tt }

no-rows : (w : List ℕ) (r : Result Header Refusal) → with_rows no_rows (judged_in w r) ≡ judged_in w r
no-rows w (Ok h) = refl
no-rows w (Err q) = refl

ready_by : (asked : ℕ) (w : List ℕ) (r : Result Header Refusal) → SettledBy w r → asked ≤ length w → ReadyBy asked w r
ready_by asked w (Ok h) s l = (s, l)
ready_by asked w (Err q) s l = tt

-- the judgement uses the tables, and a service asks for no less
pub lent-judged : (asked : ℕ) (first : Option Refusal) (text : List ℕ) {w w' : List ℕ} {r : Result Header Refusal} → first ≡ none → tables_length ≤ asked
    → asked ≤ length w → Judges (judged text) w r w' → Lent asked first text w r w'
unfolding judge
lent-judged asked first text {w} {w'} {r} e m h a =
    record {
      same = rw e (ap (with_rows no_rows) a.same ∙ no-rows w' r);
      after = cleared-same m h a.kept;
      ready = ready_by asked w' r a.settled (omega (arith, a.kept.size));
    }

-- rows that pass leave room, and a small price
pub first_passes : (asked : ℕ) (o : Option Refusal) (w : List ℕ) (v : Verdict) → v ≡ row_verdict o → (o ≡ none → asked ≤ length w) → Passes asked v w
first_passes asked o w (Ok u) e h = h (verdict-none o (sym e))
first_passes asked o w (Err q) e h = tt

pub ready_at : (asked : ℕ) (price : Price) (n : ℕ) (text w : List ℕ) (r : Result Header Refusal) {w' : List ℕ}
    → Lent asked (priced_rows asked n price.start price.each) text w r w' → ReadyAt asked price w' r
ready_at asked price n text w (Ok h) a =
    let e = (accepted (priced_rows asked n price.start price.each) no_rows text _ a.same).no-first in
    (a.ready.0, a.ready.1, priced-small asked n price e)
ready_at asked price n text w (Err q) a = tt

-- 14
module _ (room n : ℕ) {v : Verdict} where
  pub too_many : room < n → v ≡ Err (refuse OutputTooSmall n) → v ≡ row_verdict (length_row room n)
  too_many h e = rw (lt-leb n room (omega arith)) e

  pub room-enough : n ≤ room → v ≡ Ok tt → v ≡ row_verdict (length_row room n)
  room-enough h e = rw (le-leb n room h) e

  pub row_room : v ≡ row_verdict (length_row room n) → v ≡ Ok tt → n ≤ room
  row_room e a = leb→le n room ((unless-none (leb n room) (refuse OutputTooSmall n)).0 (verdict-none (length_row room n) (sym e ∙ a)))

  -- by another name of the length
  pub row_of : {m : ℕ} → n ≡ m → v ≡ row_verdict (length_row room n) → v ≡ row_verdict (length_row room m)
  row_of e i = i ∙ ap (λ (n : ℕ). row_verdict (length_row room n)) e

-- 14 as it was tried, or the bytes
module _ (l output : List ℕ) {v : Verdict} (row : v ≡ row_verdict (length_row (length output) (length l))) where
  pub too_short : {q : Refusal} → v ≡ Err q → Puts l output (Err q) output
  too_short e = record { left = λ work. rw (verdict-some (length_row (length output) (length l)) (sym row ∙ e)) refl }

  pub long-enough : {output' : List ℕ} {n : ℕ} → v ≡ Ok tt → n ≡ length l → output' ≡ over l output
      → Puts l output (Ok n) output'
  long-enough e i o =
      let n = verdict-none (length_row (length output) (length l)) (sym row ∙ e) in
      record { left = λ work. rw n (λ k. after_write (Ok (i k)) work (o k)) }

-- bytes that are those of a task which the rows of the service pass
pub task-written : {asked : ℕ} (rows : Task → Option Refusal) (print : Task → List ℕ) {t : Task} {l w w' output output' : List ℕ} {r : Written}
    → rows t ≡ none → l ≡ print t → cleared asked w' ≡ cleared asked w → Puts l output r output'
    → Writes asked rows print (task t) w output r w' output'
unfolding output_rows
task-written rows print {t} {output = output} z e after p = record {
  left = λ work.
      p.left work ∙ ap (λ (k : List ℕ). written_or (length_row (length output) (length k)) k work output) e
      ∙ rw z (go work (length_row (length output) (length (print t))));
  after = after;
}
  where
    go : (work : List ℕ) (o : Option Refusal) → written_or o (print t) work output ≡ written_as print (or_task o t) work output
    go work none = refl
    go work (some q) = refl

pub none_written : (asked : ℕ) (rows : Task → Option Refusal) (print : Task → List ℕ) (q : Refusal) (w output : List ℕ)
    → Writes asked rows print (refused q) w output (Err q) w output
none_written asked rows print q w output = record { left = λ work. refl; after = refl }

-- the rows of a service come after those that every service has
pub own-rows : (own : Task → Option Refusal) (first : Option Refusal) (text : List ℕ) → judge first own text ≡ with_rows own (judge first no_rows text)
unfolding judge
own-rows own (some r) text = refl
own-rows own none text = later (judged text)
  where
    later : (j : Judged) → with_rows own j ≡ with_rows own (with_rows no_rows j)
    later (refused r) = refl
    later (task t) = refl

-- the service, whose working space is l in the end
module _ {asked : ℕ} {first : Option Refusal} {rows : Task → Option Refusal} {print : Task → List ℕ} {text w w' w'' output output' l : List ℕ} {j : Result Header Refusal}
    {r : Written} (a : Lent asked first text w j w') (b : Writes asked rows print (judged_in w' j) w' output r w'' output')
    (c : l ≡ cleared asked w'') where
  pub write-left : after_write r l output' ≡ written_by asked first rows print text w output
  unfolding written_by
  write-left =
      let own = rows_before rows (output_rows print (length output)) in
      ap (λ (z : List ℕ). after_write r z output') (c ∙ b.after ∙ a.after) ∙ b.left (cleared asked w)
      ∙ ap (λ (x : Judged). written_as print x (cleared asked w) output) (sym (own-rows own first text ∙ ap (with_rows own) a.same))
