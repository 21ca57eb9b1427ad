-- The length of the line of a refusal, and what report returns and leaves as the answer to a text.
use Prim.Native.Nat.{ℕ, zero, suc, ◌+◌, ◌^◌, ◌≤◌, ◌<◌}
use mathlib.Core.Path.{◌≡◌, refl, ap, sym, ◌∙◌}
use mathlib.Core.List.{List, [], ◌∷◌}
use native.Mathlib.Decide.{dec_le}
use native.Mathlib.Omega.{arith}
use native.Mathlib.Nat.{zero-add}
use lib.ListN.{length, get_or, drop, length-append, length-drop}
use lib.Seq.{length-take-le}
use borrow.Author.Tests.{lt-leb, le-leb}
use Rattle.model.specs.declared.Refusal.{Refusal}
use Rattle.std.proofs.Common.{Ok, Err}
use Rattle.model.specs.Limits.{work_length}
use Rattle.model.specs.Task.{Judged, refused, task}
use Rattle.model.specs.Sheet.{line_text}
use Rattle.model.specs.Refusal.{judged, with_rows, judge, work_row, output_rows}
use Rattle.model.specs.Services.{Written, AfterWrite, after_write, over, cleared, written_as, written_by, report_of, blocks_report_of}
use Rattle.theory.proofs.Prices.{report-blocks}
use Rattle.print.specs.Print.{Wrote}
use Rattle.print.proofs.Laws.{line-most, pasted-start}
use Rattle.sheet.specs.Answer.{refusal_line, blocks_report, answered, answer_of, Answers, most_line, IsPrefixLen}

-- a row of a word of eight bytes and two numbers of 32 bits

numbers-small : (a b : ℕ) → a < 2 ^ 32 → b < 2 ^ 32 → (i : ℕ) → get_or (a ∷ b ∷ []) i 0 < 2 ^ 32
numbers-small a b h k zero = h
numbers-small a b h k (suc zero) = k
numbers-small a b h k (suc (suc i)) = omega arith

pub line-fits : (w : List ℕ) (a b n : ℕ) → length w ≤ 8 → a < 2 ^ 32 → b < 2 ^ 32 → most_line ≤ n → 0 + length (line_text w (a ∷ b ∷ [])) ≤ n
line-fits w a b n l h k m = omega (arith, line-most w (a ∷ b ∷ []) (numbers-small a b h k))

-- bytes written over the front of a buffer that is long enough leave its length
pub length_over : (l out : List ℕ) → length l ≤ length out → length (over l out) ≡ length out
unfolding over
length_over l out h = omega (arith, length-append l (drop (length l) out), length-drop (length l) out)

pub counts : (n : ℕ) (l : List ℕ) → n ≤ length l → IsPrefixLen n l
counts n l h = (h, sym (length-take-le n l h))

-- a report that is not refused fits the output
abbrev Fits : ℕ → Judged → Type 0
Fits n (refused r) = Unit {0}
Fits n (task t) = length (blocks_report t) ≤ n

rows_fit : (n : ℕ) (j : Judged) → Fits n (with_rows (output_rows blocks_report n) j)
unfolding output_rows
rows_fit n (refused r) = tt
rows_fit n (task t) =
    elim (dec_le (length (blocks_report t)) n) [
      | yes h ↦ rw (le-leb (length (blocks_report t)) n h) h
      | no h ↦ rw (lt-leb (length (blocks_report t)) n (omega arith)) tt
    ]

report-fits : (text work output : List ℕ) → Fits (length output) (judge (work_row work_length (length work)) (output_rows blocks_report (length output)) text)
unfolding judge work_row
report-fits text work output =
    elim (dec_le work_length (length work)) [
      | yes h ↦ rw (le-leb work_length (length work) h) (rows_fit (length output) (judged text))
      | no h ↦ rw (lt-leb work_length (length work) (omega arith)) tt
    ]

-- report leaves the answer that it judged, unless it is a refusal, which it says and leaves to be written
module _ (work output : List ℕ) where
  pub accepted-as : (j : Judged) {n : ℕ} → Fits (length output) j → (written_as blocks_report j work output).result ≡ Ok n
      → (n ≡ length (answered j))
      × ((written_as blocks_report j work output).output ≡ over (answered j) output)
      × (length (answered j) ≤ length output)
  unfolding answered
  accepted-as (refused r) h e = let z : ◌≡◌ {A = ℕ} 0 1 = cc in absurd (omega arith)
  accepted-as (task t) {n} h e = let z : n ≡ length (blocks_report t) = cc in (z, refl, h)

  pub refused_as : (j : Judged) {q : Refusal} → (written_as blocks_report j work output).result ≡ Err q
      → (refusal_line q ≡ answered j) × ((written_as blocks_report j work output).output ≡ output)
  unfolding answered
  refused_as (refused r) {q} e = let z : q ≡ r = cc in (ap refusal_line z, refl)
  refused_as (task t) e = let z : ◌≡◌ {A = ℕ} 0 1 = cc in absurd (omega arith)

-- the same of what report returns with start 0 and each 1, r, and leaves
module _ (text work output : List ℕ) {r : Written} {o w : List ℕ} (e : after_write r w o ≡ report_of text 0 1 work output) where
  -- that is the report of document 01
  blocks-are : after_write r w o ≡ blocks_report_of text work output
  blocks-are = e ∙ report-blocks text work output

  work-as : (j : Judged) → (written_as blocks_report j (cleared work_length work) output).work ≡ cleared work_length work
  work-as (refused q) = refl
  work-as (task t) = refl

  pub report-answers : {n : ℕ} → r ≡ Ok n → Answers text output work n o w × IsPrefixLen n o
  unfolding written_by answer_of
  report-answers {n} v =
      let j = judge (work_row work_length (length work)) (output_rows blocks_report (length output)) text in
      let i = sym (ap (λ (x : AfterWrite). x.result) blocks-are) ∙ v in
      let k = accepted-as (cleared work_length work) output j (report-fits text work output) i in
      let b = ap (λ (x : AfterWrite). x.output) blocks-are ∙ k.1 in
      let s = ap length b ∙ length_over (answered j) output k.2 in (
        record { size = k.0; buffer = b; emptied = ap (λ (x : AfterWrite). x.work) blocks-are ∙ work-as j },
        counts n o (omega (arith, k.2)),
      )

  pub refusal-answers : {q : Refusal} {n : ℕ} {o' : List ℕ} → r ≡ Err q → Wrote 0 (refusal_line q) o n o' → n ≤ length o'
      → Answers text output work n o' w × IsPrefixLen n o'
  unfolding written_by answer_of
  refusal-answers {q} {n} {o'} v p h =
      let j = judge (work_row work_length (length work)) (output_rows blocks_report (length output)) text in
      let k = refused_as (cleared work_length work) output j (sym (ap (λ (x : AfterWrite). x.result) blocks-are) ∙ v) in
      let b = ap (λ (x : AfterWrite). x.output) blocks-are ∙ k.1 in (
        record {
          size = p.end ∙ zero-add (length (refusal_line q)) ∙ ap length k.0;
          buffer = p.buffer ∙ pasted-start (refusal_line q) o ∙ rw (k.0, b);
          emptied = ap (λ (x : AfterWrite). x.work) blocks-are ∙ work-as j;
        },
        counts n o' h,
      )
