-- The judgement of the passes is the first refusal of the rows, in their order.
use Rattle.std.specs.Prelude.{Ok, Err}
use Prim.Native.Nat.{ℕ, ◌≤◌, ◌<◌}
use mathlib.Core.Path.{◌≡◌, sym}
use mathlib.Core.List.{List}
use mathlib.Core.Option.{Option}
use lib.ListN.{length}
use borrow.Author.Tests.{lt-ltb, le-ltb}
use Rattle.model.specs.declared.Refusal.{Refusal}
use Rattle.model.specs.declared.Row.TheVariants.{TextTooLong}
use Rattle.model.specs.Limits.{most_bytes}
use Rattle.model.specs.Rows.{Verdict, refuse, row_verdict}
use Rattle.model.specs.Task.{Task, read_text}
use Rattle.model.specs.Refusal.{link_rows, walk_rows, task_rows, or_task, judged}
use Rattle.model.specs.WellFormed.{Shaped, Linked}
use Rattle.theory.proofs.Search.{verdict-none, verdict-some}
use Rattle.theory.proofs.Reading.{read-shaped}
use Rattle.theory.proofs.Accepted.{links-none, rows_none}
use Rattle.tables.specs.declared.Header.{Header}
use Rattle.tables.specs.Layout.{tables_length}
use Rattle.tables.specs.Tables.{task_of}
use Rattle.tables.proofs.Valid.{kept_same}
use Rattle.reader.specs.Reading.{ReadAs}
use Rattle.judge.specs.Judgement.{Judges}

-- 7 to 10 before the others
module _ (t : Task) where
  pub link_first : (r : Refusal) → Err r ≡ row_verdict (link_rows t) → Err r ≡ row_verdict (task_rows t)
  unfolding task_rows
  link_first r e = rw (verdict-some (link_rows t) (sym e))

  pub link_fine : (u : Verdict) → Ok tt ≡ row_verdict (link_rows t) → u ≡ row_verdict (walk_rows t) → u ≡ row_verdict (task_rows t)
  unfolding task_rows
  link_fine u e k = rw (verdict-none (link_rows t) (sym e)) k

  pub linked : Ok tt ≡ row_verdict (link_rows t) → Linked t
  linked e = (links-none t).0 (verdict-none (link_rows t) (sym e))

-- the judgement of a text
module _ (text : List ℕ) {w : List ℕ} where
  pub too_long : most_bytes < length text → Judges (judged text) w (Err (refuse TextTooLong 0)) w
  unfolding judged
  too_long h = record { same = rw (lt-ltb most_bytes (length text) h); kept = kept_same tables_length w; settled = tt }

  module _ (h : length text ≤ most_bytes) {w' : List ℕ} where
    pub unreadable : {q : Refusal} → ReadAs (Err q) (read_text text) w w' → Judges (judged text) w (Err q) w'
    unfolding judged
    unreadable r = record { same = rw (le-ltb most_bytes (length text) h, r.0); kept = r.1; settled = tt }

    module _ {k : Header} (r : ReadAs (Ok k) (read_text text) w w') where
      pub read-shape : Shaped (task_of w' k)
      read-shape = read-shaped text (task_of w' k) r.0

      -- by the rows of the task that was read
      same-rows : {o : Option Refusal} → task_rows (task_of w' k) ≡ o → judged text ≡ or_task o (task_of w' k)
      unfolding judged
      same-rows e = rw (le-ltb most_bytes (length text) h, r.0, e)

      pub rows-refuse : {q : Refusal} → Err q ≡ row_verdict (task_rows (task_of w' k)) → Judges (judged text) w (Err q) w'
      rows-refuse e = record { same = same-rows (verdict-some (task_rows (task_of w' k)) (sym e)); kept = r.1; settled = tt }

      pub rows-accept : Ok tt ≡ row_verdict (task_rows (task_of w' k)) → Judges (judged text) w (Ok k) w'
      rows-accept e =
          let n = verdict-none (task_rows (task_of w' k)) (sym e) in
          let a = (rows_none (task_of w' k)).0 n in record {
            same = same-rows n;
            kept = r.1;
            settled = record { holds = r.2; formed = record { shaped = read-shape; linked = a.0; reach = a.1; called = a.2; loads = a.3 } };
          }
