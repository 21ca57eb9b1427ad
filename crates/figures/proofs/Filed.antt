-- Columns that have every figure of a task can be read, and the sheet in them is that of the task.
use Prim.Native.Nat.{ℕ, ◌+◌, ◌-◌, ◌<◌}
use native.Mathlib.Omega.{arith}
use mathlib.Core.List.{List}
use mathlib.Core.Path.{◌≡◌, refl, sym, ◌∙◌}
use Rattle.model.specs.Task.{Task, func}
use Rattle.model.specs.Figures as model
use Rattle.model.specs.Sheet.{costed, priced_sheet}
use Rattle.model.specs.WellFormed.{Shaped}
use Rattle.theory.proofs.Rules.{dead_frame, need_frame}
use Rattle.tables.specs.declared.Header.{Header}
use Rattle.tables.specs.Tables.{size_at, task_of}
use Rattle.tables.proofs.Laws.{count-is, size_is, frame_is}
use Rattle.prices.specs.declared.Price.{Price}
use Rattle.prices.specs.Prices.{price_of, Small}
use Rattle.columns.specs.Columns.{entry_column, chain_column, Points, Funcs}
use Rattle.columns.specs.Displaced.{Ready, Displaced}
use Rattle.columns.proofs.Limits.{frame-low}
use Rattle.readout.specs.Sheet.{sheet_in}
use Rattle.readout.specs.Readable.{Readable}
use Rattle.readout.proofs.Read.{at_there, chain-there, spill-there}
use Rattle.figures.specs.Steps.{Figure, High, Dead, Need, Next, Fill}
use Rattle.figures.specs.Figured.{Figured}
use Rattle.figures.specs.Steps.{figure_of, column_of}
use Rattle.figures.proofs.Limits.{high-low, next_low, fill-low, chain-low, entry-low}

module _ (price : Price) {w : List ℕ} {h : Header} (r : Ready w h) (small : Small price) (away : Displaced (task_of w h) 0 h.funcs w)
    (entry : Funcs (model.entry (task_of w h)) entry_column 0 h.funcs w) (chain : Funcs (model.chain (price_of price) (task_of w h)) chain_column 0 h.funcs w)
    (points : (which : Figure) → Points (figure_of which (task_of w h)) (column_of which) h.funcs w) where
  abbrev t : Task
  t = task_of w h

  shaped : Shaped t
  shaped = r.settled.formed.shaped

  filed-readable : Readable price w h
  filed-readable =
      record {
        settled = r.settled;
        room = r.room;
        small = small;
        longest = away.longest;
        shortest = away.shortest;
        entry = record { each = λ f l. omega (arith, entry.each f (omega arith) l, entry-low shaped f) };
        chain = record { each = λ f l. omega (arith, chain.each f (omega arith) l, chain-low shaped price small f, r.settled.holds.few) };
        high = record { each = λ f p l i. omega (arith, (points High).each f p l i, high-low shaped f p) };
        dead = record {
          each = λ f p l i. omega (arith, (points Dead).each f p l i, dead_frame (func t f) p, frame-low shaped f, shaped.stack_high);
        };
        need = record {
          each = λ f p l i. omega (arith, (points Need).each f p l i, need_frame (func t f) p, frame-low shaped f, shaped.stack_high);
        };
        next = record { each = λ f p l i. omega (arith, (points Next).each f p l i, next_low shaped f p) };
        fill = record { each = λ f p l i. omega (arith, (points Fill).each f p l i, fill-low shaped f p) };
      }

  spill-agrees : (f : ℕ) → f < h.funcs → (sheet_in price w h).spill f ≡ (priced_sheet (price_of price) t).spill f
  unfolding model.spill_with
  spill-agrees f l =
      let e = entry.each f (omega arith) l in
      let k = sym (frame_is w h f l) in
      sym (spill-there filed-readable l refl) ∙ (λ j. price_of price (e j + k j - h.stack))

  at-agrees : (f p : ℕ) → f < h.funcs → p < size_at w f → (sheet_in price w h).at f p ≡ (priced_sheet (price_of price) t).at f p
  at-agrees f p l i =
      let high = (points High).each f p l i in
      let dead = (points Dead).each f p l i in
      let need = (points Need).each f p l i in
      let next = (points Next).each f p l i in
      let fill = (points Fill).each f p l i in
      let c = chain.each f (omega arith) l in
      sym (at_there filed-readable l refl p i) ∙ (λ j. costed (price_of price) (high j) (dead j) (need j) (next j) (c j) (fill j))

  pub filed : Figured price w h
  filed =
      record {
        readable = filed-readable;
        agree = record {
          price = refl;
          spill = λ f l. spill-agrees f (rw (count-is w h) at l);
          chain = λ f l.
              let m : f < h.funcs = rw (count-is w h) at l in
              sym (chain-there filed-readable m refl) ∙ chain.each f (omega arith) m;
          at = λ f p l i.
              let m : f < h.funcs = rw (count-is w h) at l in
              at-agrees f p m (rw (size_is w h f m) at i);
        };
      }
