-- One function of the task: the numbers that its points are given are its figures, and so are what the kernels answer.
use Rattle.std.specs.Prelude.{if◌then◌else◌}
use Prim.Native.Nat.{ℕ, suc, ◌+◌, ◌-◌, ◌≤◌, ◌<◌, min}
use native.Mathlib.Omega.{arith}
use native.Mathlib.Numerals.{add-one}
use mathlib.Core.List.{List}
use mathlib.Core.Option.{Option, none, some}
use mathlib.Core.Path.{◌≡◌, refl, ap, sym, subst, ◌∙◌}
use lib.Dec.{T}
use lib.ListN.{length}
use borrow.Author.Tests.{lt-ltb}
use Rattle.model.specs.Limits.{most_stack, most_funcs, most_points}
use Rattle.model.specs.Task.{Func, Task, size, func}
use Rattle.model.specs.Walk.{called}
use Rattle.model.specs.Figures as model
use Rattle.model.specs.Figures.{longest, shortest, fill_after, fill, kept}
use Rattle.theory.proofs.Links.{ensure-after-call}
use Rattle.tables.specs.declared.Header.{Header}
use Rattle.tables.specs.declared.Span.{Span}
use Rattle.tables.specs.Tables.{item, point_at, base_at, size_at, span_at, func_in, task_of}
use Rattle.tables.specs.Valid.{Lies, Fits}
use Rattle.tables.proofs.Laws.{func-is, size_is, frame_is, point-is, count-is, point-there, length-points}
use Rattle.tables.proofs.Valid.{settled-fits}
use Rattle.problems.specs.Problems.{Filled, KeptIn, CutIn}
use Rattle.problems.proofs.Laws.{filled-as}
use Rattle.prices.specs.declared.Price.{Price}
use Rattle.prices.specs.Prices.{price_of}
use Rattle.columns.specs.Columns.{columns_end, longest_column, shortest_column, fill_column, entry_column, Funcs}
use Rattle.columns.specs.Values.{among_funcs, at_callee, ensure_at, filled_at, kept_at, cut_at, chained_at}
use Rattle.columns.specs.Displaced.{Ready}
use Rattle.columns.proofs.Values.{kept_low, cut-stack}
use Rattle.columns.proofs.Within.{callee-in}
use Rattle.figures.specs.Steps.{High, Dead, Need, Next, Fill}
use Rattle.figures.specs.Steps.{Figures, WorkingOn}
use Rattle.figures.proofs.Limits.{entry-low}
use Rattle.figures.proofs.Gathers.{entry_of}

module _ {w : List ℕ} {h : Header} {f : ℕ} (r : Ready w h) (k : f < h.funcs) where
  left_is : (p q : ℕ) → q < size_at w f → Funcs (longest (task_of w h)) longest_column 0 h.funcs w → (o : Option ℕ)
      → called (point_at w (base_at w f + q)) ≡ o → (frame : ℕ)
      → at_callee (λ g. frame - (h.stack - item w (longest_column + g))) (among_funcs o) ≡ fill_after (task_of w h) frame o
  left_is p q l d none e frame = refl
  left_is p q l d (some g) e frame =
      let c = callee-in r k q g l e in
      rw (lt-ltb g most_funcs (omega (arith, c.1, r.settled.holds.few)), d.each g (omega arith) c.1)

  pub fill_is : Funcs (longest (task_of w h)) longest_column 0 h.funcs w → (p : ℕ) → p < size_at w f → filled_at w h (span_at w f) p ≡ fill (task_of w h) f p
  unfolding filled_at fill
  fill_is d p l =
      let q : p - 1 < size_at w f = omega arith in
      rw (point-is w h f k p l, point-is w h f k (p - 1) q, frame_is w h f k)
      (ap (λ (m : ℕ). if ensure_at w (span_at w f) p then m else 0) (left_is p (p - 1) q d _ refl _))

  pub kept-is : (p : ℕ) → item w (fill_column + base_at w f + p) ≡ fill (task_of w h) f p → kept_at w (span_at w f) p ≡ kept (task_of w h) f p
  unfolding kept_at
  kept-is p e = rw (e, frame_is w h f k)

  pub cut-is : Funcs (shortest (task_of w h)) shortest_column 0 h.funcs w → (p g : ℕ) → p < size_at w f
      → called (point_at w (base_at w f + p)) ≡ some g → cut_at w h (span_at w f) p ≡ h.stack - shortest (task_of w h) g
  unfolding cut_at
  cut-is d p g l e =
      let c = callee-in r k p g l e in
      rw (e, lt-ltb g most_funcs (omega (arith, c.1, r.settled.holds.few)), d.each g (omega arith) c.1)

  pub chained-is : (price : Price) → ((p : ℕ) → p < size_at w f → item w (fill_column + base_at w f + p) ≡ fill (task_of w h) f p) → (own p g : ℕ)
      → p < size_at w f → called (point_at w (base_at w f + p)) ≡ some g
      → chained_at w (span_at w f) own price p ≡ own + price_of price (kept (task_of w h) f (suc p))
  unfolding chained_at
  chained-is price x own p g l e =
      let i = (ensure-after-call r.settled.formed.linked f p (rw (count-is w h) k) (rw (point-is w h f k p l, e) tt)).0 in
      let n : p + 1 < size_at w f = omega (arith, i, size_is w h f k) in
      rw (lt-ltb (p + 1) (size_at w f) n, kept-is (p + 1) (x (p + 1) n), add-one p)

-- numbers of blocks
pub kept-blocks : (w : List ℕ) (s : Span) {l l' : List ℕ} → s.frame ≤ most_stack → Filled (λ p v. v ≡ kept_at w s p) s.size l l'
    → (p : ℕ) → p < s.size → item l' p ≤ most_stack
kept-blocks w s h k p l = omega (arith, kept_low w s p (k.each p l))

pub cut-blocks : (w : List ℕ) (h : Header) (s : Span) {l l' : List ℕ} → h.stack ≤ most_stack → Filled (λ p v. v ≡ cut_at w h s p) s.size l l'
    → (p : ℕ) → p < s.size → item l' p ≤ most_stack
cut-blocks w h s i k p l = omega (arith, k.each p l, cut-stack w h s p)

module _ {w : List ℕ} {h : Header} {f k : ℕ} {s : Span} (x : WorkingOn w h f k s) where
  pub turn-fits : Fits w s
  turn-fits = let e = x.same in rw e (settled-fits x.begun.worked.ready.settled f x.begun.below)

  -- what a number of a point asks
  pub turn-values : Lies w s × (columns_end ≤ length w) × (s.frame ≤ most_stack) × (s.size ≤ most_points)
  turn-values = (turn-fits.lies, omega (arith, x.begun.worked.ready.room), turn-fits.frame, turn-fits.small)

  same-func : func (task_of w h) f ≡ func_in w s
  same-func = func-is w h f x.begun.below ∙ ap (func_in w) (sym x.same)

  same_size : s.size ≡ size_at w f
  same_size = ap (λ (s : Span). s.size) x.same

  own-entry : item w (entry_column + f) ≡ model.entry (task_of w h) f
  own-entry = entry_of x.begun.worked.ready x.begun.worked.stands.entry f x.begun.below (omega arith) (omega (arith, x.begun.below))

  pub turn-entry : item w (entry_column + f) ≤ most_stack
  turn-entry = omega (arith, own-entry, entry-low x.begun.worked.ready.settled.formed.shaped f)

  pub turn-reached : (p : ℕ) → p < s.size → T (model.reached (func_in w s) p)
  turn-reached p l =
      subst (λ (x : Func). T (model.reached x p)) same-func
      (x.begun.worked.ready.settled.formed.reach f p (rw (count-is w h) x.begun.below)
      (omega (arith, ap size same-func, length-points w s.base s.size)))

  -- what the points are given and what the kernels answer, as figures of the task
  pub of-dead : {l l' : List ℕ} → Filled (λ p v. v ≡ model.dead (func_in w s) p) s.size l l' → Figures Dead (task_of w h) f s.size l l'
  of-dead y = record { filled = filled-as (λ p v i e. e ∙ ap (λ (x : Func). model.dead x p) (sym same-func)) y }

  pub of-need : {l l' : List ℕ} → Filled (λ p v. v ≡ model.need (func_in w s) p) s.size l l' → Figures Need (task_of w h) f s.size l l'
  of-need y = record { filled = filled-as (λ p v i e. e ∙ ap (λ (x : Func). model.need x p) (sym same-func)) y }

  pub of-fill : {l l' : List ℕ} → Filled (λ p v. v ≡ filled_at w h s p) s.size l l' → Figures Fill (task_of w h) f s.size l l'
  of-fill y =
      record {
        filled = filled-as
            (λ p v i e.
            e ∙ (ap (λ (s : Span). filled_at w h s p) x.same
            ∙ fill_is x.begun.worked.ready x.begun.below x.begun.worked.stands.away.longest p (omega (arith, same_size)))) y;
      }

  module _ {c c' : List ℕ} where
    kept_in : k ≤ 4 → Filled (λ p v. v ≡ kept_at w s p) s.size c c' → KeptIn w s c' (task_of w h) f
    kept_in n y =
        record {
          same = same-func;
          at_ensures = λ p l e.
              y.each p l
              ∙ (ap (λ (s : Span). kept_at w s p) x.same
              ∙ kept-is x.begun.worked.ready x.begun.below p (x.begun.worked.stands.own Fill n p (omega (arith, same_size))));
        }

    pub of-next : {l l' : List ℕ} → k ≤ 4 → Filled (λ p v. v ≡ kept_at w s p) s.size c c'
        → Filled (λ p v. (t : Task) (g : ℕ) → KeptIn w s c' t g → v ≡ model.kept_next t g p) s.size l l'
        → Figures Next (task_of w h) f s.size l l'
    of-next n y z = record { filled = filled-as (λ p v i e. e (task_of w h) f (kept_in n y)) z }

    cut_in : {start e : ℕ} → Filled (λ p v. v ≡ cut_at w h s p) s.size c c' → start ≡ min h.stack (e + s.frame)
        → CutIn w s start c' (task_of w h) f e
    cut_in y i =
        record {
          same = same-func;
          first = i;
          at_calls = λ p g l c.
              let d : called (point_at w (base_at w f + p)) ≡ some g =
              ap (λ (s : Span). called (point_at w (s.base + p))) (sym x.same) ∙ (sym (ap called (point-there w s.base s.size p l)) ∙ c) in
              y.each p l ∙ (ap (λ (s : Span). cut_at w h s p) x.same
              ∙ cut-is x.begun.worked.ready x.begun.below x.begun.worked.stands.away.shortest p g (omega (arith, same_size)) d);
        }

    pub of-high : {start : ℕ} {l l' : List ℕ} → Filled (λ p v. v ≡ cut_at w h s p) s.size c c' → start ≡ min h.stack (item w (entry_column + f) + s.frame)
        → Filled (λ p v. (t : Task) (g e : ℕ) → CutIn w s start c' t g e → v ≡ model.high_from t g e p) s.size l l'
        → Figures High (task_of w h) f s.size l l'
    unfolding model.high_with
    of-high y i z =
        record {
          filled = filled-as
              (λ p v j e. e (task_of w h) f _ (cut_in y i) ∙ ap (λ (n : ℕ). model.high_from (task_of w h) f n p) own-entry) z;
        }
