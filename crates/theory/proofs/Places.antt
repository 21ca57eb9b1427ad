-- The place of a refused text is a line of it, the line after its last, or a length that is known: it fits 16 bits. Where rows 7 to 13 refuse, it is the
-- line of a point or of a function's opening.
use Prim.Native.Nat.{ℕ, zero, suc, ◌+◌, ◌-◌, ◌≤◌, ◌<◌}
use mathlib.Core.Path.{◌≡◌, refl, ap, ◌∙◌}
use mathlib.Core.Bool.{Bool, true, false, not, ◌&&◌, ◌||◌}
use mathlib.Core.List.{List, [], ◌∷◌, ◌++◌}
use mathlib.Core.Logic.{inl, inr, ⊎_elim}
use mathlib.Core.Option.{Option, none, some}
use native.Mathlib.Omega.{arith}
use lib.ListN.{length, take, length-append}
use lib.Dec.{eqb, leb, ltb, ltb→lt, nltb→le}
use Rattle.model.specs.declared.Line.{Line}
use Rattle.model.specs.declared.Line.TheVariants as line
use Rattle.model.specs.declared.Refusal.{Refusal}
use Rattle.model.specs.declared.Row.TheVariants.{Callee, Pairing, Target, LastPoint, Unreachable, Uncalled, Uninitialised}
use Rattle.model.specs.Basic.{unless, ◌or_else◌, sum_of, count_from}
use Rattle.model.specs.Text.{lines_from, lines_of}
use Rattle.model.specs.Task.{Func, Task, Judged, refused, task, Progress, start, between, inside, Step, stop, goes, read_line, read_end, read_from}
use Rattle.model.specs.Task.{read_text, onward, in_all, size, count, func, point, func_line, point_line, offset_fits}
use Rattle.model.specs.Walk.{called, loaded}
use Rattle.model.specs.Figures.{reached}
use Rattle.model.specs.Limits.{most_stack, most_funcs, most_points, most_in_all, most_bytes}
use Rattle.model.specs.Rows.{refuse}
use Rattle.model.specs.Refusal.{judged, with_rows, or_task, callee_fits, paired, targets_fit, end_fits, stored_before, is_called, link_row, reach_row, load_row}
use Rattle.model.specs.Refusal.{call_row, first_point, link_rows, reach_rows, call_rows, task_rows}
use Rattle.theory.specs.Lines.{line_at, LinesOf, AtPoint, AtOpening, RefusedAt}
use Rattle.theory.proofs.Lists.{by-test, mem-count_from}
use Rattle.model.specs.WellFormed.{Shaped}
use Rattle.theory.proofs.Firsts.{first_some, points-some}
use Rattle.theory.proofs.Reading.{read-shaped}
use Rattle.theory.proofs.Lines.{task-lines, lines-of}

-- no function opens on a later line, and no point stands on a later one: 64 functions with two lines each, 1,024 points, the stack line
abbrev most_opening : ℕ
most_opening = 1152

abbrev most_line : ℕ
most_line = 1408

-- nor is any other place of a refused text larger: the line after the last
abbrev pub most_place : ℕ
most_place = 32769

-- a text has at most as many lines as bytes
lines-few : (l s : List ℕ) → length (lines_from l s) ≤ length s + length l
unfolding lines_from
lines-few [] [] = omega arith
lines-few (a ∷ l) [] = omega arith
lines-few l (b ∷ s) =
    by-test
    (λ (k : List Line). length k ≤ suc (length s) + length l)
    (eqb b 10)
    (λ t. omega (arith, lines-few [] s))
    (λ t. omega (arith, lines-few (l ++ (b ∷ [])) s, length-append l (b ∷ [])))

-- reading refuses at the current line or, where the text has ended, at the next
Small : ℕ → Judged → Type 0
Small n (refused r) = r.place ≤ n
Small n (task t) = Unit {0}

SmallStep : ℕ → Step → Type 0
SmallStep n (stop r) = r.place ≤ n
SmallStep n (goes s) = Unit {0}

line_small : (n : ℕ) (s : Progress) (l : Line) → SmallStep n (read_line n s l)
unfolding read_line SmallStep
line_small n start (line.Stack k) = by-test (SmallStep n) (leb 1 k && leb k most_stack) (λ t. tt) (λ t. omega arith)
line_small n start (line.Func k) = omega arith
line_small n start (line.At x) = omega arith
line_small n start line.Close = omega arith
line_small n start line.Malformed = omega arith
line_small n (between t) (line.Stack k) = omega arith
line_small n (between t) (line.Func k) =
    by-test
    (SmallStep n)
    (ltb t.stack k)
    (λ h. omega arith)
    (λ h. by-test (SmallStep n) (leb most_funcs (count t)) (λ i. omega arith) (λ i. tt))
line_small n (between t) (line.At x) = omega arith
line_small n (between t) line.Close = omega arith
line_small n (between t) line.Malformed = omega arith
line_small n (inside t x) (line.Stack k) = omega arith
line_small n (inside t x) (line.Func k) = omega arith
line_small n (inside t x) (line.At p) =
    by-test
    (SmallStep n)
    (not (offset_fits x.frame p))
    (λ h. omega arith)
    (λ h. by-test
    (SmallStep n)
    (leb most_points (size x) || leb most_in_all (in_all t.funcs + size x))
    (λ i. omega arith)
    (λ i. tt))
line_small n (inside t x) line.Close = by-test (SmallStep n) (leb 1 (size x)) (λ i. tt) (λ i. omega arith)
line_small n (inside t x) line.Malformed = omega arith

end-small : (n : ℕ) (s : Progress) → Small n (read_end n s)
unfolding read_end Small
end-small n start = omega arith
end-small n (between t) = by-test (Small n) (leb 1 (count t)) (λ i. tt) (λ i. omega arith)
end-small n (inside t x) = omega arith

small-more : {m n : ℕ} → m ≤ n → (j : Judged) → Small m j → Small n j
unfolding Small
small-more h (refused r) k = omega arith
small-more h (task t) k = tt

small-onward : (n m : ℕ) (u : Step) (go : Progress → Judged) → n ≤ m → SmallStep n u → ((s : Progress) → Small m (go s)) → Small m (onward u go)
unfolding Small SmallStep
small-onward n m (stop r) go h k g = omega arith
small-onward n m (goes s) go h k g = g s

read_small : (ls : List Line) (n : ℕ) (s : Progress) → Small (n + length ls) (read_from n s ls)
unfolding read_from
read_small [] n s = small-more (omega arith) (read_end n s) (end-small n s)
read_small (l ∷ ls) n s =
    small-onward
    n
    (n + length (l ∷ ls))
    (read_line n s l)
    (λ s'. read_from (suc n) s' ls)
    (omega arith)
    (line_small n s l)
    (λ s'. small-more (omega arith) (read_from (suc n) s' ls) (read_small ls (suc n) s'))

-- a text that cannot be read is refused at a line of it or the next
pub read-place : (text : List ℕ) (r : Refusal) → read_text text ≡ refused r → r.place ≤ 1 + length text
unfolding Small
read-place text r e =
    let h = rw e at (read_small (lines_of text) 1 start) in omega (arith, lines-few [] text)

-- the line of a point of a task that was read
before-all : (f : ℕ) (l : List Func) → in_all (take f l) ≤ in_all l
unfolding sum_of
before-all zero l = omega arith
before-all (suc f) [] = omega arith
before-all (suc f) (x ∷ l) = omega (arith, before-all f l)

pub func-line-small : {t : Task} → Shaped t → (f : ℕ) → f < count t → func_line t f ≤ most_opening
unfolding func_line
func-line-small {t} w f h = omega (arith, before-all f t.funcs, w.all, w.few)

pub point-line-small : {t : Task} → Shaped t → (f p : ℕ) → f < count t → p < size (func t f) → point_line t f p ≤ most_line
point-line-small {t} w f p h k = omega (arith, func-line-small w f h, w.small f h)

-- rows name their own place
PlaceIs : ℕ → Option Refusal → Type 0
PlaceIs n none = Unit {0}
PlaceIs n (some r) = r.place ≡ n

place-or : (n : ℕ) (t : Bool) (r : Refusal) (b : Option Refusal) → r.place ≡ n → PlaceIs n b → PlaceIs n (unless t r or_else b)
unfolding PlaceIs
place-or n true r b e k = k
place-or n false r b e k = e

place-unless : (n : ℕ) (t : Bool) (r : Refusal) → r.place ≡ n → PlaceIs n (unless t r)
unfolding PlaceIs
place-unless n true r e = tt
place-unless n false r e = e

module _ (t : Task) (f p : ℕ) where
  link-place : PlaceIs (point_line t f p) (link_row t f p)
  unfolding link_row
  link-place =
      let n = point_line t f p in
      place-or n (callee_fits t f (called (point (func t f) p))) (refuse Callee n) _ refl
      (place-or n (paired (func t f) p) (refuse Pairing n) _ refl
      (place-or n (targets_fit (func t f) (point (func t f) p)) (refuse Target n) _ refl
      (place-unless n (end_fits (func t f) p) (refuse LastPoint n) refl)))

  reach-place : PlaceIs (point_line t f p) (reach_row t f p)
  unfolding reach_row
  reach-place = place-unless _ (reached (func t f) p) (refuse Unreachable (point_line t f p)) refl

  load-place : PlaceIs (point_line t f p) (load_row t f p)
  unfolding load_row
  load-place =
      place-unless
      _
      (stored_before (func t f) p (loaded (point (func t f) p)))
      (refuse Uninitialised (point_line t f p))
      refl

call-place : (t : Task) (f : ℕ) → PlaceIs (func_line t f) (call_row t f)
unfolding call_row
call-place t f = place-unless _ (is_called t f) (refuse Uncalled (func_line t f)) refl

place_at : (n : ℕ) (o : Option Refusal) (r : Refusal) → PlaceIs n o → o ≡ some r → r.place ≡ n
unfolding PlaceIs
place_at n o r h e = rw e at h

or_some : (P : Refusal → Type 0) (a b : Option Refusal) → ((r : Refusal) → a ≡ some r → P r) → ((r : Refusal) → b ≡ some r → P r)
    → (r : Refusal) → (a or_else b) ≡ some r → P r
or_some P none b h k r e = k r e
or_some P (some q) b h k r e = h r e

-- a first refusal is of a point, or of a function, and names its line
module _ {ls : List Line} {t : Task} (l : LinesOf ls t) where
  point-named : (row : ℕ → ℕ → Option Refusal) → ((f p : ℕ) → PlaceIs (point_line t f p) (row f p)) → (r : Refusal)
      → first_point t row ≡ some r → AtPoint ls t row r
  point-named row at r e =
      let i = points-some t row r e in
      let n = place_at (point_line t i.0 i.1) (row i.0 i.1) r (at i.0 i.1) i.4 in
      record {
        fn = i.0;
        at = i.1;
        in_task = i.2;
        in_func = i.3;
        refuses = i.4;
        place = n;
        line = ap (line_at ls) n ∙ l.points i.0 i.1 i.2 i.3;
      }

  opening-named : (r : Refusal) → call_rows t ≡ some r → AtOpening ls t r
  opening-named r e =
      let i = first_some (call_row t) (count_from 1 (count t - 1)) r e in
      let m = (mem-count_from 1 (count t - 1)).0 i.1 in
      let n = place_at (func_line t i.0) (call_row t i.0) r (call-place t i.0) i.2 in
      let h : i.0 < count t = omega arith in
      record { fn = i.0; in_task = h; refuses = i.2; place = n; line = ap (line_at ls) n ∙ l.opening i.0 h }

  rows_named : (r : Refusal) → task_rows t ≡ some r → RefusedAt ls t r
  unfolding task_rows
  rows_named =
      or_some (RefusedAt ls t) (link_rows t) _ (λ r e. inl (point-named (link_row t) (link-place t) r e))
      (or_some (RefusedAt ls t) (reach_rows t) _ (λ r e. inr (inl (point-named (reach_row t) (reach-place t) r e)))
      (or_some (RefusedAt ls t) (call_rows t) _ (λ r e. inr (inr (inl (opening-named r e))))
      (λ r e. inr (inr (inr (point-named (load_row t) (load-place t) r e))))))

-- the line that rows 7 to 13 name is that of the text
pub refused-at : (text : List ℕ) (t : Task) (r : Refusal) → read_text text ≡ task t → task_rows t ≡ some r → RefusedAt (lines_of text) t r
refused-at text t r e = rows_named (lines-of text t e) r

row_of : (o : Option Refusal) (t : Task) (r : Refusal) → or_task o t ≡ refused r → o ≡ some r
row_of none t r e = let z : ◌≡◌ {A = ℕ} 0 1 = cc in absurd (omega arith)
row_of (some q) t r e = cc

-- so it is of every refusal of a text that can be read and is not too long
pub judged-at : (text : List ℕ) (t : Task) (r : Refusal) → length text ≤ most_bytes → read_text text ≡ task t → judged text ≡ refused r
    → RefusedAt (lines_of text) t r
unfolding judged
judged-at text t r h e =
    by-test (λ j. j ≡ refused r → RefusedAt (lines_of text) t r) (ltb most_bytes (length text))
    (λ k. absurd (omega (arith, ltb→lt most_bytes (length text) k)))
    (λ k d. refused-at text t r e (row_of (task_rows t) t r (rw e at d)))

-- no line of a task is larger than 16 bits hold
named_small : {t : Task} → Shaped t → {ls : List Line} (r : Refusal) → RefusedAt ls t r → r.place ≤ most_line
named_small {t} w {ls} r =
    ⊎_elim at-point (⊎_elim at-point (⊎_elim (λ i. omega (arith, i.place, func-line-small w i.fn i.in_task)) at-point))
  where
    at-point : {row : ℕ → ℕ → Option Refusal} → AtPoint ls t row r → r.place ≤ most_line
    at-point i = omega (arith, i.place, point-line-small w i.fn i.at i.in_task i.in_func)

pub rows-place : {t : Task} → Shaped t → (r : Refusal) → task_rows t ≡ some r → r.place ≤ most_line
rows-place {t} w r e = named_small w r (rows_named (task-lines t) r e)

-- the place of every refused text fits 16 bits
rows_fit : {t : Task} → Shaped t → (o : Option Refusal) → task_rows t ≡ o → Small most_place (or_task o t)
unfolding Small
rows_fit w none e = tt
rows_fit w (some r) e = omega (arith, rows-place w r e)

read_fits : (text : List ℕ) → length text ≤ most_bytes → (j : Judged) → read_text text ≡ j → Small most_place (with_rows task_rows j)
unfolding Small
read_fits text h (refused r) e = omega (arith, read-place text r e)
read_fits text h (task t) e = rows_fit (read-shaped text t e) (task_rows t) refl

judged-fits : (text : List ℕ) → Small most_place (judged text)
unfolding judged Small
judged-fits text =
    by-test
    (Small most_place)
    (ltb most_bytes (length text))
    (λ k. omega arith)
    (λ k. read_fits text (nltb→le most_bytes (length text) k) (read_text text) refl)

pub judged-place : (text : List ℕ) (r : Refusal) → judged text ≡ refused r → r.place ≤ most_place
unfolding Small
judged-place text r e = rw e at (judged-fits text)
