-- The lines of a task stand where their numbers say: the line of a point, or of a function's opening, is that line of every text that is read as the task.
use Prim.Native.Nat.{ℕ, zero, suc, ◌+◌, ◌-◌, ◌*◌, ◌<◌}
use mathlib.Core.List.{List, [], ◌∷◌, ◌++◌, map}
use mathlib.Core.Path.{◌≡◌, refl, ap, subst, ◌∙◌}
use native.Mathlib.Omega.{arith}
use lib.ListN.{length, get_or, take, length-append, length-map, get_or-append}
use lib.Seq.{get_or-append_seam, get_or-append-add}
use Rattle.model.specs.declared.Point.{Point}
use Rattle.model.specs.declared.Point.TheVariants.{Return}
use Rattle.model.specs.declared.Line.TheVariants as line
use Rattle.model.specs.Basic.{joined, sum_of}
use Rattle.model.specs.Text.{lines_of}
use Rattle.model.specs.Task.{Func, Task, task, size, count, in_all, empty, func, point, func_line, point_line, read_text}
use Rattle.model.specs.Refusal.{judged}
use Rattle.theory.specs.Lines.{line_at, open_lines, func_lines, stack_lines, task_lines, LinesOf}
use Rattle.theory.proofs.Reading.{by_lines, read-lines}
use Rattle.theory.proofs.Accepted.{judged-as}

-- a function has a line for each point and two more
func-long : (x : Func) → length (func_lines x) ≡ size x + 2
func-long x = length-append (open_lines x) (line.Close ∷ []) ∙ omega (arith, length-map x.points (λ p. line.At p))

-- line j of function f, in the lines of functions
joined_at : (l : List Func) (f j n : ℕ) → f < length l → j < size (get_or l f empty) + 2 → n ≡ 2 * f + in_all (take f l) + j
    → get_or (joined func_lines l) n line.Malformed ≡ get_or (func_lines (get_or l f empty)) j line.Malformed
unfolding joined sum_of
joined_at [] f j n h k e = absurd (omega arith)
joined_at (x ∷ l) zero j n h k e =
    let i : n ≡ j = omega arith in
    rw i (get_or-append (func_lines x) (joined func_lines l) line.Malformed j (omega (arith, func-long x)))
joined_at (x ∷ l) (suc f) j n h k e =
    let m = n - length (func_lines x) in
    let i : n ≡ length (func_lines x) + m = omega (arith, func-long x) in
    ap (λ (n : ℕ). get_or (func_lines x ++ joined func_lines l) n line.Malformed) i
    ∙ get_or-append-add (func_lines x) (joined func_lines l) m line.Malformed
    ∙ joined_at l f j m (omega arith) k (omega (arith, func-long x))

joined-long : (l : List Func) → length (joined func_lines l) ≡ in_all l + 2 * length l
unfolding joined sum_of
joined-long [] = refl
joined-long (x ∷ l) = length-append (func_lines x) (joined func_lines l) ∙ omega (arith, func-long x, joined-long l)

mapped_at : (l : List Point) (p : ℕ) → p < length l → get_or (map (λ p. line.At p) l) p line.Malformed ≡ line.At (get_or l p Return)
mapped_at [] p h = absurd (omega arith)
mapped_at (x ∷ l) zero h = refl
mapped_at (x ∷ l) (suc p) h = mapped_at l p (omega arith)

module _ (t : Task) where
  -- the line that is j lines below the opening of f
  line-below : (f j n : ℕ) → f < count t → j < size (func t f) + 2 → n ≡ func_line t f + j
      → line_at (stack_lines t) n ≡ get_or (func_lines (func t f)) j line.Malformed
  unfolding line_at func_line
  line-below f j n h k e =
      let i : n - 1 ≡ suc (n - 2) = omega arith in rw i (joined_at t.funcs f j (n - 2) h k (omega arith))

  point-line : (f p n : ℕ) → f < count t → p < size (func t f) → n ≡ point_line t f p → line_at (stack_lines t) n ≡ line.At (point (func t f) p)
  point-line f p n h k e =
      let l = map (λ p. line.At p) (func t f).points in
      line-below f (suc p) n h (omega arith) (omega arith)
      ∙ get_or-append l (line.Close ∷ []) line.Malformed p (omega (arith, length-map (func t f).points (λ p. line.At p)))
      ∙ mapped_at (func t f).points p k

  close-line : (f n : ℕ) → f < count t → n ≡ point_line t f (size (func t f)) → line_at (stack_lines t) n ≡ line.Close
  close-line f n h e =
      let l = map (λ p. line.At p) (func t f).points in
      line-below f (suc (size (func t f))) n h (omega arith) (omega arith)
      ∙ subst (λ n. get_or (l ++ (line.Close ∷ [])) n line.Malformed ≡ line.Close) (length-map (func t f).points (λ p. line.At p))
      (get_or-append_seam l line.Close [] line.Malformed)

  stack-lines : 0 < count t → LinesOf (stack_lines t) t
  stack-lines h = record {
    stack = λ k. unfold line_at in refl;
    opening = λ f k. line-below f 0 _ k (omega arith) (omega arith);
    points = λ f p h k. point-line f p _ h k (omega arith);
    closing = λ f k. close-line f _ k (omega arith);
    number = λ k. omega (arith, joined-long t.funcs);
    none = λ z. absurd (omega arith);
  }

  pub task-lines : LinesOf (task_lines t) t
  task-lines =
      by_lines t (λ l. LinesOf l t) (λ z. record {
        stack = λ k. absurd (omega arith);
        opening = λ f k. absurd (omega arith);
        points = λ f p k. absurd (omega arith);
        closing = λ f k. absurd (omega arith);
        number = λ k. absurd (omega arith);
        none = λ e. refl;
      }) stack-lines

-- of every text that is read as a task, and of every text that is accepted
pub lines-of : (text : List ℕ) (t : Task) → read_text text ≡ task t → LinesOf (lines_of text) t
lines-of text t e = rw (read-lines text t e) (task-lines t)

pub accepted-lines : (text : List ℕ) (t : Task) → judged text ≡ task t → LinesOf (lines_of text) t
accepted-lines text t e = lines-of text t (judged-as text t e).reads
