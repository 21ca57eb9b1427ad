-- What a text that is read as a task is: rows 2 to 6 as facts. Every line keeps what has been read so far within the limits, and
-- with it the task at the end. The lines of the text are those of the task, so only the empty text gives a task of no functions.
use Rattle.std.specs.Prelude.{if◌then◌else◌}
use Prim.Native.Nat.{ℕ, suc, ◌+◌, ◌≤◌, ◌<◌}
use mathlib.Core.Bool.{Bool, true, false, not, ◌&&◌, ◌||◌}
use mathlib.Core.List.{List, [], ◌∷◌, ◌++◌, map-append, append-nil, append_assoc}
use mathlib.Core.Path.{◌≡◌, refl, ap, sym, ◌∙◌}
use native.Mathlib.Decide.{dec_lt}
use native.Mathlib.Omega.{arith}
use lib.Dec.{T, eqb, leb, ltb, T_not, eqb→eq, leb→le, nleb→lt, nltb→le}
use lib.ListN.{length, get_or, length-append, get_or-append}
use lib.Seq.{get_or-append_seam}
use Rattle.model.specs.declared.Point.{Point}
use Rattle.model.specs.declared.Point.TheVariants.{Return}
use Rattle.model.specs.declared.Line.{Line}
use Rattle.model.specs.declared.Line.TheVariants as line
use Rattle.model.specs.Limits.{most_stack, most_funcs, most_points, most_in_all}
use Rattle.model.specs.Basic.{joined, sum_of}
use Rattle.model.specs.Text.{lines_from, lines_of}
use Rattle.model.specs.Task.{Func, Task, Judged, refused, task, Progress, start, between, inside, Step, stop, goes, size, count, in_all, empty, func}
use Rattle.model.specs.Task.{point, stackless, offset_fits, with_point, with_func, read_line, read_end, onward, read_from, read_text}
use Rattle.model.specs.WellFormed.{Shaped}
use Rattle.theory.specs.Lines.{open_lines, func_lines, stack_lines, task_lines}
use Rattle.theory.proofs.Lists.{by-test, and-holds, joined_snoc, sum-snoc}

-- a function that has been opened, with the points read so far
pub record Opened (s : ℕ) (x : Func) : Type 0 where
  pub frame : x.frame ≤ s
  pub small : size x ≤ most_points
  pub offsets : (p : ℕ) → p < size x → T (offset_fits x.frame (point x p))

-- a task with the functions closed so far
pub record Begun (t : Task) : Type 0 where
  pub low : 1 ≤ t.stack
  pub high : t.stack ≤ most_stack
  pub few : count t ≤ most_funcs
  pub all : in_all t.funcs ≤ most_in_all
  pub closed : (f : ℕ) → f < count t → Opened t.stack (func t f) × (1 ≤ size (func t f))

-- what a progress within the limits is
abbrev pub WithinLimits : Progress → Type 0
WithinLimits start = Unit {0}
WithinLimits (between t) = Begun t
WithinLimits (inside t x) = Begun t × Opened t.stack x × (count t < most_funcs) × (in_all t.funcs + size x ≤ most_in_all)

-- the kind P of the progress after a step, of the task of a judgement
abbrev Goes : (Progress → Type 0) → Step → Type 0
Goes P (stop r) = Unit {0}
Goes P (goes s) = P s

abbrev Tasked : (Task → Type 0) → Judged → Type 0
Tasked P (refused r) = Unit {0}
Tasked P (task t) = P t

neither : (a b : Bool) → T (not (a || b)) → T (not a) × T (not b)
neither true b h = absurd h
neither false b h = (tt, h)

pub not-not : (a : Bool) → T (not (not a)) → T a
not-not true h = tt
not-not false h = h

-- what holds of a list's elements and of one more holds of the longer list's
pub at_snoc : {A : Type 0} (P : A → Type 0) (l : List A) (x d : A) → ((i : ℕ) → i < length l → P (get_or l i d)) → P x
    → (i : ℕ) → i < length (l ++ (x ∷ [])) → P (get_or (l ++ (x ∷ [])) i d)
at_snoc P l x d h k i j =
    elim (dec_lt i (length l)) [
      | yes b ↦ rw (get_or-append l (x ∷ []) d i b) (h i b)
      | no b ↦ let e : i ≡ length l = omega (arith, length-append l (x ∷ [])) in rw (e, get_or-append_seam) k
    ]

-- the task with one function more
more-func : (t : Task) (x : Func) → Begun t → Opened t.stack x → count t < most_funcs → in_all t.funcs + size x ≤ most_in_all → 1 ≤ size x
    → Begun (with_func t x)
more-func t x b o c a n = record {
  low = b.low;
  high = b.high;
  few = omega (arith, length-append t.funcs (x ∷ []));
  all = omega (arith, sum-snoc size t.funcs x);
  closed = at_snoc (λ y. Opened t.stack y × (1 ≤ size y)) t.funcs x empty b.closed (o, n);
}

-- the function with one point more
more-point : (s : ℕ) (x : Func) (p : Point) → Opened s x → size x < most_points → T (offset_fits x.frame p) → Opened s (with_point x p)
more-point s x p o c h = record {
  frame = o.frame;
  small = omega (arith, length-append x.points (p ∷ []));
  offsets = at_snoc (λ y. T (offset_fits x.frame y)) x.points p Return o.offsets h;
}

-- what a line goes on with is within the limits
line-goes : (n : ℕ) (s : Progress) (l : Line) → WithinLimits s → Goes WithinLimits (read_line n s l)
unfolding read_line
line-goes n start (line.Stack s) k =
    by-test (Goes WithinLimits) (leb 1 s && leb s most_stack) (λ h. let r = (and-holds (leb 1 s) (leb s most_stack)).0 h in record {
      low = leb→le 1 s r.0;
      high = leb→le s most_stack r.1;
      few = omega arith;
      all = unfold sum_of in omega arith;
      closed = λ f j. absurd (omega arith);
    }) (λ h. tt)
line-goes n start (line.Func m) k = tt
line-goes n start (line.At x) k = tt
line-goes n start line.Close k = tt
line-goes n start line.Malformed k = tt
line-goes n (between t) (line.Stack s) k = tt
line-goes n (between t) (line.Func m) k =
    by-test (Goes WithinLimits) (ltb t.stack m) (λ h. tt) (λ h.
    by-test (Goes WithinLimits) (leb most_funcs (count t)) (λ j. tt) (λ j. (
      k,
      record { frame = nltb→le t.stack m h; small = omega arith; offsets = λ p l. absurd (omega arith) },
      nleb→lt most_funcs (count t) j,
      omega (arith, k.all),
    )))
line-goes n (between t) (line.At x) k = tt
line-goes n (between t) line.Close k = tt
line-goes n (between t) line.Malformed k = tt
line-goes n (inside t x) (line.Stack s) k = tt
line-goes n (inside t x) (line.Func m) k = tt
line-goes n (inside t x) (line.At p) k =
    by-test (Goes WithinLimits) (not (offset_fits x.frame p)) (λ h. tt) (λ h.
    by-test (Goes WithinLimits) (leb most_points (size x) || leb most_in_all (in_all t.funcs + size x)) (λ j. tt) (λ j.
    let r = neither (leb most_points (size x)) (leb most_in_all (in_all t.funcs + size x)) j in
    let a = nleb→lt most_in_all (in_all t.funcs + size x) r.1 in (
      k.0,
      more-point t.stack x p k.1 (nleb→lt most_points (size x) r.0) (not-not (offset_fits x.frame p) h),
      k.2,
      omega (arith, length-append x.points (p ∷ [])),
    )))
line-goes n (inside t x) line.Close k =
    by-test (Goes WithinLimits) (leb 1 (size x)) (λ h. more-func t x k.0 k.1 k.2 k.3 (leb→le 1 (size x) h)) (λ h. tt)
line-goes n (inside t x) line.Malformed k = tt

-- every line keeps the limits
pub line-keeps : (n : ℕ) (s : Progress) (l : Line) {s' : Progress} → WithinLimits s → read_line n s l ≡ goes s' → WithinLimits s'
line-keeps n s l k e = rw e at (line-goes n s l k)

end-keeps : (n : ℕ) (s : Progress) → WithinLimits s → Tasked Shaped (read_end n s)
unfolding read_end
end-keeps n start k =
    record {
      stack_low = λ h. absurd (omega arith);
      stack_high = omega arith;
      few = omega arith;
      all = unfold sum_of in omega arith;
      frames = λ f h. absurd (omega arith);
      nonempty = λ f h. absurd (omega arith);
      small = λ f h. absurd (omega arith);
      offsets = λ f p h. absurd (omega arith);
    }
end-keeps n (between t) k =
    by-test (Tasked Shaped) (leb 1 (count t)) (λ h. record {
      stack_low = λ j. k.low;
      stack_high = k.high;
      few = k.few;
      all = k.all;
      frames = λ f j. (k.closed f j).0.frame;
      nonempty = λ f j. (k.closed f j).1;
      small = λ f j. (k.closed f j).0.small;
      offsets = λ f p j. (k.closed f j).0.offsets p;
    }) (λ h. tt)
end-keeps n (inside t x) k = tt

-- what every line keeps holds where the text ends. P: of the lines read so far and the progress; Q: of all lines and the task
module _
    (P : List Line → Progress → Type 0)
    (Q : List Line → Task → Type 0)
    (at-line : (n : ℕ) (d : List Line) (s : Progress) (l : Line) → P d s → Goes (P (d ++ (l ∷ []))) (read_line n s l))
    (at-end : (n : ℕ) (d : List Line) (s : Progress) → P d s → Tasked (Q d) (read_end n s)) where
  onward-keeps : (d ls : List Line) (r : Step) (go : Progress → Judged) → Goes (P d) r
      → ((s : Progress) → P d s → Tasked (Q ls) (go s)) → Tasked (Q ls) (onward r go)
  onward-keeps d ls (stop r) go k h = tt
  onward-keeps d ls (goes s) go k h = h s k

  lines_keep : (n : ℕ) (d : List Line) (s : Progress) (ls : List Line) → P d s → Tasked (Q (d ++ ls)) (read_from n s ls)
  unfolding read_from
  lines_keep n d s [] k = rw (append-nil d) (at-end n d s k)
  lines_keep n d s (l ∷ ls) k =
      rw (← append_assoc d (l ∷ []) ls)
      (onward-keeps (d ++ (l ∷ [])) (d ++ (l ∷ []) ++ ls) (read_line n s l) (λ s'. read_from (suc n) s' ls) (at-line n d s l k)
      (λ s' k'. lines_keep (suc n) (d ++ (l ∷ [])) s' ls k'))

-- a text that is read as a task gives one within the limits
pub read-shaped : (text : List ℕ) (t : Task) → read_text text ≡ task t → Shaped t
read-shaped text t e =
    rw e at (lines_keep (λ d. WithinLimits) (λ d. Shaped) (λ n d. line-goes n) (λ n d. end-keeps n) 1 [] start (lines_of text) tt)

-- ---- the lines of a text are those of its task

-- the lines that a progress comes from
abbrev lines_to : Progress → List Line
lines_to start = []
lines_to (between t) = stack_lines t
lines_to (inside t x) = stack_lines t ++ open_lines x

-- one point more, and the end of a function
point-more : (t : Task) (x : Func) (p : Point) → lines_to (inside t x) ++ (line.At p ∷ []) ≡ lines_to (inside t (with_point x p))
point-more t x p =
    append_assoc (stack_lines t) (open_lines x) (line.At p ∷ [])
    ∙ ap (λ (l : List Line). stack_lines t ++ (line.Func x.frame ∷ l)) (sym (map-append (λ p. line.At p) x.points (p ∷ [])))

close_more : (t : Task) (x : Func) → lines_to (inside t x) ++ (line.Close ∷ []) ≡ lines_to (between (with_func t x))
close_more t x =
    append_assoc (stack_lines t) (open_lines x) (line.Close ∷ [])
    ∙ ap (λ (l : List Line). line.Stack t.stack ∷ l) (sym (joined_snoc func_lines t.funcs x))

-- the lines so far are those of the progress, and at the end those of the task
abbrev Comes : List Line → Progress → Type 0
Comes d s = d ≡ lines_to s

line-comes : (n : ℕ) (d : List Line) (s : Progress) (l : Line) → Comes d s → Goes (Comes (d ++ (l ∷ []))) (read_line n s l)
unfolding read_line
line-comes n d start (line.Stack s) k =
    by-test (Goes (Comes (d ++ (line.Stack s ∷ [])))) (leb 1 s && leb s most_stack) (λ h. unfold joined in rw k refl) (λ h. tt)
line-comes n d start (line.Func m) k = tt
line-comes n d start (line.At x) k = tt
line-comes n d start line.Close k = tt
line-comes n d start line.Malformed k = tt
line-comes n d (between t) (line.Stack s) k = tt
line-comes n d (between t) (line.Func m) k =
    by-test (Goes (Comes (d ++ (line.Func m ∷ [])))) (ltb t.stack m) (λ h. tt)
    (λ h. by-test (Goes (Comes (d ++ (line.Func m ∷ [])))) (leb most_funcs (count t)) (λ j. tt) (λ j. rw k refl))
line-comes n d (between t) (line.At x) k = tt
line-comes n d (between t) line.Close k = tt
line-comes n d (between t) line.Malformed k = tt
line-comes n d (inside t x) (line.Stack s) k = tt
line-comes n d (inside t x) (line.Func m) k = tt
line-comes n d (inside t x) (line.At p) k =
    by-test (Goes (Comes (d ++ (line.At p ∷ [])))) (not (offset_fits x.frame p)) (λ h. tt) (λ h.
    by-test (Goes (Comes (d ++ (line.At p ∷ [])))) (leb most_points (size x) || leb most_in_all (in_all t.funcs + size x)) (λ j. tt)
    (λ j. rw k (point-more t x p)))
line-comes n d (inside t x) line.Close k =
    by-test (Goes (Comes (d ++ (line.Close ∷ [])))) (leb 1 (size x)) (λ h. rw k (close_more t x)) (λ h. tt)
line-comes n d (inside t x) line.Malformed k = tt

-- what is so of no lines where there is no function, and of a stack line and those of functions where there are some, is so of the lines of a task
pub by_lines : (t : Task) (P : List Line → Type 0) → (count t ≡ 0 → P []) → (0 < count t → P (stack_lines t)) → P (task_lines t)
by_lines t P a b =
    by-test P (stackless t) (λ h. a (eqb→eq (count t) 0 h))
    (λ h. b (let n : count t ≡ 0 → ⊥ = λ e. T_not (eqb (count t) 0) h (rw e tt) in omega arith))

abbrev Whole : List Line → Task → Type 0
Whole d t = d ≡ task_lines t

end-comes : (n : ℕ) (d : List Line) (s : Progress) → Comes d s → Tasked (Whole d) (read_end n s)
unfolding read_end
end-comes n d start k = k
end-comes n d (between t) k =
    by-test (Tasked (Whole d)) (leb 1 (count t))
    (λ h. by_lines t (λ l. d ≡ l) (λ z. absurd (omega (arith, leb→le 1 (count t) h))) (λ z. k)) (λ h. tt)
end-comes n d (inside t x) k = tt

pub read-lines : (text : List ℕ) (t : Task) → read_text text ≡ task t → lines_of text ≡ task_lines t
read-lines text t e = rw e at (lines_keep Comes Whole line-comes end-comes 1 [] start (lines_of text) refl)

-- ---- a text that has a byte has a function

-- a text that is not at its end has a line
if_some : (t : Bool) (x y : List Line) → 0 < length x → 0 < length y → 0 < length (if t then x else y)
if_some true x y h i = h
if_some false x y h i = i

pub lines-some : (l s : List ℕ) → 0 < length l + length s → 0 < length (lines_from l s)
unfolding lines_from
lines-some [] [] h = absurd (omega arith)
lines-some (a ∷ l) [] h = omega arith
lines-some [] (b ∷ s) h = if_some (eqb b 10) _ _ (omega arith) (lines-some (b ∷ []) s (omega arith))
lines-some (a ∷ l) (b ∷ s) h =
    if_some (eqb b 10) _ _ (omega arith) (lines-some (a ∷ l ++ (b ∷ [])) s (omega arith))

pub read_some : (text : List ℕ) (t : Task) → 0 < length text → read_text text ≡ task t → 0 < count t
read_some text t h e =
    by_lines t (λ l. length (lines_of text) ≡ length l → 0 < count t) (λ z k. absurd (omega (arith, lines-some [] text (omega arith)))) (λ z k. z)
    (ap length (read-lines text t e))
