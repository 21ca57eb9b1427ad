-- Laws of the tables: what is read back after a write, and the task that the tables hold, point by point.
use Rattle.std.specs.Prelude.{if◌then◌else◌}
use Prim.Native.Nat.{ℕ, zero, suc, ◌+◌, ◌≤◌, ◌<◌}
use native.Mathlib.Omega.{arith}
use native.Mathlib.Decide.{dec_lt, ℕ_discrete}
use native.Mathlib.Numerals.{add-one}
use mathlib.Core.Path.{◌≡◌, refl, ap, sym, ◌∙◌}
use mathlib.Core.Bool.{Bool, true, false}
use mathlib.Core.List.{List, [], ◌∷◌}
use mathlib.Core.Option.{some}
use lib.ListN.{length, get_or, take, length-append, set}
use lib.ListN.{get_or-append, get_or-eq_default}
use lib.Dec.{T, ltb, eqb, ltb→lt, lt→ltb}
use borrow.Author.Tests.{ne_eqb, le-ltb}
use lib.Seq.{get_or_at, take-append-le, take_all, get_or-set_same, get_or-set_other}
use Rattle.model.specs.declared.Point.{Point}
use Rattle.model.specs.declared.Point.TheVariants.{Load, Store, Call, Ensure, Goto, Either, Return}
use Rattle.model.specs.Basic.{sum_of}
use Rattle.model.specs.Task.{Func, size, count, func, point, empty, in_all, func_line, offset_fits}
use Rattle.tables.specs.declared.Header.{Header}
use Rattle.tables.specs.declared.Span.{Span}
use Rattle.model.specs.Walk.{loaded, leads_from, leads}
use Rattle.theory.proofs.Lists.{sum-snoc}
use Rattle.tables.specs.Tables.{point_of, kind_of, is_access, first_argument, second_argument, point_at, frame_at, base_at, size_at, points_of, func_in}
use Rattle.tables.specs.Tables.{func_of, funcs_of, task_of, opening_line, Stacked, none, more, sum, item}

-- a point survives being written as numbers
pub point-back : (p : Point) → point_of (kind_of p) (first_argument p) (second_argument p) ≡ p
point-back (Load o) = refl
point-back (Store o) = refl
point-back (Call f) = refl
point-back (Ensure k) = refl
point-back (Goto p) = refl
point-back (Either p q) = refl
point-back Return = refl

-- a load and a store have the kinds below 2
pub access-kind : (k a b : ℕ) → ltb k 2 ≡ is_access (point_of k a b)
access-kind k a b =
    elim (dec_lt k 2) [
      | yes h ↦ elim (dec_lt k 1) [ yes l ↦ let e : k ≡ 0 = omega arith in rw e | no l ↦ let e : k ≡ 1 = omega arith in rw e ]
      | no h ↦
          let zero-not : k ≡ 0 → ⊥ = λ e. omega arith in
          let one-not : k ≡ 1 → ⊥ = λ e. omega arith in
          le-ltb k 2 (omega arith) ∙ simp (ne_eqb k 0 zero-not, ne_eqb k 1 one-not) (other k a b)
    ]
  where
    other : (k a b : ℕ)
        → false ≡ is_access (if eqb k 2 then Call a else if eqb k 3 then Ensure a else if eqb k 4 then Goto a else if eqb k 5 then Either a b else Return)
    other k a b = by-four (eqb k 2) (eqb k 3) (eqb k 4) (eqb k 5)
      where
        by-four : (c d e f : Bool) → false ≡ is_access (if c then Call a else if d then Ensure a else if e then Goto a else if f then Either a b else Return)
        by-four true d e f = refl
        by-four false true e f = refl
        by-four false false true f = refl
        by-four false false false true = refl
        by-four false false false false = refl

-- an offset that fits a frame fits a larger one
pub fits_wider : (k m : ℕ) (x : Point) → k ≤ m → T (offset_fits k x) → T (offset_fits m x)
fits_wider k m (Load o) h f = lt→ltb o m (omega (arith, ltb→lt o k f))
fits_wider k m (Store o) h f = lt→ltb o m (omega (arith, ltb→lt o k f))
fits_wider k m (Call g) h f = tt
fits_wider k m (Ensure n) h f = tt
fits_wider k m (Goto p) h f = tt
fits_wider k m (Either p q) h f = tt
fits_wider k m Return h f = tt

-- an offset that is loaded is below the frame
pub load_below : (k : ℕ) (x : Point) {o : ℕ} → T (offset_fits k x) → loaded x ≡ some o → o < k
load_below k (Load a) {o} f e = let i : a ≡ o = cc in omega (arith, ltb→lt a k f)
load_below k (Store a) f e = let z : ◌≡◌ {A = ℕ} 0 1 = cc in absurd (omega arith)
load_below k (Call g) f e = let z : ◌≡◌ {A = ℕ} 0 1 = cc in absurd (omega arith)
load_below k (Ensure n) f e = let z : ◌≡◌ {A = ℕ} 0 1 = cc in absurd (omega arith)
load_below k (Goto p) f e = let z : ◌≡◌ {A = ℕ} 0 1 = cc in absurd (omega arith)
load_below k (Either p q) f e = let z : ◌≡◌ {A = ℕ} 0 1 = cc in absurd (omega arith)
load_below k Return f e = let z : ◌≡◌ {A = ℕ} 0 1 = cc in absurd (omega arith)

-- the points of a function, counted and one by one
pub length-points : (w : List ℕ) (b n : ℕ) → length (points_of w b n) ≡ n
unfolding points_of
length-points w b zero = refl
length-points w b (suc n) = simp (length-append, length-points w b n) (omega arith)

-- past the end of a function there is no point, which counts as a return
pub point-past : (w : List ℕ) (b n p : ℕ) → n ≤ p → Return ≡ get_or (points_of w b n) p Return
point-past w b n p h = sym (get_or-eq_default (points_of w b n) Return (rw (length-points w b n) h))

pub point-there : (w : List ℕ) (b n p : ℕ) → p < n → get_or (points_of w b n) p Return ≡ point_at w (b + p)
unfolding points_of
point-there w b zero p h = absurd (omega arith)
point-there w b (suc n) p h =
    elim (dec_lt p n) [
      | yes k ↦
          get_or-append (points_of w b n) (point_at w (b + n) ∷ []) Return p (rw (length-points w b n) k)
          ∙ point-there w b n p k
      | no k ↦
          let e : p ≡ n = omega arith in
          rw e (get_or_at (points_of w b n) (point_at w (b + n)) [] Return n (length-points w b n))
    ]

-- where the points of a function lead
pub leads-there : (w : List ℕ) (s : Span) (p : ℕ) → p < s.size → leads (func_in w s) p ≡ leads_from p (point_at w (s.base + p))
unfolding leads
leads-there w s p h = ap (leads_from p) (point-there w s.base s.size p h)

-- the functions of a task, counted and one by one
pub length-funcs : (w : List ℕ) (n : ℕ) → length (funcs_of w n) ≡ n
unfolding funcs_of
length-funcs w zero = refl
length-funcs w (suc n) = simp (length-append, length-funcs w n) (omega arith)

pub func-there : (w : List ℕ) (n f : ℕ) → f < n → get_or (funcs_of w n) f empty ≡ func_of w f
unfolding funcs_of
func-there w zero f h = absurd (omega arith)
func-there w (suc n) f h =
    elim (dec_lt f n) [
      | yes k ↦
          get_or-append (funcs_of w n) (func_of w n ∷ []) empty f (rw (length-funcs w n) k) ∙ func-there w n f k
      | no k ↦
          let e : f ≡ n = omega arith in
          rw e (get_or_at (funcs_of w n) (func_of w n) [] empty n (length-funcs w n))
    ]

-- what the task of the tables has at function f and its point p
module _ (w : List ℕ) (h : Header) (f : ℕ) (k : f < h.funcs) where
  pub func-is : func (task_of w h) f ≡ func_of w f
  func-is = func-there w h.funcs f k

  pub size_is : size (func (task_of w h) f) ≡ size_at w f
  size_is = ap size func-is ∙ length-points w (base_at w f) (size_at w f)

  pub frame_is : (func (task_of w h) f).frame ≡ frame_at w f
  frame_is = ap (λ (x : Func). x.frame) func-is

  pub point-is : (p : ℕ) → p < size_at w f → point (func (task_of w h) f) p ≡ point_at w (base_at w f + p)
  point-is p l =
      ap (λ (x : Func). point x p) func-is ∙ point-there w (base_at w f) (size_at w f) p l

pub count-is : (w : List ℕ) (h : Header) → count (task_of w h) ≡ h.funcs
count-is w h = length-funcs w h.funcs

-- functions that lie one after the other: each ends where the next begins, and all end at m
pub stacked-within : {w : List ℕ} {n m : ℕ} → Stacked w n m → (f : ℕ) → f < n → base_at w f + size_at w f ≤ m
stacked-within none f h = absurd (omega arith)
stacked-within {w} (more {n} {m} k e) f h =
    elim (dec_lt f n) [
      | yes l ↦ let i = stacked-within k f l in omega arith
      | no l ↦ let j : f ≡ n = omega arith in omega (arith, e, ap (base_at w) j, ap (size_at w) j)
    ]

pub sum-funcs : {w : List ℕ} {n m : ℕ} → Stacked w n m → in_all (funcs_of w n) ≡ m
unfolding funcs_of sum_of
sum-funcs none = refl
sum-funcs {w} (more {n} {m} k e) =
    sum-snoc size (funcs_of w n) (func_of w n)
    ∙ (let i = sum-funcs k in let l = length-points w (base_at w n) (size_at w n) in omega arith)

pub sum-before : {w : List ℕ} {n m : ℕ} → Stacked w n m → (f : ℕ) → f < n → in_all (take f (funcs_of w n)) ≡ base_at w f
unfolding funcs_of
sum-before none f h = absurd (omega arith)
sum-before {w} (more {n} {m} k e) f h =
    elim (dec_lt f n) [
      | yes l ↦
          ap in_all (take-append-le f (funcs_of w n) (func_of w n ∷ []) (rw (length-funcs w n) (omega arith)))
          ∙ sum-before k f l
      | no l ↦
          let i : f ≡ n = omega arith in
          rw
          i
          (ap
          in_all
          (take-append-le n (funcs_of w n) (func_of w n ∷ []) (rw (length-funcs w n) (omega arith))
          ∙ take_all n (funcs_of w n) (rw (length-funcs w n) (omega arith)))
          ∙ (sum-funcs k ∙ sym e))
    ]

-- the line of function f
pub line-is : {w : List ℕ} (h : Header) → Stacked w h.funcs h.points → (f : ℕ) → f < h.funcs
    → func_line (task_of w h) f ≡ opening_line f (base_at w f)
unfolding func_line
line-is h k f l = rw (sum-before k f l)

-- sums: of the same terms, and of terms that differ at q alone
sum_same : (f g : ℕ → ℕ) (n : ℕ) → ((p : ℕ) → p < n → f p ≡ g p) → sum f n ≡ sum g n
unfolding sum
sum_same f g zero e = refl
sum_same f g (suc n) e = omega (arith, sum_same f g n (λ p h. e p (omega arith)), e n (omega arith))

pub sum-but : (f g : ℕ → ℕ) (q n : ℕ) → q < n → ((p : ℕ) → (p ≡ q → ⊥) → f p ≡ g p) → sum f n + g q ≡ sum g n + f q
unfolding sum
sum-but f g q zero h e = absurd (omega arith)
sum-but f g q (suc n) h e =
    elim (ℕ_discrete n q) [
      | yes d ↦ omega (arith, ap f d, ap g d, sum_same f g n (λ p k. e p (omega arith)))
      | no d ↦ omega (arith, sum-but f g q n (omega arith) e, e n d)
    ]

-- the points of the functions below f, and of all
pub points-next : (w : List ℕ) (f : ℕ) → sum (size_at w) (f + 1) ≡ sum (size_at w) f + size_at w f
unfolding sum
points-next w f = rw add-one

pub points-all : {w : List ℕ} {n m : ℕ} → Stacked w n m → sum (size_at w) n ≡ m
unfolding sum
points-all none = refl
points-all {w} (more {n} {m} k e) = ap (λ (x : ℕ). x + size_at w n) (points-all k)

-- a table after a write: the entry there, and every other one
pub here : (l : List ℕ) (q v : ℕ) → q < length l → item (set l q v) q ≡ v
here l q v h = get_or-set_same l q v 0 h

pub elsewhere : (l : List ℕ) (q p v : ℕ) → (p ≡ q → ⊥) → item (set l q v) p ≡ item l p
elsewhere l q p v h = get_or-set_other l q p v 0 h

-- what is so of the entry that is written and of every other entry is so of all
pub set-each : (P : ℕ → ℕ → Type 0) (l : List ℕ) {q v : ℕ} → q < length l → P q v → ((p : ℕ) → (p ≡ q → ⊥) → P p (item l p))
    → (p : ℕ) → P p (item (set l q v) p)
set-each P l {q} {v} h a b p =
    elim (ℕ_discrete p q) [
      | yes d ↦ rw (d, here l q v h) a
      | no d ↦ rw (elsewhere l q p v d) (b p d)
    ]
