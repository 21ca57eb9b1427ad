-- What a write into the tables leaves as it was: the functions and points before it, and everything past the tables.
use Prim.Native.Nat.{ℕ, zero, suc, ◌+◌, ◌≤◌, ◌<◌}
use native.Mathlib.Omega.{arith}
use mathlib.Core.Path.{◌≡◌, refl, subst, ◌∙◌}
use mathlib.Core.Logic.{◌≢◌}
use mathlib.Core.List.{List, [], ◌∷◌, ◌++◌}
use lib.ListN.{length, get_or, set, drop, length-set}
use lib.Seq.{get_or-set_same, get_or-set_other, drop-set-lt}
use Rattle.model.specs.declared.Point.{Point}
use Rattle.model.specs.Limits.{most_funcs, most_in_all}
use Rattle.tables.specs.Layout.{first_table, second_table, frame_table, base_table, size_table, tables_length}
use Rattle.tables.specs.Tables.{point_of, kind_of, first_argument, second_argument, point_at, put_point, frame_at, base_at, size_at, put_func, points_of}
use Rattle.tables.specs.Tables.{funcs_of, Stacked, none, more}
use Rattle.tables.proofs.Laws.{point-back}

-- w' has the first n functions and the first m points of w
pub record Agree (n m : ℕ) (w w' : List ℕ) : Type 0 where
  pub frame : (f : ℕ) → f < n → frame_at w' f ≡ frame_at w f
  pub base : (f : ℕ) → f < n → base_at w' f ≡ base_at w f
  pub size : (f : ℕ) → f < n → size_at w' f ≡ size_at w f
  pub point : (i : ℕ) → i < m → point_at w' i ≡ point_at w i

module _ {n m : ℕ} {w w' : List ℕ} (a : Agree n m w w') where
  pub points-agree : (b k : ℕ) → b + k ≤ m → points_of w' b k ≡ points_of w b k
  unfolding points_of
  points-agree b zero h = refl
  points-agree b (suc k) h = rw (points-agree b k (omega arith), a.point (b + k) (omega arith))

  pub stacked-agree : {k l : ℕ} → Stacked w k l → k ≤ n → Stacked w' k l
  stacked-agree none h = none
  stacked-agree (more {n = k} {m = l} s e) h =
      rw (← a.size k (omega arith)) (more (stacked-agree s (omega arith)) (a.base k (omega arith) ∙ e))

  pub funcs-agree : {k l : ℕ} → Stacked w k l → k ≤ n → l ≤ m → funcs_of w' k ≡ funcs_of w k
  unfolding funcs_of
  funcs-agree none h i = refl
  funcs-agree (more {n = k} {m = l} s e) h i =
      let f = funcs-agree s (omega arith) (omega arith) in
      let p = points-agree (base_at w k) (size_at w k) (omega (arith, e)) in
      rw (f, a.frame k (omega arith), a.base k (omega arith), a.size k (omega arith), p)

-- three writes at places that differ
module _ (w : List ℕ) (a b c x y z : ℕ) where
  abbrev thrice : List ℕ
  thrice = set (set (set w a x) b y) c z

  apart : (j : ℕ) → j ≢ a → j ≢ b → j ≢ c → get_or thrice j 0 ≡ get_or w j 0
  apart j e f g =
      get_or-set_other (set (set w a x) b y) c j z 0 g ∙ (get_or-set_other (set w a x) b j y 0 f ∙ get_or-set_other w a j x 0 e)

  first : a < length w → a ≢ b → a ≢ c → get_or thrice a 0 ≡ x
  first h f g =
      get_or-set_other (set (set w a x) b y) c a z 0 g ∙ (get_or-set_other (set w a x) b a y 0 f ∙ get_or-set_same w a x 0 h)

  second : b < length w → b ≢ c → get_or thrice b 0 ≡ y
  second h g =
      get_or-set_other (set (set w a x) b y) c b z 0 g ∙ get_or-set_same (set w a x) b y 0 (simp length-set h)

  third : c < length w → get_or thrice c 0 ≡ z
  third h = get_or-set_same (set (set w a x) b y) c z 0 (simp length-set h)

  past : (n : ℕ) → a < n → b < n → c < n → drop n thrice ≡ drop n w
  past n h i j =
      drop-set-lt n (set (set w a x) b y) c z j ∙ (drop-set-lt n (set w a x) b y i ∙ drop-set-lt n w a x h)

  as_long : length thrice ≡ length w
  as_long = simp length-set

-- a point written at i
module _ (w : List ℕ) (i : ℕ) (p : Point) (h : i < most_in_all) where
  other : (j : ℕ) → j ≢ i → j ≢ first_table + i → j ≢ second_table + i → get_or (put_point w i p) j 0 ≡ get_or w j 0
  other = apart w i (first_table + i) (second_table + i) (kind_of p) (first_argument p) (second_argument p)

  pub put-point-agree : (n : ℕ) → n ≤ most_funcs → Agree n i w (put_point w i p)
  put-point-agree n k = record {
    frame = λ f l. other (frame_table + f) (omega arith) (omega arith) (omega arith);
    base = λ f l. other (base_table + f) (omega arith) (omega arith) (omega arith);
    size = λ f l. other (size_table + f) (omega arith) (omega arith) (omega arith);
    point = λ j l.
        let e = other j (omega arith) (omega arith) (omega arith) in
        let f = other (first_table + j) (omega arith) (omega arith) (omega arith) in
        let g = other (second_table + j) (omega arith) (omega arith) (omega arith) in
        λ t. point_of (e t) (f t) (g t);
  }

  pub put-point-there : tables_length ≤ length w → point_at (put_point w i p) i ≡ p
  put-point-there k =
      let e =
      first w i (first_table + i) (second_table + i) (kind_of p) (first_argument p) (second_argument p) (omega arith) (omega arith) (omega arith) in
      let f =
      second w i (first_table + i) (second_table + i) (kind_of p) (first_argument p) (second_argument p) (omega arith) (omega arith) in
      let g = third w i (first_table + i) (second_table + i) (kind_of p) (first_argument p) (second_argument p) (omega arith) in
      (λ t. point_of (e t) (f t) (g t)) ∙ point-back p

  -- the points from b on, of which m stand before i
  pub put-point-more : tables_length ≤ length w → (b m : ℕ) → b + m ≡ i → points_of (put_point w i p) b (suc m) ≡ points_of w b m ++ (p ∷ [])
  unfolding points_of
  put-point-more k b m e =
      rw (e, put-point-there k, points-agree (put-point-agree 0 (omega arith)) b m (omega arith))

  pub put-point-past : drop tables_length (put_point w i p) ≡ drop tables_length w
  put-point-past =
      past w i (first_table + i) (second_table + i) (kind_of p) (first_argument p) (second_argument p) tables_length (omega arith) (omega arith) (omega arith)

  pub put-point-length : length (put_point w i p) ≡ length w
  put-point-length = as_long w i (first_table + i) (second_table + i) (kind_of p) (first_argument p) (second_argument p)

-- function f written: frame k, first point b, m points
module _ (w : List ℕ) (f k b m : ℕ) (h : f < most_funcs) where
  pub put-func-agree : Agree f most_in_all w (put_func w f k b m)
  put-func-agree = record {
    frame = λ g l. untouched (frame_table + g) (omega arith) (omega arith) (omega arith);
    base = λ g l. untouched (base_table + g) (omega arith) (omega arith) (omega arith);
    size = λ g l. untouched (size_table + g) (omega arith) (omega arith) (omega arith);
    point = λ j l.
        let e = untouched j (omega arith) (omega arith) (omega arith) in
        let g = untouched (first_table + j) (omega arith) (omega arith) (omega arith) in
        let i = untouched (second_table + j) (omega arith) (omega arith) (omega arith) in
        λ t. point_of (e t) (g t) (i t);
  }
    where
      untouched : (j : ℕ) → j ≢ frame_table + f → j ≢ base_table + f → j ≢ size_table + f → get_or (put_func w f k b m) j 0 ≡ get_or w j 0
      untouched = apart w (frame_table + f) (base_table + f) (size_table + f) k b m

  module _ (room : tables_length ≤ length w) where
    put-frame : frame_at (put_func w f k b m) f ≡ k
    put-frame = first w (frame_table + f) (base_table + f) (size_table + f) k b m (omega arith) (omega arith) (omega arith)

    put-base : base_at (put_func w f k b m) f ≡ b
    put-base = second w (frame_table + f) (base_table + f) (size_table + f) k b m (omega arith) (omega arith)

    put-size : size_at (put_func w f k b m) f ≡ m
    put-size = third w (frame_table + f) (base_table + f) (size_table + f) k b m (omega arith)

    pub put-func-stacked : Stacked w f b → Stacked (put_func w f k b m) (suc f) (b + m)
    put-func-stacked s =
        subst (λ (n : ℕ). Stacked (put_func w f k b m) (suc f) (b + n)) put-size (more (stacked-agree put-func-agree s (omega arith)) put-base)

    pub put-func-more : Stacked w f b → b + m ≤ most_in_all
        → funcs_of (put_func w f k b m) (suc f) ≡ funcs_of w f ++ (record { frame = k; points = points_of w b m } ∷ [])
    unfolding funcs_of
    put-func-more s l =
        rw (funcs-agree put-func-agree s (omega arith) (omega arith), put-frame, put-base, put-size, points-agree put-func-agree b m l)

  pub put-func-past : drop tables_length (put_func w f k b m) ≡ drop tables_length w
  put-func-past = past w (frame_table + f) (base_table + f) (size_table + f) k b m tables_length (omega arith) (omega arith) (omega arith)

  pub put-func-length : length (put_func w f k b m) ≡ length w
  put-func-length = as_long w (frame_table + f) (base_table + f) (size_table + f) k b m
