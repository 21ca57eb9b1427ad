-- The rank of a record keeps the order of the list and says the record's line; the ranks of a task's points, and the list that is printed from the
-- highest of them.
use Prim.Native.Nat.{ℕ, zero, suc, ◌+◌, ◌-◌, ◌*◌, ◌≤◌, ◌<◌, min}
use mathlib.Core.Bool.{Bool, false}
use mathlib.Core.List.{List, [], ◌∷◌, ◌++◌, map, map-map, map-append, Memᴰ}
use mathlib.Core.Logic.{◌⊎◌, inl, inr, ⊎_elim}
use mathlib.Core.Path.{◌≡◌, refl, sym, ap, subst, ◌∙◌}
use native.Mathlib.Decide.{dec_lt}
use native.Mathlib.Nat.{mul-le-mul_right, suc-mul}
use native.Mathlib.Numerals.{add-one}
use native.Mathlib.Omega.{arith}
use lib.Dec.{T, ltb, ltb→lt, lt→ltb}
use lib.ListN.{length, take, get_or, replicate, length-append, length-map, length-take}
use Rattle.model.specs.Limits.{most_funcs, most_points, most_dearest}
use Rattle.model.specs.Basic.{joined, smaller_first, up_to, sorted}
use Rattle.model.specs.Text.{bytes}
use Rattle.model.specs.Task.{Task, size, count, func}
use Rattle.model.specs.Sheet.{Sheet, Record, record_at, records_in, records_of, line_text}
use Rattle.model.specs.WellFormed.{Shaped}
use Rattle.model.specs.Dearest.{placed_before, dearer, dearest, dear_text, dearest_with}
use Rattle.theory.proofs.Lists.{same_test, mem-map, map-joined, joined-map, up_to-next, joined-next, length-up_to, sum-most, length-joined}
use Rattle.theory.proofs.Between.{mem-get_or, get_or-mem}
use Rattle.theory.proofs.Sorting.{first_holds, map_first}
use Rattle.theory.proofs.Dearest.{record_is, ten-dearest}
use Rattle.tables.specs.declared.Header.{Header}
use Rattle.tables.specs.Tables.{size_at, task_of, sum}
use Rattle.tables.proofs.Laws.{size_is, count-is, points-all}
use Rattle.prices.specs.declared.Price.{Price}
use Rattle.prices.specs.Prices.{most_price}
use Rattle.readout.specs.Sheet.{sheet_in}
use Rattle.readout.specs.Readable.{Readable}
use Rattle.readout.proofs.Limits.{Low, records-low}
use Rattle.print.proofs.Laws.{none-length}
use Rattle.print.proofs.Digits.{taken, digits-line}
use Rattle.ranks.specs.Ranks.{higher, best}
use Rattle.ranks.proofs.Laws.{best-append, best-zeros, length-best}
use Rattle.dearest.specs.Ranking.{rank_of, rank_at, point_ranks, func_ranks, ranks_in, ranked_func, ranked_point, ranked_cost, rank_text}
use Rattle.dearest.specs.Ranking.{save_end, cost_end, rank_end, most_line, most_list, list_text, Printable, Lists, listed}

-- ---- an order of digits

digit-less : (n a b c d : ℕ) → b < n → a < c → a * n + b < c * n + d
digit-less n a b c d i h = omega (arith, i, mul-le-mul_right n h, suc-mul a n)

-- of two numbers whose last digits b and d are below n, what stands before the digits decides first
first-digit : (n a b c d : ℕ) (r : Bool) → b < n → d < n → smaller_first a c (smaller_first b d r) ≡ smaller_first (a * n + b) (c * n + d) r
first-digit n a b c d r i j =
    same_test (smaller_first a c (smaller_first b d r)) (smaller_first (a * n + b) (c * n + d) r)
    (λ h. (first_holds (a * n + b) (c * n + d) r).1
    (⊎_elim (λ k. inl (digit-less n a b c d i k)) (λ k. together k.0 ((first_holds b d r).0 k.1)) ((first_holds a c (smaller_first b d r)).0 h)))
    (λ h. (first_holds a c (smaller_first b d r)).1 (apart ((first_holds (a * n + b) (c * n + d) r).0 h)))
  where
    together : a ≡ c → (b < d) ⊎ ((b ≡ d) × T r) → (a * n + b < c * n + d) ⊎ ((a * n + b ≡ c * n + d) × T r)
    together e h =
        let m = ap (λ z. z * n) e in
        ⊎_elim (λ (k : b < d). inl (omega (arith, m))) (λ k. inr (omega (arith, m, k.0), k.1)) h

    apart : (a * n + b < c * n + d) ⊎ ((a * n + b ≡ c * n + d) × T r) → (a < c) ⊎ ((a ≡ c) × T (smaller_first b d r))
    apart h =
        elim (dec_lt a c) [
          | yes k ↦ inl k
          | no k ↦ elim (dec_lt c a) [
            | yes l ↦
                let m = digit-less n c d a b j l in
                absurd (⊎_elim (λ (g : a * n + b < c * n + d). omega (arith, m)) (λ g. omega (arith, m, g.0)) h)
            | no l ↦
                let e : a ≡ c = omega arith in
                let m = ap (λ z. z * n) e in
                inr (
                  e,
                  (first_holds b d r).1
                      (⊎_elim (λ (g : a * n + b < c * n + d). inl (omega (arith, m))) (λ g. inr (omega (arith, m, g.0), g.1)) h),
                )
          ]
        ]

-- a digit that counts down: the smaller number is the larger digit
digit-down : (n a b : ℕ) (r : Bool) → a < n → b < n → smaller_first a b r ≡ smaller_first (n - 1 - b) (n - 1 - a) r
digit-down n a b r i j =
    same_test (smaller_first a b r) (smaller_first (n - 1 - b) (n - 1 - a) r)
    (λ h. (first_holds (n - 1 - b) (n - 1 - a) r).1
    (⊎_elim (λ (k : a < b). inl (omega arith)) (λ k. inr (omega (arith, k.0), k.1)) ((first_holds a b r).0 h)))
    (λ h. (first_holds a b r).1
    (⊎_elim (λ (k : n - 1 - b < n - 1 - a). inl (omega arith)) (λ k. inr (omega (arith, k.0), k.1)) ((first_holds (n - 1 - b) (n - 1 - a) r).0 h)))

-- behind the last digit nothing decides
first-last : (a b : ℕ) → ltb a b ≡ smaller_first a b false
first-last a b =
    same_test (ltb a b) (smaller_first a b false)
    (λ h. (first_holds a b false).1 (inl (ltb→lt a b h)))
    (λ h. ⊎_elim (λ k. lt→ltb a b k) (λ k. absurd k.1) ((first_holds a b false).0 h))

-- ---- the rank of a record

-- what it saves, its function and its point have room
pub record Fits (x : Record) : Type 0 where
  pub save : x.figures.save < save_end
  pub fn : x.fn < most_funcs
  pub at : x.at < most_points

module _ (x y : Record) (i : Fits x) (j : Fits y) where
  -- function and point count down
  placed-digits :
      placed_before x y
      ≡ smaller_first (most_funcs - 1 - y.fn) (most_funcs - 1 - x.fn) (smaller_first (most_points - 1 - y.at) (most_points - 1 - x.at) false)
  placed-digits =
      ap (smaller_first x.fn y.fn) (first-last x.at y.at ∙ digit-down most_points x.at y.at false i.at j.at)
      ∙ digit-down most_funcs x.fn y.fn _ i.fn j.fn

  -- it is higher where the record comes earlier
  pub rank-order : dearer x y ≡ higher (rank_of x) (rank_of y)
  unfolding dearer rank_of
  rank-order =
      ap (λ r. smaller_first y.figures.cost x.figures.cost (smaller_first y.figures.save x.figures.save r)) placed-digits
      ∙ first-digit save_end y.figures.cost y.figures.save x.figures.cost x.figures.save _ j.save i.save
      ∙ first-digit most_funcs _ (most_funcs - 1 - y.fn) _ (most_funcs - 1 - x.fn) _ (omega arith) (omega arith)
      ∙ first-digit most_points _ (most_points - 1 - y.at) _ (most_points - 1 - x.at) _ (omega arith) (omega arith)
      ∙ sym (first-last (rank_of y) (rank_of x))

-- it says the record's line
pub rank-text : (x : Record) → Fits x → rank_text (rank_of x) ≡ dear_text x
unfolding rank_text rank_of dear_text
rank-text x i =
    let r = rank_of x in
    let f : ranked_func r ≡ x.fn = omega (arith, i.fn, i.at) in
    let p : ranked_point r ≡ x.at = omega (arith, i.at) in
    let c : ranked_cost r ≡ x.figures.cost = omega (arith, i.save, i.fn, i.at) in
    λ z. line_text (bytes "(dear") (f z ∷ p z ∷ c z ∷ [])

pub rank-low : (x : Record) → Fits x → x.figures.cost < cost_end → rank_of x < rank_end
unfolding rank_of
rank-low x i h = omega (arith, i.save, i.fn, i.at)

-- a line is short
pub line-most : (r : ℕ) → r < rank_end → length (rank_text r) ≤ most_line
unfolding rank_text taken
line-most r h =
    omega (arith, digits-line (bytes "(dear") (ranked_func r ∷ ranked_point r ∷ ranked_cost r ∷ []) (2 ∷ 3 ∷ 7 ∷ []) (omega arith))

-- ---- the ranks of a task's points

-- one point more, and one function more
pub points-more : (s : Sheet) (f p : ℕ) → point_ranks s f p ++ (rank_at s f p ∷ []) ≡ point_ranks s f (p + 1)
points-more s f p = sym (ap (map (rank_at s f)) (up_to-next p) ∙ map-append (rank_at s f) (up_to p) (p ∷ []))

pub funcs-more : (s : Sheet) (w : List ℕ) (h : Header) (f : ℕ) → f < h.funcs
    → func_ranks (task_of w h) s f ++ point_ranks s f (size_at w f) ≡ func_ranks (task_of w h) s (f + 1)
funcs-more s w h f l =
    let t = task_of w h in
    ap (λ (n : ℕ). func_ranks t s f ++ point_ranks s f n) (sym (size_is w h f l)) ∙ sym (joined-next (λ f. point_ranks s f (size (func t f))) f)

-- taken in one after the other
pub taken_more : (ranks r r' : List ℕ) {l m q : List ℕ} → l ≡ best ranks r → m ≡ best l r' → r ++ r' ≡ q → m ≡ best ranks q
taken_more ranks r r' a b e = b ∙ ap (λ k. best k r') a ∙ best-append ranks r r' ∙ ap (best ranks) e

-- they are those of the records of the report
ranks-are : (t : Task) (s : Sheet) → map rank_of (records_of t s) ≡ func_ranks t s (count t)
unfolding records_of records_in
ranks-are t s =
    map-joined rank_of (records_in t s) (up_to (count t))
    ∙ ap (λ (g : ℕ → List ℕ). joined g (up_to (count t))) (λ i f. map-map rank_of (record_at s f) (up_to (size (func t f))) i)

-- as many as there are points
ranks-count : (s : Sheet) (w : List ℕ) (h : Header) (n : ℕ) → n ≤ h.funcs → length (func_ranks (task_of w h) s n) ≡ sum (size_at w) n
unfolding sum
ranks-count s w h zero l = none-length (λ f. point_ranks s f (size (func (task_of w h) f)))
ranks-count s w h (suc n) l =
    let t = task_of w h in
    let r = point_ranks s n (size_at w n) in
    let e = ap length (ap (func_ranks t s) (sym (add-one n)) ∙ sym (funcs-more s w h n l)) in
    omega (
      arith,
      e,
      length-append (func_ranks t s n) r,
      length-map (up_to (size_at w n)) (rank_at s n),
      length-up_to (size_at w n),
      ranks-count s w h n (omega arith),
    )

-- ---- the list

-- a record has room in a rank, and a cost of at most seven digits
abbrev Ranked : Record → Type 0
Ranked x = Fits x × (x.figures.cost < cost_end)

-- so have the records of a sheet whose figures are low
module _ (t : Task) (s : Sheet) (shaped : Shaped t) (low : (x : Record) → Memᴰ x (records_of t s) → Low most_price x.figures) where
  records-ranked : (x : Record) → Memᴰ x (records_of t s) → Ranked x
  records-ranked x m =
      let r = record_is s t m in
      let l = low x m in (
        record {
          save = omega (arith, l.save);
          fn = rw r.4 (omega (arith, r.2, shaped.few));
          at = rw r.4 (omega (arith, r.3, shaped.small r.0 r.2));
        },
        omega (arith, l.cost),
      )

  -- and those that are listed
  listed-ranked : (x : Record) → Memᴰ x (dearest (records_of t s)) → Ranked x
  listed-ranked x m = records-ranked x ((ten-dearest t s).part x m)

  -- the ranks of the listed points are the highest ones
  highest-listed : take most_dearest (sorted higher (func_ranks t s (count t))) ≡ map rank_of (dearest (records_of t s))
  unfolding dearest
  highest-listed =
      ap (λ r. take most_dearest (sorted higher r)) (sym (ranks-are t s))
      ∙ sym (map_first rank_of dearer higher Fits rank-order most_dearest (records_of t s) (λ x m. (records-ranked x m).0))

  -- and their lines are the list
  listed-lines : joined rank_text (map rank_of (dearest (records_of t s))) ≡ dearest_with t s
  unfolding dearest_with
  listed-lines = joined-map rank_text rank_of dear_text (dearest (records_of t s)) (λ x m. rank-text x (listed-ranked x m).0)

  listed-low : (r : ℕ) → Memᴰ r (map rank_of (dearest (records_of t s))) → r < rank_end
  listed-low r m =
      let q = mem-map rank_of (dearest (records_of t s)) m in
      let k = listed-ranked q.0 q.1 in
      rw q.2 (rank-low q.0 k.0 k.1)

  -- so the list is short
  pub list-limited : length (dearest_with t s) ≤ most_list
  unfolding dearest
  list-limited =
      let l = map rank_of (dearest (records_of t s)) in
      omega (
        arith,
        ap length listed-lines,
        length-joined rank_text l,
        sum-most (λ r. length (rank_text r)) most_line l (λ r m. line-most r (listed-low r m)),
        length-map (dearest (records_of t s)) rank_of,
        length-take most_dearest (sorted dearer (records_of t s)),
      )

-- the lines of ranks that can be printed are short
pub list-most : {ranks : List ℕ} → Printable ranks → length (list_text ranks) ≤ most_list
list-most {ranks} k =
    omega (
      arith,
      length-joined rank_text ranks,
      sum-most (λ r. length (rank_text r)) most_line ranks (λ r m. let i = get_or-mem 0 m in line-most r (omega (arith, i.2, k.low i.0 i.1))),
      k.few,
    )

-- from no rank, the points of all functions have been taken in
pub listing : {price : Price} {w : List ℕ} {h : Header} (ranks : List ℕ) → Readable price w h
    → ranks ≡ best (replicate most_dearest 0) (ranks_in price w h) → Lists price w h ranks
listing {price} {w} {h} ranks k e =
    let t = task_of w h in
    let s = sheet_in price w h in
    let shaped = k.settled.formed.shaped in
    let r = ranks_in price w h in
    let n = listed h in
    let size = ranks-count s w h h.funcs (omega arith) ∙ points-all k.settled.holds.stacked in
    let c : n ≡ min most_dearest (length r) = omega (arith, size) in
    let top : take n ranks ≡ map rank_of (dearest (records_of t s)) =
    (λ i. take (c i) (e i)) ∙ best-zeros r ∙ ap (λ (q : ℕ). take most_dearest (sorted higher (func_ranks t s q))) (sym (count-is w h))
    ∙ highest-listed t s shaped (records-low k) in
    let m : length ranks ≡ most_dearest = ap length e ∙ length-best (replicate most_dearest 0) r refl in (
      omega (arith, m),
      record {
        printable = record {
          few = omega (arith, length-take n ranks);
          low = λ i l.
              listed-low t s shaped (records-low k) (get_or (take n ranks) i 0)
              (subst (λ q. Memᴰ (get_or (take n ranks) i 0) q) top (mem-get_or (take n ranks) i 0 l));
        };
        text = ap (joined rank_text) top ∙ listed-lines t s shaped (records-low k);
      },
    )
