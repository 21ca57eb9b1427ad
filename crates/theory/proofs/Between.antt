-- The figures between functions satisfy their equations: as many rounds as there are functions are enough, because calls go to
-- later functions.
use Prim.Native.Nat.{ℕ, zero, suc, ◌+◌, ◌≤◌, ◌<◌}
use mathlib.Core.List.Memᴰ
use mathlib.Core.List.{List, [], ◌∷◌, Memᴰ}
use mathlib.Core.Logic.{◌↔◌}
use mathlib.Core.Option.{Option, none, some}
use mathlib.Core.Path.{◌≡◌, refl, ap, sym, ◌∙◌}
use native.Mathlib.Decide.{ℕ_discrete}
use native.Mathlib.Omega.{arith}
use lib.Dec.{T, eqb→eq, eqb_refl}
use lib.ListN.{length, get_or}
use Rattle.model.specs.Basic.{largest, smallest, up_to}
use Rattle.model.specs.declared.Point.TheVariants.{Return}
use Rattle.model.specs.Task.{Func, Task, size, count, func, point}
use Rattle.model.specs.Walk.{Largest, called, is, calls}
use Rattle.model.specs.Figures.{the_called, callees, longest_to, longest, shortest, high_from, call_points, over_calls, entry_to, entry_with, high_with}
use Rattle.model.specs.Figures.{entry, high, kept, chain_to, chain}
use Rattle.theory.proofs.Lists.{mem-select, mem-joined, mem-up_to, by-largest, largest-bounds, largest-largest}

module _ {A : Type 0} where
  -- an element of a list is a member of it
  pub mem-get_or : (l : List A) (i : ℕ) (d : A) → i < length l → Memᴰ (get_or l i d) l
  mem-get_or [] i d h = absurd (omega arith)
  mem-get_or (a ∷ l) zero d h = Memᴰ.head refl
  mem-get_or (a ∷ l) (suc i) d h = Memᴰ.tail (mem-get_or l i d (omega arith))

  -- a member of a list is an element of it
  pub get_or-mem : (d : A) {a : A} {l : List A} → Memᴰ a l → (i : ℕ) × (i < length l) × (a ≡ get_or l i d)
  get_or-mem d (Memᴰ.head e) = (0, omega arith, e)
  get_or-mem d (Memᴰ.tail m) = let r = get_or-mem d m in (suc r.0, omega arith, r.2)

  -- numbers that agree on the members of a list have the same largest one
  pub largest-cong : {f g : A → ℕ} (l : List A) → ((a : A) → Memᴰ a l → f a ≡ g a) → largest f l ≡ largest g l
  unfolding largest
  largest-cong [] e = refl
  largest-cong (a ∷ l) e = rw (e a (Memᴰ.head refl), largest-cong l (λ b m. e b (Memᴰ.tail m)))

  -- numbers that agree on the members of a list have the same smallest one
  pub smallest-cong : {f g : A → ℕ} (l : List A) → ((a : A) → Memᴰ a l → f a ≡ g a) → smallest f l ≡ smallest g l
  unfolding smallest
  smallest-cong [] e = refl
  smallest-cong (a ∷ []) e = e a (Memᴰ.head refl)
  smallest-cong (a ∷ b ∷ l) e =
      rw (e a (Memᴰ.head refl), smallest-cong (b ∷ l) (λ b m. e b (Memᴰ.tail m)))

mem-called : (f : ℕ) (c : Option ℕ) → Memᴰ f (the_called c) ↔ T (is f c)
mem-called f none = (Memᴰ.not-nil, absurd)
mem-called f (some g) = (λ m. rw (Memᴰ.eq_of_singleton m) (eqb_refl g), λ h. Memᴰ.head (eqb→eq f g h))

-- the functions that x calls are those that some point of x calls
pub mem-callees : (x : Func) {f : ℕ} → Memᴰ f (callees x) ↔ ((p : ℕ) × (p < size x) × T (calls x f p))
unfolding callees
mem-callees x {f} =
    let all = mem-joined (λ p. the_called (called p)) x.points {b = f} in (
      λ m. let r = all.0 m in let i = get_or-mem Return r.1 in
          (i.0, i.1, rw i.2 at ((mem-called f (called r.0)).0 r.2)),
      λ h. all.1 (point x h.0, mem-get_or x.points h.0 Return h.1, (mem-called f (called (point x h.0))).1 h.2),
    )

-- the points of x that call f
pub mem-call_points : (x : Func) (f : ℕ) {p : ℕ} → Memᴰ p (call_points x f) ↔ ((p < size x) × T (calls x f p))
unfolding call_points
mem-call_points x f =
    let chosen = mem-select (calls x f) (up_to (size x)) in (
      λ m. ((mem-up_to (size x)).0 (chosen.0 m).0, (chosen.0 m).1),
      λ h. chosen.1 ((mem-up_to (size x)).1 h.0, h.1),
    )

module _ (t : Task) (f : ℕ) where
  -- over the points that call f: the largest number of those that they give
  pub over_calls-is : (figure : ℕ → ℕ → ℕ)
      → Largest
      (λ m. (h p : ℕ) × (h < count t) × (p < size (func t h)) × T (calls (func t h) f p) × (m ≡ figure h p))
      (over_calls t f figure)
  unfolding over_calls
  over_calls-is figure =
      let each : ℕ → ℕ = λ h. largest (figure h) (call_points (func t h) f) in
      record {
        bounds = λ m k.
            let inner = largest-bounds (figure k.0) ((mem-call_points (func t k.0) f).1 (k.3, k.4)) in
            let outer = largest-bounds each ((mem-up_to (count t)).1 k.2) in omega arith;
        attained = λ l.
            let r = (largest-largest each (up_to (count t))).attained l in
            let s = (largest-largest (figure r.0) (call_points (func t r.0) f)).attained (omega arith) in
            let c = (mem-call_points (func t r.0) f).0 s.1 in
            (r.0, s.0, (mem-up_to (count t)).0 r.1, c.0, c.1, r.2 ∙ s.2);
      }

  -- numbers that agree on the points that call f have the same largest one
  pub over_calls-cong : {figure figure' : ℕ → ℕ → ℕ}
      → ((h p : ℕ) → h < count t → p < size (func t h) → T (calls (func t h) f p) → figure h p ≡ figure' h p)
      → over_calls t f figure ≡ over_calls t f figure'
  unfolding over_calls
  over_calls-cong e =
      largest-cong (up_to (count t)) (λ h m. largest-cong (call_points (func t h) f)
      (λ p n. let c = (mem-call_points (func t h) f).0 n in e h p ((mem-up_to (count t)).0 m) c.0 c.1))

  -- where no point calls f the largest number is 0
  pub over_calls-none : (figure : ℕ → ℕ → ℕ)
      → ((h p : ℕ) → h < count t → p < size (func t h) → T (calls (func t h) f p) → ⊥) → over_calls t f figure ≡ 0
  unfolding over_calls
  over_calls-none figure bare =
      by-largest _ (λ m. m ≡ 0) (up_to (count t)) refl
      (λ h m. by-largest _ (λ m. m ≡ 0) (call_points (func t h) f) refl
      (λ p n. let c = (mem-call_points (func t h) f).0 n in absurd (bare h p ((mem-up_to (count t)).0 m) c.0 c.1)))

-- every call goes to a later function that exists
abbrev pub CallsLater : Task → Type 0
CallsLater t = (f g : ℕ) → f < count t → Memᴰ g (callees (func t f)) → (f < g) × (g < count t)

module _ (t : Task) (later : CallsLater t) where
  -- the caller comes before the function that its point calls
  pub caller-before : (f h p : ℕ) → h < count t → p < size (func t h) → T (calls (func t h) f p) → h < f
  caller-before f h p l k c = (later h f l ((mem-callees (func t h)).1 (p, k, c))).0

  longest-more : (n f : ℕ) → f < count t → count t ≤ n + f → longest_to t (suc n) f ≡ longest_to t n f
  unfolding longest_to
  longest-more zero f l k = absurd (omega arith)
  longest-more (suc n) f l k =
      ap (λ m. (func t f).frame + m) (largest-cong (callees (func t f))
      (λ g m. let r = later f g l m in longest-more n g r.1 (omega arith)))

  -- D: the frame and the largest D of the functions called
  pub longest-is : (f : ℕ) → f < count t → longest t f ≡ (func t f).frame + largest (longest t) (callees (func t f))
  unfolding longest longest_to
  longest-is f l = sym (longest-more (count t) f l (omega arith))

  -- a figure from callers to the functions they call, to a depth of n callers: as many as the function's number are enough
  module _
      (step : ℕ → ℕ → ℕ → ℕ)
      (to : ℕ → ℕ → ℕ)
      (nothing : (f : ℕ) → to 0 f ≡ 0)
      (more : (n f : ℕ) → to (suc n) f ≡ over_calls t f (λ h p. step h p (to n h))) where
    one_more : (n f : ℕ) → f ≤ n → to (suc n) f ≡ to n f
    one_more zero f k =
        more 0 f ∙ over_calls-none t f _ (λ h p l m c. omega (arith, caller-before f h p l m c)) ∙ sym (nothing f)
    one_more (suc n) f k =
        more (suc n) f
        ∙ over_calls-cong t f (λ h p l m c. ap (step h p) (one_more n h (omega (arith, caller-before f h p l m c))))
        ∙ sym (more n f)

    enough : (n f : ℕ) → f ≤ n → to n f ≡ to f f
    enough zero f k = let e : f ≡ 0 = omega arith in rw e
    enough (suc n) f k =
        elim (ℕ_discrete f (suc n)) [ yes e ↦ rw e | no e ↦ one_more n f (omega arith) ∙ enough n f (omega arith) ]

    callers-is : (f : ℕ) → to f f ≡ over_calls t f (λ h p. step h p (to h h))
    callers-is f =
        sym (one_more f f (omega arith))
        ∙ more f f
        ∙ over_calls-cong t f (λ h p l m c. ap (step h p) (enough f h (omega (arith, caller-before f h p l m c))))

  -- E: the largest occupancy over the points that call f
  pub entry-is : (f : ℕ) → entry t f ≡ over_calls t f (high t)
  unfolding entry_with entry_to high_with
  entry-is f = callers-is (λ h p e. high_from t h e p) (entry_to (shortest t) t) (λ f. refl) (λ n f. refl) f

  -- chain: the largest sum over the points that call f of the caller's chain and the part kept after the call
  pub chain-is : (price : ℕ → ℕ) (f : ℕ) → chain price t f ≡ over_calls t f (λ h p. chain price t h + price (kept t h (suc p)))
  unfolding chain chain_to
  chain-is price f = callers-is (λ h p c. c + price (kept t h (suc p))) (chain_to price t) (λ f. refl) (λ n f. refl) f

-- E of function 0
pub entry_zero : (t : Task) → entry t 0 ≡ 0
unfolding entry_with entry_to
entry_zero t = refl

-- the chain of function 0
pub chain_zero : (price : ℕ → ℕ) (t : Task) → chain price t 0 ≡ 0
unfolding chain chain_to
chain_zero price t = refl
