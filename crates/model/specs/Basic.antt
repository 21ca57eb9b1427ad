-- Small functions on tests, lists and numbers that the other files share.
use Rattle.std.specs.Prelude.{if◌then◌else◌, ℕ, zero, suc, ◌+◌, min, max, Bool, true, false, ◌&&◌, ◌||◌, List, [], ◌∷◌, ◌++◌, ltb, eqb}
use Rattle.std.proofs.Math.Option.{Option, none, some}

-- nothing where the test holds, else the answer
abbrev pub unless {ℓ} : {A : Type ℓ} → Bool → A → Option A
unless true a = none
unless false a = some a

-- the first of two answers that is one
abbrev pub ◌or_else◌ {ℓ} : {A : Type ℓ} → Option A → Option A → Option A
◌or_else◌ none b = b
◌or_else◌ (some a) b = some a

infixr 4 ◌or_else◌
-- the first answer that the elements of a list give
unfoldable pub first_of {ℓ} : {A : Type 0} {B : Type ℓ} → (A → Option B) → List A → Option B
first_of f [] = none
first_of f (a ∷ l) = f a or_else first_of f l

-- some element passes the test
unfoldable pub any : {A : Type 0} → (A → Bool) → List A → Bool
any t [] = false
any t (a ∷ l) = t a || any t l

-- the elements that pass the test
unfoldable pub select : {A : Type 0} → (A → Bool) → List A → List A
select t [] = []
select t (a ∷ l) = if t a then a ∷ select t l else select t l

-- the lists that the elements give, one after the other
unfoldable pub joined : {A B : Type 0} → (A → List B) → List A → List B
joined f [] = []
joined f (a ∷ l) = f a ++ joined f l

-- the sum, the largest (0 if there is none) and the smallest (0 if there is none) of the numbers that the elements give
unfoldable pub sum_of : {A : Type 0} → (A → ℕ) → List A → ℕ
sum_of f [] = 0
sum_of f (a ∷ l) = f a + sum_of f l

unfoldable pub largest : {A : Type 0} → (A → ℕ) → List A → ℕ
largest f [] = 0
largest f (a ∷ l) = max (f a) (largest f l)

unfoldable pub smallest : {A : Type 0} → (A → ℕ) → List A → ℕ
smallest f [] = 0
smallest f (a ∷ []) = f a
smallest f (a ∷ b ∷ l) = min (f a) (smallest f (b ∷ l))

-- the numbers i, i + 1, .., n of them
unfoldable pub count_from : ℕ → ℕ → List ℕ
count_from i zero = []
count_from i (suc n) = i ∷ count_from (suc i) n

-- the numbers below n
abbrev pub up_to : ℕ → List ℕ
up_to n = count_from 0 n

-- one more than the largest number below n that passes the test, or 0 if none does
unfoldable pub above_all : (ℕ → Bool) → ℕ → ℕ
above_all t zero = 0
above_all t (suc n) = if t n then suc n else above_all t n

-- the smallest number from i on, of n of them, that passes the test, or i + n if none does
unfoldable pub lowest_from : (ℕ → Bool) → ℕ → ℕ → ℕ
lowest_from t i zero = i
lowest_from t i (suc n) = if t i then i else lowest_from t (suc i) n

-- the smallest number below n that passes the test, or n if none does
abbrev pub lowest : (ℕ → Bool) → ℕ → ℕ
lowest t n = lowest_from t 0 n

-- lexicographic comparison: the smaller number goes first, or the larger one; where both are the same, the rest decides
abbrev pub smaller_first : ℕ → ℕ → Bool → Bool
smaller_first a b rest = ltb a b || eqb a b && rest

abbrev pub larger_first : ℕ → ℕ → Bool → Bool
larger_first a b rest = smaller_first b a rest

-- x put into a list, before the first element that it comes before
unfoldable pub inserted : {A : Type 0} → (A → A → Bool) → A → List A → List A
inserted before x [] = x ∷ []
inserted before x (y ∷ l) = if before x y then x ∷ y ∷ l else y ∷ inserted before x l

-- insertion sort: the elements of r put one after the other into l, and into the empty list
unfoldable pub sorted_onto : {A : Type 0} → (A → A → Bool) → List A → List A → List A
sorted_onto before l [] = l
sorted_onto before l (x ∷ r) = sorted_onto before (inserted before x l) r

abbrev pub sorted : {A : Type 0} → (A → A → Bool) → List A → List A
sorted before r = sorted_onto before [] r
