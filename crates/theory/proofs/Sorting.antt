-- Laws of the sorted list, for any order: its members, its sequence, the first n of it against the rest; that the first n so far are all that has to be
-- kept; and that a function which keeps the order maps one sorted list to the other.
use Rattle.std.specs.Prelude.{if◌then◌else◌}
use Prim.Native.Nat.{ℕ, zero, suc, ◌+◌, ◌<◌, min}
use mathlib.Core.Bool.{Bool, true, false, not, ◌&&◌}
use mathlib.Core.List.Memᴰ
use mathlib.Core.List.{List, [], ◌∷◌, ◌++◌, map, Memᴰ}
use mathlib.Core.Logic.{◌↔◌, ◌⊎◌, inl, inr, ⊎_elim}
use mathlib.Core.Path.{◌≡◌, refl, sym, ap, ◌∙◌}
use native.Mathlib.Decide.{dec_lt}
use native.Mathlib.Omega.{arith}
use lib.Dec.{T, T_not, eqb, ltb, ltb→lt, lt→ltb, eqb→eq, eqb_refl}
use lib.ListN.{length, take, drop, take-append-drop, length-take}
use lib.Seq.{take-take}
use Rattle.model.specs.Basic.{smaller_first, larger_first, inserted, sorted_onto, sorted}
use Rattle.theory.specs.Order.{Pairs, StrictOrder, Firsts}
use Rattle.theory.proofs.Lists.{by-test, or-holds, and-holds}

-- ---- orders by numbers

pub first_holds : (a b : ℕ) (r : Bool) → T (smaller_first a b r) ↔ ((a < b) ⊎ ((a ≡ b) × T r))
first_holds a b r = (
  λ h. ⊎_elim (λ k. inl (ltb→lt a b k)) (λ k. let e = (and-holds (eqb a b) r).0 k in inr (eqb→eq a b e.0, e.1))
      ((or-holds (ltb a b) (eqb a b && r)).0 h),
  λ h. (or-holds (ltb a b) (eqb a b && r)).1
      (⊎_elim (λ k. inl (lt→ltb a b k)) (λ k. inr ((and-holds (eqb a b) r).1 (rw k.0 (eqb_refl b), k.1))) h),
)

first-across : (a b c : ℕ) (r s u : Bool) → (T r → T s → T u) → T (smaller_first a b r) → T (smaller_first b c s) → T (smaller_first a c u)
first-across a b c r s u g h k =
    (first_holds a c u).1
    (⊎_elim
    (λ (x : a < b). ⊎_elim (λ (y : b < c). inl (omega arith)) (λ (y : (b ≡ c) × T s). inl (omega arith)) ((first_holds b c s).0 k))
    (λ (x : (a ≡ b) × T r). ⊎_elim (λ (y : b < c). inl (omega arith)) (λ (y : (b ≡ c) × T s). inr (omega arith, g x.1 y.1)) ((first_holds b c s).0 k))
    ((first_holds a b r).0 h))

first-never : (a : ℕ) (r : Bool) → (T r → ⊥) → T (smaller_first a a r) → ⊥
first-never a r g h = ⊎_elim (λ (k : a < a). absurd (omega arith)) (λ k. g k.1) ((first_holds a a r).0 h)

first-total : (a b : ℕ) (r s : Bool) → (a ≡ b → T r ⊎ T s) → T (smaller_first a b r) ⊎ T (smaller_first b a s)
first-total a b r s g =
    elim (dec_lt a b) [
      | yes h ↦ inl ((first_holds a b r).1 (inl h))
      | no h ↦ elim (dec_lt b a) [
        | yes k ↦ inr ((first_holds b a s).1 (inl k))
        | no k ↦
            let e : a ≡ b = omega arith in
            ⊎_elim (λ t. inl ((first_holds a b r).1 (inr (e, t)))) (λ t. inr ((first_holds b a s).1 (inr (sym e, t)))) (g e)
      ]
    ]

module _ {A : Type 0} (Apart : A → A → Type 0) (g : A → ℕ) (rest : A → A → Bool) where
  -- an order by a number first, the smaller before the larger, and then by the rest; the rest has to tell apart only where the number does not
  pub by-smaller :
      ((x y z : A) → T (rest x y) → T (rest y z) → T (rest x z))
      → ((x : A) → T (rest x x) → ⊥)
      → ((x y : A) → Apart x y → g x ≡ g y → T (rest x y) ⊎ T (rest y x))
      → StrictOrder Apart (λ x y. smaller_first (g x) (g y) (rest x y))
  by-smaller a i t =
      record {
        transitive = λ x y z. first-across (g x) (g y) (g z) (rest x y) (rest y z) (rest x z) (a x y z);
        irreflexive = λ x. first-never (g x) (rest x x) (i x);
        total = λ x y h. first-total (g x) (g y) (rest x y) (rest y x) (t x y h);
      }

  -- the larger before the smaller
  pub by-larger : StrictOrder Apart rest → StrictOrder Apart (λ x y. larger_first (g x) (g y) (rest x y))
  by-larger o =
      record {
        transitive = λ x y z h k. first-across (g z) (g y) (g x) (rest y z) (rest x y) (rest x z) (λ b a. o.transitive x y z a b) k h;
        irreflexive = λ x. first-never (g x) (rest x x) (o.irreflexive x);
        total = λ x y h.
            ⊎_elim inr inl (first-total (g x) (g y) (rest y x) (rest x y) (λ e. ⊎_elim inr inl (o.total x y h)));
      }

-- ---- members

module _ {A : Type 0} where
  mem-take : (n : ℕ) (l : List A) {x : A} → Memᴰ x (take n l) → Memᴰ x l
  mem-take zero l m = absurd (Memᴰ.not-nil m)
  mem-take (suc n) [] m = m
  mem-take (suc n) (y ∷ l) m = ⊎_elim Memᴰ.head (λ k. Memᴰ.tail (mem-take n l k)) (Memᴰ.cases_cons m)

  mem-drop : (n : ℕ) (l : List A) {x : A} → Memᴰ x (drop n l) → Memᴰ x l
  mem-drop zero l m = m
  mem-drop (suc n) [] m = m
  mem-drop (suc n) (y ∷ l) m = Memᴰ.tail (mem-drop n l m)

  -- each is one of the first n or one of the rest
  mem-split : (n : ℕ) (l : List A) {x : A} → Memᴰ x l → Memᴰ x (take n l) ⊎ Memᴰ x (drop n l)
  mem-split n l m = Memᴰ.append_cases (take n l) (rw (take-append-drop n l) m)

module _ {A : Type 0} (R : A → A → Type 0) where
  pub pairs-take : (n : ℕ) (l : List A) → Pairs R l → Pairs R (take n l)
  pairs-take zero l p = tt
  pairs-take (suc n) [] p = tt
  pairs-take (suc n) (x ∷ l) p = (λ y m. p.0 y (mem-take n l m), pairs-take n l p.1)

  pub pairs-by : (S : A → A → Type 0) (l : List A) → ((x y : A) → Memᴰ x l → Memᴰ y l → R x y → S x y) → Pairs R l → Pairs S l
  pairs-by S [] g p = tt
  pairs-by S (x ∷ l) g p = (
    λ y m. g x y (Memᴰ.head refl) (Memᴰ.tail m) (p.0 y m),
    pairs-by S l (λ y z m k. g y z (Memᴰ.tail m) (Memᴰ.tail k)) p.1,
  )

  pub pairs-append : (l r : List A) → Pairs R l → Pairs R r → ((x y : A) → Memᴰ x l → Memᴰ y r → R x y) → Pairs R (l ++ r)
  pairs-append [] r p q g = q
  pairs-append (x ∷ l) r p q g = (
    λ y m. ⊎_elim (λ k. p.0 y k) (λ k. g x y (Memᴰ.head refl) k) (Memᴰ.append_cases l m),
    pairs-append l r p.1 q (λ y z m k. g y z (Memᴰ.tail m) k),
  )

  -- each of the first n stands so to each of the rest
  pairs-split : (n : ℕ) (l : List A) → Pairs R l → (x y : A) → Memᴰ x (take n l) → Memᴰ y (drop n l) → R x y
  pairs-split zero l p x y m k = absurd (Memᴰ.not-nil m)
  pairs-split (suc n) [] p x y m k = absurd (Memᴰ.not-nil m)
  pairs-split (suc n) (z ∷ l) p x y m k =
      ⊎_elim (λ e. rw e (p.0 y (mem-drop n l k))) (λ j. pairs-split n l p.1 x y j k) (Memᴰ.cases_cons m)

  -- two members that are not the same stand so to each other, where the relation goes both ways
  pairs-members : ((x y : A) → R x y → R y x) → (l : List A) → Pairs R l → (x y : A) → Memᴰ x l → Memᴰ y l → (x ≡ y → ⊥) → R x y
  pairs-members s [] p x y m k n = absurd (Memᴰ.not-nil m)
  pairs-members s (z ∷ l) p x y m k n =
      ⊎_elim
      (λ e. ⊎_elim (λ d. absurd (n (e ∙ sym d))) (λ j. rw e (p.0 y j)) (Memᴰ.cases_cons k))
      (λ i. ⊎_elim (λ d. s y x (rw d (p.0 x i))) (λ j. pairs-members s l p.1 x y i j n) (Memᴰ.cases_cons k))
      (Memᴰ.cases_cons m)

-- ---- the sorted list

module _ {A : Type 0} (before : A → A → Bool) where
  -- its members are those of what an element is put into, and that element
  pub mem-inserted : (x : A) (l : List A) {a : A} → Memᴰ a (inserted before x l) ↔ Memᴰ a (x ∷ l)
  unfolding inserted
  mem-inserted x [] = (λ m. m, λ m. m)
  mem-inserted x (y ∷ l) {a} =
      by-test (λ k. Memᴰ a k ↔ Memᴰ a (x ∷ y ∷ l)) (before x y) (λ h. (λ m. m, λ m. m)) (λ h. (
        λ m. ⊎_elim (λ e. Memᴰ.tail (Memᴰ.head e))
            (λ k. ⊎_elim Memᴰ.head (λ j. Memᴰ.tail (Memᴰ.tail j)) (Memᴰ.cases_cons ((mem-inserted x l).0 k))) (Memᴰ.cases_cons m),
        λ m. ⊎_elim (λ e. Memᴰ.tail ((mem-inserted x l).1 (Memᴰ.head e)))
            (λ k. ⊎_elim Memᴰ.head (λ j. Memᴰ.tail ((mem-inserted x l).1 (Memᴰ.tail j))) (Memᴰ.cases_cons k)) (Memᴰ.cases_cons m),
      ))

  mem-sorted_onto : (l r : List A) {a : A} → Memᴰ a (sorted_onto before l r) ↔ (Memᴰ a l ⊎ Memᴰ a r)
  unfolding sorted_onto
  mem-sorted_onto l [] = (inl, ⊎_elim (λ m. m) (λ m. absurd (Memᴰ.not-nil m)))
  mem-sorted_onto l (x ∷ r) = (
    λ m. ⊎_elim (λ k. ⊎_elim (λ e. inr (Memᴰ.head e)) inl (Memᴰ.cases_cons ((mem-inserted x l).0 k))) (λ k. inr (Memᴰ.tail k))
        ((mem-sorted_onto (inserted before x l) r).0 m),
    λ m. (mem-sorted_onto (inserted before x l) r).1
        (⊎_elim (λ k. inl ((mem-inserted x l).1 (Memᴰ.tail k)))
        (λ k. ⊎_elim (λ e. inl ((mem-inserted x l).1 (Memᴰ.head e))) inr (Memᴰ.cases_cons k)) m),
  )

  mem-sorted : (l : List A) {a : A} → Memᴰ a (sorted before l) ↔ Memᴰ a l
  mem-sorted l = (
    λ m. ⊎_elim (λ k. absurd (Memᴰ.not-nil k)) (λ k. k) ((mem-sorted_onto [] l).0 m),
    λ m. (mem-sorted_onto [] l).1 (inr m),
  )

  pub length_inserted : (x : A) (l : List A) → length (inserted before x l) ≡ suc (length l)
  unfolding inserted
  length_inserted x [] = refl
  length_inserted x (y ∷ l) = by-test (λ (k : List A). length k ≡ suc (suc (length l))) (before x y) (λ h. refl) (λ h. ap suc (length_inserted x l))

  pub length-sorted_onto : (l r : List A) → length (sorted_onto before l r) ≡ length l + length r
  unfolding sorted_onto
  length-sorted_onto l [] = omega arith
  length-sorted_onto l (x ∷ r) = omega (arith, length-sorted_onto (inserted before x l) r, length_inserted x l)

  -- elements that come later are put in later
  pub sorted-append : (l r q : List A) → sorted_onto before l (r ++ q) ≡ sorted_onto before (sorted_onto before l r) q
  unfolding sorted_onto
  sorted-append l [] q = refl
  sorted-append l (x ∷ r) q = sorted-append (inserted before x l) r q

  -- of what elements are put into, the first n decide on the first n
  take_again : (n : ℕ) (y : A) (l : List A) → take n (y ∷ take n l) ≡ take n (y ∷ l)
  take_again zero y l = refl
  take_again (suc n) y l = ap (λ k. y ∷ k) (take-take n (suc n) l (omega arith))

  window-inserted : (n : ℕ) (x : A) (l : List A) → take n (inserted before x (take n l)) ≡ take n (inserted before x l)
  unfolding inserted
  window-inserted zero x l = refl
  window-inserted (suc n) x [] = refl
  window-inserted (suc n) x (y ∷ l) = go (before x y) (window-inserted n x l)
    where
      go : (b : Bool) → take n (inserted before x (take n l)) ≡ take n (inserted before x l)
          → take (suc n) (if b then x ∷ y ∷ take n l else y ∷ inserted before x (take n l))
          ≡ take (suc n) (if b then x ∷ y ∷ l else y ∷ inserted before x l)
      go true e = ap (λ k. x ∷ k) (take_again n y l)
      go false e = ap (λ k. y ∷ k) e

  pub window-sorted : (n : ℕ) (l r : List A) → take n (sorted_onto before (take n l) r) ≡ take n (sorted_onto before l r)
  unfolding sorted_onto
  window-sorted n l [] = take-take n n l (omega arith)
  window-sorted n l (x ∷ r) =
      sym (window-sorted n (inserted before x (take n l)) r)
      ∙ ap (λ k. take n (sorted_onto before k r)) (window-inserted n x l)
      ∙ window-sorted n (inserted before x l) r

-- ---- its sequence

-- a list is still in the sequence of R where an element is put in: R leads from the element to those that it comes before, and to it from the others
pub pairs-inserted : {A : Type 0} (R : A → A → Type 0) (before : A → A → Bool) → ((x y z : A) → R x y → R y z → R x z) → (x : A) (l : List A)
    → ((y : A) → Memᴰ y l → T (before x y) → R x y)
    → ((y : A) → Memᴰ y l → T (not (before x y)) → R y x)
    → Pairs R l → Pairs R (inserted before x l)
unfolding inserted
pairs-inserted R before t x [] a b p = (λ y m. absurd (Memᴰ.not-nil m), tt)
pairs-inserted R before t x (y ∷ l) a b p =
    by-test (Pairs R) (before x y)
    (λ h.
    let i = a y (Memᴰ.head refl) h in
    (λ z m. ⊎_elim (λ e. rw e i) (λ k. t x y z i (p.0 z k)) (Memᴰ.cases_cons m), p))
    (λ h. (
      λ z m. ⊎_elim (λ e. rw e (b y (Memᴰ.head refl) h)) (λ k. p.0 z k) (Memᴰ.cases_cons ((mem-inserted before x l).0 m)),
      pairs-inserted R before t x l (λ z m. a z (Memᴰ.tail m)) (λ z m. b z (Memᴰ.tail m)) p.1,
    ))

module _ {A : Type 0} {Apart : A → A → Type 0} {before : A → A → Bool} (o : StrictOrder Apart before) where
  -- of two that are apart, the one that does not come first comes last
  other : (x y : A) → Apart x y → T (not (before y x)) → T (before x y)
  other x y a h = ⊎_elim (λ k. k) (λ k. absurd (T_not (before y x) h k)) (o.total x y a)

  rising-inserted : (x : A) (l : List A) → Pairs (λ x y. T (before x y)) l → ((y : A) → Memᴰ y l → Apart y x)
      → Pairs (λ x y. T (before x y)) (inserted before x l)
  rising-inserted x l p a =
      pairs-inserted (λ x y. T (before x y)) before o.transitive x l (λ y m h. h) (λ y m h. other y x (a y m) h) p

  rising-sorted_onto : (l r : List A) → Pairs (λ x y. T (before x y)) l → Pairs Apart r → ((x y : A) → Memᴰ x l → Memᴰ y r → Apart x y)
      → Pairs (λ x y. T (before x y)) (sorted_onto before l r)
  unfolding sorted_onto
  rising-sorted_onto l [] p q a = p
  rising-sorted_onto l (x ∷ r) p q a =
      rising-sorted_onto (inserted before x l) r (rising-inserted x l p (λ y m. a y x m (Memᴰ.head refl))) q.1
      (λ y z m k. ⊎_elim (λ e. rw e (q.0 z k)) (λ j. a y z j (Memᴰ.tail k)) (Memᴰ.cases_cons ((mem-inserted before x l).0 m)))

  -- the first n of the sorted list are the first n of the list
  pub firsts : ((x y : A) → Apart x y → Apart y x) → (n : ℕ) (l : List A) → Pairs Apart l → Firsts Apart before n l (take n (sorted before l))
  firsts s n l a =
      let p = rising-sorted_onto [] l tt a (λ x y m. absurd (Memᴰ.not-nil m)) in
      let q = pairs-take (λ x y. T (before x y)) n (sorted before l) p in
      let i : (x : A) → Memᴰ x (take n (sorted before l)) → Memᴰ x l = λ x m. (mem-sorted before l).0 (mem-take n (sorted before l) m) in
      let b : (x y : A) → Memᴰ x (take n (sorted before l)) → Memᴰ y l → Memᴰ y (take n (sorted before l)) ⊎ T (before x y) =
      λ x y m k.
      ⊎_elim inl (λ j. inr (pairs-split (λ x y. T (before x y)) n (sorted before l) p x y m j)) (mem-split n (sorted before l) ((mem-sorted before l).1 k)) in
      record {
        size = length-take n (sorted before l) ∙ ap (min n) (length-sorted_onto before [] l ∙ omega arith);
        part = i;
        once =
            pairs-by (λ x y. T (before x y)) Apart (take n (sorted before l))
            (λ x y m k h. pairs-members Apart s l a x y (i x m) (i y k) (λ e. o.irreflexive x (rw (← e) at h))) q;
        rising = q;
        behind = b;
        none_before = λ x y m k n h. ⊎_elim n (λ g. o.irreflexive x (o.transitive x y x g h)) (b x y m k);
      }

-- ---- from one sorted list to another

map-take : {A B : Type 0} (g : A → B) (n : ℕ) (l : List A) → map g (take n l) ≡ take n (map g l)
map-take g zero l = refl
map-take g (suc n) [] = refl
map-take g (suc n) (x ∷ l) = ap (λ k. g x ∷ k) (map-take g n l)

module _ {A B : Type 0} (g : A → B) (one : A → A → Bool) (two : B → B → Bool) (P : A → Type 0) where
  -- where an element of which P holds is put into a list of which Good holds, so is what g makes of it, and Good holds of the longer list
  module _ (Good : List A → Type 0)
      (puts : (x : A) (l : List A) → P x → Good l → (map g (inserted one x l) ≡ inserted two (g x) (map g l)) × Good (inserted one x l)) where
    map-sortedOnto : (l r : List A) → Good l → ((x : A) → Memᴰ x r → P x) → map g (sorted_onto one l r) ≡ sorted_onto two (map g l) (map g r)
    unfolding sorted_onto
    map-sortedOnto l [] h k = refl
    map-sortedOnto l (x ∷ r) h k =
        let i = puts x l (k x (Memᴰ.head refl)) h in
        map-sortedOnto (inserted one x l) r i.1 (λ y m. k y (Memᴰ.tail m)) ∙ ap (λ q. sorted_onto two q (map g r)) i.0

    pub map-sorted : Good [] → (n : ℕ) (r : List A) → ((x : A) → Memᴰ x r → P x) → map g (take n (sorted one r)) ≡ take n (sorted two (map g r))
    map-sorted h n r k = map-take g n (sorted one r) ∙ ap (take n) (map-sortedOnto [] r h k)

  -- g keeps the order of the elements of which P holds
  module _ (keeps : (x y : A) → P x → P y → one x y ≡ two (g x) (g y)) where
    map-inserted : (x : A) (l : List A) → P x → ((y : A) → Memᴰ y l → P y) → map g (inserted one x l) ≡ inserted two (g x) (map g l)
    unfolding inserted
    map-inserted x [] h k = refl
    map-inserted x (y ∷ l) h k =
        go (one x y) (two (g x) (g y)) (keeps x y h (k y (Memᴰ.head refl))) (map-inserted x l h (λ z m. k z (Memᴰ.tail m)))
      where
        go : (a b : Bool) → a ≡ b → map g (inserted one x l) ≡ inserted two (g x) (map g l)
            → map g (if a then x ∷ y ∷ l else y ∷ inserted one x l) ≡ (if b then g x ∷ g y ∷ map g l else g y ∷ inserted two (g x) (map g l))
        go true b d i = rw (← d) refl
        go false b d i = rw (← d) (ap (λ k. g y ∷ k) i)

    pub map_first : (n : ℕ) (r : List A) → ((x : A) → Memᴰ x r → P x) → map g (take n (sorted one r)) ≡ take n (sorted two (map g r))
    map_first n r k =
        map-sorted (λ l. (x : A) → Memᴰ x l → P x)
        (λ x l h j. (
          map-inserted x l h j,
          λ y m. ⊎_elim (λ e. rw e h) (λ i. j y i) (Memᴰ.cases_cons ((mem-inserted one x l).0 m)),
        ))
        (λ x m. absurd (Memᴰ.not-nil m)) n r k
