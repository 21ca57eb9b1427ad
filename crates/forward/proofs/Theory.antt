-- What is found is carried by walks, and when the worklist is empty everything that walks carry is found. No code is mentioned.
use Prim.Native.Nat.{ℕ, zero, suc, ◌+◌, ◌^◌, ◌≤◌, ◌<◌, max}
use native.Mathlib.Omega.{arith}
use native.Mathlib.Decide.{ℕ_discrete}
use mathlib.Core.Path.{◌≡◌, refl, ap, sym, ◌∙◌}
use mathlib.Core.List.Memᴰ
use mathlib.Core.List.{List, ◌∷◌, ◌++◌, Memᴰ}
use mathlib.Core.Logic.{⊎_elim}
use lib.ListN.{length, get_or, set, take, drop, replicate}
use Rattle.std.proofs.lemmas.List.{length-take-le, map-append, drop-map}
use Rattle.bits.specs.Bits.{set_bits, bit, cleared}
use Rattle.bits.proofs.Laws.{bit_le, bit-zero, bit-union, bit-transfer, length-cleared, item-cleared}
use Rattle.model.specs.Limits.{most_points}
use Rattle.model.specs.Walk.{Walk, never}
use Rattle.tables.specs.Tables.{item}
use Rattle.tables.specs.Valid.{Kept}
use Rattle.tables.proofs.Laws.{here, elsewhere, set-each}
use Rattle.tables.proofs.Valid.{kept-later, kept_on, kept_set}
use Rattle.flow.specs.Flow.{LeadsWithin}
use Rattle.flow.proofs.Laws.{kept-cleared}
use Rattle.worklist.specs.declared.Visit.{Visit}
use Rattle.worklist.specs.declared.Visit.TheVariants.{Unseen}
use Rattle.worklist.specs.Worklist.{unseen, seen, waiting, code, codes, Absent}
use Rattle.worklist.proofs.Laws.{pending-none, pending-empty, last_within, last-waits, code_at}
use Rattle.forward.specs.Forward.{Carried, Solved}
use Rattle.forward.specs.Visits.{Progress, added_with, last_of, last_taken, leaving, Propagated, Visited, Visits, Listed}
use Rattle.forward.proofs.Steps.{listed-added, Effect, effect, preserved-visits, preserved-taken}

-- ---- what comes to a point

-- the set m has come to point b
abbrev Arrived : Progress → ℕ → ℕ → Type 0
Arrived x b m = (item x.list.state b ≡ unseen → ⊥) × ((j : ℕ) → j < set_bits → bit m j ≡ 1 → bit (item x.sets b) j ≡ 1)

-- a merge of m into the set of q: m has come to q, what has come stays, and a point that does not wait is as before
module _ {n q m : ℕ} {x y : Progress} (f : Effect n q m x y) where
  bits-here : (j : ℕ) → bit (item y.sets q) j ≡ max (bit (item x.sets q) j) (bit m j)
  bits-here j = ap (λ (v : ℕ). bit v j) f.set_here ∙ bit-union (item x.sets q) m j

  arrived-here : Arrived y q m
  arrived-here = (f.found, λ j h e. omega (arith, bits-here j, bit_le (item x.sets q) j))

  arrived-on : (b v : ℕ) → Arrived x b v → Arrived y b v
  arrived-on b v g =
      elim (ℕ_discrete b q) [
        | yes d ↦ rw d (f.found, λ j h e. omega (arith, bits-here j, bit_le m j, (rw d at g.1) j h e))
        | no d ↦ rw (f.state-else b d, f.sets-else b d) g
      ]

  as_before : (p : ℕ) → (item y.list.state p ≡ waiting → ⊥) → (item y.list.state p ≡ item x.list.state p) × (item y.sets p ≡ item x.sets p)
  as_before p h =
      elim (ℕ_discrete p q) [
        | yes d ↦ rw d (f.still (rw d at h))
        | no d ↦ (f.state-else p d, f.sets-else p d)
      ]

-- a walk and one more lead
walk-on : {next : ℕ → List ℕ} {a p q : ℕ} → Walk next never a p → Memᴰ q (next p) → Walk next never a q
walk-on Walk.here m = Walk.step tt m Walk.here
walk-on (Walk.step t k w) m = Walk.step t k (walk-on w m)

module _ (next : ℕ → List ℕ) (n entry : ℕ) (gens kills : List ℕ) where
  -- the tables are right but for some points: what they have is carried by walks, and what leaves a point that is seen and does not wait has
  -- come to the points that are next
  record Right (But : ℕ → Type 0) (x : Progress) : Type 0 where
    pub reached : (a : ℕ) → a < n → (item x.list.state a ≡ unseen → ⊥) → Walk next never 0 a
    pub carried : (a j : ℕ) → a < n → j < set_bits → bit (item x.sets a) j ≡ 1 → Carried next entry (item gens) (item kills) j a
    pub entered : Arrived x 0 entry
    pub passed : (a b : ℕ) → a < n → (But a → ⊥) → (item x.list.state a ≡ unseen → ⊥) → (item x.list.state a ≡ waiting → ⊥) → Memᴰ b (next a)
        → Arrived x b (leaving gens kills x a)

  -- a visit of p, which m leaves
  module _
      (p m : ℕ)
      (walk : Walk next never 0 p)
      (brings : (b j : ℕ) → Memᴰ b (next p) → j < set_bits → bit m j ≡ 1 → Carried next entry (item gens) (item kills) j b) where
    -- it is under way: the tables are right but for p, and m is what leaves p unless p waits again
    record Visiting (x : Progress) : Type 0 where
      pub right : Right (λ a. a ≡ p) x
      pub same : (item x.list.state p ≡ waiting → ⊥) → m ≡ leaving gens kills x p

    visiting-merged : {q : ℕ} {x y : Progress} → Memᴰ q (next p) → Effect n q m x y → Visiting x → Visiting y
    visiting-merged {q} {x} {y} k f w = record {
      right = record {
        reached = λ a h u. elim (ℕ_discrete a q) [
          | yes d ↦ rw d (walk-on walk k)
          | no d ↦ w.right.reached a h (rw (f.state-else a d) at u)
        ];
        carried = λ a j h i e. elim (ℕ_discrete a q) [
          | yes d ↦ elim (ℕ_discrete (bit m j) 1) [
            | yes g ↦ rw d (brings q j k i g)
            | no g ↦
                let u : bit (item y.sets q) j ≡ 1 = rw d at e in
                w.right.carried a j h i (rw d (omega (arith, bits-here f j, bit_le m j)))
          ]
          | no d ↦ w.right.carried a j h i (rw (f.sets-else a d) at e)
        ];
        entered = arrived-on f 0 entry w.right.entered;
        passed = λ a b h o u v i.
            let (s, t) = as_before f a v in
            rw t (arrived-on f b (leaving gens kills x a) (w.right.passed a b h o (rw (← s) u) (rw (← s) v) i));
      };
      same = λ d. let (s, t) = as_before f p d in rw t (w.same (rw (← s) d));
    }

    visiting-propagated : {ls : List ℕ} {x y : Progress} → LeadsWithin next n → p < n → Listed n x → ((q : ℕ) → Memᴰ q ls → Memᴰ q (next p))
        → Visiting x → Propagated m ls x y → Visiting y × ((b : ℕ) → Memᴰ b ls → Arrived y b m)
    visiting-propagated i h l k w Propagated.none = (w, λ b e. absurd (Memᴰ.not-nil e))
    visiting-propagated i h l k w (Propagated.one {q = q} a) =
        let g = k q (Memᴰ.head refl) in
        let f = effect l (i p q h g) a in
        (visiting-merged g f w, λ b e. let d = Memᴰ.eq_of_singleton e in rw d (arrived-here f))
    visiting-propagated i h l k w (Propagated.two {q = q} {r = r} a b) =
        let g = k q (Memᴰ.head refl) in
        let j = k r (Memᴰ.tail (Memᴰ.head refl)) in
        let e = effect l (i p r h j) a in
        let f = effect e.on.list (i p q h g) b in (
          visiting-merged g f (visiting-merged j e w),
          λ c d.
              ⊎_elim
              (λ o. rw o (arrived-here f))
              (λ o. let z = Memᴰ.eq_of_singleton o in rw z (arrived-on f r m (arrived-here e)))
              (Memᴰ.cases_cons d),
        )

  -- the last point of the worklist is visited: it is seen as before, and what leaves it comes to the points that are next
  module _ (inside : LeadsWithin next n) (small : (a : ℕ) → item kills a < 2 ^ set_bits) where
    right-visited : {x y : Progress} → Listed n x → 0 < x.list.count → Right (λ a. ⊥) x → Visited next gens kills x y → Right (λ a. ⊥) y
    right-visited {x} {y} l h r v =
        let w = r.reached (last_of x) (last_within l.pending h) (λ e. omega (arith, last-waits l.pending h)) in
        let (d, g) = visiting-propagated (last_of x) (leaving gens kills x (last_of x)) w brings inside (last_within l.pending h)
        (preserved-taken l h).list (λ q k. k) (record { right = right-taken; same = λ d. refl }) v.merges in
        record {
          reached = d.right.reached;
          carried = d.right.carried;
          entered = d.right.entered;
          passed = λ a b c o s t k. elim (ℕ_discrete a (last_of x)) [
            | yes e ↦ rw (e, ← d.same (rw e at t)) (g b (rw e at k))
            | no e ↦ d.right.passed a b c e s t k
          ];
        }
      where
        long : last_of x < length x.list.state
        long = omega (arith, last_within l.pending h, l.pending.state_long)

        was-seen : (a : ℕ) → (item (last_taken x).list.state a ≡ unseen → ⊥) → item x.list.state a ≡ unseen → ⊥
        was-seen =
            set-each (λ a s. (s ≡ unseen → ⊥) → item x.list.state a ≡ unseen → ⊥) x.list.state long
            (λ k e. omega (arith, last-waits l.pending h)) (λ a d k. k)

        arrived-taken : (b m : ℕ) → Arrived x b m → Arrived (last_taken x) b m
        arrived-taken b m g =
            (set-each (λ a s. (item x.list.state a ≡ unseen → ⊥) → s ≡ unseen → ⊥) x.list.state long (λ k e. omega arith) (λ a d k. k) b g.0, g.1)

        right-taken : Right (λ a. a ≡ last_of x) (last_taken x)
        right-taken = record {
          reached = λ a b s. r.reached a b (was-seen a s);
          carried = r.carried;
          entered = arrived-taken 0 entry r.entered;
          passed = λ a b c o s t k.
              arrived-taken b (leaving gens kills x a) (r.passed a b c (λ e. e) (was-seen a s) (rw (elsewhere x.list.state (last_of x) a seen o) at t) k);
        }

        brings : (b j : ℕ) → Memᴰ b (next (last_of x)) → j < set_bits → bit (leaving gens kills x (last_of x)) j ≡ 1
            → Carried next entry (item gens) (item kills) j b
        brings b j k i e =
            let t = bit-transfer (item x.sets (last_of x)) (item kills (last_of x)) (item gens (last_of x)) j (small (last_of x)) i in
            elim (ℕ_discrete (bit (item gens (last_of x)) j) 1) [
              | yes d ↦ Carried.given (r.reached (last_of x) (last_within l.pending h) (λ e. omega (arith, last-waits l.pending h))) d k
              | no d ↦
                  let g = bit_le (item gens (last_of x)) j in
                  let u = bit_le (item kills (last_of x)) j in
                  let v = bit_le (item x.sets (last_of x)) j in
                  Carried.kept (r.carried (last_of x) j (last_within l.pending h) i (omega arith)) (omega arith) k
            ]

    right-visits : {x y : Progress} → Listed n x → Right (λ a. ⊥) x → Visits next gens kills x y → Right (λ a. ⊥) y
    right-visits l r Visits.none = r
    right-visits l r (Visits.more w h v) = right-visited (preserved-visits inside l w).list h (right-visits l r w) v

    -- when the worklist is empty all that walks carry is there
    module _ (some : 1 ≤ n) {x : Progress} (l : Listed n x) (none : x.list.count ≡ 0) (r : Right (λ a. ⊥) x) where
      -- what leaves a seen point has come to those that are next
      passes : (a b : ℕ) → a < n → (item x.list.state a ≡ unseen → ⊥) → Memᴰ b (next a) → Arrived x b (leaving gens kills x a)
      passes a b h s k = r.passed a b h (λ e. e) s (pending-empty l.pending none a h) k

      marks : {a b : ℕ} → a < n → (item x.list.state a ≡ unseen → ⊥) → Walk next never a b → (b < n) × (item x.list.state b ≡ unseen → ⊥)
      marks h s Walk.here = (h, s)
      marks {a} h s (Walk.step {q = q} t k w) = marks (inside a q h k) (passes a q h s k).0 w

      holds : {j a : ℕ} → j < set_bits → Carried next entry (item gens) (item kills) j a
          → (a < n) × (item x.list.state a ≡ unseen → ⊥) × (bit (item x.sets a) j ≡ 1)
      holds {j} i (Carried.enter e) = (some, r.entered.0, r.entered.1 j i e)
      holds {j} i (Carried.given {p = p} {q = q} w g k) =
          let (h, s) = marks some r.entered.0 w in
          let t = bit-transfer (item x.sets p) (item kills p) (item gens p) j (small p) i in
          let u = bit_le (item x.sets p) j in
          let (o, d) = passes p q h s k in
          (inside p q h k, o, d j i (omega arith))
      holds {j} i (Carried.kept {p = p} {q = q} c z k) =
          let (h, s, e) = holds i c in
          let t = bit-transfer (item x.sets p) (item kills p) (item gens p) j (small p) i in
          let u = bit_le (item gens p) j in
          let (o, d) = passes p q h s k in
          (inside p q h k, o, d j i (omega arith))

      solved-empty : Solved next n entry gens kills x.sets x.list.state
      solved-empty = record {
        reached = λ p h. (
          λ e. r.reached p h (λ d. omega arith),
          λ w. let s = (marks some r.entered.0 w).1 in let t = pending-empty l.pending none p h in omega (arith, l.pending.states p h),
        );
        marked = λ p h. let t = pending-empty l.pending none p h in omega (arith, l.pending.states p h);
        carried = r.carried;
        held = λ p j h i c. (holds i c).2;
      }

-- a table whose first n states are filled with Unseen
codes-unseen : (n : ℕ) → codes (replicate n Unseen) ≡ replicate n 0
codes-unseen zero = refl
codes-unseen (suc n) = ap (λ (l : List ℕ). 0 ∷ l) (codes-unseen n)

pub states-cleared : (n : ℕ) (t : List Visit) {front : List Visit} → n ≤ length t → front ≡ replicate (length (take n t)) Unseen
    → codes (front ++ drop n t) ≡ cleared n (codes t)
unfolding cleared
states-cleared n t h e = rw (e, length-take-le n t h, map-append, codes-unseen n, drop-map)

-- ---- the start and the whole: cleared tables, to which point 0 is added
abbrev pub start_of : List ℕ → List ℕ → List ℕ → Progress
start_of s t l = record { sets = s; list = record { state = t; points = l; count = 0 } }

module _
    (n entry : ℕ)
    (s t l : List ℕ)
    {s' t' : List ℕ}
    (some : 1 ≤ n)
    (few : n ≤ most_points)
    (i : n ≤ length s)
    (j : n ≤ length t)
    (k : length l ≡ most_points)
    (e : s' ≡ cleared n s)
    (f : t' ≡ cleared n t) where
  zero-sets : (p : ℕ) → p < n → item s' p ≡ 0
  zero-sets p h = rw e (item-cleared n p s h)

  zero-state : (p : ℕ) → p < n → item t' p ≡ unseen
  zero-state p h = rw f (item-cleared n p t h)

  sets_long : n ≤ length s'
  sets_long = rw e (omega (arith, length-cleared n s i))

  state_long : n ≤ length t'
  state_long = rw f (omega (arith, length-cleared n t j))

  -- the worklist is empty, and point 0 can be put there
  start_none : Listed n (start_of s' t' l)
  start_none = record { sets_long = sets_long; pending = pending-none n t' l few k state_long zero-state }

  zero-waits : item t' 0 ≡ waiting → ⊥
  zero-waits d = omega (arith, zero-state 0 some)

  pub start-absent : Absent 0 (start_of s' t' l).list × (0 < length s')
  start-absent = (record { n = n; below = some; pending = start_none.pending; absent = zero-waits }, omega (arith, some, sets_long))

  pub start-listed : {x : Progress} → x ≡ added_with 0 entry (start_of s' t' l) → Listed n x
  start-listed g = rw g (listed-added entry start_none some zero-waits)

  module _ (next : ℕ → List ℕ) (gens kills : List ℕ) where
    -- every point but 0 is unseen, and 0 waits
    start-zero : (a : ℕ) → a < n → (item (added_with 0 entry (start_of s' t' l)).list.state a ≡ unseen → ⊥) → a ≡ 0
    start-zero a h u = elim (ℕ_discrete a 0) [ yes d ↦ d | no d ↦ absurd (u (elsewhere t' 0 a waiting d ∙ zero-state a h)) ]

    start_right : Right next n entry gens kills (λ a. ⊥) (added_with 0 entry (start_of s' t' l))
    start_right = record {
      reached = λ a h u. rw (start-zero a h u) Walk.here;
      carried = λ a b h m.
          set-each (λ a v. a < n → bit v b ≡ 1 → Carried next entry (item gens) (item kills) b a) s' (omega (arith, sets_long)) (λ h d. Carried.enter d)
          (λ a d h u. absurd (omega (arith, ap (λ (v : ℕ). bit v b) (zero-sets a h), bit-zero b))) a h;
      entered = (λ d. omega (arith, here t' 0 waiting (omega (arith, state_long))), λ b h d. rw (here s' 0 entry (omega (arith, sets_long))) d);
      passed = λ a b h o u v. absurd (v (rw (start-zero a h u) (here t' 0 waiting (omega (arith, state_long)))));
    }

    -- visits until the worklist is empty solve the problem, and keep what lies past the n points
    pub start-solved : {x y : Progress} → x ≡ added_with 0 entry (start_of s' t' l) → LeadsWithin next n
        → ((a : ℕ) → item kills a < 2 ^ set_bits) → Visits next gens kills x y → y.list.count ≡ 0
        → Solved next n entry gens kills y.sets y.list.state × Kept n s y.sets × Kept n t y.list.state
    start-solved g inside small v z =
        let o = preserved-visits inside (start-listed g) v in (
          solved-empty next n entry gens kills inside small some o.list z
              (right-visits next n entry gens kills inside small (start-listed g) (rw g start_right) v),
          kept_on (kept-cleared e i) (kept_on (rw g (kept_set s' 0 entry some)) o.sets-kept),
          kept_on (kept-cleared f j) (kept_on (rw g (kept_set t' 0 waiting some)) o.state-kept),
        )

-- ---- states as numbers

-- the first n entries of l' are the numbers of the states t, and the others are those of l
pub record Coded (t : List Visit) (n : ℕ) (l l' : List ℕ) : Type 0 where
  pub each : (p : ℕ) → p < n → item l' p ≡ item (codes t) p
  pub kept : Kept n l l'

pub coded_more : (t : List Visit) (l : List ℕ) {l₀ : List ℕ} (p v : ℕ) → p < length l → v ≡ code (get_or t p Unseen) → Coded t p l₀ l
    → Coded t (p + 1) l₀ (set l p v)
coded_more t l p v h e c = record {
  each = set-each (λ q u. q < p + 1 → u ≡ item (codes t) q) l h (λ _. e ∙ sym (code_at t p)) (λ q d k. c.each q (omega arith));
  kept = kept_on (kept-later 1 c.kept) (kept_set l p v (omega arith));
}

-- tables that agree on the n points are solved alike
pub solved-same : {next : ℕ → List ℕ} {n entry : ℕ} {gens kills sets t u : List ℕ} → ((p : ℕ) → p < n → item u p ≡ item t p)
    → Solved next n entry gens kills sets t → Solved next n entry gens kills sets u
solved-same e s = record {
  reached = λ p h. rw (e p h) (s.reached p h);
  marked = λ p h. rw (e p h) (s.marked p h);
  carried = s.carried;
  held = s.held;
}
