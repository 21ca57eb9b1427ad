-- What the steps of the kernel preserve, and that every visit lowers the cost, so that the visits end. No code is mentioned.
use Prim.Native.Nat.{ℕ, ◌+◌, ◌-◌, ◌*◌, ◌^◌, ◌≤◌, ◌<◌}
use native.Mathlib.Omega.{arith}
use native.Mathlib.Decide.{ℕ_discrete}
use mathlib.Core.Path.{◌≡◌, refl, ap, sym, ◌∙◌}
use mathlib.Core.List.{List, Memᴰ}
use lib.ListN.{length-set}
use Rattle.std.specs.Prelude.{Option, Some, None}
use Rattle.bits.specs.Bits.{set_bits, union, transfer}
use Rattle.bits.proofs.Laws.{union-ge}
use Rattle.model.specs.Walk.{leads}
use Rattle.tables.specs.declared.Span.{Span}
use Rattle.tables.specs.Tables.{item, sum, func_in}
use Rattle.tables.specs.Valid.{Kept}
use Rattle.tables.proofs.Laws.{sum-but, here, elsewhere}
use Rattle.tables.proofs.Valid.{kept_same, kept_on, kept_set}
use Rattle.flow.specs.Flow.{LeadsWithin, Given, targets}
use Rattle.flow.proofs.Laws.{next_one, next_both}
use Rattle.flow.specs.declared.Next.{Next}
use Rattle.flow.specs.declared.Next.TheVariants.{Nowhere, To, Fork}
use Rattle.worklist.specs.Worklist.{unseen, seen, waiting, tally, Worklist, taken, Absent, Sound, Ends, Took}
use Rattle.worklist.proofs.Laws.{tally-yes, tally-no, pending-added, last_within, last-waits, pending-taken}
use Rattle.forward.specs.Visits.{Progress, with_set, added_with, last_of, last_taken}
use Rattle.forward.specs.Visits.{Merged, Propagated, Visited, Visits, Onward, Listed, Mergeable, MergeableAll}

-- a point that does not wait is put at the end of the worklist
pub listed-added : {n q : ℕ} {x : Progress} (m : ℕ) → Listed n x → q < n → (item x.list.state q ≡ waiting → ⊥) → Listed n (added_with q m x)
listed-added {q = q} m l h k = record { sets_long = simp length-set l.sets_long; pending = pending-added q l.pending h k }

-- ---- the cost

-- what a point with state s and set v has left: twice what the set can grow, two more where the point is unseen, one more where it waits
left : ℕ → ℕ → ℕ
left s v = 2 * ((2 ^ set_bits - v) + tally unseen s) + tally waiting s

left-adds : (s v u : ℕ) → ((s ≡ unseen → ⊥) → u ≡ v → ⊥) → v ≤ u → u < 2 ^ set_bits → left waiting u ≤ left s v
unfolding left
left-adds s v u d h b =
    let a = tally-no unseen waiting (λ e. omega arith) in
    let c = tally-yes waiting waiting refl in
    elim (ℕ_discrete s unseen) [
      | yes e ↦ omega (arith, tally-yes unseen s e)
      | no e ↦ let f = d e in omega arith
    ]

left-grows : (s v u : ℕ) → v ≤ u → left s u ≤ left s v
unfolding left
left-grows s v u h = omega arith

left-takes : (v : ℕ) → left seen v < left waiting v
unfolding left tally
left-takes v = omega arith

pub cost : ℕ → Progress → ℕ
cost n x = sum (λ p. left (item x.list.state p) (item x.sets p)) n

-- the cost of tables that differ at q alone, where the second have the state t and the set v there
cost-but : {n q t v : ℕ} (x y : Progress) → q < n → ((p : ℕ) → (p ≡ q → ⊥) → item y.list.state p ≡ item x.list.state p)
    → ((p : ℕ) → (p ≡ q → ⊥) → item y.sets p ≡ item x.sets p) → item y.list.state q ≡ t → item y.sets q ≡ v
    → cost n y + left (item x.list.state q) (item x.sets q) ≡ cost n x + left t v
unfolding cost
cost-but {n} {q} x y h s t e f =
    sum-but (λ p. left (item y.list.state p) (item y.sets p)) (λ p. left (item x.list.state p) (item x.sets p)) q n h (λ p d. rw (s p d, t p d))
    ∙ rw (e, f)

-- ---- the steps

-- what every step from x to y preserves: the facts of sets and worklist, and what lies past the n points. The cost does not rise
pub record Preserved (n : ℕ) (x y : Progress) : Type 0 where
  pub list : Listed n y
  pub sets-kept : Kept n x.sets y.sets
  pub state-kept : Kept n x.list.state y.list.state
  pub costs : cost n y ≤ cost n x

pub preserved-none : {n : ℕ} {x : Progress} → Listed n x → Preserved n x x
preserved-none {n} {x} l =
    record { list = l; sets-kept = kept_same n x.sets; state-kept = kept_same n x.list.state; costs = omega arith }

pub preserved-on : {n : ℕ} {x y z : Progress} → Preserved n x y → Preserved n y z → Preserved n x z
preserved-on a b = record {
  list = b.list;
  sets-kept = kept_on a.sets-kept b.sets-kept;
  state-kept = kept_on a.state-kept b.state-kept;
  costs = omega (arith, a.costs, b.costs);
}

-- what a merge of m into the set of q has done
pub record Effect (n q m : ℕ) (x y : Progress) : Type 0 where
  pub on : Preserved n x y
  pub state-else : (p : ℕ) → (p ≡ q → ⊥) → item y.list.state p ≡ item x.list.state p
  pub sets-else : (p : ℕ) → (p ≡ q → ⊥) → item y.sets p ≡ item x.sets p
  pub set_here : item y.sets q ≡ union (item x.sets q) m
  pub found : item y.list.state q ≡ unseen → ⊥
  pub still : (item y.list.state q ≡ waiting → ⊥) → (item y.list.state q ≡ item x.list.state q) × (item y.sets q ≡ item x.sets q)

pub effect : {n q m : ℕ} {x y : Progress} → Listed n x → q < n → Merged q m x y → Effect n q m x y
effect l h (Merged.rests s e) = record {
  on = preserved-none l;
  state-else = λ p d. refl;
  sets-else = λ p d. refl;
  set_here = sym e;
  found = s;
  still = λ d. (refl, refl);
}
effect {n} {q} {m} {x} l h (Merged.grows s) =
    let u = union (item x.sets q) m in
    let g = here x.sets q u (omega (arith, l.sets_long)) in
    record {
      on = record {
        list = record { sets_long = simp length-set l.sets_long; pending = l.pending };
        sets-kept = kept_set x.sets q u h;
        state-kept = kept_same n x.list.state;
        costs =
            let b = left-grows (item x.list.state q) (item x.sets q) u (union-ge (item x.sets q) m) in
            omega (arith, cost-but x (with_set q u x) h (λ p d. refl) (λ p d. elsewhere x.sets q p u d) refl g);
      };
      state-else = λ p d. refl;
      sets-else = λ p d. elsewhere x.sets q p u d;
      set_here = g;
      found = λ e. omega arith;
      still = λ d. absurd (d s);
    }
effect {n} {q} {m} {x} l h (Merged.adds k d b) =
    let u = union (item x.sets q) m in
    let two = here x.list.state q waiting (omega (arith, l.pending.state_long)) in
    let g = here x.sets q u (omega (arith, l.sets_long)) in
    record {
      on = record {
        list = listed-added u l h k;
        sets-kept = kept_set x.sets q u h;
        state-kept = kept_set x.list.state q waiting h;
        costs =
            let a = left-adds (item x.list.state q) (item x.sets q) u d (union-ge (item x.sets q) m) b in
            omega (arith, cost-but x (added_with q u x) h (λ p i. elsewhere x.list.state q p waiting i) (λ p i. elsewhere x.sets q p u i) two g);
      };
      state-else = λ p i. elsewhere x.list.state q p waiting i;
      sets-else = λ p i. elsewhere x.sets q p u i;
      set_here = g;
      found = λ e. omega arith;
      still = λ i. absurd (i two);
    }

-- merges into the points to which a point leads preserve all that
pub preserved-propagated : {n m : ℕ} {ls : List ℕ} {x y : Progress} → Listed n x → ((q : ℕ) → Memᴰ q ls → q < n) → Propagated m ls x y → Preserved n x y
preserved-propagated l h Propagated.none = preserved-none l
preserved-propagated l h (Propagated.one {q = q} a) = (effect l (h q (Memᴰ.head refl)) a).on
preserved-propagated l h (Propagated.two {q = q} {r = r} a b) =
    let f = (effect l (h r (Memᴰ.tail (Memᴰ.head refl))) a).on in
    preserved-on f (effect f.list (h q (Memᴰ.head refl)) b).on

-- and so does taking the last point of the worklist, which lowers the cost
module _ {n : ℕ} {x : Progress} (l : Listed n x) (h : 0 < x.list.count) where
  within : last_of x < n
  within = last_within l.pending h

  last-seen : item (last_taken x).list.state (last_of x) ≡ seen
  last-seen = here x.list.state (last_of x) seen (omega (arith, within, l.pending.state_long))

  cost-taken : cost n (last_taken x) < cost n x
  cost-taken =
      let c = cost-but x (last_taken x) within (λ p d. elsewhere x.list.state (last_of x) p seen d) (λ p d. refl) last-seen refl in
      omega (arith, ap (λ (s : ℕ). left s (item x.sets (last_of x))) (last-waits l.pending h), left-takes (item x.sets (last_of x)))

  pub preserved-taken : Preserved n x (last_taken x)
  preserved-taken = record {
    list = record { sets_long = l.sets_long; pending = pending-taken l.pending h };
    sets-kept = kept_same n x.sets;
    state-kept = kept_set x.list.state (last_of x) seen within;
    costs = omega (arith, cost-taken);
  }

-- so do a visit, which lowers the cost too, and any number of visits
module _ {next : ℕ → List ℕ} {n : ℕ} (inside : LeadsWithin next n) {gens kills : List ℕ} where
  pub preserved-visited : {x y : Progress} → Listed n x → 0 < x.list.count → Visited next gens kills x y → Preserved n x y × (cost n y < cost n x)
  preserved-visited {x} l h v =
      let a = preserved-taken l h in
      let b = preserved-propagated a.list (λ q k. inside (last_of x) q (last_within l.pending h) k) v.merges in
      (preserved-on a b, omega (arith, cost-taken l h, b.costs))

  pub preserved-visits : {x y : Progress} → Listed n x → Visits next gens kills x y → Preserved n x y
  preserved-visits l Visits.none = preserved-none l
  preserved-visits l (Visits.more w h v) = let a = preserved-visits l w in preserved-on a (preserved-visited a.list h v).0

-- ---- what the functions ask of one another

-- progress with the same sets and equal worklists is equal
pub progress-same : {s : List ℕ} {x y : Worklist} → x ≡ y → ◌≡◌ {A = Progress} (record { sets = s; list = x }) (record { sets = s; list = y })
progress-same {s} d = λ i. record { sets = s; list = d i }

-- a point that does not wait can go into the worklist
pub ready-added : {q : ℕ} {x : Progress} → Mergeable q x → (item x.list.state q ≡ waiting → ⊥) → Absent q x.list
ready-added r k = record { n = r.n; below = r.below; pending = r.list.pending; absent = k }

-- the ways in which the set m is merged into that of q, where u is the union
module _ {q m u : ℕ} {x : Progress} (e : u ≡ union (item x.sets q) m) where
  pub merged-rests : (item x.list.state q ≡ unseen → ⊥) → u ≡ item x.sets q → Merged q m x x
  merged-rests s d = Merged.rests s (sym e ∙ d)

  pub merged-grows : item x.list.state q ≡ waiting → Merged q m x (with_set q u x)
  merged-grows s = rw e (Merged.grows s)

  pub merged-adds : {y : Progress} → u < 2 ^ set_bits → y ≡ added_with q u x → (item x.list.state q ≡ waiting → ⊥)
      → ((item x.list.state q ≡ unseen → ⊥) → u ≡ item x.sets q → ⊥) → Merged q m x y
  merged-adds b d s t = rw (d, e) (Merged.adds s (rw e at t) (rw e at b))

-- the points that are next are ready for a merge, the first of two after the merge into the second
module _ {next : Next} {x : Progress} (r : MergeableAll (targets next) x) where
  pub ready-one : {q : ℕ} → next ≡ To q → Mergeable q x
  ready-one e = record { n = r.n; below = next_one r.inside e; list = r.list }

  pub ready-first : {q p : ℕ} → next ≡ Fork q p → Mergeable p x
  ready-first e = record { n = r.n; below = (next_both r.inside e).1; list = r.list }

  pub ready-second : {q p m : ℕ} {y : Progress} → next ≡ Fork q p → Merged p m x y → Mergeable q y
  ready-second e a =
      let b = next_both r.inside e in
      record { n = r.n; below = b.0; list = (effect r.list b.1 a).on.list }

-- the arms of propagate
module _ {next : Next} {m : ℕ} {x : Progress} where
  pub propagated-none : next ≡ Nowhere → Propagated m (targets next) x x
  propagated-none e = rw e Propagated.none

  pub propagated-one : {q : ℕ} {y : Progress} → next ≡ To q → Merged q m x y → Propagated m (targets next) x y
  propagated-one e a = rw e (Propagated.one a)

  pub propagated-two : {q p : ℕ} {y z : Progress} → next ≡ Fork q p → Merged p m x y → Merged q m y z → Propagated m (targets next) x z
  propagated-two e a b = rw e (Propagated.two a b)

-- what take requires
pub listed-sound : {n : ℕ} {x : Progress} → Listed n x → Sound x.list
listed-sound {n} l = record { n = n; pending = l.pending }

-- 1 where a point was taken and is still to visit
unfoldable pub in-hand : Option ℕ → ℕ
in-hand None = 0
in-hand (Some p) = 1

cost-took : {n : ℕ} {s : List ℕ} (y z : Worklist) (p : Option ℕ) → Listed n (record { sets = s; list = y }) → Took y z p
    → cost n (record { sets = s; list = z }) + in-hand p ≤ cost n (record { sets = s; list = y })
unfolding in-hand
cost-took y z None l (e, k) = rw k (omega arith)
cost-took y z (Some p) l (e, k, d) = rw k (omega (arith, cost-taken l e.some))

-- a step that is also another
pub onward-by : {S T : Progress → Type 0} {x : Progress} {p : Option ℕ} → ((y : Progress) → S y → T y) → Onward S x p → Onward T x p
onward-by f a = record { list = a.list; step = f _ a.step; took = a.took }

-- the visit of p, the last point of the worklist; y is the worklist once it is taken
module _ {x : Progress} {p : ℕ} {y : Worklist} (e : Ends p x.list) (k : y ≡ taken x.list) where
  pub ready-visit : {w : List ℕ} {s : Span} {gens kills l : List ℕ} → Given w s gens kills → Listed s.size x
      → l ≡ leads (func_in w s) p → MergeableAll l (record { sets = x.sets; list = y })
  ready-visit {s = s} g l d = record {
    n = s.size;
    inside = λ q m. g.fits.inside p q (rw e.ends (last_within l.pending e.some)) (rw d at m);
    list = rw k (preserved-taken l e.some).list;
  }

  pub visit-costs : {w : List ℕ} {s : Span} {gens kills l : List ℕ} {m : ℕ} {z : Progress} {o : Option ℕ} → Given w s gens kills → Listed s.size x
      → l ≡ leads (func_in w s) p → Onward (Propagated m l (record { sets = x.sets; list = y })) z o
      → cost s.size z + in-hand o ≤ cost s.size (record { sets = x.sets; list = y })
  visit-costs {s = s} {z = z} {o = o} g l d a =
      let b = preserved-propagated (rw k (preserved-taken l e.some).list)
      (λ q m. g.fits.inside p q (rw e.ends (last_within l.pending e.some)) (rw d at m)) a.step in
      omega (arith, b.costs, cost-took a.list z.list o b.list a.took)

  pub visited : {next : ℕ → List ℕ} {gens kills l : List ℕ} {m : ℕ} {z : Progress}
      → m ≡ transfer (item x.sets p) (item kills p) (item gens p) → l ≡ next p
      → Propagated m l (record { sets = x.sets; list = y }) z → Visited next gens kills x z
  visited f d a = record { merges = rw (k, f, d, e.ends) at a }
