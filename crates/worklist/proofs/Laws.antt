-- Laws of the worklist: it holds each point that waits, once. No code is mentioned.
use Prim.Native.Nat.{ℕ, zero, suc, ◌+◌, ◌-◌, ◌≤◌, ◌<◌}
use native.Mathlib.Omega.{arith}
use native.Mathlib.Decide.{dec_lt, ℕ_discrete}
use mathlib.Core.Path.{◌≡◌, refl, ap, sym, ◌∙◌}
use mathlib.Core.List.{List}
use borrow.Author.Tests.{eq-eqb, ne_eqb}
use denote.Enum.Bare.{sameb}
use denote.Enum.Declared.{tag_of}
use lib.Dec.{eqb}
use lib.ListN.{length, get_or, set, length-set, get_or-map}
use Rattle.std.proofs.lemmas.List.{map-set, length-map}
use Rattle.model.specs.Limits.{most_points}
use Rattle.tables.specs.Tables.{item, sum}
use Rattle.tables.proofs.Laws.{sum-but, here, elsewhere, set-each}
use Rattle.worklist.specs.contracts.Visit.{the_type}
use Rattle.worklist.specs.declared.Visit.{Visit}
use Rattle.worklist.specs.declared.Visit.TheVariants.{Unseen, Seen, Waiting}
use Rattle.worklist.specs.Worklist.{unseen, seen, waiting, code, codes, Worklist, worklist_of, added, last, taken, Distinct, tally, Pending, Sound, Absent, Ends}

-- ---- sums

-- n terms that are at most 1 sum to at most n, and to less where one of them is 0
sum-le : (f : ℕ → ℕ) (n : ℕ) → ((p : ℕ) → f p ≤ 1) → sum f n ≤ n
unfolding sum
sum-le f zero h = omega arith
sum-le f (suc n) h = omega (arith, sum-le f n h, h n)

sum-short : (f : ℕ → ℕ) (q n : ℕ) → ((p : ℕ) → f p ≤ 1) → q < n → f q ≡ 0 → sum f n < n
unfolding sum
sum-short f q zero h k z = absurd (omega arith)
sum-short f q (suc n) h k z =
    elim (ℕ_discrete q n) [
      | yes d ↦ omega (arith, ap f d, sum-le f n h)
      | no d ↦ omega (arith, sum-short f q n h (omega arith) z, h n)
    ]

-- terms that are all 0 sum to 0
sum-zero : (f : ℕ → ℕ) (n : ℕ) → ((p : ℕ) → p < n → f p ≡ 0) → sum f n ≡ 0
unfolding sum
sum-zero f zero h = refl
sum-zero f (suc n) h = omega (arith, sum-zero f n (λ p k. h p (omega arith)), h n (omega arith))

-- a term is at most the sum
sum-at : (f : ℕ → ℕ) (p n : ℕ) → p < n → f p ≤ sum f n
unfolding sum
sum-at f p zero h = absurd (omega arith)
sum-at f p (suc n) h =
    elim (ℕ_discrete p n) [
      | yes d ↦ omega (arith, ap f d)
      | no d ↦ omega (arith, sum-at f p n (omega arith))
    ]

-- a state counts where it is t, and nowhere else
pub tally-yes : (t s : ℕ) → s ≡ t → tally t s ≡ 1
unfolding tally
tally-yes t s e = rw (eq-eqb s t e)

pub tally-no : (t s : ℕ) → (s ≡ t → ⊥) → tally t s ≡ 0
unfolding tally
tally-no t s h = rw (ne_eqb s t h)

tally-le : (t s : ℕ) → tally t s ≤ 1
tally-le t s = elim (ℕ_discrete s t) [ yes e ↦ omega (arith, tally-yes t s e) | no e ↦ omega (arith, tally-no t s e) ]

-- ---- the worklist

-- 1 for a point that waits
abbrev waits-at : List ℕ → ℕ → ℕ
waits-at state p = tally waiting (item state p)

-- where every point is unseen it is empty
pub pending-none : (n : ℕ) (t l : List ℕ) → n ≤ most_points → length l ≡ most_points → n ≤ length t → ((p : ℕ) → p < n → item t p ≡ unseen)
    → Pending n (record { state = t; points = l; count = 0 })
pending-none n t l few room long clear = record {
  small = omega arith;
  room = room;
  state_long = long;
  states = λ p h. omega (arith, clear p h);
  counted = sym (sum-zero (waits-at t) n (λ p h. tally-no waiting (item t p) (λ d. omega (arith, clear p h))));
  within = λ a h. absurd (omega arith);
  waits = λ a h. absurd (omega arith);
  distinct = record { few = omega arith; apart = λ a b c h. absurd (omega arith) };
}

module _ {n : ℕ} {x : Worklist} (l : Pending n x) where
  -- where some point does not wait, it has fewer entries than there are points
  pending-room : (q : ℕ) → q < n → (item x.state q ≡ waiting → ⊥) → x.count < n
  pending-room q h k =
      let z = tally-no waiting (item x.state q) k in
      omega (arith, l.counted, sum-short (waits-at x.state) q n (λ p. tally-le waiting (item x.state p)) h z)

  -- where it is empty, no point waits
  pub pending-empty : x.count ≡ 0 → (a : ℕ) → a < n → item x.state a ≡ waiting → ⊥
  pending-empty z a h e = omega (arith, l.counted, sum-at (waits-at x.state) a n h, tally-yes waiting (item x.state a) e)

  -- how many wait once q has the state t in place of s
  tally-set : (q s t : ℕ) → q < n → item x.state q ≡ s → sum (waits-at (set x.state q t)) n + tally waiting s ≡ x.count + tally waiting t
  tally-set q s t h e =
      let b = sum-but (waits-at (set x.state q t)) (waits-at x.state) q n h (λ p d. ap (tally waiting) (elsewhere x.state q p t d)) in
      omega (arith, l.counted, ap (tally waiting) e, ap (tally waiting) (here x.state q t (omega (arith, l.state_long))))

-- a point that does not wait is put at its end
module _ {n : ℕ} {x : Worklist} (q : ℕ) (l : Pending n x) (h : q < n) (k : item x.state q ≡ waiting → ⊥) where
  new : item (set x.points x.count q) x.count ≡ q
  new = here x.points x.count q (omega (arith, pending-room l q h k, l.room, l.small))

  old : (i : ℕ) → i < x.count → item (set x.points x.count q) i ≡ item x.points i
  old i d = elsewhere x.points x.count i q (omega arith)

  other : (i : ℕ) → i < x.count → item x.points i ≡ q → ⊥
  other i d e = k (ap (item x.state) (sym e) ∙ l.waits i d)

  -- what is so of q and of the entries before is so of all
  each : (P : ℕ → Type 0) → P q → ((i : ℕ) → i < x.count → P (item x.points i)) → (i : ℕ) → i < x.count + 1
      → P (item (set x.points x.count q) i)
  each P a b i d =
      elim (dec_lt i x.count) [
        | yes j ↦ rw (old i j) (b i j)
        | no j ↦ let e : i ≡ x.count = omega arith in rw (e, new) a
      ]

  distinct-added : Distinct (added q x)
  distinct-added = record {
    few = omega (arith, pending-room l q h k, l.small);
    apart = λ i j a b e.
        let c = old i (omega arith) in
        elim (dec_lt j x.count) [
          | yes d ↦ l.distinct.apart i j a d (sym c ∙ (e ∙ old j d))
          | no d ↦ let f : j ≡ x.count = omega arith in other i (omega arith) (sym c ∙ (e ∙ (ap (item (set x.points x.count q)) f ∙ new)))
        ];
  }

  pub pending-added : Pending n (added q x)
  pending-added = record {
    small = l.small;
    room = simp length-set l.room;
    state_long = simp length-set l.state_long;
    states = set-each (λ p s. p < n → s ≤ waiting) x.state (omega (arith, l.state_long)) (λ d. omega arith) (λ p d. l.states p);
    counted = omega (arith, tally-set l q (item x.state q) waiting h refl, tally-no waiting (item x.state q) k, tally-yes waiting waiting refl);
    within = each (λ p. p < n) h l.within;
    waits = each (λ p. item (set x.state q waiting) p ≡ waiting) (here x.state q waiting (omega (arith, l.state_long)))
        (λ i d. elsewhere x.state q (item x.points i) waiting (other i d) ∙ l.waits i d);
    distinct = distinct-added;
  }

-- its last point is taken
module _ {n : ℕ} {x : Worklist} (l : Pending n x) (h : 0 < x.count) where
  pub last_within : last x < n
  last_within = l.within (x.count - 1) (omega arith)

  pub last-waits : item x.state (last x) ≡ waiting
  last-waits = l.waits (x.count - 1) (omega arith)

  pub pending-taken : Pending n (taken x)
  pending-taken = record {
    small = l.small;
    room = l.room;
    state_long = simp length-set l.state_long;
    states = set-each (λ p s. p < n → s ≤ waiting) x.state (omega (arith, last_within, l.state_long)) (λ d. omega arith) (λ p d. l.states p);
    counted =
        let z = tally-no waiting seen (λ e. omega arith) in
        omega (arith, tally-set l (last x) waiting seen last_within last-waits, tally-yes waiting waiting refl);
    within = λ i d. l.within i (omega arith);
    waits = λ i d.
        elsewhere x.state (last x) (item x.points i) seen (l.distinct.apart i (x.count - 1) d (omega arith)) ∙ l.waits i (omega arith);
    distinct = record { few = omega (arith, l.distinct.few); apart = λ i j a b. l.distinct.apart i j a (omega arith) };
  }

-- ---- what put asks

-- there is room for a point that is not in it
pub absent-room : {q : ℕ} {x : Worklist} → Absent q x
    → (q < length x.state) × (q < most_points) × (x.count < length x.points) × (x.count < most_points)
absent-room {q} a =
    omega (arith, pending-room a.pending q a.below a.absent, a.below, a.pending.small, a.pending.state_long, a.pending.room)

pub absent-added : {q : ℕ} {x : Worklist} → Absent q x → Distinct (added q x)
absent-added {q} a = distinct-added q a.pending a.below a.absent

-- and then it is the last
pub added-ends : {q : ℕ} {x : Worklist} → Absent q x → Ends q (added q x)
added-ends {q} {x} a =
    let e : x.count + 1 - 1 ≡ x.count = omega arith in
    record {
      n = a.n;
      pending = pending-added q a.pending a.below a.absent;
      some = omega arith;
      ends = sym (ap (item (set x.points x.count q)) e ∙ new q a.pending a.below a.absent);
    }

-- ---- what take leaves

-- the last point
pub sound-ends : {x : Worklist} (r : Sound x) → 0 < x.count → Ends (last x) x
sound-ends r h = record { n = r.n; pending = r.pending; some = h; ends = refl }

-- ---- tables of states

pub code_at : (t : List Visit) (q : ℕ) → item (codes t) q ≡ code (get_or t q Unseen)
code_at t q = get_or-map code t q Unseen

pub in_state : (t : List Visit) (q : ℕ) {v : Visit} → get_or t q Unseen ≡ v → item (codes t) q ≡ code v
in_state t q e = code_at t q ∙ ap code e

state_set : (t : List Visit) (q : ℕ) (v : Visit) → codes (set t q v) ≡ set (codes t) q (code v)
state_set t q v = map-set code t q v

-- a point is put, and the last one is taken
pub put_added : (t : List Visit) (l : List ℕ) (c q : ℕ) → worklist_of (set t q Waiting) (set l c q) (c + 1) ≡ added q (worklist_of t l c)
put_added t l c q = rw (state_set t q Waiting)

pub took-last : (t : List Visit) (l : List ℕ) (c p : ℕ) → Ends p (worklist_of t l c)
    → (worklist_of (set t p Seen) l (c - 1) ≡ taken (worklist_of t l c)) × Distinct (worklist_of (set t p Seen) l (c - 1))
took-last t l c p r = rw (state_set t p Seen, r.ends) (refl, (pending-taken r.pending r.some).distinct)

pub length-codes : (t : List Visit) → length (codes t) ≡ length t
length-codes t = length-map t code

-- a state is compared with Unseen
pub is-unseen : (v : Visit) → sameb the_type v Unseen ≡ eqb (code v) unseen
is-unseen Unseen = refl
is-unseen Seen = refl
is-unseen Waiting = refl

-- the number that a state is written as
pub written_as : (v : Visit) → tag_of the_type v ≡ code v
written_as Unseen = refl
written_as Seen = refl
written_as Waiting = refl
