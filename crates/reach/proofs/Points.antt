-- Laws of a point: its kind, and what it does with a set.
use Prim.Native.Nat.{ℕ, suc, ◌+◌, ◌^◌, ◌<◌}
use native.Mathlib.Omega.{arith}
use mathlib.Core.Path.{◌≡◌, refl, ap, sym, ◌∙◌}
use mathlib.Core.Bool.{Bool, true, false, not, true≢false}
use mathlib.Core.List.{List, [], ◌∷◌}
use mathlib.Core.Option.{none}
use lib.Dec.{T_not, eqb→eq}
use Rattle.bits.specs.Bits.{set_bits, bit, Marks, difference}
use Rattle.bits.proofs.Laws.{bit_le, bit-difference, marked}
use Rattle.model.specs.declared.Point.{Point}
use Rattle.model.specs.declared.Point.TheVariants.{Load, Store, Call, Ensure, Goto, Either, Return}
use Rattle.model.specs.Task.{point}
use Rattle.model.specs.Walk.{leads_from, leads, loaded, stored, called, is}
use Rattle.tables.specs.declared.Span.{Span}
use Rattle.tables.specs.Tables.{is_access, point_at, func_in}
use Rattle.tables.proofs.Laws.{point-there, leads-there}
use Rattle.reach.specs.declared.sweep.Step.{Step}
use Rattle.reach.specs.declared.sweep.Step.TheVariants.{Fails, Falls, Leaves}
use Rattle.reach.specs.Reach.{has}
use Rattle.reach.specs.Sweep.{Passes, Accessed, Stepped}

-- a point that is not of one kind
pub not-load : (x : Point) → ((o : ℕ) → x ≡ Load o → ⊥) → loaded x ≡ none
not-load (Load o) h = absurd (h o refl)
not-load (Store o) h = refl
not-load (Call g) h = refl
not-load (Ensure k) h = refl
not-load (Goto p) h = refl
not-load (Either p q) h = refl
not-load Return h = refl

pub not-store : (x : Point) → ((o : ℕ) → x ≡ Store o → ⊥) → stored x ≡ none
not-store (Load o) h = refl
not-store (Store o) h = absurd (h o refl)
not-store (Call g) h = refl
not-store (Ensure k) h = refl
not-store (Goto p) h = refl
not-store (Either p q) h = refl
not-store Return h = refl

pub not_call : (x : Point) → ((g : ℕ) → x ≡ Call g → ⊥) → called x ≡ none
not_call (Load o) h = refl
not_call (Store o) h = refl
not_call (Call g) h = absurd (h g refl)
not_call (Ensure k) h = refl
not_call (Goto p) h = refl
not_call (Either p q) h = refl
not_call Return h = refl

-- a load or a store leads to the next point
pub access-next : (p : ℕ) (x : Point) → is_access x ≡ true → leads_from p x ≡ suc p ∷ []
access-next p (Load o) h = refl
access-next p (Store o) h = refl
access-next p (Call g) h = refl
access-next p (Ensure k) h = refl
access-next p (Goto q) h = absurd (true≢false (sym h))
access-next p (Either q r) h = absurd (true≢false (sym h))
access-next p Return h = absurd (true≢false (sym h))

-- any other point hands on what it gets
pub other-passes : (x : Point) (m : ℕ) → is_access x ≡ false → Passes x m m
other-passes (Load o) m h = absurd (true≢false h)
other-passes (Store o) m h = absurd (true≢false h)
other-passes (Call g) m h = record { clean = λ j t. absurd t; keeps = λ j i t b. b }
other-passes (Ensure k) m h = record { clean = λ j t. absurd t; keeps = λ j i t b. b }
other-passes (Goto q) m h = record { clean = λ j t. absurd t; keeps = λ j i t b. b }
other-passes (Either q r) m h = record { clean = λ j t. absurd t; keeps = λ j i t b. b }
other-passes Return m h = record { clean = λ j t. absurd t; keeps = λ j i t b. b }

-- whether the set m has what a point loads, by the answer v of a test of the point y that was read
pub test-had : (m : ℕ) (x : Point) {y : Point} {b v : Bool} → y ≡ x → b ≡ has m (loaded y) → b ≡ v → not (has m (loaded x)) ≡ not v
test-had m x e d t = ap not (sym (ap (λ (z : Point). has m (loaded z)) e) ∙ (sym d ∙ t))

-- what a load hands on, and what a point hands on that loads nothing
pub load-passes : {x : Point} {o b : ℕ} (m : ℕ) → x ≡ Load o → b ≡ bit m o → (b ≡ 1 → ⊥) → Passes x m m
load-passes {o = o} {b} m e d h =
    rw e (record { clean = λ j t. let i = eqb→eq j o t in omega (arith, ap (bit m) i, bit_le m o, d, h); keeps = λ j l t k. k })

pub unloaded-passes : {x : Point} {m k next : ℕ} → loaded x ≡ none → Marks (λ j. is j (stored x)) k → k < 2 ^ set_bits
    → next ≡ difference m k → Passes x m next
unloaded-passes {x} {m} {k} e s l i =
    record {
      clean = λ j t. absurd (rw e at t);
      keeps = λ j h t b.
          let out : bit k j ≡ 1 → ⊥ = λ y. T_not (is j (stored x)) t ((marked s j h).0 y) in
          omega (arith, ap (λ (v : ℕ). bit v j) i, bit-difference m k j l h, bit_le k j);
    }

-- the same of point p of a function in the tables, where b tells whether it is a load or a store
module _ (w : List ℕ) (s : Span) (p : ℕ) (h : p < s.size) {b : Bool} (d : b ≡ is_access (point_at w (s.base + p))) (m : ℕ) where
  pub access-stepped : b ≡ true → {y : Point} → y ≡ point_at w (s.base + p) → (mark : ℕ) (sets marks : List ℕ) (r : Step) → Accessed y m r
      → Stepped mark p (leads (func_in w s) p) (point (func_in w s) p) m sets marks sets marks r
  access-stepped t e mark sets marks Fails a = a
  access-stepped t e mark sets marks (Falls next) a =
      (rw (point-there w s.base s.size p h, ← e) a, leads-there w s p h ∙ access-next p (point_at w (s.base + p)) (sym d ∙ t), refl, refl)
  access-stepped t e mark sets marks Leaves a = absurd a

  pub other-there : b ≡ false → Passes (point (func_in w s) p) m m
  other-there f = rw (point-there w s.base s.size p h) (other-passes (point_at w (s.base + p)) m (sym d ∙ f))
