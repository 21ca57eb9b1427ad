-- Where the points of a function lead, and what cleared entries keep.
use Prim.Native.Nat.{ℕ, ◌+◌, ◌≤◌, ◌<◌}
use native.Mathlib.Numerals.{add-one}
use mathlib.Core.Path.{◌≡◌, refl, ap, sym, ◌∙◌}
use mathlib.Core.Bool.{true, true≢false}
use mathlib.Core.List.{List, [], ◌∷◌, Memᴰ}
use lib.ListN.{length, drop, replicate, length-replicate}
use lib.Seq.{drop_at}
use Rattle.bits.specs.Bits.{cleared}
use Rattle.bits.proofs.Laws.{length-cleared}
use Rattle.model.specs.declared.Point.{Point}
use Rattle.model.specs.declared.Point.TheVariants.{Load, Store, Call, Ensure, Goto, Either, Return}
use Rattle.model.specs.Walk.{leads_from, leads}
use Rattle.tables.specs.declared.Span.{Span}
use Rattle.tables.specs.Tables.{is_access, point_at, func_in}
use Rattle.tables.specs.Valid.{Kept}
use Rattle.tables.proofs.Laws.{leads-there}
use Rattle.flow.specs.declared.Next.{Next}
use Rattle.flow.specs.declared.Next.TheVariants.{To, Fork}
use Rattle.flow.specs.Flow.{targets}

-- a load or a store leads to the next point
access-next : (p : ℕ) (x : Point) → true ≡ is_access x → (p + 1) ∷ [] ≡ leads_from p x
access-next p (Load o) e = ap (λ (q : ℕ). q ∷ []) (add-one p)
access-next p (Store o) e = ap (λ (q : ℕ). q ∷ []) (add-one p)
access-next p (Call f) e = absurd (true≢false e)
access-next p (Ensure k) e = absurd (true≢false e)
access-next p (Goto q) e = absurd (true≢false e)
access-next p (Either q r) e = absurd (true≢false e)
access-next p Return e = absurd (true≢false e)

-- where point p leads: by the comparison, and by the choice
module _ (w : List ℕ) (s : Span) (p : ℕ) (h : p < s.size) where
  pub access-leads : true ≡ is_access (point_at w (s.base + p)) → (p + 1) ∷ [] ≡ leads (func_in w s) p
  access-leads e = access-next p (point_at w (s.base + p)) e ∙ sym (leads-there w s p h)

  pub point-leads : {l : List ℕ} {x : Point} → l ≡ leads_from p x → x ≡ point_at w (s.base + p) → l ≡ leads (func_in w s) p
  point-leads e d = e ∙ (ap (leads_from p) d ∙ sym (leads-there w s p h))

-- where every point that is next is below n, so is the only one, and so are both
module _ {next : Next} {n : ℕ} (all : (p : ℕ) → Memᴰ p (targets next) → p < n) where
  pub next_one : {q : ℕ} → next ≡ To q → q < n
  next_one {q} e = all q (rw e (Memᴰ.head refl))

  pub next_both : {q r : ℕ} → next ≡ Fork q r → (q < n) × (r < n)
  next_both {q} {r} e = (all q (rw e (Memᴰ.head refl)), all r (rw e (Memᴰ.tail (Memᴰ.head refl))))

-- n cleared entries keep what comes from entry n on
pub kept-cleared : {n : ℕ} {l l' : List ℕ} → l' ≡ cleared n l → n ≤ length l → Kept n l l'
unfolding cleared
kept-cleared {n} {l} e h =
    rw e (record { size = length-cleared n l h; past = drop_at (replicate n 0) (drop n l) n (length-replicate {A = ℕ} n 0) })
