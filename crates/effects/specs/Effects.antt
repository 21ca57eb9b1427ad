-- The gen/kill problems as data: what each point gives and takes, and the effect of a point that both are read off.
use Rattle.std.specs.Prelude.{ℕ, suc, Bool, not, ◌&&◌, ◌||◌, ◌≡◌, eqb, ltb}
use Rattle.model.specs.declared.Point.{Point}
use Rattle.model.specs.Walk.{loaded, stored, called, ensured, is_return, is, present}
use Rattle.bits.specs.Bits.{Marks}
use Rattle.effects.specs.declared.Problem.{Problem}
use Rattle.effects.specs.declared.Problem.TheVariants.{Live, Touched, CallLevels, FirstEnsure, Occupied}
use Rattle.effects.specs.declared.Effect.{Effect}

-- bit j is given, and bit j is taken, at point x of a function with frame k, where the column of the problem has the number a for the point
abbrev pub gives : Problem → ℕ → ℕ → Point → ℕ → Bool
gives Live k a x j = is j (loaded x)
gives Touched k a x j = is j (loaded x) || is j (stored x)
gives CallLevels k a x j = is_return x
gives FirstEnsure k a x j = present (ensured x) && eqb (suc j) a
gives Occupied k a x j = present (ensured x) && ltb j k

abbrev pub takes : Problem → ℕ → ℕ → Point → ℕ → Bool
takes Live k a x j = is j (stored x)
takes Touched k a x j = present (ensured x)
takes CallLevels k a x j = present (called x) && ltb j a
takes FirstEnsure k a x j = present (ensured x)
takes Occupied k a x j = present (called x) && not (ltb j a)

-- e is the effect of point x
pub record HasEffect (x : Point) (e : Effect) : Type 0 where
  pub loads : Marks (λ j. is j (loaded x)) e.loaded
  pub stores : Marks (λ j. is j (stored x)) e.stored
  pub calls : e.called ≡ present (called x)
  pub ensures : e.ensured ≡ present (ensured x)
  pub returns : e.returned ≡ is_return x
