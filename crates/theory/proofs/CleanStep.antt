-- A core is clean after each step of a task.
use Prim.Native.Nat.{ℕ}
use mathlib.Core.List.{List, ◌∷◌}
use mathlib.Core.Path.{◌≡◌}
use native.Mathlib.Omega.{arith}
use lib.Dec.{eqb_refl}
use Rattle.model.specs.declared.Point.{Point}
use Rattle.model.specs.declared.Point.TheVariants.{Load, Store, Call, Ensure, Goto, Either, Return}
use Rattle.model.specs.Task.{Task, func, point}
use Rattle.model.specs.Core.{Core, Clean}
use Rattle.model.specs.Sheet.{Sheet}
use Rattle.model.specs.Plain.{Frame}
use Rattle.model.specs.Run.{step_turn}
use Rattle.model.specs.WellFormed.{WellFormed}
use Rattle.theory.specs.Sound.{Sound}
use Rattle.theory.proofs.Frames.{places, In, Below, Window}
use Rattle.theory.proofs.Window.{room-below, touched-cached, ensures-frame}
use Rattle.theory.proofs.Clean.{clean-reserve, clean_free, clean-ensure, clean-store}

module _ (t : Task) (s : Sheet) (w : WellFormed t) (r : Sound t s) where
  -- a step, by the point at which the running frame stands
  pub clean_step : (x : Frame) (fs : List Frame) (c : Core) (y : Point) (v : ℕ) → point (func t x.fn) x.at ≡ y → In t x → Below t x.fn fs
      → Window t s (x ∷ fs) c → Clean c → Clean (step_turn t x.fn x.at (places fs) c y v).state.core
  clean_step x fs c (Load o) v e i b u k = k
  clean_step x fs c (Store o) v e i b u k =
      clean-store c k o v (touched-cached t s w r x fs c o i (rw e (eqb_refl o)) u).1 (omega (arith, u.fits, u.blocks))
  clean_step x fs c (Call g) v e i b u k = clean-reserve c k (func t g).frame (room-below t s w r x fs c g i b e u)
  clean_step x fs c (Ensure n) v e i b u k =
      clean-ensure c k n (omega (arith, ensures-frame t w x n i e, u.blocks, w.shaped.frames x.fn i.fn_in)) (omega (arith, u.fits, u.blocks))
  clean_step x fs c (Goto q) v e i b u k = k
  clean_step x fs c (Either q p) v e i b u k = k
  clean_step x fs c Return v e i b u k = clean_free c k (func t x.fn).frame
