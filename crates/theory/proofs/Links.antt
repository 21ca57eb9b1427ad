-- Where the points of a linked task lead: inside their function, from a call to its ensure, and to an ensure from nowhere else;
-- and calls go to later functions.
use Prim.Native.Nat.{ℕ, suc, ◌-◌, ◌≤◌, ◌<◌}
use mathlib.Core.Bool.{not, ◌&&◌, ◌||◌}
use mathlib.Core.List.Memᴰ
use mathlib.Core.List.{Memᴰ}
use mathlib.Core.Logic.{◌↔◌, ◌⊎◌, inl, inr, ⊎_elim}
use mathlib.Core.Option.{Option, none, some}
use mathlib.Core.Path.{◌≡◌, refl, ap, ◌∙◌}
use native.Mathlib.Decide.{dec_lt}
use native.Mathlib.Omega.{arith}
use lib.Dec.{T, leb, ltb, eqb, T_not, leb→le, ltb→lt, eqb→eq, eqb_refl}
use lib.ListN.{get_or-eq_default}
use Rattle.model.specs.declared.Point.{Point}
use Rattle.model.specs.declared.Point.TheVariants.{Load, Store, Call, Ensure, Goto, Either, Return}
use Rattle.model.specs.Task.{Func, Task, size, count, func, point}
use Rattle.model.specs.Walk.{leads_from, leads, called, ensured, present, is, calls, is_call, is_ensure}
use Rattle.model.specs.Refusal.{ensure_fits, paired, target_fits, targets_fit, may_end, end_fits}
use Rattle.theory.proofs.Lists.{or-holds, and-holds}
use Rattle.model.specs.WellFormed.{Linked}

-- the test of a number against what a point gives
pub is-holds : (m : ℕ) (o : Option ℕ) → T (is m o) ↔ (o ≡ some m)
is-holds m none = (absurd, λ e. let z : ◌≡◌ {A = ℕ} 0 1 = cc in absurd (omega arith))
is-holds m (some n) = (λ h. ap some (omega (arith, eqb→eq m n h)), λ e. let k : n ≡ m = cc in rw k (eqb_refl m))

-- the test that a point gives a number
pub present-holds : (o : Option ℕ) → T (present o) ↔ ((n : ℕ) × (o ≡ some n))
present-holds none = (absurd, λ e. let k = e.1 in let z : ◌≡◌ {A = ℕ} 0 1 = cc in absurd (omega arith))
present-holds (some n) = (λ h. (n, refl), λ e. tt)

-- a point that calls g is that call
pub called_is : (x : Point) {g : ℕ} → called x ≡ some g → x ≡ Call g
called_is (Load o) e = cc
called_is (Store o) e = cc
called_is (Call f) e = cc
called_is (Ensure k) e = cc
called_is (Goto p) e = cc
called_is (Either p q) e = cc
called_is Return e = cc

-- a point that ensures k is that ensure
pub ensured-is : (x : Point) {k : ℕ} → ensured x ≡ some k → x ≡ Ensure k
ensured-is (Load o) e = cc
ensured-is (Store o) e = cc
ensured-is (Call f) e = cc
ensured-is (Ensure k) e = cc
ensured-is (Goto p) e = cc
ensured-is (Either p q) e = cc
ensured-is Return e = cc

-- the test that a point calls g
pub calls_is : (x : Func) (g p : ℕ) → T (calls x g p) ↔ (point x p ≡ Call g)
calls_is x g p = let i = is-holds g (called (point x p)) in (λ h. called_is (point x p) (i.0 h), λ e. i.1 (ap called e))

-- a point past the end is a return
pub point-past : (x : Func) (p : ℕ) → size x ≤ p → point x p ≡ Return
point-past x p h = get_or-eq_default x.points Return h

-- a point that is no return is inside its function
point-inside : (x : Func) (p : ℕ) → (point x p ≡ Return → ⊥) → p < size x
point-inside x p n = elim (dec_lt p (size x)) [ yes h ↦ h | no h ↦ absurd (n (point-past x p (omega arith))) ]

-- a call is inside its function
pub call-inside : (x : Func) (p : ℕ) → T (is_call x p) → p < size x
call-inside x p h = point-inside x p (λ e. rw e at h)

-- an ensure is inside its function
pub ensure-inside : (x : Func) (p : ℕ) → T (is_ensure x p) → p < size x
ensure-inside x p h = point-inside x p (λ e. rw e at h)

-- a point that leads somewhere is inside its function
pub lead-inside : (x : Func) (p : ℕ) {q : ℕ} → Memᴰ q (leads x p) → p < size x
unfolding leads
lead-inside x p m = point-inside x p (λ e. Memᴰ.not-nil (rw e at m))

-- a point that may not end its function has a next one
pub next-inside : (x : Func) (p : ℕ) → T (end_fits x p) → T (not (may_end (point x p))) → suc p < size x
next-inside x p h n =
    ⊎_elim (ltb→lt (suc p) (size x)) (λ k. absurd (T_not (may_end (point x p)) n k)) ((or-holds (ltb (suc p) (size x)) (may_end (point x p))).0 h)

-- what row 8 says of a point
paired-holds : (x : Func) (p : ℕ) → T (paired x p)
    → (T (is_call x p) → T (is_ensure x (suc p))) × T (ensure_fits x p (ensured (point x p)))
paired-holds x p h =
    let r = (and-holds (not (is_call x p) || is_ensure x (suc p)) (ensure_fits x p (ensured (point x p)))).0 h in
    let s = (or-holds (not (is_call x p)) (is_ensure x (suc p))).0 r.0 in
    (λ c. ⊎_elim (λ n. absurd (T_not (is_call x p) n c)) (λ e. e) s, r.1)

-- point p of x is an ensure that follows a call
pub record FollowsCall (x : Func) (p : ℕ) : Type 0 where
  pub later : 1 ≤ p
  pub callee : ℕ
  pub calls : called (point x (p - 1)) ≡ some callee
  pub repeats : point x p ≡ Ensure x.frame

ensure-fits : (x : Func) (p n : ℕ) → point x p ≡ Ensure n → T (ensure_fits x p (some n)) → FollowsCall x p
ensure-fits x p n e h =
    let r = (and-holds (leb 1 p && is_call x (p - 1)) (eqb n x.frame)).0 h in
    let s = (and-holds (leb 1 p) (is_call x (p - 1))).0 r.0 in
    let c = (present-holds (called (point x (p - 1)))).0 s.1 in
    record { later = leb→le 1 p s.0; callee = c.0; calls = c.1; repeats = e ∙ ap Ensure (eqb→eq n x.frame r.1) }

-- a lead goes to the next point, from a point that may not end its function, or to a target
lead-cases : (x : Func) (p : ℕ) (y : Point) {q : ℕ} → Memᴰ q (leads_from p y) → T (targets_fit x y)
    → ((q ≡ suc p) × T (not (may_end y))) ⊎ T (target_fits x q)
lead-cases x p (Load o) m h = inl (Memᴰ.eq_of_singleton m, tt)
lead-cases x p (Store o) m h = inl (Memᴰ.eq_of_singleton m, tt)
lead-cases x p (Call f) m h = inl (Memᴰ.eq_of_singleton m, tt)
lead-cases x p (Ensure k) m h = inl (Memᴰ.eq_of_singleton m, tt)
lead-cases x p (Goto q) m h = let e = Memᴰ.eq_of_singleton m in inr (rw e h)
lead-cases x p (Either q r) m h =
    let k = (and-holds (target_fits x q) (target_fits x r)).0 h in
    inr (⊎_elim (λ e. rw e k.0) (λ n. let e = Memᴰ.eq_of_singleton n in rw e k.1) (Memᴰ.cases_cons m))
lead-cases x p Return m h = absurd (Memᴰ.not-nil m)

module _ {t : Task} (w : Linked t) where
  lead-ends : (f p q : ℕ) → f < count t → p < size (func t f) → Memᴰ q (leads (func t f) p)
      → ((q ≡ suc p) × T (not (may_end (point (func t f) p)))) ⊎ T (target_fits (func t f) q)
  unfolding leads
  lead-ends f p q h k m = lead-cases (func t f) p (point (func t f) p) m (w.targets f p h k)

  -- points lead inside their function
  pub closed : (f p q : ℕ) → f < count t → p < size (func t f) → Memᴰ q (leads (func t f) p) → q < size (func t f)
  closed f p q h k m =
      ⊎_elim
      (λ r. omega (arith, r.0, next-inside (func t f) p (w.end f p h k) r.1))
      (λ l. ltb→lt q (size (func t f)) ((and-holds (ltb q (size (func t f))) (not (is_ensure (func t f) q))).0 l).0)
      (lead-ends f p q h k m)

  -- a call goes to a later function of the task
  pub callee-later : (f p g : ℕ) → f < count t → p < size (func t f) → called (point (func t f) p) ≡ some g → (f < g) × (g < count t)
  callee-later f p g h k e =
      let r = (and-holds (ltb f g) (ltb g (count t))).0 (rw e at (w.callee f p h k)) in
      (ltb→lt f g r.0, ltb→lt g (count t) r.1)

  -- the point before an ensure is a call, and the ensure repeats the frame
  pub call-before-ensure : (f p : ℕ) → f < count t → T (is_ensure (func t f) p) → FollowsCall (func t f) p
  call-before-ensure f p h e =
      let i = (present-holds (ensured (point (func t f) p))).0 e in
      let r = paired-holds (func t f) p (w.paired f p h (ensure-inside (func t f) p e)) in
      ensure-fits (func t f) p i.0 (ensured-is (point (func t f) p) i.1) (rw i.1 at r.1)

  -- the point after a call is an ensure that repeats the frame
  pub ensure-after-call : (f p : ℕ) → f < count t → T (is_call (func t f) p)
      → (suc p < size (func t f)) × (point (func t f) (suc p) ≡ Ensure (func t f).frame)
  ensure-after-call f p h c =
      let e = (paired-holds (func t f) p (w.paired f p h (call-inside (func t f) p c))).0 c in
      (ensure-inside (func t f) (suc p) e, (call-before-ensure f (suc p) h e).repeats)
