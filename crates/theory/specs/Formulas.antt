-- The formulas of docs/RULES.md, section 4, written out: the figures of a sheet in blocks from D, E, high, dead, need and q, those at a price from the
-- figures in blocks, and the occupancy along a walk.
use Rattle.std.specs.Prelude.{ℕ, suc, ◌+◌, ◌-◌, ◌<◌, min, max, ◌≡◌}
use Rattle.model.specs.declared.Point.{Point}
use Rattle.model.specs.declared.Point.TheVariants.{Load, Store, Call, Ensure, Goto, Either, Return}
use Rattle.model.specs.Task.{Task, size, count, func, point}
use Rattle.model.specs.Walk.{Carries, Largest, leads}
use Rattle.model.specs.Figures as model
use Rattle.model.specs.Sheet.{Sheet, once_of}

-- 4.5: what a walk that comes to this point with the value h goes on with, in a function with frame k
abbrev pub goes_on : Task → ℕ → Point → ℕ → ℕ
goes_on t k (Load o) h = h
goes_on t k (Store o) h = h
goes_on t k (Call g) h = min h (t.stack - model.shortest t g)
goes_on t k (Ensure n) h = max h k
goes_on t k (Goto p) h = h
goes_on t k (Either p q) h = h
goes_on t k Return h = h

-- some walk from point 0 of f comes to p with the value h
abbrev pub Occupied : Task → (f p h : ℕ) → Type 0
Occupied t f =
    Carries (leads (func t f)) (λ p. goes_on t (func t f).frame (point (func t f) p)) (min t.stack (model.entry t f + (func t f).frame))

-- 4.12: m is what some call of f gives, a call being point p of h: the chain of h, and the price of the part of its frame that fill leaves
abbrev pub ChainOver : Task → (chain : ℕ → ℕ) → (price : ℕ → ℕ) → (fill : ℕ → ℕ → ℕ) → (f m : ℕ) → Type 0
ChainOver t chain price fill f m =
    (h p : ℕ) × (h < count t) × (p < size (func t h)) × (point (func t h) p ≡ Call f) × (m ≡ chain h + price ((func t h).frame - fill h (suc p)))

-- s is the sheet of t in blocks
pub record InBlocks (t : Task) (s : Sheet) : Type 0 where
  pub prices : (n : ℕ) → s.price n ≡ n
  pub spill : (f : ℕ) → s.spill f ≡ model.entry t f + (func t f).frame - t.stack
  -- at the ensure after a call of g, and at a point that is no ensure
  pub fill : (f p g k : ℕ) → point (func t f) p ≡ Call g → point (func t f) (suc p) ≡ Ensure k
      → (s.at f (suc p)).fill ≡ (func t f).frame - (t.stack - model.longest t g)
  pub fill_none : (f p : ℕ) → ((k : ℕ) → point (func t f) p ≡ Ensure k → ⊥) → (s.at f p).fill ≡ 0
  pub chain_zero : s.chain 0 ≡ 0
  pub chain : (f : ℕ) → Largest (ChainOver t s.chain (λ n. n) (λ h p. (s.at h p).fill) f) (s.chain f)
  pub high : (f p : ℕ) → (s.at f p).high ≡ model.high t f p
  pub dead : (f p : ℕ) → (s.at f p).dead ≡ model.dead (func t f) p
  pub need : (f p : ℕ) → (s.at f p).need ≡ model.need (func t f) p
  pub save : (f p : ℕ) → (s.at f p).save ≡ (s.at f p).high - (s.at f p).dead
  pub reload : (f p : ℕ) → (s.at f p).reload ≡ (s.at f p).need - (s.at f p).dead
  pub later : (f p : ℕ) → (s.at f p).later ≡ model.kept_next t f p - (s.at f p).need
  pub chain_at : (f p : ℕ) → (s.at f p).chain ≡ s.chain f
  pub cost : (f p : ℕ) → (s.at f p).cost ≡ (s.at f p).save + (s.at f p).reload + (s.at f p).later + s.chain f
  pub once : (f p : ℕ) → once_of (s.at f p)
      ≡ (s.at f p).save + (s.at f p).reload + min ((s.at f p).later + s.chain f) ((s.at f p).high - max (s.at f p).dead (s.at f p).need)

-- s is the sheet of t at a price, b being the one in blocks
pub record AtPrice (price : ℕ → ℕ) (t : Task) (b s : Sheet) : Type 0 where
  pub prices : (n : ℕ) → s.price n ≡ price n
  pub spill : (f : ℕ) → s.spill f ≡ price (b.spill f)
  pub fill : (f p : ℕ) → (s.at f p).fill ≡ price (b.at f p).fill
  pub chain_zero : s.chain 0 ≡ 0
  pub chain : (f : ℕ) → Largest (ChainOver t s.chain price (λ h p. (b.at h p).fill) f) (s.chain f)
  pub high : (f p : ℕ) → (s.at f p).high ≡ (b.at f p).high
  pub dead : (f p : ℕ) → (s.at f p).dead ≡ (b.at f p).dead
  pub need : (f p : ℕ) → (s.at f p).need ≡ (b.at f p).need
  pub save : (f p : ℕ) → (s.at f p).save ≡ price (b.at f p).save
  pub reload : (f p : ℕ) → (s.at f p).reload ≡ price (b.at f p).reload
  pub later : (f p : ℕ) → (s.at f p).later ≡ price (b.at f p).later
  pub chain_at : (f p : ℕ) → (s.at f p).chain ≡ s.chain f
  pub cost : (f p : ℕ) → (s.at f p).cost ≡ (s.at f p).save + (s.at f p).reload + (s.at f p).later + s.chain f
