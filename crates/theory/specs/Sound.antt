-- The rules that a sheet has to obey, each about one point and the points to which it leads or one call. They are all that the theorem on runs
-- asks of a sheet: whatever figures obey them, by whatever rule they were found, every run keeps within them.
use Rattle.std.specs.Prelude.{ℕ, suc, ◌+◌, ◌-◌, ◌≤◌, ◌<◌, min, max, not, ◌≡◌, T}
use mathlib.Core.List.{Memᴰ}
use Rattle.std.proofs.Math.Option.{Option, none}
use Rattle.model.specs.declared.Point.TheVariants.{Call, Ensure, Return}
use Rattle.model.specs.declared.Refusal.{Refusal}
use Rattle.model.specs.Task.{Task, size, count, func, point}
use Rattle.model.specs.Walk.{leads, touches, is_call, is_ensure}
use Rattle.model.specs.Figures.{live, longest}
use Rattle.model.specs.Sheet.{Sheet, once_of}
use Rattle.model.specs.WellFormed.{WellFormed}

-- a price of moves: none for no block, no less for more blocks, and one move is no dearer than two
pub record Price (price : ℕ → ℕ) : Type 0 where
  pub none : price 0 ≡ 0
  pub more : (m n : ℕ) → m ≤ n → price m ≤ price n
  pub parts : (m n : ℕ) → price (m + n) ≤ price m + price n

-- what the figures rest on and the sheet does not print. next: q, the blocks that are certain to be kept until the next ensure, over all that may be the
-- next one. past: how far the calls on the way from point 0 have pushed the frame's callers at least. shortest: d
pub record Ground : Type 0 where
  pub next : ℕ → ℕ → ℕ
  pub past : ℕ → ℕ → ℕ
  pub shortest : ℕ → ℕ

-- dead and need at point p of f: no offset below dead is live; need is above what is touched before an ensure
pub record Marked (t : Task) (dead need : ℕ → ℕ → ℕ) (f p : ℕ) : Type 0 where
  pub dead_frame : dead f p ≤ (func t f).frame
  pub dead_live : (o : ℕ) → o < (func t f).frame → T (live (func t f) o p) → dead f p ≤ o
  pub need_frame : need f p ≤ (func t f).frame
  pub need_touch : (o : ℕ) → T (touches (func t f) o p) → suc o ≤ need f p
  pub need_ensure : T (is_ensure (func t f) p) → need f p ≡ 0
  pub need_along : T (not (is_ensure (func t f) p)) → (q : ℕ) → Memᴰ q (leads (func t f) p) → need f q ≤ need f p

-- at point p of f, which calls g
pub record SoundCall (t : Task) (s : Sheet) (b : Ground) (f p g : ℕ) : Type 0 where
  -- the callee is entered with what is cached here, and spills what is too much
  pub enter : min t.stack ((s.at f p).high + (func t g).frame) ≤ (s.at g 0).high
  pub spill : s.price ((s.at f p).high + (func t g).frame - t.stack) ≤ s.spill g
  -- it leaves at most S − d and at least S − D
  pub high : min (s.at f p).high (t.stack - b.shortest g) ≤ (s.at f (suc p)).high
  pub past : b.past f (suc p) ≤ max (b.past f p) (b.shortest g)
  pub next : b.next f (suc p) ≤ t.stack - longest t g
  -- its chain has this caller's and what this caller keeps
  pub chain : s.chain f + s.price (b.next f (suc p)) ≤ s.chain g

-- at point p of f
pub record SoundAt (t : Task) (s : Sheet) (b : Ground) (f p : ℕ) : Type 0 where
  pub marked : Marked t (λ f p. (s.at f p).dead) (λ f p. (s.at f p).need) f p
  -- next is at least what is kept until the first ensure to come, and fill pays for what is not
  pub next_frame : b.next f p ≤ (func t f).frame
  pub next_along : T (not (is_ensure (func t f) p)) → (q : ℕ) → Memᴰ q (leads (func t f) p) → b.next f q ≤ b.next f p
  pub fill : T (is_ensure (func t f) p) → s.price ((func t f).frame - b.next f p) ≤ (s.at f p).fill
  -- high is at least what walks bring
  pub high_along : T (not (is_call (func t f) p)) → (q : ℕ) → Memᴰ q (leads (func t f) p) → (s.at f p).high ≤ (s.at f q).high
  pub high_ensure : point (func t f) p ≡ Ensure (func t f).frame → (func t f).frame ≤ (s.at f (suc p)).high
  -- past is at most what walks push
  pub past_along : T (not (is_call (func t f) p)) → (q : ℕ) → Memᴰ q (leads (func t f) p) → b.past f q ≤ b.past f p
  pub past_return : point (func t f) p ≡ Return → b.shortest f ≤ (func t f).frame + b.past f p
  pub call : (g : ℕ) → point (func t f) p ≡ Call g → SoundCall t s b f p g
  -- cost pays for what goes out, what comes back, and what the ensures to come fill above their fill
  pub cost : s.price ((s.at f p).high - (s.at f p).dead) + s.price ((s.at f p).need - (s.at f p).dead) + s.price (b.next f p - (s.at f p).need) + s.chain f
      ≤ (s.at f p).cost
  -- once pays for what goes out and what comes back, and for the smaller of two: what the ensures to come fill above their fill, and the blocks that are
  -- missing after the preemption
  pub once : s.price ((s.at f p).high - (s.at f p).dead) + s.price ((s.at f p).need - (s.at f p).dead)
      + min (s.price (b.next f p - (s.at f p).need) + s.chain f) ((s.at f p).high - max (s.at f p).dead (s.at f p).need)
      ≤ once_of (s.at f p)

pub record Sound (t : Task) (s : Sheet) : Type 0 where
  pub ground : Ground
  pub price : Price s.price
  pub start : 0 < count t → (func t 0).frame ≤ (s.at 0 0).high
  pub first : (f : ℕ) → f < count t → ground.past f 0 ≡ 0
  pub at : (f p : ℕ) → f < count t → p < size (func t f) → SoundAt t s ground f p

-- the sheet of every task that these rows pass
abbrev pub SoundWhere : (Task → Option Refusal) → (Task → Sheet) → Type 0
SoundWhere rows sheet = (t : Task) → WellFormed t → rows t ≡ none → Sound t (sheet t)
