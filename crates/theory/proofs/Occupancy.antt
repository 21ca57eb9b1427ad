-- The occupancy is at most high at the point of the running frame. What of it a frame that waits will see, once the frames above it have
-- returned, is at most high at its call point.
use Prim.Native.Nat.{ℕ, suc, ◌+◌, ◌-◌, ◌≤◌, ◌<◌, min, max}
use mathlib.Core.Bool.{not}
use mathlib.Core.List.{List, [], ◌∷◌, Memᴰ}
use mathlib.Core.Path.{◌≡◌, refl, ap}
use native.Mathlib.Omega.{arith}
use lib.Dec.{T, eqb}
use Rattle.model.specs.declared.Point.{Point}
use Rattle.model.specs.declared.Point.TheVariants.{Load, Store, Call, Ensure, Goto, Either, Return}
use Rattle.model.specs.Task.{Task, size, count, func, point}
use Rattle.model.specs.Walk.{leads, called, is_call}
use Rattle.model.specs.Core.{Core, reserve, free, ensure, store}
use Rattle.model.specs.Sheet.{Sheet}
use Rattle.model.specs.Plain.{Frame, entered, moved_to, stepped, main_frames}
use Rattle.model.specs.Run.{step_turn}
use Rattle.theory.proofs.Lists.{by-test}
use Rattle.model.specs.WellFormed.{WellFormed}
use Rattle.theory.proofs.Links.{callee-later}
use Rattle.theory.specs.Sound.{Ground, SoundAt, Sound}
use Rattle.theory.proofs.Frames.{places, In, Below, total, Window}
use Rattle.theory.proofs.Window.{ensures-frame}

-- n blocks at point p of f are at most high; and the calls on the way there have left at most S − past, an ensure fills up to the frame
pub record Within (t : Task) (s : Sheet) (b : Ground) (f p n : ℕ) : Type 0 where
  pub high : n ≤ (s.at f p).high
  pub left : n ≤ max (func t f).frame (t.stack - b.past f p)

-- frames that wait, with off blocks of frames above them and n blocks cached from ST up: what those leave is within the bounds of the call point
unfoldable pub Waiting : Task → Sheet → Ground → ℕ → ℕ → List Frame → Type 0
Waiting t s b n off [] = Unit {0}
Waiting t s b n off (y ∷ fs) =
    ((c : ℕ) → y.at ≡ suc c → Within t s b y.fn c (n - off)) × Waiting t s b n (off + (func t y.fn).frame) fs

-- n blocks are cached, x runs and fs wait below it
pub record OccupiedAt (t : Task) (s : Sheet) (b : Ground) (x : Frame) (fs : List Frame) (n : ℕ) : Type 0 where
  pub here : Within t s b x.fn x.at n
  pub waiting : Waiting t s b n (func t x.fn).frame fs

-- the same of a list of frames
unfoldable pub Occupied : Task → Sheet → Ground → List Frame → ℕ → Type 0
Occupied t s b [] n = Unit {0}
Occupied t s b (x ∷ fs) n = OccupiedAt t s b x fs n

-- what is left to the caller: k the frame that returns, s the cache, p past at the return, d the shortest displacement
left_by : (n k s p d : ℕ) → n ≤ max k (s - p) → d ≤ k + p → n - k ≤ s - d
left_by n k s p d h i = omega arith

-- high after a call that leaves at most c
left-high : (n h c q : ℕ) → n ≤ h → n ≤ c → min h c ≤ q → n ≤ q
left-high n h c q i j k = omega arith

-- past one call more, which leaves at most s - d
left-past : (n k s a d p : ℕ) → n ≤ max k (s - a) → n ≤ s - d → p ≤ max a d → n ≤ max k (s - p)
left-past n k s a d p h i j = omega arith

module _ (t : Task) (s : Sheet) (b : Ground) where
  -- fewer blocks are within
  within-fewer : (f p m n : ℕ) → m ≤ n → Within t s b f p n → Within t s b f p m
  within-fewer f p m n h o = record { high = omega (arith, h, o.high); left = omega (arith, h, o.left) }

  -- frames that wait stay within where they will see no block more
  waiting-fewer : (n off m low : ℕ) (fs : List Frame) → m - low ≤ n - off → Waiting t s b n off fs → Waiting t s b m low fs
  unfolding Waiting
  waiting-fewer n off m low [] h w = tt
  waiting-fewer n off m low (y ∷ fs) h w = (
    λ c e. within-fewer y.fn c (m - low) (n - off) h (w.0 c e),
    waiting-fewer n (off + (func t y.fn).frame) m (low + (func t y.fn).frame) fs (omega (arith, h)) w.1,
  )

  -- a preemption caches no block more
  pub fewer : (x : Frame) (fs : List Frame) (n m : ℕ) → m ≤ n → OccupiedAt t s b x fs n → OccupiedAt t s b x fs m
  fewer x fs n m h o = record {
    here = within-fewer x.fn x.at m n h o.here;
    waiting = waiting-fewer n (func t x.fn).frame m (func t x.fn).frame fs (omega (arith, h)) o.waiting;
  }

module _ (t : Task) (s : Sheet) (w : WellFormed t) (r : Sound t s) where
  rules : (x : Frame) → In t x → SoundAt t s r.ground x.fn x.at
  rules x i = r.at x.fn x.at i.fn_in i.at_in

  -- along a lead from a point that is no call
  moves : (x : Frame) (l : List ℕ) (fs : List Frame) (n q : ℕ) → In t x → Memᴰ q (leads (func t x.fn) x.at)
      → T (not (is_call (func t x.fn) x.at))
      → OccupiedAt t s r.ground x fs n → OccupiedAt t s r.ground (record { fn = x.fn; at = q; numbers = l }) fs n
  moves x l fs n q i m j o = record {
    here = record {
      high = omega (arith, o.here.high, (rules x i).high_along j q m);
      left = omega (arith, o.here.left, (rules x i).past_along j q m);
    };
    waiting = o.waiting;
  }

  -- an ensure fills up to the frame
  fills : (x : Frame) (fs : List Frame) (n : ℕ) → In t x → point (func t x.fn) x.at ≡ Ensure (func t x.fn).frame
      → OccupiedAt t s r.ground x fs n → OccupiedAt t s r.ground (moved_to (suc x.at) x) fs (max n (func t x.fn).frame)
  unfolding leads
  fills x fs n i e o =
      let k = moves x x.numbers fs n (suc x.at) i (rw e (Memᴰ.head refl)) (rw e tt) o in record {
        here = record { high = omega (arith, k.here.high, (rules x i).high_ensure e); left = omega (arith, k.here.left) };
        waiting = waiting-fewer t s r.ground n (func t x.fn).frame _ (func t x.fn).frame fs (omega arith) o.waiting;
      }

  -- a call reserves the frame of its callee
  enters : (x : Frame) (fs : List Frame) (n g : ℕ) → In t x → point (func t x.fn) x.at ≡ Call g
      → OccupiedAt t s r.ground x fs n
      → OccupiedAt t s r.ground (entered t g) (moved_to (suc x.at) x ∷ fs) (min t.stack (n + (func t g).frame))
  unfolding Waiting
  enters x fs n g i e o =
      let l = (callee-later w.linked x.fn x.at g i.fn_in i.at_in (ap called e)).1 in record {
        here = record {
          high = omega (arith, o.here.high, ((rules x i).call g e).enter);
          left = omega (arith, r.first g l);
        };
        waiting = (
          λ c a.
              let b : x.at ≡ c = omega (arith, a) in
              rw (← b) (within-fewer t s r.ground x.fn x.at _ n (omega arith) o.here),
          waiting-fewer t s r.ground n (func t x.fn).frame _ ((func t g).frame + (func t x.fn).frame) fs (omega arith) o.waiting,
        );
      }

  -- a return leaves the caller at most high at its call point, and at most S − d of the function that returns
  returned : (f p : ℕ) (fs : List Frame) (n : ℕ) → f < count t → p < size (func t f) → point (func t f) p ≡ Return → Below t f fs
      → Within t s r.ground f p n → Waiting t s r.ground n (func t f).frame fs → Occupied t s r.ground fs (n - (func t f).frame)
  unfolding Waiting Occupied
  returned f p [] n i a e b m o = tt
  returned f p (y ∷ fs) n i a e (Below.above {c = c} j z l k b) m o =
      let d = left_by n (func t f).frame t.stack (r.ground.past f p) (r.ground.shortest f) m.left ((r.at f p i a).past_return e) in
      let h = o.0 c l in
      let v = (r.at y.fn c j.fn_in (omega (arith, l, j.at_in))).call f k in record {
        here = rw l (record {
          high = left-high _ (s.at y.fn c).high (t.stack - r.ground.shortest f) _ h.high d v.high;
          left = left-past _ (func t y.fn).frame t.stack (r.ground.past y.fn c) (r.ground.shortest f) _ h.left d v.past;
        });
        waiting = waiting-fewer t s r.ground n ((func t f).frame + (func t y.fn).frame) _ (func t y.fn).frame fs (omega arith) o.1;
      }

  -- a step at point y keeps the occupancy at most high
  pub occupied-step : (x : Frame) (fs : List Frame) (c : Core) (y : Point) (v : ℕ) → point (func t x.fn) x.at ≡ y → In t x → Below t x.fn fs
      → Window t s (x ∷ fs) c → OccupiedAt t s r.ground x fs c.occupancy
      → Occupied t s r.ground (stepped t x fs y v) (step_turn t x.fn x.at (places fs) c y v).state.core.occupancy
  unfolding Occupied leads reserve free ensure store
  occupied-step x fs c (Load n) v e i b u o =
      moves x x.numbers fs c.occupancy (suc x.at) i (rw e (Memᴰ.head refl)) (rw e tt) o
  occupied-step x fs c (Store n) v e i b u o =
      moves x _ fs c.occupancy (suc x.at) i (rw e (Memᴰ.head refl)) (rw e tt) o
  occupied-step x fs c (Call g) v e i b u o = rw u.blocks (enters x fs c.occupancy g i e o)
  occupied-step x fs c (Ensure k) v e i b u o =
      let z = ensures-frame t w x k i e in rw z (fills x fs c.occupancy i (rw z at e) o)
  occupied-step x fs c (Goto q) v e i b u o =
      moves x x.numbers fs c.occupancy q i (rw e (Memᴰ.head refl)) (rw e tt) o
  occupied-step x fs c (Either q p) v e i b u o =
      by-test (λ (a : ℕ). OccupiedAt t s r.ground (moved_to a x) fs c.occupancy) (eqb v 0)
      (λ h. moves x x.numbers fs c.occupancy q i (rw e (Memᴰ.head refl)) (rw e tt) o)
      (λ h. moves x x.numbers fs c.occupancy p i (rw e (Memᴰ.tail (Memᴰ.head refl))) (rw e tt) o)
  occupied-step x fs c Return v e i b u o =
      returned x.fn x.at fs c.occupancy i.fn_in i.at_in e b o.here o.waiting

  -- at the start the frame of function 0 is cached
  pub occupied-start : 0 < count t → (c : Core) → Window t s [] c
      → Occupied t s r.ground (main_frames t) (reserve (func t 0).frame c).core.occupancy
  unfolding Occupied Waiting total reserve
  occupied-start h c u = record {
    here = record {
      high = omega (arith, u.blocks, u.inside, r.start h);
      left = omega (arith, u.blocks, u.inside, r.first 0 h);
    };
    waiting = tt;
  }
