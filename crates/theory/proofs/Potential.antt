-- The potential of a state is the price of what the next ensure of each frame may have to fill above its fill. An event moves at most what the
-- sheet allows it and what the potential falls by; a preemption, which may raise the potential, is allowed the rise.
use Prim.Native.Nat.{ℕ, suc, ◌+◌, ◌-◌, ◌≤◌, ◌<◌, min, max}
use mathlib.Core.List.{List, [], ◌∷◌, Memᴰ}
use mathlib.Core.Bool.{not}
use mathlib.Core.Path.{◌≡◌, refl, ap, ◌∙◌}
use native.Mathlib.Decide.{dec_le}
use native.Mathlib.Omega.{arith}
use native.Mathlib.Nat.{le_refl, le_trans, add-le-add}
use lib.Dec.{T, eqb}
use Rattle.model.specs.declared.Point.{Point}
use Rattle.model.specs.declared.Point.TheVariants.{Load, Store, Call, Ensure, Goto, Either, Return}
use Rattle.model.specs.Task.{Task, count, size, func, point}
use Rattle.model.specs.Walk.{leads, called, is_ensure}
use Rattle.model.specs.Core.{Core, Clean, effective, save_moves, resumed, resume_moves, reserve, free, ensure, store}
use Rattle.model.specs.Figures.{longest}
use Rattle.model.specs.Sheet.{Sheet}
use Rattle.model.specs.Plain.{Frame, entered, moved_to, stepped, main_frames}
use Rattle.model.specs.Run.{Turn, step_turn, step_bound}
use Rattle.theory.proofs.Lists.{by-test}
use Rattle.model.specs.WellFormed.{WellFormed}
use Rattle.theory.proofs.Links.{closed, callee-later, ensure-after-call}
use Rattle.theory.specs.Sound.{Price, Ground, SoundAt, Sound}
use Rattle.theory.proofs.Clean.{effective-between}
use Rattle.theory.proofs.Frames.{places, In, Below, Window}
use Rattle.theory.proofs.Window.{frame-room, call-room, ensures-frame}
use Rattle.theory.proofs.Occupancy.{OccupiedAt}

-- what the next ensures of these frames may fill above their fill, with off blocks of frames above them and n blocks cached from ST up; a frame
-- that waits stands at its next ensure
unfoldable pub delayed : Task → Sheet → Ground → ℕ → ℕ → List Frame → ℕ
delayed t s b n off [] = 0
delayed t s b n off (y ∷ fs) = s.price (b.next y.fn y.at - (n - off)) + delayed t s b n (off + (func t y.fn).frame) fs

-- the same with no frame above
abbrev pub potential : Task → Sheet → Ground → List Frame → ℕ → ℕ
potential t s b fs n = delayed t s b n 0 fs

-- the same between the halves of a preemption of x at n blocks, with what is still to come back
abbrev pub pending : Task → Sheet → Ground → Frame → List Frame → ℕ → ℕ
pending t s b x fs n =
    s.price (resume_moves (s.at x.fn x.at).dead (s.at x.fn x.at).need n)
    + potential t s b (x ∷ fs) (resumed (s.at x.fn x.at).dead (s.at x.fn x.at).need n)

-- the price of both moves of an event
abbrev pub paid : Sheet → Turn → ℕ
paid s u = s.price u.out + s.price u.back

-- a price of nothing
price-zero : {price : ℕ → ℕ} → Price price → (n : ℕ) → n ≡ 0 → price n ≡ 0
price-zero {price} h n e = ap price e ∙ h.none

-- the more is left of a frame, the less its ensure fills
less-left : (k a b : ℕ) → a ≤ b → k - b ≤ k - a
less-left k a b h = omega arith

-- with a frame of k blocks more above
frame-above : (n off m low k : ℕ) → n - off ≤ m - low → n - (off + k) ≤ m - (low + k)
frame-above n off m low k h = omega arith

-- an ensure: frame k, n blocks cached, q kept
fill-parts : (k n q : ℕ) → k - n ≤ (k - q) + (q - (n - 0))
fill-parts k n q = omega arith

ensure-sum : (z a b b' c d f o : ℕ) → z ≡ 0 → a ≤ b' + b → b' ≤ f → c ≡ 0 → d ≤ o → z + a + (c + d) ≤ f + (b + o)
ensure-sum z a b b' c d f o h i j k l = omega arith

-- nothing is delayed of a frame of k blocks just filled, or just entered
just-filled : (q k n : ℕ) → q ≤ k → q - (max n k - 0) ≡ 0
just-filled q k n h = omega arith

just-entered : (q k n s : ℕ) → q ≤ k → k ≤ s → q - (min s (n + k) - 0) ≡ 0
just-entered q k n s h i = omega arith

call-sum : (z a c d f o : ℕ) → z ≡ 0 → a ≤ f → c ≡ 0 → d ≤ o → a + z + (c + d) ≤ f + o
call-sum z a c d f o h i j k = omega arith

-- nothing is delayed of a frame that keeps at most s - d where off of the s cached blocks are not its own
none_left : (k s d off : ℕ) → k ≤ s - d → off ≤ d → k - (s - off) ≡ 0
none_left k s d off h j = omega arith

-- a preemption at n blocks, b of them to be written back, with the figures d dead, m need, h high, q next
pub save-covers : (n b d h : ℕ) → b ≤ n → n ≤ h → save_moves d n b ≤ h - d
save-covers n b d h a k = omega arith

pub reload-covers : (n d m : ℕ) → resume_moves d m n ≤ m - d
reload-covers n d m = omega arith

later-covers : (q n d m : ℕ) → m ≤ n → q - (resumed d m n - 0) ≤ q - m
later-covers q n d m h = omega arith

preempt-sum : (a b c a' b' c' d' e x : ℕ) → a ≤ a' → b ≤ b' → c ≤ c' + d' → a' + b' + c' + d' ≤ x → a + (b + c) ≤ x + e
preempt-sum a b c a' b' c' d' e x h i j k = omega arith

module _ (t : Task) (s : Sheet) (w : WellFormed t) (r : Sound t s) where
  rules : (x : Frame) → In t x → SoundAt t s r.ground x.fn x.at
  rules x i = r.at x.fn x.at i.fn_in i.at_in

  -- frames that will see no block less have no more to fill
  delayed-less : (n off m low : ℕ) (fs : List Frame) → n - off ≤ m - low
      → delayed t s r.ground m low fs ≤ delayed t s r.ground n off fs
  unfolding delayed
  delayed-less n off m low [] h = omega arith
  delayed-less n off m low (y ∷ fs) h =
      add-le-add
      (r.price.more _ _ (less-left (r.ground.next y.fn y.at) (n - off) (m - low) h))
      (delayed-less n (off + (func t y.fn).frame) m (low + (func t y.fn).frame) fs (frame-above n off m low (func t y.fn).frame h))

  -- the delayed fills of the frames below a function are at most its chain
  delayed-chain : (f n off : ℕ) (fs : List Frame) → Below t f fs → delayed t s r.ground n off fs ≤ s.chain f
  unfolding delayed
  delayed-chain f n off [] b = omega arith
  delayed-chain f n off (y ∷ fs) (Below.above {c = c} i j l k b) =
      let a = delayed-chain y.fn n (off + (func t y.fn).frame) fs b in
      let h = ((r.at y.fn c i.fn_in (omega (arith, l, i.at_in))).call f k).chain in
      let m = r.price.more (r.ground.next y.fn (suc c) - (n - off)) (r.ground.next y.fn (suc c)) (omega arith) in
      rw l (omega (arith, a, h, m))

  -- with a full cache there are none: the frames above one are within the longest displacement of its callee
  delayed-full : (f off : ℕ) (fs : List Frame) → off ≤ longest t f → Below t f fs → delayed t s r.ground t.stack off fs ≡ 0
  unfolding delayed
  delayed-full f off [] h b = refl
  delayed-full f off (y ∷ fs) h (Below.above {c = c} i j l k b) =
      let g : c < size (func t y.fn) = omega (arith, l, i.at_in) in
      let d = call-room t w y.fn c f i.fn_in g k in
      let a = delayed-full y.fn (off + (func t y.fn).frame) fs (omega (arith, h, d)) b in
      let q = ((r.at y.fn c i.fn_in g).call f k).next in
      let z = price-zero r.price _ (none_left (r.ground.next y.fn (suc c)) t.stack (longest t f) off q h) in
      rw l (omega (arith, a, z))

  -- along a lead from a point that is no ensure the potential does not rise
  along : (x : Frame) (l : List ℕ) (fs : List Frame) (n q : ℕ) → In t x → Memᴰ q (leads (func t x.fn) x.at)
      → T (not (is_ensure (func t x.fn) x.at))
      → potential t s r.ground (record { fn = x.fn; at = q; numbers = l } ∷ fs) n ≤ potential t s r.ground (x ∷ fs) n
  unfolding delayed
  along x l fs n q i m j =
      let k = (rules x i).next_along j q m in
      add-le-add (r.price.more _ _ (omega (arith, k))) (le_refl _)

  -- a load, store, goto or either moves nothing
  moves-nothing : (x : Frame) (l : List ℕ) (fs : List Frame) (n q : ℕ) → In t x → Memᴰ q (leads (func t x.fn) x.at)
      → T (not (is_ensure (func t x.fn) x.at))
      → s.price 0 + s.price 0 + potential t s r.ground (record { fn = x.fn; at = q; numbers = l } ∷ fs) n
      ≤ 0 + potential t s r.ground (x ∷ fs) n
  moves-nothing x l fs n q i m j = omega (arith, along x l fs n q i m j, r.price.none)

  -- an ensure moves its fill and the delayed fill of its own frame
  ensure-covered : (x : Frame) (fs : List Frame) (n : ℕ) → In t x → point (func t x.fn) x.at ≡ Ensure (func t x.fn).frame
      → s.price 0 + s.price ((func t x.fn).frame - n) + potential t s r.ground (moved_to (suc x.at) x ∷ fs) (max n (func t x.fn).frame)
      ≤ (s.at x.fn x.at).fill + potential t s r.ground (x ∷ fs) n
  unfolding delayed leads
  ensure-covered x fs n i e =
      let k = (func t x.fn).frame in
      let q = r.ground.next x.fn x.at in
      let j = closed w.linked x.fn x.at (suc x.at) i.fn_in i.at_in (rw e (Memᴰ.head refl)) in
      ensure-sum _ (s.price (k - n)) (s.price (q - (n - 0))) (s.price (k - q)) _ _ _ _ r.price.none
      (omega (arith, r.price.more _ _ (fill-parts k n q), r.price.parts (k - q) (q - (n - 0))))
      ((rules x i).fill (rw e tt))
      (price-zero r.price _ (just-filled _ k n (r.at x.fn (suc x.at) i.fn_in j).next_frame))
      (delayed-less n _ (max n k) _ fs (omega arith))

  -- a call leaves no frame less than before, or the cache is full, and then there is no delayed fill
  delayed-call : (x : Frame) (fs : List Frame) (n g : ℕ) → In t x → Below t x.fn fs → point (func t x.fn) x.at ≡ Call g
      → delayed t s r.ground (min t.stack (n + (func t g).frame)) (0 + (func t g).frame) (moved_to (suc x.at) x ∷ fs)
      ≤ potential t s r.ground (x ∷ fs) n
  unfolding leads
  delayed-call x fs n g i b e =
      let a = ensure-after-call w.linked x.fn x.at i.fn_in (rw e tt) in
      let l = (callee-later w.linked x.fn x.at g i.fn_in i.at_in (ap called e)).1 in
      elim (dec_le (n + (func t g).frame) t.stack) [
        | yes h ↦
            le_trans
            (delayed-less n 0 (min t.stack (n + (func t g).frame)) (0 + (func t g).frame) (moved_to (suc x.at) x ∷ fs) (omega (arith, h)))
            (along x x.numbers fs n (suc x.at) i (rw e (Memᴰ.head refl)) (rw e tt))
        | no h ↦
            let m : min t.stack (n + (func t g).frame) ≡ t.stack = omega (arith, h) in
            let j : In t (moved_to (suc x.at) x) = record { fn_in = i.fn_in; at_in = a.0; whole = i.whole } in
            let z = delayed-full g (0 + (func t g).frame) (moved_to (suc x.at) x ∷ fs) (omega (arith, frame-room t w g l)) (Below.above j a.1 refl e b) in
            rw m (omega (arith, z))
      ]

  -- a call writes back m of n blocks, and moves at most the spill of its callee; the callee has no delayed fill yet
  call-covered : (x : Frame) (fs : List Frame) (n m g : ℕ) → In t x → Below t x.fn fs → point (func t x.fn) x.at ≡ Call g
      → m ≤ n → n ≤ (s.at x.fn x.at).high
      → s.price (m + (func t g).frame - t.stack) + s.price 0
      + potential t s r.ground (entered t g ∷ moved_to (suc x.at) x ∷ fs) (min t.stack (n + (func t g).frame))
      ≤ s.spill g + potential t s r.ground (x ∷ fs) n
  unfolding delayed
  call-covered x fs n m g i b e a h =
      let l = (callee-later w.linked x.fn x.at g i.fn_in i.at_in (ap called e)).1 in
      let k = ((rules x i).call g e).spill in
      let q = (r.at g 0 l (w.shaped.nonempty g l)).next_frame in
      call-sum _ _ _ _ _ _ r.price.none
      (le_trans (r.price.more _ _ (omega (arith, a, h))) k)
      (price-zero r.price _ (just-entered (r.ground.next g 0) (func t g).frame n t.stack q (w.shaped.frames g l)))
      (delayed-call x fs n g i b e)

  -- a return: the caller goes on at its ensure with what was left to it
  return-covered : (x : Frame) (n : ℕ) (fs : List Frame)
      → s.price 0 + s.price 0 + potential t s r.ground fs (n - (func t x.fn).frame) ≤ 0 + potential t s r.ground (x ∷ fs) n
  unfolding delayed
  return-covered x n fs =
      let k = delayed-less n (0 + (func t x.fn).frame) (n - (func t x.fn).frame) 0 fs (omega arith) in omega (arith, k, r.price.none)

  -- behind a preemption the delayed fills of the running frame and of its callers are at most later and the chain
  pub left-delayed : (x : Frame) (fs : List Frame) (n d : ℕ) → Below t x.fn fs → (s.at x.fn x.at).need ≤ n
      → potential t s r.ground (x ∷ fs) (resumed d (s.at x.fn x.at).need n)
      ≤ s.price (r.ground.next x.fn x.at - (s.at x.fn x.at).need) + s.chain x.fn
  unfolding delayed
  left-delayed x fs n d b k =
      add-le-add
      (r.price.more _ _ (later-covers (r.ground.next x.fn x.at) n d (s.at x.fn x.at).need k))
      (delayed-chain x.fn _ _ fs b)

  -- a preemption: what is saved and reloaded, and the delayed fills of the running frame and of its callers
  pub preempt-covered : (x : Frame) (fs : List Frame) (n e : ℕ) → In t x → Below t x.fn fs → e ≤ n → n ≤ (s.at x.fn x.at).high
      → (s.at x.fn x.at).need ≤ n
      → s.price (save_moves (s.at x.fn x.at).dead n e) + pending t s r.ground x fs n
      ≤ (s.at x.fn x.at).cost + potential t s r.ground (x ∷ fs) n
  preempt-covered x fs n e i b a h k =
      let d = (s.at x.fn x.at).dead in
      let m = (s.at x.fn x.at).need in
      preempt-sum _ _ _ _ _ _ _ _ _
      (r.price.more _ _ (save-covers n e d (s.at x.fn x.at).high a h))
      (r.price.more _ _ (reload-covers n d m))
      (left-delayed x fs n d b k)
      (rules x i).cost

  -- a step at point y
  pub step-covered : (x : Frame) (fs : List Frame) (c : Core) (y : Point) (v : ℕ) → point (func t x.fn) x.at ≡ y → In t x → Below t x.fn fs
      → Window t s (x ∷ fs) c → Clean c → OccupiedAt t s r.ground x fs c.occupancy
      → paid s (step_turn t x.fn x.at (places fs) c y v)
      + potential t s r.ground (stepped t x fs y v) (step_turn t x.fn x.at (places fs) c y v).state.core.occupancy
      ≤ step_bound s x.fn x.at y + potential t s r.ground (x ∷ fs) c.occupancy
  unfolding leads reserve free ensure store
  step-covered x fs c (Load n) v e i b u j o =
      moves-nothing x x.numbers fs c.occupancy (suc x.at) i (rw e (Memᴰ.head refl)) (rw e tt)
  step-covered x fs c (Store n) v e i b u j o =
      moves-nothing x _ fs c.occupancy (suc x.at) i (rw e (Memᴰ.head refl)) (rw e tt)
  step-covered x fs c (Call g) v e i b u j o = rw u.blocks (call-covered x fs c.occupancy (effective c) g i b e (effective-between c j).1 o.here.high)
  step-covered x fs c (Ensure k) v e i b u j o =
      let z = ensures-frame t w x k i e in rw z (ensure-covered x fs c.occupancy i (rw z at e))
  step-covered x fs c (Goto q) v e i b u j o =
      moves-nothing x x.numbers fs c.occupancy q i (rw e (Memᴰ.head refl)) (rw e tt)
  step-covered x fs c (Either q p) v e i b u j o =
      by-test
      (λ (a : ℕ). s.price 0 + s.price 0 + potential t s r.ground (moved_to a x ∷ fs) c.occupancy
      ≤ 0 + potential t s r.ground (x ∷ fs) c.occupancy) (eqb v 0)
      (λ h. moves-nothing x x.numbers fs c.occupancy q i (rw e (Memᴰ.head refl)) (rw e tt))
      (λ h. moves-nothing x x.numbers fs c.occupancy p i (rw e (Memᴰ.tail (Memᴰ.head refl))) (rw e tt))
  step-covered x fs c Return v e i b u j o = return-covered x c.occupancy fs

  -- at the start there is no delayed fill
  pub potential-start : 0 < count t → (c : Core) → Window t s [] c
      → potential t s r.ground (main_frames t) (reserve (func t 0).frame c).core.occupancy ≡ 0
  unfolding delayed reserve
  potential-start l c u =
      let q = (r.at 0 0 l (w.shaped.nonempty 0 l)).next_frame in
      let e = just-entered (r.ground.next 0 0) (func t 0).frame c.occupancy t.stack q (w.shaped.frames 0 l) in
      rw u.blocks (omega (arith, price-zero r.price _ e))
