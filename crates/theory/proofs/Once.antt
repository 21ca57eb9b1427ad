-- Request 7 of document 02, where moves are counted in blocks: a run moves at most its spills and fills and once of each point at which it is preempted;
-- the request's own words are the case of exactly one preemption. A run from fewer cached blocks moves more than the same run from more of them, but at
-- most by the gap between the two: what it moves more at an event narrows the gap, and no event widens it. So after a preemption the blocks that are
-- missing pay for what is moved more, or the delayed fills do, whichever is less. This holds of cores that write back every block: after a preemption
-- the lazy pointer may lie above that of the run without it. The core with a lazy pointer moves no more (Cores).
use Prim.Native.Nat.{ℕ, suc, ◌+◌, ◌-◌, ◌≤◌, ◌<◌, min, max}
use mathlib.Core.List.{List, [], ◌∷◌}
use mathlib.Core.Option.{Option, none, some}
use mathlib.Core.Path.{◌≡◌, refl, ap, sym, subst, ◌∙◌}
use native.Mathlib.Nat.{le_trans}
use native.Mathlib.Omega.{arith}
use lib.ListN.{length, length-set, length-replicate}
use Rattle.model.specs.declared.Eviction.{Eviction}
use Rattle.model.specs.declared.Eviction.TheVariants.{Eager}
use Rattle.model.specs.declared.Point.{Point}
use Rattle.model.specs.declared.Point.TheVariants.{Load, Store, Call, Ensure, Goto, Either, Return}
use Rattle.model.specs.declared.Refusal.{Refusal}
use Rattle.model.specs.Limits.{work_length}
use Rattle.model.specs.Basic.{sum_of}
use Rattle.model.specs.Task.{Task, Judged, refused, task, size, count, func, point}
use Rattle.model.specs.Core.{Core, Clean, written, effective, saved_from, save_moves, resumed, resume_moves, reserve, free, ensure, store, save, resume, filled_with, idle}
use Rattle.model.specs.Sheet.{PointSheet, Sheet, move_price, in_blocks, costed, sheet_with, once_of, charging, charging_once, priced_sheet, sheet_of}
use Rattle.model.specs.Refusal.{judged, priced_rows, no_rows, event_rows}
use Rattle.model.specs.Plain.{Event, Act, takes, preempted, act, Frame, main_frames, first_frames, running, stepped, after_event, events_of}
use Rattle.model.specs.Run.{Place, Turn, Ran, step_turn, preempt_turn, turn, or_ran, ran_from, ran, main_state, finished_state, step_bound, event_bound, or_bound, allowed_from, allowed}
use Rattle.model.specs.Preemptions.{preempted_at, or_preempted, preemptions_from, preemptions, spills_and_fills}
use Rattle.model.specs.Services.{cleared, run_judged, run_as, run_with, run_of, run_judged_of, PaysOnce}
use Rattle.model.specs.WellFormed.{WellFormed}
use Rattle.theory.specs.Sound.{Price, Sound, SoundWhere}
use Rattle.theory.specs.Displacement.{NoHigher, sheet_before}
use Rattle.theory.specs.Cores.{eagerly}
use Rattle.theory.proofs.Lists.{sum-append}
use Rattle.theory.proofs.Blocks.{length-filled}
use Rattle.theory.proofs.Clean.{effective-between, clean-idle}
use Rattle.theory.proofs.Frames.{places, running-same, frames-turn, In, Standing, Window, Needed}
use Rattle.theory.proofs.Window.{window-idle}
use Rattle.theory.proofs.Occupancy.{Occupied}
use Rattle.theory.proofs.Potential.{potential, paid, potential-start, save-covers, reload-covers, left-delayed}
use Rattle.theory.proofs.Fair.{Running, fair-step, fair-preempt, runs-start, finished-ran, by-start, state-is}
use Rattle.theory.proofs.Lawful.{priced-sound}
use Rattle.theory.proofs.Before.{never-rises}
use Rattle.theory.proofs.Prices.{counted-price, moves-blocks}
use Rattle.theory.proofs.Faithful.{run-accepted}
use Rattle.theory.proofs.Cores.{less-moved}

-- ---- two cores of one run

-- a has no block more cached than b, and both write back all that they have
pub record Fewer (a b : Core) : Type 0 where
  pub sizes : length a.cache ≡ length b.cache
  pub fewer : a.occupancy ≤ b.occupancy
  pub first-eager : a.eviction ≡ Eager
  pub second-eager : b.eviction ≡ Eager

-- an eager core writes back all that is cached
all-written : (c : Core) → c.eviction ≡ Eager → effective c ≡ c.occupancy
unfolding written
all-written c e = ap (λ x. written x c.occupancy c.pointer) e

-- what a turn moves more than the same turn on the other core narrows the gap between the cores
pub record Closer (gap : ℕ) (u v : Turn) : Type 0 where
  pub next : Fewer u.state.core v.state.core
  pub moves : u.out + u.back + (v.state.core.occupancy - u.state.core.occupancy) ≤ v.out + v.back + gap

-- a preemption of m and of n blocks: e and f of them are not written back, and a and b are cached after it
preempt-gap : (m n e f a b : ℕ) → m ≤ n → e ≤ m → f ≤ n → e ≤ a → f ≤ b → a ≤ b → m + f ≤ n + e
    → m - e + (a - e) + (b - a) ≤ n - f + (b - f) + (n - m)
preempt-gap m n e f a b h i j k l o p = omega arith

stays-low : (n d : ℕ) → min n d ≤ n
stays-low n d = omega arith

stays-there : (n d m : ℕ) → min n d ≤ min n (max d m)
stays-there n d m = omega arith

there-more : (m n k : ℕ) → m ≤ n → min m k ≤ min n k
there-more m n k h = omega arith

goes-more : (m n d : ℕ) → m ≤ n → m + min n d ≤ n + min m d
goes-more m n d h = omega arith

closer-preempt : (m n d k : ℕ) → m ≤ n
    → save_moves d m m + resume_moves d k m + (resumed d k n - resumed d k m) ≤ save_moves d n n + resume_moves d k n + (n - m)
closer-preempt m n d k h =
    preempt-gap m n (saved_from d m) (saved_from d n) (resumed d k m) (resumed d k n) h (stays-low m d) (stays-low n d) (stays-there m d k) (stays-there n d k)
    (there-more m n (max d k) h) (goes-more m n d h)

closer-step : (t : Task) (f p : ℕ) (fs : List Frame) (a b : Core) (y : Point) (v : ℕ) → Fewer a b
    → Closer (b.occupancy - a.occupancy) (step_turn t f p (places fs) a y v) (step_turn t f p (places fs) b y v)
unfolding reserve free ensure store
closer-step t f p fs a b (Load o) v h = record { next = h; moves = omega arith }
closer-step t f p fs a b (Store o) v h =
    record { next = record { sizes = simp length-set h.sizes; fewer = h.fewer; first-eager = h.first-eager; second-eager = h.second-eager }; moves = omega arith }
closer-step t f p fs a b (Call g) v h =
    record {
      next = record { sizes = h.sizes; fewer = omega (arith, h.sizes, h.fewer); first-eager = h.first-eager; second-eager = h.second-eager };
      moves = omega (arith, h.sizes, h.fewer, all-written a h.first-eager, all-written b h.second-eager);
    }
closer-step t f p fs a b (Ensure k) v h =
    record {
      next = record {
        sizes = length-filled a.cache a.memory _ _ ∙ h.sizes ∙ sym (length-filled b.cache b.memory _ _);
        fewer = omega (arith, h.fewer);
        first-eager = h.first-eager;
        second-eager = h.second-eager;
      };
      moves = omega (arith, h.fewer);
    }
closer-step t f p fs a b (Goto q) v h = record { next = h; moves = omega arith }
closer-step t f p fs a b (Either q r) v h = record { next = h; moves = omega arith }
closer-step t f p fs a b Return v h =
    record {
      next = record { sizes = h.sizes; fewer = omega (arith, h.fewer); first-eager = h.first-eager; second-eager = h.second-eager };
      moves = omega (arith, h.fewer);
    }

closer-turn : (t : Task) (s : Sheet) (fs : List Frame) (a b : Core) (e : Act) → Fewer a b
    → Closer (b.occupancy - a.occupancy) (turn t s (record { frames = places fs; core = a }) e) (turn t s (record { frames = places fs; core = b }) e)
unfolding turn places resume save
closer-turn t s [] a b e h = record { next = h; moves = omega arith }
closer-turn t s (x ∷ fs) a b (takes v) h = closer-step t x.fn x.at fs a b (point (func t x.fn) x.at) v h
closer-turn t s (x ∷ fs) a b (preempted v) h =
    let y = s.at x.fn x.at in
    let filled-size : (c : Core) → length (filled_with v c) ≡ length c.cache = λ c. length-replicate (length c.cache) v in
    record {
      next = record {
        sizes =
            length-filled (filled_with v a) _ _ _ ∙ filled-size a ∙ h.sizes ∙ sym (filled-size b) ∙ sym (length-filled (filled_with v b) _ _ _);
        fewer = there-more a.occupancy b.occupancy (max y.dead y.need) h.fewer;
        first-eager = h.first-eager;
        second-eager = h.second-eager;
      };
      moves =
          rw (all-written a h.first-eager, all-written b h.second-eager)
          (closer-preempt a.occupancy b.occupancy y.dead y.need h.fewer);
    }

module _ (t : Task) (s : Sheet) (counted : s.price ≡ in_blocks) where
  price-is : (n : ℕ) → s.price n ≡ n
  price-is n = ap (λ (price : ℕ → ℕ). price n) counted

  -- a refusal ends both; else the rest decides
  closer-or : (o : Option Refusal) (a b : Core) (u v : Turn) (q r : Ran) (gap : ℕ) → Closer gap u v
      → q.moved ≤ r.moved + (v.state.core.occupancy - u.state.core.occupancy)
      → (or_ran s.price o a u q).moved ≤ (or_ran s.price o b v r).moved + gap
  closer-or none a b u v q r gap h l =
      omega (arith, l, h.moves, price-is u.out, price-is u.back, price-is v.out, price-is v.back)
  closer-or (some x) a b u v q r gap h l = omega arith

  -- a run from fewer blocks moves at most the blocks more that are missing
  pub closer : (i : ℕ) (es : List Event) (fs : List Frame) (a b : Core) → Fewer a b
      → (ran_from t s i (record { frames = places fs; core = a }) es).moved
      ≤ (ran_from t s i (record { frames = places fs; core = b }) es).moved + (b.occupancy - a.occupancy)
  unfolding ran_from
  closer i [] fs a b h = omega arith
  closer i (e ∷ es) fs a b h =
      let u = turn t s (record { frames = places fs; core = a }) (act e) in
      let v = turn t s (record { frames = places fs; core = b }) (act e) in
      let k = closer-turn t s fs a b (act e) h in
      rw (running-same t fs)
      (closer-or (event_rows i e.kind e.value (running t fs)) a b u v _ _ _ k
      (rw (state-is u.state _ (frames-turn t s fs a (act e)), state-is v.state _ (frames-turn t s fs b (act e)))
      (closer (suc i) es (after_event t fs (act e)) u.state.core v.state.core k.next)))

-- ---- every preemption is paid with once

-- once is at most the cost, of every sheet by the formulas that stand
pub once-tighter : (price : ℕ → ℕ) (t : Task) (d : ℕ → ℕ) (dead need : ℕ → ℕ → ℕ) (f p : ℕ)
    → once_of ((sheet_with price t d dead need).at f p) ≤ ((sheet_with price t d dead need).at f p).cost
unfolding once_of costed
once-tighter price t d dead need f p = omega arith

once-mono : (s z r k h g d m : ℕ) → s ≤ z → h ≤ g → s + r + min k (h - max d m) ≤ z + r + min k (g - max d m)
once-mono s z r k h g d m a b = omega arith

once-less : (a b : PointSheet) → NoHigher a b → once_of a ≤ once_of b
unfolding once_of
once-less a b h =
    rw (h.reload, h.later, h.chain, h.dead, h.need)
    (once-mono a.save b.save b.reload (b.later + b.chain) a.high b.high b.dead b.need h.save h.high)

-- with d by whole walks it is at most that by the rule before request 4
pub once-never-rises : (text : List ℕ) (t : Task) → judged text ≡ task t → (price : ℕ → ℕ) → Price price → (f p : ℕ) → f < count t → p < size (func t f)
    → once_of ((priced_sheet price t).at f p) ≤ once_of ((sheet_before price t).at f p)
once-never-rises text t e price c f p l m = once-less _ _ ((never-rises text t e price c).at f p l m)

-- a step is allowed the same, whatever a preemption costs
step-charged : (s : Sheet) (cost : ℕ → ℕ → ℕ) (f p : ℕ) (y : Point) → step_bound (charging cost s) f p y ≡ step_bound s f p y
step-charged s cost f p (Load o) = refl
step-charged s cost f p (Store o) = refl
step-charged s cost f p (Call g) = refl
step-charged s cost f p (Ensure k) = refl
step-charged s cost f p (Goto q) = refl
step-charged s cost f p (Either q r) = refl
step-charged s cost f p Return = refl

-- a step keeps the eviction of the core
eviction-stays : (t : Task) (f p : ℕ) (fs : List Frame) (c : Core) (y : Point) (v : ℕ) → (step_turn t f p (places fs) c y v).state.core.eviction ≡ c.eviction
unfolding reserve free ensure store
eviction-stays t f p fs c (Load o) v = refl
eviction-stays t f p fs c (Store o) v = refl
eviction-stays t f p fs c (Call g) v = refl
eviction-stays t f p fs c (Ensure k) v = refl
eviction-stays t f p fs c (Goto q) v = refl
eviction-stays t f p fs c (Either q r) v = refl
eviction-stays t f p fs c Return v = refl

-- a preemption and the rest of the run. a and b pay for out and back. The rest moves at most what it is allowed and n, the delayed fills after the
-- preemption, which are at most l. It also moves at most gap, which is at most g, more than alone, the rest without the preemption; and that moves at most
-- what it is allowed and before, the delayed fills before the preemption
once-sum : (out back moved rest a b n l alone gap g before x : ℕ) → out ≤ a → back ≤ b → moved ≤ rest + n → n ≤ l → moved ≤ alone + gap
    → alone ≤ rest + before → gap ≤ g → a + b + min l g ≤ x → out + back + moved ≤ x + rest + before
once-sum out back moved rest a b n l alone gap g before x h i j k m o q u = omega arith

-- the blocks that are missing after a preemption at n blocks, with the figures d dead, m need, h high
gap-covers : (n d m h : ℕ) → n ≤ h → n - resumed d m n ≤ h - max d m
gap-covers n d m h l = omega arith

once-or : (s : Sheet) (o : Option Refusal) (c : Core) (u : Turn) (q : Ran) (a allowed before : ℕ) → paid s u + q.moved ≤ a + allowed + before
    → (or_ran s.price o c u q).moved ≤ or_bound o a allowed + before
once-or s none c u q a allowed before h = omega (arith, h)
once-or s (some x) c u q a allowed before h = omega arith

module _ (t : Task) (s : Sheet) (w : WellFormed t) (r : Sound t s) (counted : s.price ≡ in_blocks) where
  -- once of the point of a frame pays for this
  once-pays : (x : Frame) → In t x
      → s.price ((s.at x.fn x.at).high - (s.at x.fn x.at).dead) + s.price ((s.at x.fn x.at).need - (s.at x.fn x.at).dead)
      + min (s.price (r.ground.next x.fn x.at - (s.at x.fn x.at).need) + s.chain x.fn)
      ((s.at x.fn x.at).high - max (s.at x.fn x.at).dead (s.at x.fn x.at).need)
      ≤ once_of (s.at x.fn x.at)
  once-pays x j = omega (arith, (r.at x.fn x.at j.fn_in j.at_in).once)

  -- an event at these frames, what holds of the rest being known of every state
  once-event : (i : ℕ) (es : List Event) (fs : List Frame) (c : Core) (a : Act) → Standing t fs → Running t s r.ground fs c → c.eviction ≡ Eager
      → ((fs : List Frame) (c : Core) → Running t s r.ground fs c → c.eviction ≡ Eager
      → (ran_from t s i (record { frames = places fs; core = c }) es).moved
      ≤ allowed_from t (charging_once s) i fs es + potential t s r.ground fs c.occupancy)
      → paid s (turn t s (record { frames = places fs; core = c }) a) + (ran_from t s i (turn t s (record { frames = places fs; core = c }) a).state es).moved
      ≤ event_bound t (charging_once s) fs a + allowed_from t (charging_once s) i (after_event t fs a) es + potential t s r.ground fs c.occupancy
  unfolding turn places after_event event_bound resume save Occupied Needed
  once-event i es [] c a j k e rest = omega (arith, rest [] c k e, r.price.none)
  once-event i es (x ∷ fs) c (takes v) (Standing.runs j b) k e rest =
      let y = point (func t x.fn) x.at in
      let f = fair-step t s w r x fs c y v refl j b k in
      let u = step_turn t x.fn x.at (places fs) c y v in
      let gs = stepped t x fs y v in
      let m = rest gs u.state.core f.runs (eviction-stays t x.fn x.at fs c y v ∙ e) in
      rw (state-is u.state gs f.frames, step-charged s (λ f p. once_of (s.at f p)) x.fn x.at y) (omega (arith, f.pays, m))
  once-event i es (x ∷ fs) c (preempted v) (Standing.runs j b) k e rest =
      let y = s.at x.fn x.at in
      let u = preempt_turn s x.fn x.at (places fs) c (filled_with v c) in
      let n = length-replicate (length c.cache) v in
      let f = fair-preempt t s w r x fs c (filled_with v c) (n ∙ k.window.blocks) j b k in
      let less : Fewer u.state.core c =
      record { sizes = length-filled (filled_with v c) _ _ _ ∙ n; fewer = omega arith; first-eager = e; second-eager = e } in
      let after = rest (x ∷ fs) u.state.core f.runs e in
      let without = rest (x ∷ fs) c k e in
      let near = closer t s counted i es (x ∷ fs) u.state.core c less in
      let delayed-few = left-delayed t s w r x fs c.occupancy y.dead b k.window.needed in
      let gap = gap-covers c.occupancy y.dead y.need y.high k.occupied.here.high in
      once-sum _ _ _ _ _ _ _ _ _ _ _ _ _
      (r.price.more _ _ (save-covers c.occupancy (effective c) y.dead y.high (effective-between c k.clean).1 k.occupied.here.high))
      (r.price.more _ _ (reload-covers c.occupancy y.dead y.need)) after delayed-few near without gap
      (once-pays x j)

  -- from every state that a run can be in
  pub once-from : (i : ℕ) (es : List Event) (fs : List Frame) (c : Core) → Running t s r.ground fs c → c.eviction ≡ Eager
      → (ran_from t s i (record { frames = places fs; core = c }) es).moved
      ≤ allowed_from t (charging_once s) i fs es + potential t s r.ground fs c.occupancy
  unfolding ran_from allowed_from
  once-from i [] fs c k e = omega arith
  once-from i (e ∷ es) fs c k x =
      rw (running-same t fs)
      (once-or s (event_rows i e.kind e.value (running t fs)) c (turn t s (record { frames = places fs; core = c }) (act e)) _ _ _ _
      (once-event (suc i) es fs c (act e) k.standing k x (once-from (suc i) es)))

  -- from function 0 on, on a core that writes back all
  once-main : 0 < count t → (c : Core) (es : List Event) → Window t s [] c → Clean c → c.eviction ≡ Eager
      → (ran_from t s 0 (main_state t c) es).moved ≤ allowed_from t (charging_once s) 0 (main_frames t) es
  unfolding places reserve
  once-main h c es u k e =
      omega (
        arith,
        potential-start t s w r h c u,
        once-from 0 es (main_frames t) (reserve (func t 0).frame c).core (runs-start t s w r h c u k) e,
      )

  -- a task that has finished moves nothing
  once-finished : (c : Core) (es : List Event)
      → (ran_from t s 0 (finished_state c) es).moved ≤ allowed_from t (charging_once s) 0 [] es
  once-finished c es = rw (finished-ran t s c es) (omega arith)

  -- from a fresh start on a core that writes back all
  eager-once : (c : Core) (es : List Event) → (0 < count t → Window t s [] c) → Clean c → c.eviction ≡ Eager
      → (ran t s c es).moved ≤ allowed t (charging_once s) es
  eager-once c es u k e =
      by-start t (λ x fs. (ran_from t s 0 (x c) es).moved ≤ allowed_from t (charging_once s) 0 fs es) (once-finished c es) (λ h. once-main h c es (u h) k e)

  -- from a fresh start on either core, over every list: the same core that writes back all moves no less
  pub run-once : (c : Core) (es : List Event) → (0 < count t → Window t s [] c) → Clean c → (ran t s c es).moved ≤ allowed t (charging_once s) es
  run-once c es u k =
      let v : 0 < count t → Window t s [] (eagerly c) = λ h. record {
        top = (u h).top;
        blocks = (u h).blocks;
        room = (u h).room;
        inside = (u h).inside;
        fits = (u h).fits;
        needed = (u h).needed;
      } in
      le_trans (less-moved t s w r c es u k).moved (eager-once (eagerly c) es v (record { within = k.within; equal = k.equal }) refl)

-- ---- exactly one preemption

module _ (t : Task) (s : Sheet) (cost : ℕ → ℕ → ℕ) where
  -- what preemptions at these points cost
  abbrev costs : List Place → ℕ
  costs l = sum_of (λ x. cost x.fn x.at) l

  charged-event : (fs : List Frame) (a : Act) → event_bound t (charging cost s) fs a ≡ event_bound t (charging (λ f p. 0) s) fs a + costs (preempted_at fs a)
  unfolding event_bound preempted_at sum_of
  charged-event [] a = refl
  charged-event (x ∷ fs) (takes v) =
      let y = point (func t x.fn) x.at in
      omega (arith, step-charged s cost x.fn x.at y, step-charged s (λ f p. 0) x.fn x.at y)
  charged-event (x ∷ fs) (preempted v) = omega arith

  charged-or : (o : Option Refusal) (a b m n : ℕ) (k l : List Place) → a ≡ b + costs k → m ≡ n + costs l
      → or_bound o a m ≡ or_bound o b n + costs (or_preempted o k l)
  unfolding sum_of
  charged-or none a b m n k l e h = omega (arith, e, h, sum-append (λ x. cost x.fn x.at) k l)
  charged-or (some r) a b m n k l e h = refl

  charged-from : (i : ℕ) (fs : List Frame) (es : List Event)
      → allowed_from t (charging cost s) i fs es ≡ allowed_from t (charging (λ f p. 0) s) i fs es + costs (preemptions_from t i fs es)
  unfolding allowed_from preemptions_from sum_of
  charged-from i fs [] = refl
  charged-from i fs (e ∷ es) =
      charged-or (event_rows i e.kind e.value (running t fs)) _ _ _ _ (preempted_at fs (act e)) (preemptions_from t (suc i) (after_event t fs (act e)) es)
      (charged-event fs (act e)) (charged-from (suc i) (after_event t fs (act e)) es)

  -- a list with exactly one preemption among the events done is allowed the spills, the fills and the cost of its point
  pub charged-one : (es : List Event) (x : Place) → preemptions t es ≡ x ∷ []
      → allowed t (charging cost s) es ≡ spills_and_fills t s es + cost x.fn x.at
  unfolding sum_of
  charged-one es x e = omega (arith, charged-from 0 (first_frames t) es, ap costs e)

-- of the services, in blocks, on either core: for every text, event list and buffers, where the sheet of each task that the rows pass obeys the rules
pub pays-once : (x : Eviction) (sheet : Task → Sheet) (first : Option Refusal) (rows : Task → Option Refusal) → SoundWhere rows sheet
    → ((t : Task) → (sheet t).price ≡ in_blocks) → (text work events answers cache memory : List ℕ)
    → PaysOnce sheet (run_judged first rows text events answers cache memory) (events_of events)
    (run_with x sheet first rows text work events answers cache memory).result.moved
unfolding run_with
pays-once x sheet first rows lawful counted text work events answers cache memory = go (run_judged first rows text events answers cache memory) refl
  where
    go : (j : Judged) → run_judged first rows text events answers cache memory ≡ j
        → PaysOnce sheet (run_judged first rows text events answers cache memory) (events_of events)
        (run_as x sheet (run_judged first rows text events answers cache memory) (cleared work_length work) (events_of events) answers cache memory).result.moved
    go (refused r) e = rw e tt
    go (task t) e =
        let a = run-accepted first rows text events answers cache memory t e in
        let w = a.formed in
        rw e (run-once t (sheet t) w (lawful t w a.no-rows) (counted t) (idle x cache memory) (events_of events)
        (λ h. window-idle t (sheet t) x cache memory (a.blocks h) a.room) (clean-idle x cache memory))

-- run and run_lazy, with start 0 and each 1
pub services-once : (x : Eviction) (text : List ℕ) (start each : ℕ) (work events answers cache memory : List ℕ) → start ≡ 0 → each ≡ 1
    → PaysOnce sheet_of (run_judged_of text start each work events answers cache memory) (events_of events)
    (run_of x text start each work events answers cache memory).result.moved
services-once x text start each work events answers cache memory h k =
    let first = priced_rows work_length (length work) start each in
    let e : move_price start each ≡ in_blocks = (λ i. move_price (h i) (k i)) ∙ moves-blocks in
    subst
    (λ (price : ℕ → ℕ).
    PaysOnce sheet_of (run_judged first no_rows text events answers cache memory) (events_of events)
    (run_with x (priced_sheet price) first no_rows text work events answers cache memory).result.moved)
    (sym e) (pays-once x sheet_of first no_rows (priced-sound in_blocks counted-price) (λ t. refl) text work events answers cache memory)

-- the words of the request: run and run_lazy with start 0 and each 1, over a list with exactly one preemption among the events done
pub services-one : (x : Eviction) (text work events answers cache memory : List ℕ) (t : Task) (y : Place)
    → run_judged_of text 0 1 work events answers cache memory ≡ task t → preemptions t (events_of events) ≡ y ∷ []
    → (run_of x text 0 1 work events answers cache memory).result.moved
    ≤ spills_and_fills t (sheet_of t) (events_of events) + once_of ((sheet_of t).at y.fn y.at)
services-one x text work events answers cache memory t y e h =
    let moved = (run_of x text 0 1 work events answers cache memory).result.moved in
    let paid-once : moved ≤ allowed t (charging_once (sheet_of t)) (events_of events) =
    subst (λ (j : Judged). PaysOnce sheet_of j (events_of events) moved) e (services-once x text 0 1 work events answers cache memory refl refl) in
    omega (arith, paid-once, charged-one t (sheet_of t) (λ f p. once_of ((sheet_of t).at f p)) (events_of events) y h)
