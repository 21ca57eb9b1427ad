-- D, d and the level of a function from those of the functions behind it.
use Rattle.std.specs.Prelude.{if◌then◌else◌}
use Prim.Native.Nat.{ℕ, ◌+◌, ◌-◌, ◌≤◌, ◌<◌}
use native.Mathlib.Omega.{arith}
use native.Mathlib.Decide.{dec_lt, ℕ_discrete}
use mathlib.Core.List.{List, [], Memᴰ}
use mathlib.Core.Option as maybe
use mathlib.Core.Option.{none, some}
use Rattle.std.specs.Prelude.{Option}
use mathlib.Core.Path.{◌≡◌, refl, ap, sym, subst, ◌∙◌}
use lib.Dec.{ltb}
use lib.ListN.{length, set, length-set}
use borrow.Author.Tests.{lt-ltb, le-ltb}
use Rattle.model.specs.Basic.{largest, smallest}
use Rattle.model.specs.Limits.{most_stack, most_funcs}
use Rattle.model.specs.Task.{Func, Task, size, count, func, point}
use Rattle.model.specs.Walk.{Met, leads, called, returns, never}
use Rattle.model.specs.Figures as model
use Rattle.theory.proofs.Between.{longest-is, largest-cong, smallest-cong}
use Rattle.theory.proofs.Displacement.{minimax-within, shortest-is, by-return}
use Rattle.theory.proofs.Figures.{Closed}
use Rattle.theory.proofs.Links.{present-holds, call-inside}
use Rattle.theory.proofs.Sheet.{calls-later}
use Rattle.bits.specs.Bits.{set_bits}
use Rattle.tables.specs.declared.Header.{Header}
use Rattle.tables.specs.declared.Span.{Span}
use Rattle.tables.specs.Tables.{item, point_at, span_at, func_in, task_of}
use Rattle.tables.specs.Valid.{Lies, Fits}
use Rattle.tables.proofs.Laws.{func-is, count-is, length-points, point-there, here, elsewhere}
use Rattle.tables.proofs.Valid.{settled-fits}
use Rattle.problems.specs.Problems.{Filled, Blocks, lowest_level}
use Rattle.columns.specs.Columns.{columns_end, high_column, longest_column, shortest_column, level_column, Funcs, OnlyColumns}
use Rattle.columns.specs.Values.{among_funcs, level_at, CallFits}
use Rattle.columns.specs.Displaced.{Ready, Displaced}
use Rattle.columns.proofs.Values.{among-few, level-call, level-none}
use Rattle.columns.proofs.Writes.{changed-none, changed-set, changed-on, changed-wider, funcs-kept}
use Rattle.columns.proofs.Within.{within-ready, within-task, callee-in}
use Rattle.displace.specs.declared.CalleeRange.{CalleeRange}
use Rattle.displace.specs.Range.{most_of, RangeOf}
use Rattle.displace.proofs.Callees.{range-most}
use Rattle.levels.specs.Levels.{level_among, largest_within, shortest_in, level_in, Room, SmallLevels, Levelled, Inserted}
use Rattle.displace.specs.Ordered.{Ordered}
use Rattle.levels.proofs.Laws.{level-low, within-cong}
use Rattle.displace.proofs.Minimax.{level-met, met-level, minimax-is}

-- a column of the functions from m on with one number more in front
funcs-more : {figure : ℕ → ℕ} {a n : ℕ} (w : List ℕ) (f x : ℕ) → a + f < length w → x ≡ figure f → Funcs figure a (f + 1) n w
    → Funcs figure a f n (set w (a + f) x)
funcs-more {figure} {a} w f x h e k =
    record {
      each = λ g m q.
          elim (ℕ_discrete g f) [
            | yes i ↦ rw i (here w (a + f) x h ∙ e)
            | no i ↦ elsewhere w (a + f) (a + g) x (omega arith) ∙ k.each g (omega arith) q
          ];
    }

funcs-apart : {figure : ℕ → ℕ} {a m n : ℕ} (w : List ℕ) (i x : ℕ) → ((g : ℕ) → g < n → a + g < i) → Funcs figure a m n w → Funcs figure a m n (set w i x)
funcs-apart {a = a} w i x h k = record { each = λ g m q. elsewhere w i (a + g) x (omega (arith, h g q)) ∙ k.each g m q }

funcs-behind : {figure : ℕ → ℕ} {a m n : ℕ} (w : List ℕ) (i x : ℕ) → i < a → Funcs figure a m n w → Funcs figure a m n (set w i x)
funcs-behind {a = a} w i x h k = record { each = λ g m q. elsewhere w i (a + g) x (omega arith) ∙ k.each g m q }

largest-none : (d : ℕ → ℕ) → largest d [] ≡ 0
unfolding largest
largest-none d = refl

smallest-none : (d : ℕ → ℕ) → smallest d [] ≡ 0
unfolding smallest
smallest-none d = refl

pub ordered-none : {w : List ℕ} {h : Header} → Ready w h → Ordered w h h.funcs
ordered-none r =
    record {
      displacing = record {
        ready = r;
        away = record { longest = record { each = λ f m n. absurd (omega arith) }; shortest = record { each = λ f m n. absurd (omega arith) } };
      };
      levels = record { each = λ f m n. absurd (omega arith) };
    }

module _ {w : List ℕ} {h : Header} {f : ℕ} (o : Ordered w h (f + 1)) (l : f < h.funcs) where
  abbrev ready : Ready w h
  ready = o.displacing.ready

  -- d of the task
  abbrev d : ℕ → ℕ
  d = model.shortest (task_of w h)

  few : h.funcs ≤ most_funcs
  few = ready.settled.holds.few

  pub ordered-few : f < most_funcs
  ordered-few = omega (arith, l, few)

  in_count : f < count (task_of w h)
  in_count = rw (count-is w h) l

  pub ordered-room : Room (f + 1) h.funcs w
  ordered-room = record { order = omega (arith, l); few = few; long = omega (arith, ready.room) }

  -- the columns have d and the level of the functions behind f
  shortest-there : (g : ℕ) → f + 1 ≤ g → g < h.funcs → shortest_in w g ≡ d g
  shortest-there = o.displacing.away.shortest.each

  level-there : (g : ℕ) → f + 1 ≤ g → g < h.funcs → level_in w g ≡ level_among d (f + 1) h.funcs (d g)
  level-there = o.levels.each

  level-small : (g : ℕ) → f + 1 ≤ g → g < h.funcs → level_in w g < set_bits
  level-small g i j = omega (arith, level-there g i j, level-low d i j, few)

  -- function f as the code has it
  module _ {s : Span} (e : s ≡ span_at w f) where
    pub ordered-fits : Fits w s
    ordered-fits = rw e (settled-fits ready.settled f l)

    callee-here : (p g : ℕ) → p < s.size → called (point_at w (s.base + p)) ≡ some g → (f + 1 ≤ g) × (g < h.funcs)
    callee-here = rw e (λ p g i c. let r = callee-in ready l p g i c in (omega (arith, r.0), r.1))

    pub ordered-calls : Lies w s × (columns_end ≤ length w) × ((p : ℕ) → p < s.size → CallFits w s p)
    ordered-calls = (ordered-fits.lies, omega (arith, ready.room), λ p i g c. omega (arith, (callee-here p g i c).1, few))

    this-func : func (task_of w h) f ≡ func_in w s
    this-func = func-is w h f l ∙ ap (func_in w) (sym e)

    callee-past : (g : ℕ) → Memᴰ g (model.callees (func_in w s)) → (f < g) × (g < h.funcs)
    callee-past g m =
        let i = calls-later ready.settled.formed f g in_count (subst (λ (x : Func). Memᴰ g (model.callees x)) (sym this-func) m) in
        (i.0, rw (count-is w h) at i.1)

    pub longest-here : (r : Option CalleeRange) → RangeOf w s r → s.frame + most_of r ≡ model.longest (task_of w h) f
    longest-here r k =
        ap (λ (m : ℕ). s.frame + m) (range-most w (model.callees (func_in w s)) r k ∙ largest-cong (model.callees (func_in w s))
        (λ g m. let i = callee-past g m in o.displacing.away.longest.each g (omega arith) i.1))
        ∙ sym (subst (λ (x : Func). model.longest (task_of w h) f ≡ x.frame + largest (model.longest (task_of w h)) (model.callees x)) this-func
        (longest-is (task_of w h) (calls-later ready.settled.formed) f in_count))

    closed-here : Closed (func_in w s)
    closed-here p q i m =
        omega (arith, length-points w s.base s.size, ordered-fits.inside p q (omega (arith, length-points w s.base s.size)) m)

    some-point : 0 < size (func_in w s)
    some-point = omega (arith, length-points w s.base s.size, ordered-fits.some)

    shortest-by : model.shortest_by d (func_in w s) ≡ model.shortest (task_of w h) f
    shortest-by =
        sym (subst (λ (x : Func). model.shortest (task_of w h) f ≡ model.shortest_by d x) this-func
        (shortest-is (task_of w h) (calls-later ready.settled.formed) f in_count))

    -- d of a function that calls nothing
    pub leaf-here : model.callees (func_in w s) ≡ [] → s.frame ≡ model.shortest (task_of w h) f
    leaf-here e =
        by-return d (func_in w s) closed-here some-point (λ n. s.frame ≡ n)
        (λ _. omega (arith, minimax-within d (func_in w s) (returns (func_in w s)), ap (largest d) e, largest-none d))
        (λ _. omega (arith, ap (smallest d) e, smallest-none d))
        ∙ shortest-by

    -- the levels of the callees, as the points have them
    module _ {levels₀ levels : List ℕ} (v : Filled (λ p n. n ≡ level_at w s p) s.size levels₀ levels) where
      level-at : (p g : ℕ) → p < s.size → called (point_at w (s.base + p)) ≡ some g → item levels p ≡ level_in w g
      level-at p g i c =
          v.each p i ∙ sym (level-call w s p (among-few c (omega (arith, (callee-here p g i c).1, few))))

      pub levels-low : Blocks s.size levels
      levels-low p i = at (called (point_at w (s.base + p))) refl
        where
          at : (c : maybe.Option ℕ) → called (point_at w (s.base + p)) ≡ c → item levels p ≤ most_stack
          at none c = omega (arith, v.each p i, level-none w s p (ap among_funcs c))
          at (some g) c = let r = callee-here p g i c in omega (arith, level-at p g i c, level-small g r.0 r.1)

      at_calls : (p g : ℕ) → called (point (func_in w s) p) ≡ some g
          → (f + 1 ≤ g) × (g < h.funcs) × (item levels p ≡ level_among d (f + 1) h.funcs (d g))
      at_calls p g c =
          let i : p < s.size = omega (
            arith,
            length-points w s.base s.size,
            call-inside (func_in w s) p ((present-holds (called (point (func_in w s) p))).1 (g, c)),
          ) in
          let k : called (point_at w (s.base + p)) ≡ some g = ap called (sym (point-there w s.base s.size p i)) ∙ c in
          let r = callee-here p g i k in
          (r.0, r.1, level-at p g i k ∙ level-there g r.0 r.1)

      -- the lowest level is found exactly where a walk comes to a return, and is that of the minimax
      abbrev x : Func
      x = func_in w s

      less : h.funcs - (f + 1) < set_bits
      less = omega (arith, few)

      found : Met (leads x) never (returns x) 0 → lowest_level x levels < set_bits
      found = met-level d x closed-here some-point (f + 1) h.funcs less levels at_calls

      returned : lowest_level x levels < set_bits → Met (leads x) never (returns x) 0
      returned = level-met d x closed-here some-point (f + 1) h.funcs less levels at_calls

      within-is : lowest_level x levels < set_bits
          → largest_within (level_in w) (shortest_in w) (f + 1) h.funcs (lowest_level x levels) ≡ model.minimax d x (returns x)
      within-is i =
          within-cong (f + 1) h.funcs (lowest_level x levels) level-there shortest-there
          ∙ sym (minimax-is d x closed-here some-point (f + 1) h.funcs less levels at_calls i)

      pub shortest-here : {level least m : ℕ} → least ≡ smallest (shortest_in w) (model.callees x) → level ≡ lowest_level x levels
          → m ≡ (if ltb level set_bits then largest_within (level_in w) (shortest_in w) (f + 1) h.funcs level else least)
          → s.frame + m ≡ model.shortest (task_of w h) f
      shortest-here {level} {least} {m} i j k =
          by-return d x closed-here some-point (λ n. s.frame + m ≡ n)
          (λ met. let q = found met in ap (λ (n : ℕ). s.frame + n) (k ∙ rw (j, lt-ltb (lowest_level x levels) set_bits q) (within-is q)))
          (λ none.
          let q : set_bits ≤ lowest_level x levels =
          elim (dec_lt (lowest_level x levels) set_bits) [ yes r ↦ absurd (none (returned r)) | no r ↦ omega arith ] in
          ap (λ (n : ℕ). s.frame + n) (k ∙ rw (j, le-ltb (lowest_level x levels) set_bits q) (i ∙ smallest-cong (model.callees x)
          (λ g c. let r = callee-past g c in shortest-there g (omega (arith, r.0)) r.1))))
          ∙ shortest-by

  -- D and d of one function more
  module _ (a b : ℕ) (i : a ≡ model.longest (task_of w h) f) (j : b ≡ model.shortest (task_of w h) f) where
    abbrev written : List ℕ
    written = set (set w (longest_column + f) a) (shortest_column + f) b

    only-columns : OnlyColumns w written
    only-columns =
        changed-set high_column _ (set w (longest_column + f) a) (shortest_column + f) b (omega arith) (omega (arith, ordered-few))
        (changed-set high_column _ w (longest_column + f) a (omega arith) (omega (arith, ordered-few)) (changed-none high_column _ w))

    levels-kept : (g : ℕ) → level_in written g ≡ level_in w g
    levels-kept g =
        elsewhere (set w (longest_column + f) a) (shortest_column + f) (level_column + g) b (omega (arith, ordered-few))
        ∙ elsewhere w (longest_column + f) (level_column + g) a (omega (arith, ordered-few))

    displaced : Displaced (task_of w h) f h.funcs written
    displaced =
        let room = ready.room in
        let v = set w (longest_column + f) a in
        record {
          longest = funcs-apart v (shortest_column + f) b (λ g q. omega (arith, few)) (funcs-more w f a (omega (arith, ordered-few)) i
              o.displacing.away.longest);
          shortest = funcs-more v f b (simp length-set (omega (arith, ordered-few))) j (funcs-behind w (longest_column + f) a (omega (arith, ordered-few))
              o.displacing.away.shortest);
        }

    pub written-room : Room (f + 1) h.funcs written × SmallLevels (f + 1) h.funcs written
    written-room = (
      record { order = omega (arith, l); few = few; long = omega (arith, ready.room, only-columns.size) },
      λ g m n. omega (arith, levels-kept g, level-small g m n),
    )

    -- and its level
    pub ordered-more : {w' : List ℕ} → Inserted f h.funcs written w' → Ordered w' h f × OnlyColumns w w'
    ordered-more {w'} q =
        let c : OnlyColumns w w' = changed-on only-columns (changed-wider high_column _ (omega arith) (omega arith) q.changed) in
        let t : task_of w h ≡ task_of w' h = sym (within-task c ready) in (
          record {
            displacing = record {
              ready = within-ready c ready;
              away = subst (λ (u : Task). Displaced u f h.funcs w') t
                  (record {
                    longest = funcs-kept (λ g m n. q.changed.before (longest_column + g) (omega (arith, few))) displaced.longest;
                    shortest = funcs-kept (λ g m n. q.changed.before (shortest_column + g) (omega (arith, few))) displaced.shortest;
                  });
            };
            levels = subst (λ (u : Task). Levelled (model.shortest u) f h.funcs w') t
                (q.levelled d displaced.shortest (funcs-kept (λ g m n. levels-kept g) o.levels));
          },
          c,
        )
