-- From one column to the next, and from one function to the next.
use Prim.Native.Nat.{ℕ, zero, suc, ◌+◌, ◌*◌, ◌≤◌, ◌<◌}
use native.Mathlib.Omega.{arith}
use native.Mathlib.Decide.{dec_le, ℕ_discrete}
use mathlib.Core.List.{List}
use mathlib.Core.Path.{◌≡◌, refl, ap, sym, subst, ◌∙◌}
use lib.ListN.{length}
use Rattle.model.specs.Limits.{most_funcs, most_in_all}
use Rattle.model.specs.Task.{Task}
use Rattle.model.specs.Walk.{calls}
use Rattle.model.specs.Figures as model
use Rattle.tables.specs.declared.Header.{Header}
use Rattle.tables.specs.declared.Span.{Span}
use Rattle.tables.specs.Tables.{item, frame_at, base_at, size_at, span_at, func_of, task_of}
use Rattle.tables.specs.Valid.{Kept}
use Rattle.tables.proofs.Laws.{stacked-within}
use Rattle.tables.proofs.Writes.{points-agree}
use Rattle.problems.specs.Problems.{Filled}
use Rattle.prices.specs.declared.Price.{Price}
use Rattle.prices.specs.Prices.{price_of, Small}
use Rattle.columns.specs.Columns.{columns_end, high_column, entry_column, chain_column, Points, Funcs, Changed, OnlyColumns}
use Rattle.columns.specs.Values.{most_chain, chained_at, Put, raised_by, Raised}
use Rattle.columns.proofs.Writes.{changed-on, changed-wider, changed-agree, points_kept, funcs-kept, stacked-order, changed-past}
use Rattle.figures.specs.Steps.{Figure, High, Dead, Need, Next, Fill}
use Rattle.columns.specs.Displaced.{Ready, Displaced, Displacing}
use Rattle.figures.specs.Figured.{Figured}
use Rattle.figures.specs.Steps.{figure_of, index_of, column_of, point_columns, Figures, Gathered, chain_figure, ChainedTo, FiguredTo, Worked, Done}
use Rattle.figures.specs.Steps.{OnlyPoints, Working, WorkingOn}
use Rattle.figures.proofs.Limits.{chain-low}
use Rattle.figures.proofs.Filed.{filed}
use Rattle.columns.proofs.Within.{within-ready, within-task}
use Rattle.figures.proofs.Gathers.{gathered_none, gathered-kept, gathered-more, chain-of, entry_of}
use Rattle.figures.proofs.Points.{turn-fits, chained-is}

pub index-low : (which : Figure) → index_of which < point_columns
index-low High = omega arith
index-low Dead = omega arith
index-low Need = omega arith
index-low Next = omega arith
index-low Fill = omega arith

-- a figure is known by its index
figure_at : ℕ → Figure
figure_at zero = High
figure_at (suc zero) = Dead
figure_at (suc (suc zero)) = Need
figure_at (suc (suc (suc zero))) = Next
figure_at (suc (suc (suc (suc n)))) = Fill

at-index : (which : Figure) → figure_at (index_of which) ≡ which
unfolding figure_at
at-index High = refl
at-index Dead = refl
at-index Need = refl
at-index Next = refl
at-index Fill = refl

-- D and d that are as they were
displaced-kept : {t : Task} {n : ℕ} {w w' : List ℕ} → n ≤ most_funcs → ((i : ℕ) → high_column + most_in_all * point_columns ≤ i → i < entry_column
    → item w' i ≡ item w i) → Displaced t 0 n w → Displaced t 0 n w'
displaced-kept h same x =
    record {
      longest = funcs-kept (λ f l k. same _ (omega arith) (omega arith)) x.longest;
      shortest = funcs-kept (λ f l k. same _ (omega arith) (omega arith)) x.shortest;
    }

-- D and d are worked out, and no caller has raised anything
pub done_none : {price : Price} {w v w' : List ℕ} {h : Header} → Small price → Displacing w h 0 → Changed chain_column most_funcs w v
    → Funcs (λ g. 0) chain_column 0 most_funcs v → Changed entry_column most_funcs v w' → Funcs (λ g. 0) entry_column 0 most_funcs w'
    → Done price w' h 0 × OnlyColumns w w'
done_none {price} {w} {v} {w'} {h} small d c x b y =
    let few = d.ready.settled.holds.few in
    let i : OnlyColumns w w' =
    changed-on (changed-wider high_column _ (omega arith) (omega arith) c) (changed-wider high_column _ (omega arith) (omega arith) b) in
    let t = within-task i d.ready in (
      record {
        worked = record {
          ready = within-ready i d.ready;
          stands = record {
            away = subst (λ (t : Task). Displaced t 0 h.funcs w') (sym t)
                (displaced-kept few (λ i l k. b.before i k ∙ c.before i (omega arith)) d.away);
            entry = gathered_none _ _ _ _ _ few y;
            below = λ which. record { each = λ f p l k. absurd (omega arith) };
            own = λ which l. absurd (omega (arith, index-low which));
          };
        };
        chained = gathered_none _ _ _ _ _ few (funcs-kept (λ f l k. b.behind (chain_column + f) (omega arith)) x);
        small = small;
      },
      i,
    )

-- the columns of the points are some of the columns, and the chain is none of them
pub points-columns : {w w' : List ℕ} → OnlyPoints w w' → OnlyColumns w w'
points-columns c = changed-wider high_column _ (omega arith) (omega arith) c

pub chained-kept : (price : Price) {w w' : List ℕ} {h : Header} {f : ℕ} → Ready w h → OnlyPoints w w' → ChainedTo price w h f → ChainedTo price w' h f
chained-kept price {w} {w'} {h} {f} r c x =
    subst (λ (t : Task). Gathered t (chain_figure price t) chain_column h.funcs f w') (sym (within-task (points-columns c) r))
    (gathered-kept (λ g l. c.behind (chain_column + g) (omega arith)) x)

-- the column of one figure is written
module _ {w w' v : List ℕ} {h : Header} {f : ℕ} (which : Figure) (x : Worked w h f (suc (index_of which))) (l : f < h.funcs)
    (put : Put (column_of which + base_at w f) (size_at w f) v w w') where
  in-column : base_at w f + size_at w f ≤ most_in_all
  in-column = omega (arith, stacked-within x.ready.settled.holds.stacked f l, x.ready.settled.holds.all)

  put-points : OnlyPoints w w'
  put-points = changed-wider high_column _ (omega arith) (omega (arith, in-column, index-low which)) put.changed

  put-within : OnlyColumns w w'
  put-within = points-columns put-points

  -- the other columns, and the functions before f in this one
  other-column : (other : Figure) (g p : ℕ) → g < f → p < size_at w g → item w' (column_of other + base_at w g + p) ≡ item w (column_of other + base_at w g + p)
  other-column other g p m i =
      let o = stacked-order x.ready.settled.holds.stacked g f m l in
      elim (dec_le (index_of other) (index_of which)) [
        | yes e ↦ put.changed.before _ (omega (arith, o))
        | no e ↦ put.changed.behind _ (omega (arith, in-column))
      ]

  own-column : (other : Figure) → index_of which < index_of other → (p : ℕ) → item w' (column_of other + base_at w f + p) ≡ item w (column_of other + base_at w f + p)
  own-column other e p = put.changed.behind _ (omega (arith, in-column))

  behind-points : (i : ℕ) → high_column + most_in_all * point_columns ≤ i → item w' i ≡ item w i
  behind-points i m = put.changed.behind i (omega (arith, in-column, index-low which))

  pub worked-more : ((p : ℕ) → p < size_at w f → item v p ≡ figure_of which (task_of w h) f p) → Worked w' h f (index_of which) × OnlyPoints w w'
  worked-more new =
      let few = x.ready.settled.holds.few in
      let s = x.stands in
      let a = changed-agree (omega arith) put-within most_funcs (omega arith) in
      let b = a.base f (omega arith) in
      let z = a.size f (omega arith) in (
        record {
          ready = within-ready put-within x.ready;
          stands = subst (λ (t : Task). FiguredTo t h.funcs f (index_of which) w') (sym (within-task put-within x.ready))
              (record {
                away = displaced-kept few (λ i m n. behind-points i m) s.away;
                entry = gathered-kept (λ g m. behind-points _ (omega arith)) s.entry;
                below = λ other. points_kept (omega arith) put-within (omega arith) (other-column other) (s.below other);
                own = λ other m p i.
                    ap (λ (n : ℕ). item w' (column_of other + n + p)) b
                    ∙ elim (ℕ_discrete (index_of other) (index_of which)) [
                      | yes e ↦
                          subst (λ (y : Figure). item w' (column_of y + base_at w f + p) ≡ figure_of y (task_of w h) f p)
                          (sym (at-index which) ∙ (ap figure_at (sym e) ∙ at-index other))
                          (put.each p (omega (arith, z)) ∙ new p (omega (arith, z)))
                      | no e ↦ own-column other (omega arith) p ∙ s.own other (omega arith) p (omega (arith, z))
                    ];
              });
        },
        put-points,
      )

pub turn-of : {w : List ℕ} {h : Header} {f k : ℕ} {s : Span} → Working w h f k → s ≡ span_at w f → WorkingOn w h f k s
turn-of x e = record { begun = x; same = e }

pub put-room : (which : Figure) {w : List ℕ} {h : Header} {f k : ℕ} {s : Span} → WorkingOn w h f k s → column_of which + s.base + s.size ≤ length w
put-room which x = omega (arith, index-low which, (turn-fits x).lies.within, x.begun.worked.ready.room)

pub worked-put : (which : Figure) {w w' v v₀ : List ℕ} {h : Header} {f : ℕ} {s : Span} → WorkingOn w h f (suc (index_of which)) s
    → Figures which (task_of w h) f s.size v₀ v → Put (column_of which + s.base) s.size v w w' → Working w' h f (index_of which) × OnlyPoints w w'
worked-put which {w} {w'} {v} {f = f} {s = s} x y put =
    let r = worked-more which x.begun.worked x.begun.below (subst (λ (s : Span). Put (column_of which + s.base) s.size v w w') x.same put)
    (λ p i. y.filled.each p (omega (arith, ap (λ (s : Span). s.size) x.same))) in
    (record { worked = r.0; below = x.begun.below }, r.1)

-- function f has all its figures, and its callees are raised
module _ (price : Price) {w v w' c e : List ℕ} {h : Header} {f : ℕ} (x : Worked w h f 0) (before : ChainedTo price w h f) (l : f < h.funcs)
    (raised : Raised chain_column (span_at w f) c w v) (last : Raised entry_column (span_at w f) e v w') where
  raise-within : OnlyColumns w w'
  raise-within =
      changed-on (changed-wider high_column _ (omega arith) (omega arith) raised.changed)
      (changed-wider high_column _ (omega arith) (omega arith) last.changed)

  before-raised : (i : ℕ) → i < entry_column → item w' i ≡ item w i
  before-raised i m = last.changed.before i m ∙ raised.changed.before i (omega arith)

  points-all : (which : Figure) → Points (figure_of which (task_of w h)) (column_of which) (f + 1) w
  points-all which =
      record {
        each = λ g p m i.
            elim (ℕ_discrete g f) [
              | yes j ↦ rw j (x.stands.own which (omega arith) p (omega (arith, ap (size_at w) j)))
              | no j ↦ (x.stands.below which).each g p (omega arith) i
            ];
      }

  point-cell : (which : Figure) (g p : ℕ) → g < f + 1 → p < size_at w g → item w' (column_of which + base_at w g + p) ≡ item w (column_of which + base_at w g + p)
  point-cell which g p m i =
      before-raised _ (omega
      (arith, index-low which, stacked-within x.ready.settled.holds.stacked g (omega arith), x.ready.settled.holds.all))

  -- the chains are no numbers that E is raised from
  entry-raised : (g : ℕ) → g < most_funcs → item w' (entry_column + g) ≡ raised_by (calls (func_of w f) g) (item e) (size_at w f) (item w (entry_column + g))
  entry-raised g m =
      let i = raised.changed.before (entry_column + g) (omega arith) in
      let q = points-agree (changed-agree (omega arith) raised.changed 0 (omega arith)) (base_at w f) (size_at w f) (omega
      (arith, stacked-within x.ready.settled.holds.stacked f l, x.ready.settled.holds.all)) in
      last.each g m ∙ (λ j. raised_by (calls (record { frame = frame_at w f; points = q j }) g) (item e) (size_at w f) (i j))

  pub done_next : {c₀ e₀ : List ℕ} → Small price
      → Filled (λ p n. n ≡ chained_at w (span_at w f) (item w (chain_column + f)) price p) (size_at w f) c₀ c
      → Filled (λ p n. n ≡ item w (high_column + base_at w f + p)) (size_at w f) e₀ e
      → Done price w' h (f + 1) × OnlyColumns w w'
  done_next small y z =
      let r = x.ready in
      let s = x.stands in
      let few = r.settled.holds.few in
      let same = sym (within-task raise-within r) in
      let own = chain-of r price before f l (omega arith) (omega arith) in (
        record {
          worked = record {
            ready = within-ready raise-within r;
            stands = subst (λ (t : Task). FiguredTo t h.funcs (f + 1) point_columns w') same
                (record {
                  away = displaced-kept few (λ i m n. before-raised i n) s.away;
                  entry = gathered-more r e l entry-raised (λ p g m q. z.each p m ∙ s.own High (omega arith) p m) s.entry;
                  below = λ which. points_kept (omega arith) raise-within (omega arith) (point-cell which) (points-all which);
                  own = λ which m. absurd (omega (arith, index-low which));
                });
          };
          chained = subst (λ (t : Task). Gathered t (chain_figure price t) chain_column h.funcs (f + 1) w') same
              (gathered-kept {w = v} (λ g m. last.changed.behind _ (omega arith)) (gathered-more r c l raised.each
              (λ p g m q.
              y.each p m
              ∙ (chained-is r l price (λ p i. s.own Fill (omega arith) p i) (item w (chain_column + f)) p g m q
              ∙ ap (λ (n : ℕ). n + price_of price (model.kept (task_of w h) f (suc p))) own)) before));
          small = small;
        },
        raise-within,
      )

pub done-raised : (price : Price) {w v w' c c₀ e e₀ : List ℕ} {h : Header} {f : ℕ} {s : Span} → Small price → WorkingOn w h f 0 s → ChainedTo price w h f
    → Raised chain_column s c w v → Raised entry_column s e v w' → Filled (λ p n. n ≡ chained_at w s (item w (chain_column + f)) price p) s.size c₀ c
    → Filled (λ p n. n ≡ item w (high_column + s.base + p)) s.size e₀ e → Done price w' h (f + 1) × OnlyColumns w w'
done-raised price {w} {v} {w'} {c} {c₀} {e} {e₀} {f = f} small x before raised last y z =
    done_next price x.begun.worked before x.begun.below (subst (λ (s : Span). Raised chain_column s c w v) x.same raised)
    (subst (λ (s : Span). Raised entry_column s e v w') x.same last) small
    (subst (λ (s : Span). Filled (λ p n. n ≡ chained_at w s (item w (chain_column + f)) price p) s.size c₀ c) x.same y)
    (subst (λ (s : Span). Filled (λ p n. n ≡ item w (high_column + s.base + p)) s.size e₀ e) x.same z)

-- the chain of function f, from which it raises those of its callees
pub own-chain : (price : Price) {w : List ℕ} {h : Header} {f k : ℕ} → Small price → Working w h f k → ChainedTo price w h f
    → item w (chain_column + f) ≤ most_chain
own-chain price {f = f} small x before =
    let r = x.worked.ready in
    omega (
      arith,
      chain-of r price before f x.below (omega arith) (omega (arith, x.below)),
      chain-low r.settled.formed.shaped price small f,
      r.settled.holds.few,
      x.below,
    )

-- every function has all its figures
pub all-figured : (price : Price) {w w' : List ℕ} {h : Header} → Ready w h → OnlyColumns w w' → Done price w' h h.funcs
    → Figured price w' h × (task_of w' h ≡ task_of w h) × Kept columns_end w w'
all-figured price r c d =
    let x = d.worked in
    let s = x.stands in (
      filed price x.ready d.small s.away (record { each = λ g m n. entry_of x.ready s.entry g n (omega arith) (omega arith) })
          (record { each = λ g m n. chain-of x.ready price d.chained g n (omega arith) (omega arith) }) s.below,
      within-task c r,
      changed-past c,
    )
