-- The price of a move that has a start is a price of moves. With start 0 and each 1 it is the count of blocks, and the figures, the report and the
-- run are those of document 01.
use Prim.Native.Nat.{ℕ, suc, ◌+◌, ◌-◌, ◌*◌, ◌≤◌}
use mathlib.Core.Bool.{true}
use mathlib.Core.List.{List}
use mathlib.Core.Option.{Option, none, some}
use mathlib.Core.Path.{◌≡◌, refl, ap}
use native.Mathlib.Omega.{arith}
use native.Mathlib.Nat.{mul-le-mul_left}
use lib.Dec.{eqb, eqb→eq, T_not}
use lib.ListN.{length}
use Rattle.model.specs.declared.Eviction.TheVariants.{Eager}
use Rattle.model.specs.declared.Refusal.{Refusal}
use Rattle.model.specs.Task.{Task, func}
use Rattle.model.specs.Limits.{work_length}
use Rattle.model.specs.Basic.{◌or_else◌}
use Rattle.model.specs.Figures.{dead, need, fill, high, spill, kept_next, over_calls}
use Rattle.model.specs.Sheet.{Sheet, move_price, in_blocks, costed, priced_sheet, sheet_of, report_text}
use Rattle.model.specs.Refusal.{work_row, price_row, priced_rows, no_rows}
use Rattle.model.specs.Services.{written_of, report_of, blocks_report_of, run_with, run_of, blocks_run_of}
use Rattle.model.specs.WellFormed.{WellFormed}
use Rattle.theory.proofs.Lists.{by-test}
use Rattle.theory.proofs.Between.{chain-is}
use Rattle.theory.proofs.Sheet.{calls-later}
use Rattle.theory.specs.Sound.{Price}

-- what is so of 0 where no block moves, and of a start and each block where some do, is so of the price
pub by-price : (start each n : ℕ) (P : ℕ → Type 0) → (n ≡ 0 → P 0) → ((n ≡ 0 → ⊥) → P (start + each * n)) → P (move_price start each n)
unfolding move_price
by-price start each n P a b =
    by-test P (eqb n 0) (λ h. a (eqb→eq n 0 h)) (λ h. b (λ e. T_not (eqb n 0) h (rw e tt)))

pub price-moves : (start each : ℕ) → Price (move_price start each)
price-moves start each = record {
  none = by-price start each 0 (λ a. a ≡ 0) (λ e. refl) (λ e. absurd (e refl));
  more = λ m n h.
      by-price start each m (λ a. a ≤ move_price start each n) (λ e. omega arith)
      (λ e. by-price start each n (λ b. start + each * m ≤ b) (λ f. absurd (e (omega arith))) (λ f. omega (arith, mul-le-mul_left each h)));
  parts = λ m n.
      by-price start each (m + n) (λ c. c ≤ move_price start each m + move_price start each n) (λ e. omega arith)
      (λ e. by-price start each m (λ a. start + each * (m + n) ≤ a + move_price start each n)
      (λ f. by-price start each n (λ b. start + each * (m + n) ≤ 0 + b) (λ g. absurd (e (omega (arith, f, g)))) (λ g. rw f (omega arith)))
      (λ f. by-price start each n (λ b. start + each * (m + n) ≤ start + each * m + b) (λ g. rw g (omega arith)) (λ g. omega arith)));
}

-- ---- start 0 and each 1

-- a count of blocks is a price of moves
pub counted-price : Price in_blocks
counted-price = record { none = refl; more = λ m n h. h; parts = λ m n. omega arith }

pub moves-blocks : move_price 0 1 ≡ in_blocks
moves-blocks = λ i n. by-price 0 1 n (λ m. m ≡ n) (λ e. omega arith) (λ e. omega arith) i

pub sheet-blocks : (t : Task) → priced_sheet (move_price 0 1) t ≡ sheet_of t
sheet-blocks t = ap (λ (price : ℕ → ℕ). priced_sheet price t) moves-blocks

-- they are in their range
rows-blocks : (asked work : ℕ) → priced_rows asked work 0 1 ≡ work_row asked work
unfolding price_row
rows-blocks asked work = go (work_row asked work)
  where
    go : (o : Option Refusal) → (o or_else none) ≡ o
    go none = refl
    go (some r) = refl

-- the report, with once and the total, and the run are those of document 01, for every text and every buffer
pub report-blocks : (text work output : List ℕ) → report_of text 0 1 work output ≡ blocks_report_of text work output
report-blocks text work output =
    λ i. written_of (rows-blocks work_length (length work) i) (report_text true (moves-blocks i)) text work output

pub run-blocks : (text work events answers cache memory : List ℕ) → run_of Eager text 0 1 work events answers cache memory
    ≡ blocks_run_of text work events answers cache memory
run-blocks text work events answers cache memory =
    λ i. run_with Eager (priced_sheet (moves-blocks i)) (rows-blocks work_length (length work) i) no_rows text work events answers cache memory

-- the formulas of document 01
pub record InBlocks (t : Task) (s : Sheet) : Type 0 where
  pub spill : (f : ℕ) → s.spill f ≡ spill t f
  pub chain : (f : ℕ) → s.chain f ≡ over_calls t f (λ h p. s.chain h + ((func t h).frame - fill t h (suc p)))
  pub save : (f p : ℕ) → (s.at f p).save ≡ high t f p - dead (func t f) p
  pub reload : (f p : ℕ) → (s.at f p).reload ≡ need (func t f) p - dead (func t f) p
  pub later : (f p : ℕ) → (s.at f p).later ≡ kept_next t f p - need (func t f) p
  pub cost : (f p : ℕ) → (s.at f p).cost ≡ (s.at f p).save + (s.at f p).reload + (s.at f p).later + s.chain f
  pub fill : (f p : ℕ) → (s.at f p).fill ≡ fill t f p

pub in_blocks_lem : (t : Task) → WellFormed t → InBlocks t (sheet_of t)
unfolding costed
in_blocks_lem t w = record {
  spill = λ f. refl;
  chain = chain-is t (calls-later w) in_blocks;
  save = λ f p. refl;
  reload = λ f p. refl;
  later = λ f p. refl;
  cost = λ f p. refl;
  fill = λ f p. refl;
}
