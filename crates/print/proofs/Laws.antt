-- Laws of a buffer that bytes are written into, and of the lengths of a number in decimal and of a line of them.
use Prim.Native.Nat.{ℕ, zero, suc, ◌+◌, ◌*◌, ◌/◌, ◌%◌, ◌^◌, ◌≤◌, ◌<◌, zero-le}
use mathlib.Core.Path.{◌≡◌, refl, sym, ap, ◌∙◌}
use mathlib.Core.List.{List, [], ◌∷◌, ◌++◌, append_assoc}
use native.Mathlib.Numerals.{add-one}
use native.Mathlib.Nat.{zero-add, pow-succ'}
use native.Mathlib.Decide.{dec_lt}
use native.Mathlib.Omega.{arith}
use borrow.Rule.Slice.PartMut.{put_mid}
use lib.ListN.{length, get_or, take, drop, set, length-append, length-set, take-append-drop}
use lib.Seq.{length-take-le, take-suc, append_snoc, drop_at, take-set-le, drop-drop, set_split}
use Rattle.model.specs.Basic.{joined, count_from, up_to}
use Rattle.model.specs.Text.{bytes}
use Rattle.model.specs.Sheet.{decimal, line_text}
use Rattle.model.specs.Services.{over}
use Rattle.theory.proofs.Lists.{joined-append, joined_snoc, joined-next, length-joined, sum_room}
use Rattle.theory.proofs.Decimal.{decimal-small, decimal-large, length-small, length-large}
use Rattle.print.specs.Wrote.{wrote_on, wrote-length}
use Rattle.print.specs.Print.{pasted, Wrote, spaced}

-- a buffer that bytes are written into

-- from its first byte on
pub pasted-start : (w out : List ℕ) → pasted 0 w out ≡ over w out
unfolding pasted over
pasted-start w out = ap (λ (n : ℕ). w ++ drop n out) (zero-add (length w))

-- bytes copied over a part of the buffer
pub copied : (at k : ℕ) (w v out : List ℕ) → v ≡ w → k ≡ length w → put_mid at k out v ≡ pasted at w out
unfolding pasted
copied at k w v out e i = rw (e, i, drop-drop (length w) at out)

-- one byte
pasted-one : (at d : ℕ) (out : List ℕ) → at < length out → set out at d ≡ pasted at (d ∷ []) out
unfolding pasted
pasted-one at d out h = rw add-one (set_split out at d h)

pub wrote-over : (w out : List ℕ) {o : List ℕ} {r : ℕ} → Wrote 0 w out r o → (r ≡ length w) × (o ≡ over w out)
wrote-over w out x = (omega (arith, x.end), x.buffer ∙ pasted-start w out)

pub wrote-within : (w out : List ℕ) {o : List ℕ} {r : ℕ} → 0 + length w ≤ length out → Wrote 0 w out r o → r ≤ length o
wrote-within w out h x = omega (arith, x.end, wrote-length h x)

-- what stands from a byte on that was written
pub drop-set : (i d : ℕ) (out : List ℕ) → i < length out → drop i (set out i d) ≡ d ∷ drop (suc i) out
drop-set i d out h =
    ap (drop i) (set_split out i d h)
    ∙ drop_at (take i out) (d ∷ drop (suc i) out) i (length-take-le i out (omega arith))

-- the last byte written before the others
pasted-last : (at i d : ℕ) (w out : List ℕ) → i ≡ at + length w → i < length out
    → pasted at w (set out i d) ≡ pasted at (w ++ (d ∷ [])) out
unfolding pasted
pasted-last at i d w out e h =
    let l : at + length (w ++ (d ∷ [])) ≡ suc i = omega (arith, length-append w (d ∷ [])) in
    rw (← e, l, drop-set i d out h, take-set-le at out i d (omega arith), append_snoc w d (drop (suc i) out))

-- a number below 10 ^ (k + 1) has at most k + 1 digits
pub digits-most : (k m : ℕ) → m < 10 ^ suc k → length (decimal m) ≤ suc k
digits-most zero m h = omega (arith, length-small m h)
digits-most (suc k) m h =
    elim (dec_lt m 10) [
      | yes i ↦ omega (arith, length-small m i)
      | no i ↦
          let l = digits-most k (m / 10) (omega (arith, pow-succ' 10 (suc k))) in
          omega (arith, length-large m (omega arith))
    ]

-- a number of 32 bits has at most ten
pub decimal-most : (m : ℕ) → m < 2 ^ 32 → length (decimal m) ≤ 10
decimal-most m h = digits-most 9 m (omega arith)

-- a number that is written from its last digit on

pub number-last : (at i m : ℕ) (out : List ℕ) → 10 ≤ m → i + 1 ≡ at + length (decimal m) → i < length out
    → pasted at (decimal (m / 10)) (set out i (48 + m % 10)) ≡ pasted at (decimal m) out
number-last at i m out h e l =
    pasted-last at i (48 + m % 10) (decimal (m / 10)) out (omega (arith, length-large m h)) l
    ∙ ap (λ (w : List ℕ). pasted at w out) (sym (decimal-large m h))

pub number-first : (at i m : ℕ) (out : List ℕ) → m < 10 → i + 1 ≡ at + length (decimal m) → i < length out → set out i (48 + m) ≡ pasted at (decimal m) out
number-first at i m out h e l =
    let z : i ≡ at = omega (arith, length-small m h) in
    rw (z, decimal-small m h) (pasted-one at (48 + m) out (omega arith))

-- a number of one digit, and one of two
pub wrote_one : (at m : ℕ) (out : List ℕ) → m < 10 → at + length (decimal m) ≤ length out → Wrote at (decimal m) out (at + 1) (set out at (48 + m))
wrote_one at m out h l =
    let e = length-small m h in
    record { end = omega arith; buffer = number-first at at m out h (omega arith) (omega arith) }

pub wrote-two : (at m : ℕ) (out : List ℕ) → 10 ≤ m → m < 100 → at + length (decimal m) ≤ length out
    → Wrote at (decimal m) out (at + 2) (set (set out (at + 1) (48 + m % 10)) at (48 + m / 10))
wrote-two at m out h k l =
    let e = length-large m h in
    let d = length-small (m / 10) (omega arith) in
    let o = set out (at + 1) (48 + m % 10) in
    record {
      end = omega arith;
      buffer =
          number-first at at (m / 10) o (omega arith) (omega arith) (omega (arith, length-set out (at + 1) (48 + m % 10)))
          ∙ number-last at (at + 1) m out h (omega arith) (omega arith);
    }

-- bytes with a space before them
pub spaced-wrote : (at : ℕ) {r : ℕ} {w out o : List ℕ} → at < length out → Wrote (at + 1) w (set out at 32) r o → Wrote at (bytes " " ++ w) out r o
spaced-wrote at {out = out} h x = wrote_on (omega arith) (record { end = refl; buffer = pasted-one at 32 out h }) x

-- a piece for each number of a list: one more, and that it lies before the end of all
module _ (g : ℕ → List ℕ) (l : List ℕ) (i : ℕ) where
  pub item-next : i < length l → joined g (take (i + 1) l) ≡ joined g (take i l) ++ g (get_or l i 0)
  item-next h = rw (add-one, take-suc l i 0 h) (joined_snoc g (take i l) (get_or l i 0))

  items-first : (k : ℕ) → length (joined g (take k l)) ≤ length (joined g l)
  items-first k =
      let e = ap (λ (r : List ℕ). length (joined g r)) (take-append-drop k l) in
      let f = ap length (joined-append g (take k l) (drop k l)) in
      omega (arith, length-append (joined g (take k l)) (joined g (drop k l)))

  pub item-within : i < length l → length (joined g (take i l)) + length (g (get_or l i 0)) ≤ length (joined g l)
  item-within h =
      omega (arith, ap length (item-next h), length-append (joined g (take i l)) (g (get_or l i 0)), items-first (i + 1))

-- pieces for the numbers below n: no piece, and a piece lies before the end of all
module _ (g : ℕ → List ℕ) where
  pub none-length : length (joined g (up_to 0)) ≡ 0
  unfolding joined count_from
  none-length = refl

  pub next-wrote : {at e r : ℕ} (n : ℕ) {out o o' : List ℕ} → at ≤ length out → Wrote at (joined g (up_to n)) out e o → Wrote e (g n) o r o'
      → Wrote at (joined g (up_to (n + 1))) out r o'
  next-wrote n h a b = rw (joined-next g n) (wrote_on h a b)

  pub next-room : (k n : ℕ) → k < n → length (joined g (up_to k)) + length (g k) ≤ length (joined g (up_to n))
  next-room k n h = omega (arith, length-joined g (up_to k), length-joined g (up_to n), sum_room (λ i. length (g i)) k n h)

-- a line of the report

pub line-parts : (w l : List ℕ) → line_text w l ≡ w ++ spaced l ++ bytes ")\n"
unfolding line_text
line-parts w l = sym (append_assoc w (spaced l) (bytes ")\n"))

pub length-line : (w l : List ℕ) → length (line_text w l) ≡ length w + length (spaced l) + 2
length-line w l = omega (arith, ap length (line-parts w l), length-append (w ++ spaced l) (bytes ")\n"), length-append w (spaced l))

-- a number of 32 bits takes at most eleven bytes of a line
pub spaced-most : (l : List ℕ) → ((i : ℕ) → get_or l i 0 < 2 ^ 32) → length (spaced l) ≤ 11 * length l
unfolding joined
spaced-most [] h = zero-le
spaced-most (a ∷ l) h =
    omega (arith, length-append (bytes " " ++ decimal a) (spaced l), decimal-most a (h 0), spaced-most l (λ i. h (suc i)))

pub line-most : (w l : List ℕ) → ((i : ℕ) → get_or l i 0 < 2 ^ 32) → length (line_text w l) ≤ length w + 11 * length l + 2
line-most w l h = omega (arith, length-line w l, spaced-most l h)
