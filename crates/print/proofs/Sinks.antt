-- Bytes put into any sink, one piece after the other: their room, numbers with a space before each, and pieces for the numbers below n.
use Prim.Native.Nat.{ℕ, ◌+◌, ◌≤◌, ◌<◌}
use native.Mathlib.Omega.{arith}
use mathlib.Core.List.{List, ◌++◌}
use lib.ListN.{length, get_or, take}
use Rattle.model.specs.Basic.{joined, up_to}
use Rattle.model.specs.Text.{bytes}
use Rattle.model.specs.Sheet.{line_text}
use Rattle.print.specs.Print.{spaced}
use Rattle.print.specs.Sink.{SinkLaws}
use Rattle.print.proofs.Laws.{item-next, item-within, line-parts, next-room}

module _ {S : Type 0} {end room : S → ℕ} {Puts : List ℕ → S → S → Type 0} (laws : SinkLaws end room Puts) where
  -- what is left of the room
  pub room-after : (n : ℕ) {w : List ℕ} {s t : S} → end s + length w + n ≤ room s → Puts w s t → end t + n ≤ room t
  room-after n h p = omega (arith, laws.ends _ _ _ p, laws.rooms _ _ _ p)

  pub then : {w v : List ℕ} {s t u : S} → Puts w s t → Puts v t u → Puts (w ++ v) s u
  then p q = laws.more _ _ _ _ _ p q

  -- a piece for each number of a list: none, the room of one more, and one more
  module _ (g : ℕ → List ℕ) (l : List ℕ) where
    pub items-none : (s : S) → end s ≤ room s → Puts (joined g (take 0 l)) s s
    unfolding joined
    items-none s h = laws.nothing s h

    module _ (i : ℕ) {s t : S} (k : i < length l) (p : Puts (joined g (take i l)) s t) where
      pub item-room : end s + length (joined g l) ≤ room s → end t + length (g (get_or l i 0)) ≤ room t
      item-room h = room-after (length (g (get_or l i 0))) (omega (arith, item-within g l i k)) p

      pub item-more : {u : S} → Puts (g (get_or l i 0)) t u → Puts (joined g (take (i + 1) l)) s u
      item-more q = rw (item-next g l i k) (then p q)

  -- a line
  pub line-put : (w l : List ℕ) {s t u v : S} → Puts w s t → Puts (spaced l) t u → Puts (bytes ")\n") u v → Puts (line_text w l) s v
  line-put w l p q r = rw (line-parts w l) (then (then p q) r)

  -- pieces for the numbers below n: the room of one more
  module _ (g : ℕ → List ℕ) where
    pub piece-room : (k n : ℕ) {s t : S} → k < n → end s + length (joined g (up_to n)) ≤ room s → Puts (joined g (up_to k)) s t → end t + length (g k) ≤ room t
    piece-room k n i h p = room-after (length (g k)) (omega (arith, next-room g k n i)) p
