-- What it means that bytes were put into a sink, and what every sink keeps to.
use Rattle.std.specs.Prelude.{ℕ, ◌+◌, ◌≤◌, ◌≡◌, List, [], ◌++◌, length}

-- end: how many bytes were put so far; room: how many it takes; Puts w s t: the bytes w were put into s, which is then t
pub record SinkLaws {S : Type 0} (end room : S → ℕ) (Puts : List ℕ → S → S → Type 0) : Type 0 where
  pub ends : (w : List ℕ) (s t : S) → Puts w s t → end t ≡ end s + length w
  pub rooms : (w : List ℕ) (s t : S) → Puts w s t → (room t ≡ room s) × (end t ≤ room t)
  pub nothing : (s : S) → end s ≤ room s → Puts [] s s
  pub more : (w v : List ℕ) (s t u : S) → Puts w s t → Puts v t u → Puts (w ++ v) s u
