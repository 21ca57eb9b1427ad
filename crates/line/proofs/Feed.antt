-- A text is cut at its first line feed: what it begins with, read by words that end in a line feed, is what the line before that line feed is.
use Rattle.std.specs.Prelude.{if◌then◌else◌, Some, None}
use Prim.Native.Nat.compare
use Prim.Native.Nat.{ℕ, zero, suc, ◌+◌, ◌≤◌}
use mathlib.Core.Path.{◌≡◌, refl, sym, ap, ◌∙◌}
use mathlib.Core.Bool.{Bool, true, false, not, ◌&&◌, and-false, and_assoc}
use mathlib.Core.List.{List, [], ◌∷◌, ◌++◌, append-nil, append_assoc}
use mathlib.Core.Option.{Option, none, some}
use native.Mathlib.Decide.{ℕ_discrete}
use native.Mathlib.Omega.{arith}
use lib.ListN.{length, drop, length-append, length-drop}
use lib.Seq.{take-append-le, drop-append-le, drop-append-add, drop-drop}
use lib.Dec.{eqb, leb}
use borrow.Author.Tests.{not-true, eqb-false, ne_eqb, lt-leb, leb-true}
use Rattle.model.specs.Text.{starts, same, is_digit, digits, is_number, number_of, after_number, line_of, lines_from, lines_of}
use Rattle.model.specs.Text.{number_then, one_number, with_first, numbers_then, two_numbers}
use Rattle.model.specs.declared.Line.{Line}
use Rattle.model.specs.declared.Line.TheVariants.{Malformed}
use Rattle.scan.specs.Answers.{Num, Pair, scan_number, later, scan_one, second, scan_second, scan_two}
use Rattle.scan.proofs.Laws.{if-same, if-by, both, starts-fits, digits-fit, ends, one-fits}
use Rattle.line.specs.Lines.{First, first_is}
use Rattle.line.specs.Patterns.{◌↵◌}

-- texts without a line feed

abbrev pub no_feed : List ℕ → Bool
no_feed [] = true
no_feed (b ∷ s) = not (eqb b 10) && no_feed s

module _ (b : ℕ) (s : List ℕ) where
  no-first : no_feed (b ∷ s) ≡ true → b ≡ 10 → ⊥
  no-first p = eqb-false b 10 (not-true (eqb b 10) (both (not (eqb b 10)) (no_feed s) p).0)

  no-rest : no_feed (b ∷ s) ≡ true → no_feed s ≡ true
  no-rest p = (both (not (eqb b 10)) (no_feed s) p).1

  no_more : (b ≡ 10 → ⊥) → no_feed s ≡ true → no_feed (b ∷ s) ≡ true
  no_more n p = rw (ne_eqb b 10 n) p

no_drop : (n : ℕ) (s : List ℕ) → no_feed s ≡ true → no_feed (drop n s) ≡ true
no_drop zero s p = p
no_drop (suc n) [] p = refl
no_drop (suc n) (b ∷ s) p = no_drop n s (no-rest b s p)

-- a text has no line feed, or is a line, a line feed and a text
pub by-feed :
    (P : List ℕ → Type 0) → ((s : List ℕ) → no_feed s ≡ true → P s) → ((l t : List ℕ) → no_feed l ≡ true → P (l ↵ t)) → (s : List ℕ) → P s
by-feed P f g [] = f [] refl
by-feed P f g (b ∷ s) =
    elim (ℕ_discrete b 10) [
      | yes e ↦ rw e (g [] s refl)
      | no n ↦ by-feed (λ r. P (b ∷ r)) (λ r p. f (b ∷ r) (no_more b r n p)) (λ l t p. g (b ∷ l) t (no_more b l n p)) s
    ]

-- lines

lines-byte : (l : List ℕ) (b : ℕ) (s : List ℕ) → lines_from l (b ∷ s) ≡ if eqb b 10 then line_of l ∷ lines_from [] s else lines_from (l ++ (b ∷ [])) s
unfolding lines_from
lines-byte [] b s = refl
lines-byte (a ∷ l) b s = refl

lines-feed : (a l t : List ℕ) → no_feed l ≡ true → lines_from a (l ↵ t) ≡ line_of (a ++ l) ∷ lines_of t
lines-feed a [] t p = lines-byte a 10 t ∙ rw (append-nil a)
lines-feed a (b ∷ l) t p =
    lines-byte a b (l ↵ t) ∙ rw (ne_eqb b 10 (no-first b l p), ← append_assoc a (b ∷ []) l) (lines-feed (a ++ (b ∷ [])) l t (no-rest b l p))

-- the first line of a text without a line feed is malformed, if there is one
pub lines-off : (test : Line → Bool) → test Malformed ≡ false → (a s : List ℕ) → no_feed s ≡ true → first_is test (lines_from a s) ≡ false
unfolding lines_from
lines-off test m [] [] p = refl
lines-off test m (a ∷ l) [] p = m
lines-off test m l (b ∷ s) p = rw (lines-byte l b s, ne_eqb b 10 (no-first b s p)) (lines-off test m (l ++ (b ∷ [])) s (no-rest b s p))

pub first-line : (l t : List ℕ) → no_feed l ≡ true → First (l ↵ t) (line_of l) (length l + 1)
first-line l t p = record {
  some = omega arith;
  within = rw (length-append l (10 ∷ t)) (omega arith);
  lines = lines-feed [] l t p ∙ rw (drop-append-add l (10 ∷ t) 1);
}

-- words

-- a word without a line feed
starts-feed : (w l t : List ℕ) → no_feed w ≡ true → starts w (l ↵ t) ≡ starts w l
unfolding starts
starts-feed [] l t p = refl
starts-feed (a ∷ w) [] t p = rw (ne_eqb a 10 (no-first a w p))
starts-feed (a ∷ w) (b ∷ l) t p = ap (λ x. eqb a b && x) (starts-feed w l t (no-rest a w p))

-- a word that ends in a line feed
pub starts-line : (e l t : List ℕ) → no_feed e ≡ true → no_feed l ≡ true → starts (e ↵ []) (l ↵ t) ≡ same e l
unfolding starts
starts-line [] [] t p q = refl
starts-line [] (b ∷ l) t p q = rw (ne_eqb 10 b (λ h. no-first b l q (sym h)), lt-leb (length (b ∷ l)) 0 (omega arith))
starts-line (a ∷ e) [] t p q = rw (ne_eqb a 10 (no-first a e p))
starts-line (a ∷ e) (b ∷ l) t p q =
    rw (starts-line e l t (no-rest a e p) (no-rest b l q), compare.suc-suc (length l) (length e))
    (sym (and_assoc (eqb a b) (starts e l) (leb (length l) (length e))))

pub starts_none : (e s : List ℕ) → no_feed s ≡ true → starts (e ↵ []) s ≡ false
unfolding starts
starts_none [] [] p = refl
starts_none [] (b ∷ s) p = rw (ne_eqb 10 b (λ h. no-first b s p (sym h)))
starts_none (a ∷ e) [] p = refl
starts_none (a ∷ e) (b ∷ s) p = rw (starts_none e s (no-rest b s p)) (and-false (eqb a b))

pub same_length : (w s : List ℕ) → same w s ≡ true → length s ≡ length w
same_length w s h =
    let b = both (starts w s) (leb (length s) (length w)) h in
    omega (arith, starts-fits w s b.0, leb-true (length s) (length w) b.1)

-- numbers

digits-feed : (l t : List ℕ) → digits (l ↵ t) ≡ digits l
unfolding digits
digits-feed [] t = refl
digits-feed (b ∷ l) t = ap (λ n. if is_digit b then suc n else 0) (digits-feed l t)

number-feed : (l t : List ℕ) → is_number (l ↵ t) ≡ is_number l
unfolding digits
number-feed [] t = refl
number-feed (b ∷ l) t = rw (digits-feed (b ∷ l) t)

value-feed : (l t : List ℕ) → number_of (l ↵ t) ≡ number_of l
value-feed l t = rw (digits-feed l t, take-append-le (digits l) l (10 ∷ t) (digits-fit l))

after-feed : (l t : List ℕ) → after_number (l ↵ t) ≡ after_number l ↵ t
after-feed l t = rw (digits-feed l t) (drop-append-le (digits l) l (10 ∷ t) (digits-fit l))

-- the number of a line, with the bytes that the line takes
abbrev pub with_bytes : ℕ → Option ℕ → Num
with_bytes k none = None
with_bytes k (some n) = Some (n, k)

number-line : (e l t : List ℕ) → no_feed e ≡ true → no_feed l ≡ true → scan_number (e ↵ []) (l ↵ t) ≡ with_bytes (length l + 1) (number_then e l)
unfolding scan_number number_then
number-line e l t p q =
    let e' = starts-line e (after_number l) t p (no_drop (digits l) l q) in
    rw (number-feed l t, value-feed l t, after-feed l t, digits-feed l t, e', length-append e (10 ∷ []))
    (if-by (with_bytes (length l + 1)) (is_number l && same e (after_number l)) (λ h. ap (λ k. Some (number_of l, k)) (omega (arith, fits h))) refl)
  where
    fits : is_number l && same e (after_number l) ≡ true → digits l + length e ≡ length l
    fits h = omega (arith, digits-fit l, length-drop (digits l) l, same_length e (after_number l) (both (is_number l) (same e (after_number l)) h).1)

number-feeds : (m l t : List ℕ) → no_feed m ≡ true → scan_number m (l ↵ t) ≡ scan_number m l
unfolding scan_number
number-feeds m l t p = rw (number-feed l t, value-feed l t, after-feed l t, digits-feed l t, starts-feed m (after_number l) t p)

number-none : (e s : List ℕ) → no_feed s ≡ true → scan_number (e ↵ []) s ≡ None
unfolding scan_number
number-none e s p = rw (starts_none e (after_number s) (no_drop (digits s) s p), and-false (is_number s))

later-bytes : (x : Option ℕ) (a b c : ℕ) → a + b ≡ c → later a (with_bytes b x) ≡ with_bytes c x
later-bytes none a b c h = refl
later-bytes (some n) a b c h = rw h

module _ (w e : List ℕ) where
  pub one_none : (s : List ℕ) → no_feed s ≡ true → scan_one w (e ↵ []) s ≡ None
  unfolding scan_one
  one_none s p = rw (number-none e (drop (length w) s) (no_drop (length w) s p)) (if-same (starts w s) None)

  module _ (l t : List ℕ) (p : no_feed w ≡ true) (q : no_feed e ≡ true) where
    pub one_line : no_feed l ≡ true → scan_one w (e ↵ []) (l ↵ t) ≡ with_bytes (length l + 1) (one_number w e l)
    unfolding scan_one one_number
    one_line r =
        rw (starts-feed w l t p)
        (if-by (with_bytes (length l + 1)) (starts w l) (λ h.
        rw (drop-append-le (length w) l (10 ∷ t) (starts-fits w l h), number-line e (drop (length w) l) t q (no_drop (length w) l r))
        (later-bytes (number_then e (drop (length w) l)) _ _ _ (omega (arith, length-drop (length w) l, starts-fits w l h)))) refl)

    one-feeds : scan_one w e (l ↵ t) ≡ scan_one w e l
    unfolding scan_one
    one-feeds =
        rw (starts-feed w l t p)
        (if-by (λ (x : Num). x) (starts w l) (λ h.
        rw (drop-append-le (length w) l (10 ∷ t) (starts-fits w l h), number-feeds e (drop (length w) l) t q)) refl)

-- two numbers

-- the two numbers of a line, with the bytes that the line takes
abbrev pub pair_with_bytes : ℕ → Option (ℕ × ℕ) → Pair
pair_with_bytes k none = None
pair_with_bytes k (some n) = Some (n.0, n.1, k)

second-bytes : (x : Option ℕ) (n a b c : ℕ) → a + b ≡ c → second n a (with_bytes b x) ≡ pair_with_bytes c (with_first n x)
second-bytes none n a b c h = refl
second-bytes (some m) n a b c h = rw h

-- the two numbers of a line of which the first is found
abbrev second_of : List ℕ → List ℕ → Num → Option (ℕ × ℕ)
second_of e l None = none
second_of e l (Some x) = with_first x.0 (number_then e (drop x.1 l))

module _ (w m e : List ℕ) where
  pub two_none : (s : List ℕ) → no_feed s ≡ true → scan_two w m (e ↵ []) s ≡ None
  unfolding scan_two
  two_none s p = go (scan_one w m s)
    where
      go : (x : Num) → scan_second (e ↵ []) s x ≡ None
      go None = refl
      go (Some x) = rw (number-none e (drop x.1 s) (no_drop x.1 s p))

  two-by : (l : List ℕ) → two_numbers w m e l ≡ second_of e l (scan_one w m l)
  unfolding two_numbers numbers_then scan_number scan_one
  two-by l =
      let d = drop (length w) l in
      if-by (second_of e l) (starts w l) (λ h.
      if-by (λ x. second_of e l (later (length w) x)) (is_number d && starts m (after_number d)) (λ k.
      rw (drop-drop (length m) (digits d) d, drop-drop (digits d + length m) (length w) l)) refl) refl

  pub two-line :
      (l t : List ℕ) → no_feed w ≡ true → no_feed m ≡ true → no_feed e ≡ true → no_feed l ≡ true
      → scan_two w m (e ↵ []) (l ↵ t) ≡ pair_with_bytes (length l + 1) (two_numbers w m e l)
  unfolding scan_two
  two-line l t p q r o = rw (two-by l, one-feeds w m l t p q) (go (scan_one w m l) (one-fits w m l))
    where
      go : (x : Num) → ends x ≤ length l → scan_second (e ↵ []) (l ↵ t) x ≡ pair_with_bytes (length l + 1) (second_of e l x)
      go None h = refl
      go (Some x) h =
          let k = x.1 in
          rw (drop-append-le k l (10 ∷ t) h, number-line e (drop k l) t r (no_drop k l o))
          (second-bytes (number_then e (drop k l)) x.0 _ _ _ (rw (length-drop k l) (omega arith)))
