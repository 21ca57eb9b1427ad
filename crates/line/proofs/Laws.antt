-- The first line of a text by its patterns. A byte rules out every pattern whose opening word has another byte there.
use Rattle.std.specs.Prelude.{if◌then◌else◌, Some, None}
use Prim.Native.Nat.{ℕ, ◌+◌, ◌<◌}
use mathlib.Core.Path.{◌≡◌, refl, sym, ap, ◌∙◌}
use mathlib.Core.Bool.{Bool, true, false, ◌&&◌}
use mathlib.Core.List.{List, [], ◌∷◌}
use mathlib.Core.Option.{Option, none, some}
use native.Mathlib.Decide.{ℕ_discrete}
use native.Mathlib.Omega.{arith}
use lib.ListN.{length, get_or}
use lib.Dec.{eqb}
use borrow.Author.Tests.{eqb-false, ne_eqb}
use Rattle.model.specs.Basic.{◌or_else◌, first_of, select}
use Rattle.model.specs.Text.{bytes, starts, same, one_number, two_numbers, or_one, or_two, point_form, line_of, lines_of}
use Rattle.model.specs.declared.Point.{Point}
use Rattle.model.specs.declared.Line.{Line}
use Rattle.model.specs.declared.Line.TheVariants.{Stack, Func, At, Close, Malformed}
use Rattle.scan.specs.Answers.{Num, Pair, scan_one, scan_two}
use Rattle.scan.proofs.Laws.{both, starts-off, starts-short, one-off, one-short, two-by}
use Rattle.line.specs.Lines.{First, is_stack, is_func, is_inside, first_is, StackAs, FuncAs}
use Rattle.line.specs.Patterns.{Pattern, fixed, one, two, Parse, parse_fixed, parse_one, parse_two, ◌↵◌, parse, parse_by, points, stack, func, close, lines}
use Rattle.line.proofs.Feed.{no_feed, by-feed, lines-off, first-line, starts-line, starts_none, same_length}
use Rattle.line.proofs.Feed.{with_bytes, pair_with_bytes, one_none, one_line, two_none, two-line}

-- a pattern is left only if its opening word has the text's byte at a place

-- what a text begins with that has a line of the pattern
abbrev pub opening : Pattern → List ℕ
opening (fixed w l) = w ↵ []
opening (one w e f) = w
opening (two w m e f) = w

parse-off : (p : Pattern) (s : List ℕ) → starts (opening p) s ≡ false → parse p s ≡ none
parse-off (fixed w l) s h = rw h
parse-off (one w e f) s h = rw (← one-off w (e ↵ []) s h)
parse-off (two w m e f) s h = rw (← two-by w m (e ↵ []) s _ (one-off w m s h))

or-none : (x : Parse) → (x or_else none) ≡ x
or-none none = refl
or-none (some x) = refl

-- elements that give no answer may be left out
first-select :
    {A B : Type 0} (f : A → Option B) (t : A → Bool) → ((a : A) → t a ≡ false → f a ≡ none) → (l : List A) → first_of f (select t l) ≡ first_of f l
unfolding first_of select
first-select f t h [] = refl
first-select f t h (a ∷ l) = go (t a) refl (first-select f t h l)
  where
    go : (b : Bool) → t a ≡ b → first_of f (select t l) ≡ first_of f l → first_of f (if b then a ∷ select t l else select t l) ≡ (f a or_else first_of f l)
    go true e i = ap (λ y. f a or_else y) i
    go false e i = rw (h a e) i

-- the patterns that the byte b at the place i leaves
abbrev pub leaves : ℕ → ℕ → List Pattern → List Pattern
leaves i b ps = select (λ p. eqb (get_or (opening p) i b) b) ps

by_byte : (i : ℕ) (s : List ℕ) (ps : List Pattern) → parse_by (leaves i (get_or s i 0) ps) s ≡ parse_by ps s
by_byte i s = first-select _ _ (λ p e. parse-off p s (starts-off (opening p) s i (eqb-false _ _ e)))

-- the byte b at the place i leaves the patterns qs, the pattern p, or none
module _ (i b : ℕ) (s : List ℕ) (e : get_or s i 0 ≡ b) (ps : List Pattern) where
  pub left-some : (qs : List Pattern) → leaves i b ps ≡ qs → parse_by qs s ≡ parse_by ps s
  left-some qs h = rw (← h, ← e) (by_byte i s ps)

  pub left_one : (p : Pattern) → leaves i b ps ≡ p ∷ [] → parse p s ≡ parse_by ps s
  unfolding first_of
  left_one p h = sym (or-none (parse p s)) ∙ left-some (p ∷ []) h

  pub left-none : leaves i b ps ≡ [] → none ≡ parse_by ps s
  unfolding first_of
  left-none h = left-some [] h

-- a line of the pattern has so many bytes at least
abbrev least : Pattern → ℕ
least (fixed w l) = length (w ↵ [])
least (one w e f) = length w + length (e ↵ []) + 1
least (two w m e f) = length w + length m + 1

parse-short : (p : Pattern) (s : List ℕ) → length s < least p → parse p s ≡ none
parse-short (fixed w l) s h = parse-off (fixed w l) s (starts-short (w ↵ []) s h)
parse-short (one w e f) s h = rw (one-short w (e ↵ []) s (omega arith))
parse-short (two w m e f) s h = rw (← two-by w m (e ↵ []) s _ (sym (one-short w m s (omega arith))))

-- no pattern fits, each for a reason of its own
abbrev Each : (Pattern → Type 0) → List Pattern → Type 0
Each P [] = Unit {0}
Each P (p ∷ ps) = P p × Each P ps

none_each : (P : Pattern → Type 0) (s : List ℕ) → ((p : Pattern) → P p → parse p s ≡ none) → (ps : List Pattern) → Each P ps → none ≡ parse_by ps s
unfolding first_of
none_each P s f [] h = refl
none_each P s f (p ∷ ps) h = rw (f p h.0) (none_each P s f ps h.1)

pub none_left : (i : ℕ) (s : List ℕ) (ps : List Pattern) → Each (λ p. get_or (opening p) i (get_or s i 0) ≡ get_or s i 0 → ⊥) ps → none ≡ parse_by ps s
none_left i s = none_each _ s (λ p h. parse-off p s (starts-off (opening p) s i h))

pub none-short : (s : List ℕ) (ps : List Pattern) → Each (λ p. length s < least p) ps → none ≡ parse_by ps s
none-short s = none_each _ s (λ p h. parse-short p s h)

-- a text without a line feed

parse-none : (p : Pattern) (s : List ℕ) → no_feed s ≡ true → parse p s ≡ none
parse-none (fixed w l) s p = rw (starts_none w s p)
parse-none (one w e f) s p = rw (one_none w e s p)
parse-none (two w m e f) s p = rw (two_none w m e s p)

by-none : (ps : List Pattern) (s : List ℕ) → no_feed s ≡ true → parse_by ps s ≡ none
unfolding first_of
by-none [] s p = refl
by-none (q ∷ ps) s p = rw (parse-none q s p) (by-none ps s p)

-- a line l before its line feed, which a pattern reads, or which is q

-- the pattern has no line feed
abbrev clean : Pattern → Bool
clean (fixed w l) = no_feed w
clean (one w e f) = no_feed w && no_feed e
clean (two w m e f) = no_feed w && (no_feed m && no_feed e)

abbrev clean_all : List Pattern → Bool
clean_all [] = true
clean_all (p ∷ ps) = clean p && clean_all ps

abbrev line_by : List Pattern → List ℕ → Line
line_by [] l = Malformed
line_by (fixed w q ∷ ps) l = if same w l then q else line_by ps l
line_by (one w e f ∷ ps) l = or_one (one_number w e l) f (line_by ps l)
line_by (two w m e f ∷ ps) l = or_two (two_numbers w m e l) f (line_by ps l)

-- an answer says that the line is q and takes k bytes; no answer, that it is malformed
abbrev Says : ℕ → Line → Parse → Type 0
Says k q none = q ≡ Malformed
Says k q (some x) = (q ≡ x.0) × (k ≡ x.1)

module _ (k : ℕ) (q : Line) (y : Parse) (h : Says k q y) where
  says-one : (f : ℕ → Line) (x : Option ℕ) → Says k (or_one x f q) (parse_one f (with_bytes k x) or_else y)
  says-one f none = h
  says-one f (some n) = (refl, refl)

  says_two : (f : ℕ → ℕ → Line) (x : Option (ℕ × ℕ)) → Says k (or_two x f q) (parse_two f (pair_with_bytes k x) or_else y)
  says_two f none = h
  says_two f (some n) = (refl, refl)

  says-fixed : (l : Line) (n : ℕ) (b : Bool) → (b ≡ true → k ≡ n) → Says k (if b then l else q) (parse_fixed l n b or_else y)
  says-fixed l n true e = (refl, e refl)
  says-fixed l n false e = h

says : (l t : List ℕ) → no_feed l ≡ true → (ps : List Pattern) → clean_all ps ≡ true → Says (length l + 1) (line_by ps l) (parse_by ps (l ↵ t))
unfolding first_of
says l t o [] c = refl
says l t o (fixed w q ∷ ps) c =
    let b = both (no_feed w) (clean_all ps) c in
    rw (starts-line w l t b.0 o)
    (says-fixed _ _ _ (says l t o ps b.1) q (length w + 1) (same w l) (λ h. omega (arith, same_length w l h)))
says l t o (one w e f ∷ ps) c =
    let b = both (no_feed w && no_feed e) (clean_all ps) c in
    let a = both (no_feed w) (no_feed e) b.0 in
    rw (one_line w e l t a.0 a.1 o) (says-one _ _ _ (says l t o ps b.1) f (one_number w e l))
says l t o (two w m e f ∷ ps) c =
    let b = both (no_feed w && (no_feed m && no_feed e)) (clean_all ps) c in
    let a = both (no_feed w) (no_feed m && no_feed e) b.0 in
    let d = both (no_feed m) (no_feed e) a.1 in
    rw (two-line w m e l t a.0 d.0 d.1 o) (says_two _ _ _ (says l t o ps b.1) f (two_numbers w m e l))

-- the first line of a text, by the answer for all patterns

abbrev Read : List ℕ → Parse → Type 0
Read s none = (test : Line → Bool) → test Malformed ≡ false → first_is test (lines_of s) ≡ false
Read s (some x) = First s x.0 x.1

line-of : (l : List ℕ) → line_of l ≡ line_by lines l
unfolding line_of point_form
line-of l = refl

read : (s : List ℕ) → Read s (parse_by lines s)
read = by-feed (λ s. Read s (parse_by lines s)) last line
  where
    last : (s : List ℕ) → no_feed s ≡ true → Read s (parse_by lines s)
    last s p = rw (by-none lines s p) (λ test m. lines-off test m [] s p)

    line : (l t : List ℕ) → no_feed l ≡ true → Read (l ↵ t) (parse_by lines (l ↵ t))
    line l t p = go (parse_by lines (l ↵ t)) (rw (← line-of l) at (says l t p lines refl))
      where
        go : (x : Parse) → Says (length l + 1) (line_of l) x → Read (l ↵ t) x
        go none h = λ test m. rw (first-line l t p).lines (ap test h ∙ m)
        go (some x) h = rw (h.0, h.1) at (first-line l t p)

-- a text begins with one of the patterns qs, of which the byte b at the place i leaves no other
found :
    (i b : ℕ) (s : List ℕ) (qs : List Pattern) (x : Line × ℕ) → leaves i b lines ≡ qs → ((y : ℕ) → (b ≡ y → ⊥) → leaves i y qs ≡ [])
    → some x ≡ parse_by qs s → First s x.0 x.1
found i b s qs x h k e =
    elim (ℕ_discrete b (get_or s i 0)) [
      | yes j ↦ rw (sym (e ∙ left-some i b s (sym j) lines qs h)) at (read s)
      | no n ↦ let z = e ∙ sym (left-none i (get_or s i 0) s refl qs (k _ n)) in let y : ◌≡◌ {A = ℕ} 0 1 = cc in absurd (omega arith)
    ]

found-one :
    (i b : ℕ) (s : List ℕ) (p : Pattern) (x : Line × ℕ) → leaves i b lines ≡ p ∷ [] → ((y : ℕ) → (b ≡ y → ⊥) → leaves i y (p ∷ []) ≡ [])
    → some x ≡ parse p s → First s x.0 x.1
unfolding first_of
found-one i b s p x h k e = found i b s (p ∷ []) x h k (e ∙ sym (or-none (parse p s)))

-- a test that no line of some patterns passes

abbrev passes : (Line → Bool) → Parse → Bool
passes test none = false
passes test (some x) = test x.0

module _ (test : Line → Bool) where
  fails-or : (x y : Parse) → passes test x ≡ false → passes test y ≡ false → passes test (x or_else y) ≡ false
  fails-or none y h k = k
  fails-or (some x) y h k = h

  fails-fixed : (b : Bool) (l : Line) (k : ℕ) → test l ≡ false → passes test (parse_fixed l k b) ≡ false
  fails-fixed true l k h = h
  fails-fixed false l k h = refl

  fails-one : (x : Num) (f : ℕ → Line) → ((n : ℕ) → test (f n) ≡ false) → passes test (parse_one f x) ≡ false
  fails-one (Some x) f h = h x.0
  fails-one None f h = refl

  fails-two : (x : Pair) (f : ℕ → ℕ → Line) → ((p q : ℕ) → test (f p q) ≡ false) → passes test (parse_two f x) ≡ false
  fails-two (Some x) f h = h x.0 x.1
  fails-two None f h = refl

  Never : Pattern → Type 0
  Never (fixed w l) = test l ≡ false
  Never (one w e f) = (n : ℕ) → test (f n) ≡ false
  Never (two w m e f) = (p q : ℕ) → test (f p q) ≡ false

  never : (p : Pattern) (s : List ℕ) → Never p → passes test (parse p s) ≡ false
  unfolding Never
  never (fixed w l) s h = fails-fixed (starts (w ↵ []) s) l (length w + 1) h
  never (one w e f) s h = fails-one (scan_one w (e ↵ []) s) f h
  never (two w m e f) s h = fails-two (scan_two w m (e ↵ []) s) f h

  fails : (ps : List Pattern) (s : List ℕ) → Each Never ps → passes test (parse_by ps s) ≡ false
  unfolding first_of
  fails [] s h = refl
  fails (p ∷ ps) s h = fails-or (parse p s) (parse_by ps s) (never p s h.0) (fails ps s h.1)

  fails-points : ((x : Point) → test (At x) ≡ false) → Each Never points
  unfolding Never
  fails-points h = (λ n. h _, (λ n. h _, (λ n. h _, (λ n. h _, (λ n. h _, (λ p q. h _, (h _, tt)))))))

  not_first : test Malformed ≡ false → (s : List ℕ) → passes test (parse_by lines s) ≡ false → first_is test (lines_of s) ≡ false
  not_first m s = go (parse_by lines s) (read s)
    where
      go : (x : Parse) → Read s x → passes test x ≡ false → first_is test (lines_of s) ≡ false
      go none r h = r test m
      go (some x) r h = rw r.lines h

-- what each reader says

pub stack-as : (r : Num) (s : List ℕ) → r ≡ scan_one (bytes "(stack ") (bytes ")\n") s → StackAs r s
unfolding first_of select Never
stack-as (Some x) s e = found-one 1 115 s stack (Stack x.0, x.1) refl (λ y n. rw (ne_eqb 115 y n)) (ap (parse_one Stack) e)
stack-as None s e =
    not_first is_stack refl s (rw (← e) (fails is_stack (func ∷ close ∷ points) s (λ n. refl, (refl, fails-points is_stack (λ x. refl)))))

pub func-as : (r : Num) (s : List ℕ) → r ≡ scan_one (bytes "(func ") (bytes "\n") s → FuncAs r s
unfolding first_of select Never
func-as (Some x) s e = found-one 1 102 s func (Func x.0, x.1) refl (λ y n. rw (ne_eqb 102 y n)) (ap (parse_one Func) e)
func-as None s e =
    not_first is_func refl s (rw (← e) (fails is_func (stack ∷ close ∷ points) s (λ n. refl, (refl, fails-points is_func (λ x. refl)))))

pub point-as : (x : Point) (k : ℕ) (s : List ℕ) → some (At x, k) ≡ parse_by points s → First s (At x) k
unfolding select
point-as x k s e = found 0 32 s points (At x, k) refl (λ y n. rw (ne_eqb 32 y n)) e

pub close-as : (s : List ℕ) → starts (bytes ")\n") s ≡ true → First s Close 2
unfolding select
close-as s e = found-one 0 41 s close (Close, 2) refl (λ y n. rw (ne_eqb 41 y n)) (rw e)

pub other-as : (s : List ℕ) → none ≡ parse_by points s → starts (bytes ")\n") s ≡ false → first_is is_inside (lines_of s) ≡ false
unfolding first_of Never
other-as s e h =
    not_first is_inside refl s (rw (← e, h) (fails is_inside (stack ∷ func ∷ []) s (λ n. refl, (λ n. refl, tt))))
