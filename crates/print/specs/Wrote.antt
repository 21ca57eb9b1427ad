-- Laws of a buffer that bytes are written into, one piece after the other: what the laws of a writer rest on.
use Prim.Native.Nat.{ℕ, ◌+◌, ◌≤◌}
use mathlib.Core.Path.{◌≡◌, sym, ap, ◌∙◌}
use mathlib.Core.List.{List, [], ◌++◌, append_assoc}
use native.Mathlib.Nat.{add-zero}
use native.Mathlib.Omega.{arith}
use lib.ListN.{length, take, drop, length-append, length-drop, take-append-drop}
use lib.Seq.{length-take-le, take_at, drop_at, drop-drop}
use Rattle.print.specs.Print.{pasted, Wrote}

-- what stands before the end of the bytes written, and after it
length-head : (at : ℕ) (w out : List ℕ) → at ≤ length out → length (take at out ++ w) ≡ at + length w
length-head at w out h = omega (arith, length-append (take at out) w, length-take-le at out h)

take-pasted : (at : ℕ) (w out : List ℕ) → at ≤ length out → take (at + length w) (pasted at w out) ≡ take at out ++ w
unfolding pasted
take-pasted at w out h =
    rw (← append_assoc (take at out) w (drop (at + length w) out))
    (take_at (take at out ++ w) (drop (at + length w) out) (at + length w) (length-head at w out h))

drop-pasted : (at : ℕ) (w out : List ℕ) → at ≤ length out → drop (at + length w) (pasted at w out) ≡ drop (at + length w) out
unfolding pasted
drop-pasted at w out h =
    rw (← append_assoc (take at out) w (drop (at + length w) out))
    (drop_at (take at out ++ w) (drop (at + length w) out) (at + length w) (length-head at w out h))

drop-further : (at n : ℕ) (w out : List ℕ) → at ≤ length out → drop (at + length w + n) (pasted at w out) ≡ drop (at + length w + n) out
drop-further at n w out h =
    sym (drop-drop n (at + length w) (pasted at w out)) ∙ ap (drop n) (drop-pasted at w out h) ∙ drop-drop n (at + length w) out

-- bytes written after others
pub pasted-more : (at : ℕ) (w v out : List ℕ) → at ≤ length out → pasted (at + length w) v (pasted at w out) ≡ pasted at (w ++ v) out
unfolding pasted
pasted-more at w v out h =
    let end = at + length w in
    let e : at + length (w ++ v) ≡ end + length v = omega (arith, length-append w v) in
    ap (λ (l : List ℕ). l ++ (v ++ drop (end + length v) (pasted at w out))) (take-pasted at w out h)
    ∙ ap (λ (l : List ℕ). take at out ++ w ++ (v ++ l)) (drop-further at (length v) w out h)
    ∙ rw (e, append_assoc w v (drop (end + length v) out)) (append_assoc (take at out) w (v ++ drop (end + length v) out))

-- the same from what two writers say: w ends at e and leaves o, v leaves o'
pasted-on : (at e : ℕ) (w v out o o' : List ℕ) → at ≤ length out → e ≡ at + length w → o ≡ pasted at w out → o' ≡ pasted e v o
    → o' ≡ pasted at (w ++ v) out
pasted-on at e w v out o o' h k p q = q ∙ rw (k, p) (pasted-more at w v out h)

pub wrote_on : {at e r : ℕ} {w v out o o' : List ℕ} → at ≤ length out → Wrote at w out e o → Wrote e v o r o' → Wrote at (w ++ v) out r o'
wrote_on {at} {e} {r} {w} {v} {out} {o} {o'} h a b =
    record {
      end = omega (arith, a.end, b.end, length-append w v);
      buffer = pasted-on at e w v out o o' h a.end a.buffer b.buffer;
    }

-- the buffer keeps its length
pub wrote-length : {at r : ℕ} {w out o : List ℕ} → at + length w ≤ length out → Wrote at w out r o → length o ≡ length out
unfolding pasted
wrote-length {at} {w = w} {out} h a =
    ap length a.buffer ∙ simp (length-append, length-drop) (omega (arith, length-take-le at out (omega arith)))

pub wrote_nothing : (at : ℕ) (out : List ℕ) → Wrote at [] out at out
unfolding pasted
wrote_nothing at out = record { end = omega arith; buffer = rw (add-zero at) (sym (take-append-drop at out)) }
