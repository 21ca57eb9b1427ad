-- The two sinks: a count of bytes, and a buffer that they are written into.
use Rattle.std.specs.Prelude.{ℕ, ◌+◌, ◌≤◌, ◌≡◌, ◌^◌, List, length}
use mathlib.Core.Path.{◌∙◌, refl}
use native.Mathlib.Omega.{arith}
use lib.ListN.{length-append}
use Rattle.print.specs.declared.Counter.{Counter}
use Rattle.print.specs.declared.Writer.{Writer}
use Rattle.print.specs.Print.{Wrote}
use Rattle.print.specs.Sink.{SinkLaws}
use Rattle.print.specs.Wrote.{wrote_nothing, wrote_on, wrote-length}

-- how far a count goes
abbrev pub most_counted : ℕ
most_counted = 2 ^ 32

pub record Counted (w : List ℕ) (s t : Counter) : Type 0 where
  pub count : t.count ≡ s.count + length w
  pub low : t.count ≤ most_counted

pub counter_laws : SinkLaws (λ (s : Counter). s.count) (λ (s : Counter). most_counted) Counted
counter_laws = record {
  ends = λ w s t p. p.count;
  rooms = λ w s t p. (refl, p.low);
  nothing = λ s h. record { count = omega arith; low = h };
  more = λ w v s t u p q. record { count = omega (arith, p.count, q.count, length-append w v); low = q.low };
}

-- the same buffer, whose bytes from the end on are then these
pub record Written (w : List ℕ) (s t : Writer) : Type 0 where
  pub same : t.out.ghost_name ≡ s.out.ghost_name
  pub within : s.end + length w ≤ length s.out.now
  pub wrote : Wrote s.end w s.out.now t.end t.out.now

pub writer_laws : SinkLaws (λ (s : Writer). s.end) (λ (s : Writer). length s.out.now) Written
writer_laws = record {
  ends = λ w s t p. p.wrote.end;
  rooms = λ w s t p. let e = wrote-length p.within p.wrote in (e, omega (arith, e, p.wrote.end, p.within));
  nothing = λ s h. record { same = refl; within = omega arith; wrote = wrote_nothing s.end s.out.now };
  more = λ w v s t u p q. record {
    same = q.same ∙ p.same;
    within = omega (arith, length-append w v, p.wrote.end, wrote-length p.within p.wrote, q.within);
    wrote = wrote_on (omega (arith, p.within)) p.wrote q.wrote;
  };
}
