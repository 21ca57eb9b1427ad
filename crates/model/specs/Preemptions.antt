-- Where the events done preempt a task, and what the sheet allows besides: the words of request 7 of document 02 for a list with exactly one preemption.
use Rattle.std.specs.Prelude.{ℕ, suc, List, [], ◌∷◌, ◌++◌}
use Rattle.std.proofs.Math.Option.{Option, none, some}
use Rattle.model.specs.declared.Refusal.{Refusal}
use Rattle.model.specs.Task.{Task}
use Rattle.model.specs.Sheet.{Sheet, charging}
use Rattle.model.specs.Refusal.{event_rows}
use Rattle.model.specs.Plain.{Event, Act, takes, preempted, act, Frame, running, after_event, first_frames}
use Rattle.model.specs.Run.{Place, allowed}

-- the point at which an event preempts, none where it takes a step
unfoldable pub preempted_at : List Frame → Act → List Place
preempted_at [] a = []
preempted_at (x ∷ fs) (takes v) = []
preempted_at (x ∷ fs) (preempted v) = record { fn = x.fn; at = x.at } ∷ []

abbrev pub or_preempted : Option Refusal → List Place → List Place → List Place
or_preempted (some r) l rest = []
or_preempted none l rest = l ++ rest

-- of the events done, from number i on, at these frames of the plain stack
unfoldable pub preemptions_from : Task → ℕ → List Frame → List Event → List Place
preemptions_from t i fs [] = []
preemptions_from t i fs (e ∷ es) =
    or_preempted
    (event_rows i e.kind e.value (running t fs))
    (preempted_at fs (act e))
    (preemptions_from t (suc i) (after_event t fs (act e)) es)

abbrev pub preemptions : Task → List Event → List Place
preemptions t es = preemptions_from t 0 (first_frames t) es

-- the spills and fills on the sheet: what it allows where preemptions cost nothing
abbrev pub spills_and_fills : Task → Sheet → List Event → ℕ
spills_and_fills t s es = allowed t (charging (λ f p. 0) s) es
