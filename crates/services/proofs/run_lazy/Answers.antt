-- A lazy run; demand 3, that its core is clean, and what once pays follow from what it leaves.
use Rattle.model.specs.declared.Eviction.TheVariants.{Lazy}
use Rattle.running.proofs.Events.{run_holds}
use Rattle.services.proofs.Laws.{run-numbers}
use Rattle.services.proofs.run_lazy.Goals as goal

pub returns : goal.returns
returns c =
    let a = c.args in
    let h = run_holds Lazy a.text.now a.start a.each a.work.now a.events.now a.answers.now a.cache.now a.memory.now c.run_on.ensures in
    record { left = h.0; numbers = run-numbers h.1.0; demand_3 = h.1.0; clean = h.1.1.0; once = h.1.1.1 }
