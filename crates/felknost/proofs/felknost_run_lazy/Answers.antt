-- Nothing happens, or run_lazy does and its result is written.
use native.Mathlib.Omega.{arith}
use Rattle.model.specs.declared.Eviction.TheVariants.{Lazy}
use mathlib.Core.Path.{◌≡◌}
use Rattle.model.specs.Services.{AfterRun, run_result_numbers, run_left, called, run_buffers, run_numbers}
use Rattle.felknost.proofs.Laws.{too_few, enough, and-bounded}
use Rattle.felknost.proofs.felknost_run_lazy.Goals as goal

pub returns-then-res-lt-RUN : goal.returns-then-res-lt-RUN
returns-then-res-lt-RUN c =
    let a = c.args in
    let e : called 0 a.res.now (run_buffers a.work.now a.answers.now a.cache.now a.memory.now)
    ≡ run_numbers Lazy a.text.now a.start a.each a.work.now a.events.now a.answers.now a.cache.now a.memory.now a.res.now =
    too_few _ _ _ _ (omega (arith, c.if-res-lt-RUN.true)) in
    let h = and-bounded Lazy a.text.now a.start a.each a.work.now a.events.now a.answers.now a.cache.now a.memory.now a.res.now e in
    record { left = h.0; demand_3 = h.1 }

pub returns : goal.returns
returns c =
    let a = c.args in
    let n = c.run_lazy-lazy.new in
    let p = rw c.verdict_of.ensures at c.put_numbers.ensures in
    let e : called 1 c.put_numbers.new.res (run_buffers n.work n.answers n.cache n.memory)
    ≡ run_numbers Lazy a.text.now a.start a.each a.work.now a.events.now a.answers.now a.cache.now a.memory.now a.res.now =
    enough (λ (r : AfterRun). run_result_numbers r.result) run_left _ _ c.run_lazy-lazy.ensures.left (omega (arith, c.if-res-lt-RUN.false)) p in
    let h = and-bounded Lazy a.text.now a.start a.each a.work.now a.events.now a.answers.now a.cache.now a.memory.now a.res.now e in
    record { left = h.0; demand_3 = h.1 }
