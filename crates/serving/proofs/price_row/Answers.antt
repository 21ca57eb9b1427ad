-- Each test in its order, by its law.
use mathlib.Core.Path.{refl}
use native.Mathlib.Omega.{arith}
use Rattle.serving.proofs.Before.{start-high, each_none, each-high, price-passes}
use Rattle.serving.proofs.price_row.Goals as goal

pub returns-then-price-gt-START : goal.returns-then-price-gt-START
returns-then-price-gt-START c =
    let p = c.args.price in
    start-high p.start p.each (omega arith) c.refusal.ensures

pub returns-then-price-eq0 : goal.returns-then-price-eq0
returns-then-price-eq0 c =
    let p = c.args.price in
    each_none p.start p.each (omega arith) (omega arith) c.refusal-then-price-eq0.ensures

pub returns-then-price-gt-EACH : goal.returns-then-price-gt-EACH
returns-then-price-gt-EACH c =
    let p = c.args.price in
    each-high p.start p.each (omega arith) (omega arith) (omega arith) c.refusal-then-price-gt-EACH.ensures

pub returns : goal.returns
returns c =
    let p = c.args.price in
    price-passes p.start p.each (omega arith) (omega arith) (omega arith) refl
