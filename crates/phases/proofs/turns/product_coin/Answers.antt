-- Each of the three tables is halved.
use Rattle.std.proofs.Common.{◌-◌, ◌<◌, ◌∙◌, arith}
use native.Mathlib.Nat.{sub-zero}
use Rattle.phases.proofs.TurnSteps.{fixed_by}
use Rattle.phases.proofs.turns.product_coin.Goals as goal

pub returns-clause-v : goal.returns-clause-v
returns-clause-v g c =
    let p = g.M.Modular.modulus in
    let several : 1 < p = omega (arith, g.met.M.Modular.above) in
    let n = c.power-count.result in
    fixed_by p several c.args.left (n - 0) c.args.coin c.args.v.now c.fix_first.new.table _ c.requires.left.0 (sub-zero n ∙ c.power-count.ensures.value)
    (omega arith) c.fix_first.ensures.words c.fix_first.ensures.reduced

pub returns-clause-h : goal.returns-clause-h
returns-clause-h g c =
    let p = g.M.Modular.modulus in
    let several : 1 < p = omega (arith, g.met.M.Modular.above) in
    let n = c.power-count.result in
    fixed_by p several c.args.left (n - 0) c.args.coin c.args.h.now c.fix_first-2.new.table _ c.requires.left.0 (sub-zero n ∙ c.power-count.ensures.value)
    (omega arith) c.fix_first-2.ensures.words c.fix_first-2.ensures.reduced

pub returns-clause-j : goal.returns-clause-j
returns-clause-j g c =
    let p = g.M.Modular.modulus in
    let several : 1 < p = omega (arith, g.met.M.Modular.above) in
    let n = c.power-count.result in
    fixed_by p several c.args.left (n - 0) c.args.coin c.args.j.now c.fix_first-3.new.table _ c.requires.left.0 (sub-zero n ∙ c.power-count.ensures.value)
    (omega arith) c.fix_first-3.ensures.words c.fix_first-3.ensures.reduced
