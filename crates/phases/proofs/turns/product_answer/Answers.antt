-- The fronts are whole tables, and the pass over them gives the answer.
use Rattle.std.proofs.Common.{◌-◌, ◌<◌, ◌∙◌, arith}
use native.Mathlib.Nat.{sub-zero}
use Rattle.std.proofs.lemmas.List.{length-take-le}
use Rattle.phases.proofs.TurnSteps.{products_answer}
use Rattle.phases.proofs.turns.product_answer.Goals as goal

pub returns-clause-answer : goal.returns-clause-answer
returns-clause-answer g c F G tables =
    let p = g.M.Modular.modulus in
    let several : 1 < p = omega (arith, g.met.M.Modular.above) in
    let n = c.power-count.result in
    products_answer p several F G c.args.left (n - 0) c.args.v.now c.args.h.now c.args.j.now c.requires.left.0 (sub-zero n ∙ c.power-count.ensures.value) tables
    c.sum_round.result c.sum_round.ensures.values (length-take-le (n - 0) c.args.v.now (omega arith))
