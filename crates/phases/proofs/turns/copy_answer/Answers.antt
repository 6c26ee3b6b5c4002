-- The fronts are whole tables, and the pass over them gives the answer.
use Rattle.std.proofs.Common.{◌≡◌, ℕ, ◌+◌, ◌-◌, ◌*◌, ◌^◌, ◌<◌, sym, ap, ◌∙◌, arith, pow-add}
use native.Mathlib.Nat.{sub-zero}
use Rattle.std.proofs.lemmas.List.{length-take-le}
use Rattle.circuits.specs.Views.{layer_seen, size_seen, places_below}
use Rattle.phases.proofs.StartsRead.{reduced_end}
use Rattle.phases.proofs.TurnSteps.{copies_answer}
use Rattle.phases.proofs.turns.copy_answer.Goals as goal

pub sum_copies-requires-clause-values : goal.sum_copies-requires-clause-values
sum_copies-requires-clause-values g c =
    let layer = c.args.layer in
    let count = c.power-2.result in
    let all = c.power-3.result in
    let ea : all - 0 ≡ 2 ^ c.args.left * 2 ^ places_below layer =
    sub-zero all ∙ c.power-3.ensures.value ∙ ap (λ (n : ℕ). 2 ^ (c.args.left + n)) c.size_below.ensures.value ∙ pow-add 2 c.args.left (places_below layer) in
    let lh = length-take-le (count - 0) c.args.h.now (omega arith) ∙ sub-zero count ∙ c.power-2.ensures.value in
    let lv = length-take-le (all - 0) c.args.v.now (omega arith) ∙ ea in
    (lv ∙ ap (λ (n : ℕ). n * 2 ^ places_below layer) (sym lh), reduced_end g.M.Modular.modulus _ (all - 0) c.args.v.now (sym ea) c.requires.values)

pub returns-clause-answer : goal.returns-clause-answer
returns-clause-answer g c k X point tables =
    let p = g.M.Modular.modulus in
    let several : 1 < p = omega (arith, g.met.M.Modular.above) in
    let layer = c.args.layer in
    let m : ℕ = places_below layer in
    let left = c.args.left in
    let gates = c.power.result in
    let count = c.power-2.result in
    let all = c.power-3.result in
    let eg : gates - 0 ≡ 2 ^ size_seen layer = sub-zero gates ∙ c.power.ensures.value ∙ ap (λ (n : ℕ). 2 ^ n) c.size.ensures.value in
    let ec : count - 0 ≡ 2 ^ left = sub-zero count ∙ c.power-2.ensures.value in
    let ea : all - 0 ≡ 2 ^ (left + m) = sub-zero all ∙ c.power-3.ensures.value ∙ ap (λ (n : ℕ). 2 ^ (left + n)) c.size_below.ensures.value in
    copies_answer p several (layer_seen layer) m k X point left (gates - 0) (count - 0) (all - 0) c.args.v.now c.args.w.now c.args.h.now
    c.requires.left.0 eg ec ea tables c.sum_copies.result c.sum_copies.ensures.values (length-take-le (count - 0) c.args.h.now (omega arith))
