-- The calls leave what the sum over the copies is about.
use Rattle.std.proofs.Common.{◌≡◌, ℕ, ◌*◌, ◌^◌, ◌<◌, ◌≤◌, T, List, length, take, sym, ap, ◌∙◌, arith}
use Rattle.arithmetic.specs.Numbers.{modulo, all_reduced}
use Rattle.argument.specs.Claims.{Share}
use Rattle.circuits.proofs.Parts.{layers_parts}
use Rattle.circuits.proofs.Steps.{length-gates_of}
use Rattle.circuits.specs.Circuit.{all_values}
use Rattle.circuits.specs.Views.{layer_seen, layers_seen, copies_above, inputs_below, size_seen, places_below}
use Rattle.claims.proofs.Adding.{pow_at_most}
use Rattle.evaluation.proofs.WorkingOut.{all_below}
use Rattle.fronts.specs.Gathers.{layer_weights}
use Rattle.tables.proofs.ReducedLists.{reduced_from}
use Rattle.phases.proofs.StartsRead.{copies_read, layer_weighed}
use Rattle.phases.proofs.starts.start_copies.Goals as goal

pub eq_table-requires-clause-room : goal.eq_table-requires-clause-room
eq_table-requires-clause-room g c =
    let rest = c.args.rest in
    let limit = (layers_parts rest.copies rest.inputs rest.count rest.words.now rest.lawful).limit in
    let few : length c.args.copy.now ≤ 16 = omega arith in
    omega (arith, pow_at_most (length c.args.copy.now) few)

pub returns : goal.returns
returns g c k copy shares =
    let p = g.M.Modular.modulus in
    let several : 1 < p = omega (arith, g.met.M.Modular.above) in
    let layer = c.args.layer in
    let rest = c.args.rest in
    let m : ℕ = places_below layer in
    let n : ℕ = copies_above rest in
    let gates = c.power.result in
    let size : ℕ = length c.args.shares.first.point.now in
    let X : List ℕ = all_values (modulo p) (layers_seen rest) (2 ^ inputs_below rest) (2 ^ n) c.args.inputs.now in
    let eg : gates ≡ 2 ^ size_seen layer = c.power.ensures.value ∙ ap (λ (i : ℕ). 2 ^ i) c.size.ensures.value in
    let long : length c.weigh.new.weights ≡ 2 ^ size_seen layer = omega (arith, eg) in
    let values : take (2 ^ n * 2 ^ m) c.work_out.new.values ≡ X =
    ap (λ (i : ℕ). take (2 ^ n * 2 ^ i) c.work_out.new.values) c.requires.below ∙ c.work_out.ensures in
    let reduced : T (all_reduced (modulo p) X) = reduced_from p X (λ i h. all_below p (omega arith) (layers_seen rest) (2 ^ inputs_below rest) (2 ^ n) c.args.inputs.now c.requires.inputs.1 i) in
    copies_read p several (layer_seen layer) m k X n c.work_out.new.values c.weigh.new.weights c.eq_table.new.out c.args.copy.now _ _
    copy c.requires.copy.0 values reduced c.eq_table.ensures.words c.eq_table.ensures.reduced
    (layer_weighed p (layer_seen layer) _ size c.weigh.new.weights c.requires.shares.first.coordinates (length-gates_of (2 ^ size_seen layer) layer.words.now) long c.weigh.ensures.weights
    ∙ ap (λ (ss : List (Share ℕ)). layer_weights (modulo p) (layer_seen layer) ss) (sym shares))
    long c.weigh.ensures.reduced
