-- Each turn adds one gate, from the last to the first.
use Rattle.std.proofs.Common.{◌≡◌, ◌^◌, ◌<◌, length, sym, ap, ◌∙◌, subst, ⊎_elim, arith}
use Rattle.std.specs.Iterator.Adapters.{rev_source, zip_first, zip_second}
use Rattle.std.specs.Slice.Iter.{iter_rest}
use Rattle.std.proofs.lemmas.Grind.{common_steps}
use Rattle.std.proofs.lemmas.List.{nil_from_length, take_all}
use Rattle.circuits.proofs.GatesLeft.{gate_within}
use Rattle.circuits.proofs.Parts.{Within}
use Rattle.circuits.proofs.Steps.{length-gates_of}
use Rattle.circuits.specs.Views.{gate_meant, gates_left, gates_seen, size_seen, places_below, no_gate}
use Rattle.rounds.proofs.RowSteps.{passed_none, passed_below, passed_inside, passed_more, passed_all, gate_last, gates_done}
use Rattle.rounds.proofs.copies.sum_row.Goals as goal

pub loop-gate-init : goal.loop-gate-init
loop-gate-init g c =
    let positive : 0 < g.M.Modular.modulus = omega (arith, g.met.M.Modular.above) in
    let gs = gates_seen c.args.layer in
    let many : length gs ≡ length c.args.weights.now = omega (arith, length-gates_of (2 ^ size_seen c.args.layer) c.args.layer.words.now) in
    let first : gates_left (rev_source (zip_first c.into_iter-gate-iterator.result)) ≡ gs = cc in
    let second : iter_rest (rev_source (zip_second c.into_iter-gate-iterator.result)) ≡ c.args.weights.now = grind (arith, common_steps) in
    record {
      gates = first ∙ sym (take_all _ gs (omega (arith, ap length second, many)));
      passed = passed_none g.M.Modular.modulus positive gs c.args.weights.now c.args.low.now c.args.high.now _ second;
    }

pub add_gate-more-requires-clause-left : goal.add_gate-more-requires-clause-left
add_gate-more-requires-clause-left g c =
    let gs = gates_seen c.args.layer in
    let step = c.in-Some.ensures.steps in
    let many : length gs ≡ length c.args.weights.now = omega (arith, length-gates_of (2 ^ size_seen c.args.layer) c.args.layer.words.now) in
    let passed = c.loop-gate.invariant.passed in
    let inside = passed_inside passed _ _ step.1 many in
    let last = gate_last passed _ _ step.1 _ _ (gate_meant c.in-Some.gate) no_gate many c.loop-gate.invariant.gates step.0 in
    let within : Within (2 ^ places_below c.args.layer) (gate_meant c.in-Some.gate) = subst (Within (2 ^ places_below c.args.layer)) (sym last.1) (gate_within c.args.layer _ no_gate inside) in
    (omega (arith, within.left), omega (arith, within.left))

pub add_gate-more-requires-clause-right : goal.add_gate-more-requires-clause-right
add_gate-more-requires-clause-right g c =
    let gs = gates_seen c.args.layer in
    let step = c.in-Some.ensures.steps in
    let many : length gs ≡ length c.args.weights.now = omega (arith, length-gates_of (2 ^ size_seen c.args.layer) c.args.layer.words.now) in
    let passed = c.loop-gate.invariant.passed in
    let inside = passed_inside passed _ _ step.1 many in
    let last = gate_last passed _ _ step.1 _ _ (gate_meant c.in-Some.gate) no_gate many c.loop-gate.invariant.gates step.0 in
    let within : Within (2 ^ places_below c.args.layer) (gate_meant c.in-Some.gate) = subst (Within (2 ^ places_below c.args.layer)) (sym last.1) (gate_within c.args.layer _ no_gate inside) in
    (omega (arith, within.right), omega (arith, within.right))

pub add_gate-more-requires-clause-weight : goal.add_gate-more-requires-clause-weight
add_gate-more-requires-clause-weight g c = passed_below c.loop-gate.invariant.passed _ _ c.in-Some.ensures.steps.1 c.requires.weights.1

pub loop-gate-preserved : goal.loop-gate-preserved
loop-gate-preserved g c =
    let gs = gates_seen c.args.layer in
    let step = c.in-Some.ensures.steps in
    let many : length gs ≡ length c.args.weights.now = omega (arith, length-gates_of (2 ^ size_seen c.args.layer) c.args.layer.words.now) in
    let passed = c.loop-gate.invariant.passed in
    let inside = passed_inside passed _ _ step.1 many in
    let last = gate_last passed _ _ step.1 _ _ (gate_meant c.in-Some.gate) no_gate many c.loop-gate.invariant.gates step.0 in
    record {
      gates = last.0;
      passed = passed_more passed _ _ step.1 (gate_meant c.in-Some.gate) no_gate c.add_gate-more.result inside last.1 (c.add_gate-more.ensures.values _ passed.sums);
    }

pub returns : goal.returns
returns g c =
    let passed = c.loop-gate.invariant.passed in
    let many : length (gates_seen c.args.layer) ≡ length c.args.weights.now = omega (arith, length-gates_of (2 ^ size_seen c.args.layer) c.args.layer.words.now) in
    let left = iter_rest (rev_source (zip_second c.loop-gate.gate-iterator)) in
    let none : length left ≡ 0 =
    ⊎_elim (λ a. gates_done passed _ many c.loop-gate.invariant.gates (ap length a.1.0)) (λ b. b.1.0) c.in-None.ensures.steps in
    record { values = passed_all passed (nil_from_length left none); below = passed.sums.below }
