-- Each turn adds the term of one gate more, and all numbers that it takes are reduced.
use Rattle.std.proofs.Common.{◌≡◌, ◌+◌, ◌^◌, ◌<◌, ◌≤◌, [], ◌∷◌, ◌++◌, length, sym, subst, length-append, arith}
use Rattle.std.specs.Iterator.Adapters.{zip_first, zip_second}
use Rattle.std.specs.Slice.Iter.{iter_rest}
use Rattle.arithmetic.proofs.Newton.{reduced_at}
use Rattle.circuits.specs.Views.{gates_seen, gates_left, gate_meant, no_gate}
use Rattle.circuits.proofs.GatesLeft.{gates_turn, gates_end}
use Rattle.circuits.proofs.Steps.{length-gates_of}
use Rattle.claims.proofs.Gathering.{Gathering, gathering_none, gathering_more, gathering_all}
use Rattle.claims.proofs.wiring.gather.gather.Goals as goal

pub loop-gate-init : goal.loop-gate-init
loop-gate-init g c =
    let positive : 0 < g.M.Modular.modulus = omega (arith, g.met.M.Modular.above) in
    gathering_none g.M.Modular.modulus c.args.weights.now c.args.at_x.now c.args.at_y.now (gates_seen c.args.layer) positive

pub offset_bounds-at_x-gate : goal.offset_bounds-at_x-gate
offset_bounds-at_x-gate g c =
    let first : gates_left (zip_first c.into_iter-gate-iterator.result) ≡ gates_seen c.args.layer = cc in
    let second : iter_rest (zip_second c.into_iter-gate-iterator.result) ≡ c.args.weights.now = cc in
    let turn = gates_turn c.args.layer c.args.weights.now c.loop-gate.yielded c.into_iter-gate-iterator.result c.loop-gate.gate-iterator c.next.new.self c.next.result first second
    c.loop-gate.yielded_by (c.in-Some.gate, c.in-Some.weight) c.in-Some.is c.next.ensures.steps in
    omega (arith, turn.4.left)

pub bounds-at_x-gate : goal.bounds-at_x-gate
bounds-at_x-gate g c =
    let first : gates_left (zip_first c.into_iter-gate-iterator.result) ≡ gates_seen c.args.layer = cc in
    let second : iter_rest (zip_second c.into_iter-gate-iterator.result) ≡ c.args.weights.now = cc in
    let turn = gates_turn c.args.layer c.args.weights.now c.loop-gate.yielded c.into_iter-gate-iterator.result c.loop-gate.gate-iterator c.next.new.self c.next.result first second
    c.loop-gate.yielded_by (c.in-Some.gate, c.in-Some.weight) c.in-Some.is c.next.ensures.steps in
    omega (arith, turn.4.left)

pub offset_bounds-at_y-gate : goal.offset_bounds-at_y-gate
offset_bounds-at_y-gate g c =
    let first : gates_left (zip_first c.into_iter-gate-iterator.result) ≡ gates_seen c.args.layer = cc in
    let second : iter_rest (zip_second c.into_iter-gate-iterator.result) ≡ c.args.weights.now = cc in
    let turn = gates_turn c.args.layer c.args.weights.now c.loop-gate.yielded c.into_iter-gate-iterator.result c.loop-gate.gate-iterator c.next.new.self c.next.result first second
    c.loop-gate.yielded_by (c.in-Some.gate, c.in-Some.weight) c.in-Some.is c.next.ensures.steps in
    omega (arith, turn.4.right)

pub bounds-at_y-gate : goal.bounds-at_y-gate
bounds-at_y-gate g c =
    let first : gates_left (zip_first c.into_iter-gate-iterator.result) ≡ gates_seen c.args.layer = cc in
    let second : iter_rest (zip_second c.into_iter-gate-iterator.result) ≡ c.args.weights.now = cc in
    let turn = gates_turn c.args.layer c.args.weights.now c.loop-gate.yielded c.into_iter-gate-iterator.result c.loop-gate.gate-iterator c.next.new.self c.next.result first second
    c.loop-gate.yielded_by (c.in-Some.gate, c.in-Some.weight) c.in-Some.is c.next.ensures.steps in
    omega (arith, turn.4.right)

pub mul-requires : goal.mul-requires
mul-requires g c =
    let first : gates_left (zip_first c.into_iter-gate-iterator.result) ≡ gates_seen c.args.layer = cc in
    let second : iter_rest (zip_second c.into_iter-gate-iterator.result) ≡ c.args.weights.now = cc in
    let turn = gates_turn c.args.layer c.args.weights.now c.loop-gate.yielded c.into_iter-gate-iterator.result c.loop-gate.gate-iterator c.next.new.self c.next.result first second
    c.loop-gate.yielded_by (c.in-Some.gate, c.in-Some.weight) c.in-Some.is c.next.ensures.steps in
    let p = g.M.Modular.modulus in (
      reduced_at p c.args.at_x.now c.requires.at_x.1 c.in-Some.gate.left (omega (arith, turn.4.left)),
      reduced_at p c.args.at_y.now c.requires.at_y.1 c.in-Some.gate.right (omega (arith, turn.4.right)),
    )

pub mul-term-requires : goal.mul-term-requires
mul-term-requires g c =
    let first : gates_left (zip_first c.into_iter-gate-iterator.result) ≡ gates_seen c.args.layer = cc in
    let second : iter_rest (zip_second c.into_iter-gate-iterator.result) ≡ c.args.weights.now = cc in
    let turn = gates_turn c.args.layer c.args.weights.now c.loop-gate.yielded c.into_iter-gate-iterator.result c.loop-gate.gate-iterator c.next.new.self c.next.result first second
    c.loop-gate.yielded_by (c.in-Some.gate, c.in-Some.weight) c.in-Some.is c.next.ensures.steps in
    let p = g.M.Modular.modulus in
    (subst (λ x. x < p) (sym turn.3) (reduced_at p c.args.weights.now c.requires.weights.1 (length c.loop-gate.yielded) turn.1), c.mul.ensures.below)

pub add_term-requires-clause-gathered : goal.add_term-requires-clause-gathered
add_term-requires-clause-gathered g c = (c.loop-gate.invariant.sums_below, c.loop-gate.invariant.products_below)

pub loop-gate-preserved : goal.loop-gate-preserved
loop-gate-preserved g c =
    let first : gates_left (zip_first c.into_iter-gate-iterator.result) ≡ gates_seen c.args.layer = cc in
    let second : iter_rest (zip_second c.into_iter-gate-iterator.result) ≡ c.args.weights.now = cc in
    let turn = gates_turn c.args.layer c.args.weights.now c.loop-gate.yielded c.into_iter-gate-iterator.result c.loop-gate.gate-iterator c.next.new.self c.next.result first second
    c.loop-gate.yielded_by (c.in-Some.gate, c.in-Some.weight) c.in-Some.is c.next.ensures.steps in
    let p = g.M.Modular.modulus in
    let several : 1 < p = omega (arith, g.met.M.Modular.above) in
    let gates = gates_seen c.args.layer in
    let n = length c.loop-gate.yielded in
    let more : length (c.loop-gate.yielded ++ ((c.in-Some.gate, c.in-Some.weight) ∷ [])) ≡ n + 1 = length-append c.loop-gate.yielded _ in
    let term = rw turn.3 at c.mul-term.ensures.value in
    subst (λ k. Gathering p c.args.weights.now c.args.at_x.now c.args.at_y.now gates k c.add_term.new.self) (sym more)
    (gathering_more p c.args.weights.now c.args.at_x.now c.args.at_y.now several gates n no_gate (gate_meant c.in-Some.gate)
    c.mul.result c.mul-term.result c.loop-gate.gathered c.add_term.new.self turn.0 turn.2 c.loop-gate.invariant
    c.mul.ensures.value term c.add_term.ensures.sums c.add_term.ensures.products c.add_term.ensures.below.0
    c.add_term.ensures.below.1)

pub returns : goal.returns
returns g c =
    let first : gates_left (zip_first c.into_iter-gate-iterator.result) ≡ gates_seen c.args.layer = cc in
    let second : iter_rest (zip_second c.into_iter-gate-iterator.result) ≡ c.args.weights.now = cc in
    let gates = gates_seen c.args.layer in
    let many : length c.args.weights.now ≡ length gates = omega (arith, length-gates_of (2 ^ c.args.layer.size) c.args.layer.words.now) in
    let all : length gates ≤ length c.loop-gate.yielded =
    gates_end c.args.layer c.args.weights.now c.loop-gate.yielded c.into_iter-gate-iterator.result c.loop-gate.gate-iterator c.next.new.self c.next.result first second
    c.loop-gate.yielded_by many c.in-None.is c.next.ensures.steps in
    gathering_all g.M.Modular.modulus c.args.weights.now c.args.at_x.now c.args.at_y.now gates (length c.loop-gate.yielded) c.loop-gate.gathered all c.loop-gate.invariant
