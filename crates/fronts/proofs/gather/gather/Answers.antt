-- Each turn passes one gate, whose places are there.
use Rattle.std.proofs.Common.{◌≡◌, ◌+◌, ◌<◌, [], ◌∷◌, ◌++◌, length, sym, ◌∙◌, subst, length-append, arith}
use Rattle.std.specs.Iterator.Adapters.{zip_first, zip_second}
use Rattle.std.specs.Slice.Iter.{iter_rest}
use Rattle.arithmetic.proofs.Newton.{reduced_at}
use Rattle.circuits.proofs.GatesLeft.{gates_turn, gates_end}
use Rattle.circuits.proofs.Steps.{length-gates_of}
use Rattle.circuits.specs.Views.{gates_seen, gates_left}
use Rattle.fronts.proofs.Gathering.{passed_more, passed_all}
use Rattle.fronts.proofs.gather.gather.Goals as goal

pub pick-place-requires : goal.pick-place-requires
pick-place-requires g c =
    let first : gates_left (zip_first c.into_iter-gate-iterator.result) ≡ gates_seen c.args.layer = cc in
    let second : iter_rest (zip_second c.into_iter-gate-iterator.result) ≡ c.args.weights.now = cc in
    let turn = gates_turn c.args.layer c.args.weights.now c.loop-gate.yielded c.into_iter-gate-iterator.result c.loop-gate.gate-iterator c.next.new.self c.next.result first second
    c.loop-gate.yielded_by (c.in-Some.gate, c.in-Some.weight) c.in-Some.is c.next.ensures.steps in
    c.requires.callable c.in-Some.gate (turn.4.left, turn.4.right)

pub add_gate-requires-clause-place : goal.add_gate-requires-clause-place
add_gate-requires-clause-place g c =
    let first : gates_left (zip_first c.into_iter-gate-iterator.result) ≡ gates_seen c.args.layer = cc in
    let second : iter_rest (zip_second c.into_iter-gate-iterator.result) ≡ c.args.weights.now = cc in
    let turn = gates_turn c.args.layer c.args.weights.now c.loop-gate.yielded c.into_iter-gate-iterator.result c.loop-gate.gate-iterator c.next.new.self c.next.result first second
    c.loop-gate.yielded_by (c.in-Some.gate, c.in-Some.weight) c.in-Some.is c.next.ensures.steps in
    let place = (c.requires.picked c.in-Some.gate c.pick-place.result (turn.4.left, turn.4.right) c.pick-place.ensures).0 in
    (omega (arith, place), omega (arith, place))

pub add_gate-requires-clause-below : goal.add_gate-requires-clause-below
add_gate-requires-clause-below g c =
    let first : gates_left (zip_first c.into_iter-gate-iterator.result) ≡ gates_seen c.args.layer = cc in
    let second : iter_rest (zip_second c.into_iter-gate-iterator.result) ≡ c.args.weights.now = cc in
    let turn = gates_turn c.args.layer c.args.weights.now c.loop-gate.yielded c.into_iter-gate-iterator.result c.loop-gate.gate-iterator c.next.new.self c.next.result first second
    c.loop-gate.yielded_by (c.in-Some.gate, c.in-Some.weight) c.in-Some.is c.next.ensures.steps in (
      subst (λ x. x < g.M.Modular.modulus) (sym turn.3) (reduced_at g.M.Modular.modulus c.args.weights.now c.requires.given (length c.loop-gate.yielded) turn.1),
      (c.requires.picked c.in-Some.gate c.pick-place.result (turn.4.left, turn.4.right) c.pick-place.ensures).1,
    )

pub loop-gate-preserved : goal.loop-gate-preserved
loop-gate-preserved g c =
    let first : gates_left (zip_first c.into_iter-gate-iterator.result) ≡ gates_seen c.args.layer = cc in
    let second : iter_rest (zip_second c.into_iter-gate-iterator.result) ≡ c.args.weights.now = cc in
    let turn = gates_turn c.args.layer c.args.weights.now c.loop-gate.yielded c.into_iter-gate-iterator.result c.loop-gate.gate-iterator c.next.new.self c.next.result first second
    c.loop-gate.yielded_by (c.in-Some.gate, c.in-Some.weight) c.in-Some.is c.next.ensures.steps in
    let more : length (c.loop-gate.yielded ++ ((c.in-Some.gate, c.in-Some.weight) ∷ [])) ≡ length c.loop-gate.yielded + 1 = length-append c.loop-gate.yielded _ in
    let h = rw turn.3 at c.add_gate.ensures.h in
    let j = rw turn.3 at c.add_gate.ensures.j in
    rw more (record {
      h = passed_more _ _ _ _ _ _ _ _ _ c.loop-gate.invariant.h turn.0 turn.1 c.in-Some.gate c.pick-place.result turn.2
          (turn.4.left, turn.4.right) c.pick-place.ensures c.add_gate.new.h h c.add_gate.ensures.h_reduced;
      j = passed_more _ _ _ _ _ _ _ _ _ c.loop-gate.invariant.j turn.0 turn.1 c.in-Some.gate c.pick-place.result turn.2
          (turn.4.left, turn.4.right) c.pick-place.ensures c.add_gate.new.j j c.add_gate.ensures.j_reduced;
    })

pub returns-clause-h : goal.returns-clause-h
returns-clause-h g c place other picks =
    let first : gates_left (zip_first c.into_iter-gate-iterator.result) ≡ gates_seen c.args.layer = cc in
    let second : iter_rest (zip_second c.into_iter-gate-iterator.result) ≡ c.args.weights.now = cc in
    let many : length c.args.weights.now ≡ length (gates_seen c.args.layer) = c.requires.gates ∙ sym (length-gates_of _ _) in
    let all = gates_end c.args.layer c.args.weights.now c.loop-gate.yielded c.into_iter-gate-iterator.result c.loop-gate.gate-iterator c.next.new.self c.next.result first second
    c.loop-gate.yielded_by many c.in-None.is c.next.ensures.steps in
    passed_all _ _ _ _ _ _ _ _ _ c.loop-gate.invariant.h all place other picks

pub returns-clause-j : goal.returns-clause-j
returns-clause-j g c place other picks =
    let first : gates_left (zip_first c.into_iter-gate-iterator.result) ≡ gates_seen c.args.layer = cc in
    let second : iter_rest (zip_second c.into_iter-gate-iterator.result) ≡ c.args.weights.now = cc in
    let many : length c.args.weights.now ≡ length (gates_seen c.args.layer) = c.requires.gates ∙ sym (length-gates_of _ _) in
    let all = gates_end c.args.layer c.args.weights.now c.loop-gate.yielded c.into_iter-gate-iterator.result c.loop-gate.gate-iterator c.next.new.self c.next.result first second
    c.loop-gate.yielded_by many c.in-None.is c.next.ensures.steps in
    passed_all _ _ _ _ _ _ _ _ _ c.loop-gate.invariant.j all place other picks
