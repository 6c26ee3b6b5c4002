-- The two tests are the test of the count of coins that are left.
use Rattle.std.proofs.Common.{sym, ◌∙◌, arith, eq-eqb, ne_eqb}
use Rattle.circuits.specs.Views.{layers_seen, inputs_below}
use Rattle.prover.specs.Provers.{coins_left, copies_of}
use Rattle.programs.proofs.LastCoin.{none_below, some_below}
use Rattle.programs.proofs.answering.is_last.Goals as goal

pub returns-in-Values : goal.returns-in-Values
returns-in-Values c =
    let t = c.args.prover.now in
    let none = none_below (copies_of t) (inputs_below t.rest) (layers_seen t.rest) (sym c.layers_below.ensures ∙ c.if-layers_below-eq0.true) in
    sym (eq-eqb (coins_left t) 1 (omega (arith, none, c.in-Values.ensures)))

pub returns-else-layers_below-eq0 : goal.returns-else-layers_below-eq0
returns-else-layers_below-eq0 c =
    let t = c.args.prover.now in
    let other = c.if-layers_below-eq0.false in
    let some = some_below (copies_of t) (inputs_below t.rest) (layers_seen t.rest) (λ none. other (c.layers_below.ensures ∙ none)) in
    ne_eqb c.layers_below.result 0 other ∙ sym (ne_eqb (coins_left t) 1 (λ one. absurd (omega (arith, some))))
