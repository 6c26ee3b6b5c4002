-- Each turn hears one layer more, whose words and coins are there.
use Rattle.std.proofs.Common.{◌≡◌, ℕ, ◌+◌, ◌*◌, true, List, take, drop, sym, ap, ◌∙◌, subst, arith}
use Rattle.std.proofs.lemmas.Result.{err_from_is_err_and}
use Rattle.arithmetic.specs.Numbers.{all_reduced}
use Rattle.circuits.specs.Words.{modulus}
use Rattle.claims.specs.Meaning.{numbers}
use Rattle.claims.proofs.Cutting.{reduced_part}
use Rattle.judging.specs.Driving.{Leads, Ends, layer_answers}
use Rattle.verifier.specs.Meaning.{stand_of}
use Rattle.judging.proofs.Walking.{layers_left, no_layers_left, walking_room, walking_more, walking_ends, walking_all}
use Rattle.judging.proofs.transcript.hear_layers.Goals as goal

-- the words of a layer with as many variables as the code counts, and those behind them; and so for the coins
words_here : (n v : ℕ) (part ws : List ℕ) → part ≡ take (4 * n + 2) ws → n ≡ v → part ≡ take (4 * v + 2) ws
words_here n v part ws is e = is ∙ ap (λ (k : ℕ). take (4 * k + 2) ws) e

words_behind : (n v : ℕ) (part ws : List ℕ) → part ≡ drop (4 * n + 2) ws → n ≡ v → part ≡ drop (4 * v + 2) ws
words_behind n v part ws is e = is ∙ ap (λ (k : ℕ). drop (4 * k + 2) ws) e

coins_here : (n v : ℕ) (part ws : List ℕ) → part ≡ take (n + 1) ws → n ≡ v → part ≡ take (v + 1) ws
coins_here n v part ws is e = is ∙ ap (λ (k : ℕ). take (k + 1) ws) e

coins_behind : (n v : ℕ) (part ws : List ℕ) → part ≡ drop (n + 1) ws → n ≡ v → part ≡ drop (v + 1) ws
coins_behind n v part ws is e = is ∙ ap (λ (k : ℕ). drop (k + 1) ws) e

pub split_at-requires : goal.split_at-requires
split_at-requires c =
    let t = stand_of c.loop-said.verifier in
    let some = layers_left t.layers c.at_inputs.result c.at_inputs.ensures c.loop-said-test.true in
    omega (arith, (walking_room c.loop-said.invariant.0 some).0, c.variables-variables.ensures.value)

pub split_at-requires-in-loop-said : goal.split_at-requires-in-loop-said
split_at-requires-in-loop-said c =
    let t = stand_of c.loop-said.verifier in
    let some = layers_left t.layers c.at_inputs.result c.at_inputs.ensures c.loop-said-test.true in
    omega (arith, (walking_room c.loop-said.invariant.0 some).1, c.variables-variables.ensures.value)

pub hear_layer-requires-clause-coins : goal.hear_layer-requires-clause-coins
hear_layer-requires-clause-coins c =
    subst (λ (xs : List ℕ). all_reduced numbers xs ≡ true) (sym c.split_at-in-loop-said.ensures.front)
    (reduced_part modulus 0 (c.variables-variables.result + 1) c.loop-said.drawn.now c.loop-said.invariant.0.reduced)

pub returns-in_err-hear_layer-clause-heard : goal.returns-in_err-hear_layer-clause-heard
returns-in_err-hear_layer-clause-heard c =
    let p = err_from_is_err_and c.from_residual.result c.from_residual.ensures.1 in
    let t = stand_of c.loop-said.verifier in
    let some = layers_left t.layers c.at_inputs.result c.at_inputs.ensures c.loop-said-test.true in
    let en = c.variables-variables.ensures.value in
    let part = c.split_at.result.0.now in
    let cs = c.split_at-in-loop-said.result.0.now in
    rw (p.1, p.2)
    (walking_ends c.loop-said.invariant.0 some part c.split_at.result.1.now cs c.split_at-in-loop-said.result.1.now
    (words_here _ _ _ _ c.split_at.ensures.front en) (words_behind _ _ _ _ c.split_at.ensures.back en)
    (coins_here _ _ _ _ c.split_at-in-loop-said.ensures.front en) (coins_behind _ _ _ _ c.split_at-in-loop-said.ensures.back en) _
    (subst (λ (vs : List ℕ). Ends vs t (layer_answers t part) cs c.in_err-hear_layer.field-0.0) c.loop-said.invariant.1 c.in_err-hear_layer.ensures.heard))

pub loop-said-preserved : goal.loop-said-preserved
loop-said-preserved c =
    let history = c.in_ok-hear_layer.ensures in
    let t = stand_of c.loop-said.verifier in
    let u = stand_of c.hear_layer.new.verifier in
    let some = layers_left t.layers c.at_inputs.result c.at_inputs.ensures c.loop-said-test.true in
    let en = c.variables-variables.ensures.value in
    let part = c.split_at.result.0.now in
    let cs = c.split_at-in-loop-said.result.0.now in (
      walking_more c.loop-said.invariant.0 some part c.split_at.result.1.now cs c.split_at-in-loop-said.result.1.now
          (words_here _ _ _ _ c.split_at.ensures.front en) (words_behind _ _ _ _ c.split_at.ensures.back en)
          (coins_here _ _ _ _ c.split_at-in-loop-said.ensures.front en) (coins_behind _ _ _ _ c.split_at-in-loop-said.ensures.back en) u
          (subst (λ (vs : List ℕ). Leads vs t (layer_answers t part) cs u) c.loop-said.invariant.1 history.heard.0) history.heard.1,
      history.inputs ∙ c.loop-said.invariant.1,
    )

pub returns-clause-heard : goal.returns-clause-heard
returns-clause-heard c =
    let t = stand_of c.loop-said.verifier in
    let none = no_layers_left t.layers c.at_inputs.result c.at_inputs.ensures c.loop-said-test.false in
    (none, walking_all c.loop-said.invariant.0 none)
