-- The layer's variables, and then the two values, each at its place among the words.
use Rattle.std.proofs.Common.{◌≡◌, ℕ, ◌+◌, ◌-◌, ◌*◌, ◌≤◌, length, take, drop, sym, ap, ◌∙◌, arith}
use Rattle.std.proofs.lemmas.List.{take_all}
use Rattle.std.proofs.lemmas.Result.{err_from_is_err_and, MatchResult-weaker}
use Rattle.arithmetic.proofs.Newton.{reduced_at}
use Rattle.arithmetic.proofs.Truth.{T_of_path}
use Rattle.circuits.specs.Words.{modulus}
use Rattle.claims.proofs.Cutting.{reduced_part}
use Rattle.verifier.specs.Meaning.{stand_of, inputs_of}
use Rattle.judging.proofs.Walking.{layer_leads, layer_ends_late, layer_ends_early}
use Rattle.judging.proofs.transcript.hear_layer.Goals as goal

pub hear_variables-requires-clause-coins : goal.hear_variables-requires-clause-coins
hear_variables-requires-clause-coins c = reduced_part modulus 0 (c.variables-variables.result - 0) c.args.coins.now c.requires.coins

pub returns-in_err-hear_variables-clause-heard : goal.returns-in_err-hear_variables-clause-heard
returns-in_err-hear_variables-clause-heard c =
    let p = err_from_is_err_and c.from_residual.result c.from_residual.ensures.1 in
    let v = c.args.verifier.now in
    let n = c.variables-variables.result in
    let coins = c.args.coins.now in
    rw (p.1, p.2)
    (layer_ends_early (inputs_of v) (stand_of v) n c.args.said.now coins c.split_at.result.0.now (take (n - 0) coins) c.variables-variables.ensures.value
    (omega (arith, c.requires.counts.0, c.variables-variables.ensures.value)) c.split_at.ensures.front
    (ap (λ (k : ℕ). take k coins) (omega arith)) _ c.in_err-hear_variables.ensures.heard)

pub hear-requires-clause-word : goal.hear-requires-clause-word
hear-requires-clause-word c = reduced_at modulus c.args.coins.now (T_of_path _ c.requires.coins) c.variables-variables.result (omega arith)

pub returns-clause-heard : goal.returns-clause-heard
returns-clause-heard c =
    let history = c.in_ok-hear_variables.ensures in
    let v = c.args.verifier.now in
    let n = c.variables-variables.result in
    let ws = c.args.said.now in
    let coins = c.args.coins.now in
    let first = c.split_at.result.0.now in
    let values = c.split_at.result.1.now in
    let en = c.variables-variables.ensures.value in
    let ec : length coins ≡ n + 1 = omega (arith, c.requires.counts.0, en) in
    let ef : first ≡ take (4 * n) ws = c.split_at.ensures.front in
    let ecs : take (n - 0) coins ≡ take n coins = ap (λ (k : ℕ). take k coins) (omega arith) in
    let short : length values ≤ 2 = omega (arith, c.split_at.ensures.back_len, c.requires.counts.1, en) in
    let two : values ≡ take 2 (drop (4 * n) ws) = sym (take_all 2 values short) ∙ ap (take 2) c.split_at.ensures.back in
    MatchResult-weaker c.hear.result c.hear.ensures.step
    (λ _ h. layer_leads (inputs_of v) (stand_of v) n ws coins first (take (n - 0) coins) en ec ef ecs _ _ values history.heard.0 history.heard.1 two h.0 h.1)
    (λ verdict h. layer_ends_late (inputs_of v) (stand_of v) n ws coins first (take (n - 0) coins) en ec ef ecs _ values verdict history.heard.0 two h.0 h.1)
