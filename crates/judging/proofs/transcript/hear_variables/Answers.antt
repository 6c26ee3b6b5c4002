-- Each turn hears one variable's answer and its coin.
use Rattle.std.proofs.Common.{refl, ◌∙◌, arith}
use Rattle.std.proofs.lemmas.Result.{err_from_is_err_and}
use Rattle.arithmetic.proofs.Newton.{reduced_at}
use Rattle.arithmetic.proofs.Truth.{T_of_path}
use Rattle.circuits.specs.Words.{modulus}
use Rattle.verifier.specs.Meaning.{stand_of, inputs_of}
use Rattle.judging.proofs.Driven.{passing_none, passing_taken, passing_more, passing_ends}
use Rattle.judging.proofs.transcript.hear_variables.Goals as goal

pub loop-four-init : goal.loop-four-init
loop-four-init c =
    (passing_none (inputs_of c.args.verifier.now) (stand_of c.args.verifier.now) c.args.said.now c.args.coins.now _ _ _ c.requires.fresh (cc) (cc) (cc), refl)

pub hear-requires-clause-word : goal.hear-requires-clause-word
hear-requires-clause-word c =
    let passed = c.loop-four.invariant.0 in
    let (words, coin) = c.in-Some.ensures.steps in
    let taken = passing_taken passed _ _ _ _ words.1.0 words.1.1 coin in
    omega (arith, taken.word, reduced_at modulus c.args.coins.now (T_of_path _ c.requires.coins) passed.done taken.inside)

pub returns-in_err-hear-clause-heard : goal.returns-in_err-hear-clause-heard
returns-in_err-hear-clause-heard c =
    let p = err_from_is_err_and c.from_residual.result c.from_residual.ensures.1 in
    let history = c.in_err-hear.ensures in
    let (words, coin) = c.in-Some.ensures.steps in
    rw (p.1, p.2) (passing_ends c.loop-four.invariant.0 _ _ _ _ words.1.0 words.1.1 coin _ history.step.0 history.step.1)

pub loop-four-preserved : goal.loop-four-preserved
loop-four-preserved c =
    let history = c.in_ok-hear.ensures in
    let (words, coin) = c.in-Some.ensures.steps in (
      passing_more c.loop-four.invariant.0 _ _ _ _ words.1.0 words.1.1 coin _ _ words.0 c.requires.counts.0 history.step.0 history.step.1,
      history.inputs ∙ c.loop-four.invariant.1,
    )
