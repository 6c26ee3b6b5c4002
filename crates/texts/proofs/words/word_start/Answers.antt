-- Where all bytes are passed, nothing is left, whatever place that is.
use Rattle.std.proofs.Common.{◌≡◌, length, drop, ap, ◌∙◌, arith}
use Rattle.texts.specs.Machine.{read_from, between}
use Rattle.texts.proofs.Steps.{gaps_alone}
use Rattle.texts.proofs.words.word_start.Goals as goal

pub returns-clause-same : goal.returns-clause-same
returns-clause-same c =
    let whole : c.loop-at.at ≡ length c.args.text.now = omega arith in
    ap (λ k. read_from between (drop k c.args.text.now)) whole ∙ gaps_alone c.loop-at.gap c.args.text.now c.loop-at.at c.loop-at-test.false c.loop-at.invariant.1
