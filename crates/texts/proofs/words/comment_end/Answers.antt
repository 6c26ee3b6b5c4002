-- A byte that is no line end leaves the machine in the comment; a line end, or the end of the text, ends it.
use Rattle.std.proofs.Common.{◌≡◌, length, drop, ap, ◌∙◌, arith}
use Rattle.texts.specs.Machine.{read_from, between}
use Rattle.texts.proofs.Steps.{comment_goes_on, comment_ends}
use Rattle.texts.proofs.words.comment_end.Goals as goal

pub returns-then-byte-eq-LINE_END-clause-same : goal.returns-then-byte-eq-LINE_END-clause-same
returns-then-byte-eq-LINE_END-clause-same c = comment_ends c.args.text.now c.loop-at.at (λ h. c.if-byte-eq-LINE_END.true) ∙ c.loop-at.invariant

pub loop-at-preserved : goal.loop-at-preserved
loop-at-preserved c = comment_goes_on c.args.text.now c.loop-at.at c.loop-at-test.true c.if-byte-eq-LINE_END.false ∙ c.loop-at.invariant

pub returns-clause-same : goal.returns-clause-same
returns-clause-same c =
    let whole : length c.args.text.now ≡ c.loop-at.at = omega arith in
    ap (λ k. read_from between (drop k c.args.text.now)) whole ∙ comment_ends c.args.text.now c.loop-at.at (λ h. absurd (omega arith)) ∙ c.loop-at.invariant
