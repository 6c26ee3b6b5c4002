-- A digit leads on in the word; another byte refuses the text; a gap, or the end of the text, ends the word.
use Rattle.std.proofs.Common.{◌+◌, get_or, drop, sym, refl, ap, ◌∙◌, arith}
use Rattle.texts.specs.Machine.{read_from, word}
use Rattle.texts.proofs.Steps.{word_begins, word_goes_on, word_breaks, word_ends, word_whole, gap_later}
use Rattle.texts.proofs.RoundTrip.{digit_no_gap}
use Rattle.texts.proofs.words.read_word.Goals as goal

pub returns-then-is_gap : goal.returns-then-is_gap
returns-then-is_gap c = (
  gap_later c.args.text.now 0 c.loop-at.at (omega arith) c.requires.begins (sym c.if-is_gap.ensures),
  omega arith,
  sym (word_begins c.args.text.now 0 c.requires.some c.requires.begins) ∙ sym c.loop-at.invariant ∙ word_ends c.loop-at.number c.args.text.now c.loop-at.at (λ h. sym c.if-is_gap.ensures),
)

pub returns-else-is_gap : goal.returns-else-is_gap
returns-else-is_gap c = (
  refl,
  sym (word_begins c.args.text.now 0 c.requires.some c.requires.begins) ∙ sym c.loop-at.invariant ∙ word_breaks c.loop-at.number c.args.text.now c.loop-at.at c.loop-at-test.true (sym c.if-is_gap.ensures) (sym c.if-is_digit.ensures),
)

pub loop-at-preserved : goal.loop-at-preserved
loop-at-preserved c =
    ap (λ n. read_from (word n) (drop (c.loop-at.at + 1) c.args.text.now)) c.append_digit-number.ensures ∙ word_goes_on c.loop-at.number c.args.text.now c.loop-at.at c.loop-at-test.true (digit_no_gap (get_or c.args.text.now c.loop-at.at 0) (sym c.if-is_digit.ensures)) (sym c.if-is_digit.ensures) ∙ c.loop-at.invariant

pub returns : goal.returns
returns c = (
  omega arith,
  omega arith,
  sym (word_begins c.args.text.now 0 c.requires.some c.requires.begins) ∙ sym c.loop-at.invariant ∙ word_whole c.loop-at.number c.args.text.now c.loop-at.at c.loop-at-test.false,
)
