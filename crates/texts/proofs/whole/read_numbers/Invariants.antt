-- The numbers so far, before those of what is left, are those of the text.
use Rattle.std.proofs.Common.{◌≡◌, vec_items}
use Rattle.texts.specs.Left.{left}
use Rattle.texts.specs.Texts.{numbers_of}
use Rattle.texts.proofs.Reading.{after}
use Rattle.texts.proofs.whole.read_numbers.Given as goal

abbrev pub invariant-loop-number : goal.invariant-loop-number
invariant-loop-number l = record {
  can : goal.iterator-loop-number.can_next l.number-iterator;
  ends : goal.iterator-loop-number.is_finite l.number-iterator;
  read : after (vec_items l.numbers) (numbers_of (left l.number-iterator)) ≡ numbers_of l.text;
}
