-- The numbers so far stand in the first words.
use Rattle.texts.specs.Left.{left}
use Rattle.texts.proofs.Reading.{Filled}
use Rattle.texts.proofs.whole.read_into.Given as goal

abbrev pub invariant-loop-number : goal.invariant-loop-number
invariant-loop-number l = record {
  can : goal.iterator-loop-number.can_next l.number-iterator;
  ends : goal.iterator-loop-number.is_finite l.number-iterator;
  filled : Filled l.text (left l.number-iterator) l.initial.room l.room l.count;
}
