-- What is written, with the lines of what is left, is the lines of all.
use Rattle.std.proofs.Common.{◌≡◌}
use Rattle.texts.proofs.Writing.{Laid}
use Rattle.texts.proofs.lines.LinesDisplay.fmt.Given as goal

abbrev pub invariant-loop-numbers : goal.invariant-loop-numbers
invariant-loop-numbers g l = record {
  can : (goal.iterator-loop-numbers g).can_next l.numbers-iterator;
  ends : (goal.iterator-loop-numbers g).is_finite l.numbers-iterator;
  size : l.numbers-iterator.size ≡ 16;
  laid : Laid g.W.Write.write_str_gives l.initial.f 16 l.self.numbers.now l.numbers-iterator.rest.now l.f;
}
