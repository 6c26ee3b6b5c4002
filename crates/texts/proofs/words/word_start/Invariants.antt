-- What is left, from its place between words on, is read like the text from its beginning on.
use Rattle.std.proofs.Common.{◌≡◌, ◌-◌, ◌≤◌, length, drop}
use Rattle.texts.specs.Gaps.{gap_place}
use Rattle.texts.specs.Machine.{read_from, first}
use Rattle.texts.proofs.words.word_start.Given as goal

abbrev pub invariant-loop-at : goal.invariant-loop-at
invariant-loop-at l = (l.at ≤ length l.text) × (read_from (gap_place l.gap) (drop l.at l.text) ≡ read_from first l.text)

abbrev pub decreases-loop-at : goal.decreases-loop-at
decreases-loop-at l = length l.text - l.at
