-- The gap is text, it is what stands after the numbers so far, and these have been written.
use Rattle.std.proofs.Common.{◌≡◌, take}
use denote.Text.{Utf8}
use denote.Shadow.{shadow}
use Rattle.texts.proofs.Writing.{gap_after, Shown}
use Rattle.texts.proofs.line.LineDisplay.fmt.Given as goal

abbrev pub invariant-loop-number : goal.invariant-loop-number
invariant-loop-number g l = shadow (Utf8 l.gap) × (l.gap ≡ gap_after (take l.number-index l.self.numbers.now)) × Shown g.W.Write.write_str_gives l.initial.f l.self.numbers.now l.number-index l.f
