-- The comment from here on is read like the comment from its beginning on.
use Rattle.std.proofs.Common.{◌≡◌, drop}
use Rattle.texts.specs.Machine.{read_from, comment}
use Rattle.texts.proofs.words.comment_end.Given as goal

abbrev pub invariant-loop-at : goal.invariant-loop-at
invariant-loop-at l = read_from comment (drop l.at l.text) ≡ read_from comment l.text
