-- The word with the digits so far, from here on, is read like the word from its beginning on.
use Rattle.std.proofs.Common.{◌≡◌, drop}
use Rattle.texts.specs.Machine.{read_from, word}
use Rattle.texts.proofs.words.read_word.Given as goal

abbrev pub invariant-loop-at : goal.invariant-loop-at
invariant-loop-at l = read_from (word l.number) (drop l.at l.text) ≡ read_from (word 0) l.text
