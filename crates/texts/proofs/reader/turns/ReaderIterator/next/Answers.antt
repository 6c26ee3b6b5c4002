-- A word that is no number leaves less than there was: nothing.
use Rattle.std.proofs.Common.{◌<◌, length, arith}
use Rattle.std.proofs.lemmas.Grind.{common_steps}
use Rattle.texts.specs.Left.{left}
use Rattle.texts.proofs.Reading.{refused_some}
use Rattle.texts.proofs.reader.turns.ReaderIterator.next.Goals as goal

pub returns-in-Err-clause-goes : goal.returns-in-Err-clause-goes
returns-in-Err-clause-goes c =
    let more : 0 < length (left c.args.self.now) = refused_some (left c.args.self.now) c.in-Err.error (left c.next_number.new.self) c.in-Err.ensures in
    grind (arith, common_steps)
