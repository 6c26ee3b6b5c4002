-- The theorem on reading a line again holds.
use Rattle.texts.proofs.RoundTrip.{round_trip as read_again}
use Rattle.texts.proofs.written.write_line.Goals as goal

pub returns-clause-round_trip : goal.returns-clause-round_trip
returns-clause-round_trip c = read_again
