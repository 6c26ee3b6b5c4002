-- The theorems on reading hold.
use Rattle.texts.proofs.LineByLine.{line_by_line as by_line}
use Rattle.texts.proofs.OneReading.{one_reading as only_one}
use Rattle.texts.proofs.reader.Reader.new.Goals as goal

pub returns-clause-one_reading : goal.returns-clause-one_reading
returns-clause-one_reading c = only_one

pub returns-clause-line_by_line : goal.returns-clause-line_by_line
returns-clause-line_by_line c = by_line
