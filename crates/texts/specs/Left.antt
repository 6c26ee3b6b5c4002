-- What a reader has yet to read: a text of its own.
-- It begins where the last number ended.
use Rattle.std.specs.Prelude.{ℕ, List, drop}
use Rattle.texts.specs.declared.reader.Reader.{Reader}

abbrev pub left : Reader → List ℕ
left r = drop r.at r.text.now
