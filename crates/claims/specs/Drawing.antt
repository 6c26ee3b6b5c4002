-- The coins drawn so far, as a list.
-- An array's words beyond them mean nothing.
use Rattle.std.specs.Prelude.{ℕ, List, take}
use Rattle.claims.specs.declared.drawn.Drawn.{Drawn}

abbrev pub coins_drawn : Drawn → List ℕ
coins_drawn d = take d.len d.words
