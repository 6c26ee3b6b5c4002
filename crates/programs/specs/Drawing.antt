-- The next word of DICE, and what `judge` makes of it: as the coin that is due, or where nothing may be left.
-- Held to the definition of the talk, which has all words of DICE side by side.
use Rattle.std.specs.Prelude.{ℕ, List, [], ◌∷◌, Some, None, Ok, Err, Option, Result}
use Rattle.programs.specs.declared.drawn.NoNumber.{NoNumber}

-- the words of DICE from here on, where the next one is this, and the others come after it
abbrev pub words_from : Result (Option ℕ) NoNumber → List (Option ℕ) → List (Option ℕ)
words_from (Ok (Some n)) others = Some n ∷ others
words_from (Ok None) others = []
words_from (Err e) others = None ∷ others
