-- A text byte by byte: what is known after each byte, and at the end.
-- Held to the machine that defines the numbers of a text from any place in it.
use Rattle.std.specs.Prelude.{◌≡◌, ℕ, List, ◌∷◌, Some, None, Ok, Err, Option, Result}
use Rattle.texts.specs.Gaps.{gap_place}
use Rattle.texts.specs.Machine.{Place, word, with, read_from}
use Rattle.programs.specs.declared.drawn.NoNumber.{NoNumber}
use Rattle.programs.specs.declared.scanner.Spot.{Spot}
use Rattle.programs.specs.declared.scanner.Spot.TheVariants.{Gap, Word}

abbrev pub place_of : Spot → Place
place_of (Gap g) = gap_place g
place_of (Word n) = word n

-- whatever comes after the byte: the text reads as the rest of it does, or as a number and the rest, or not at all
abbrev pub Pushed : Spot → ℕ → Spot → Result (Option ℕ) NoNumber → Type 0
Pushed spot byte after (Ok None) = (rest : List ℕ) → read_from (place_of spot) (byte ∷ rest) ≡ read_from (place_of after) rest
Pushed spot byte after (Ok (Some n)) =
    (rest : List ℕ) → read_from (place_of spot) (byte ∷ rest) ≡ with n (read_from (place_of after) rest)
Pushed spot byte after (Err e) = (rest : List ℕ) → read_from (place_of spot) (byte ∷ rest) ≡ None

abbrev pub at_end : Spot → Option ℕ
at_end (Gap g) = None
at_end (Word n) = Some n
