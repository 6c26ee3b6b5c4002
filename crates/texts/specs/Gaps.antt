-- What a byte between words makes of the place where it stands.
-- Held to the machine that defines the numbers of a text from any place in it.
use Rattle.std.specs.Prelude.{◌≡◌, ℕ, false, List, ◌∷◌, Some, None, Option}
use Rattle.texts.specs.Machine.{Place, first, between, comment, read_from}
use Rattle.texts.specs.Texts.{is_gap}
use Rattle.texts.specs.declared.gap.Gap.{Gap}
use Rattle.texts.specs.declared.gap.Gap.TheVariants.{First, Between, Comment}

abbrev pub gap_place : Gap → Place
gap_place First = first
gap_place Between = between
gap_place Comment = comment

-- whatever comes after the byte: the text reads as the rest of it does, or, where the byte begins a word, as it would anywhere in its line
abbrev pub Past : Gap → ℕ → Option Gap → Type 0
Past gap byte (Some after) = (rest : List ℕ) → read_from (gap_place gap) (byte ∷ rest) ≡ read_from (gap_place after) rest
Past gap byte None =
    (is_gap byte ≡ false) × ((rest : List ℕ) → read_from (gap_place gap) (byte ∷ rest) ≡ read_from between (byte ∷ rest))
