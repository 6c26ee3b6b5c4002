-- Lists of numbers below a modulus, as the code that works layers out takes them.
-- Past its end a list is read as 0, which is below too.
use Rattle.std.specs.Prelude.{ℕ, ◌<◌, List, slice_index}

abbrev pub EachBelow : ℕ → List ℕ → Type 0
EachBelow p xs = (k : ℕ) → slice_index xs k < p
