-- How a kind is read from a word, or found to be none.
-- The code's conversion promises it.
use Rattle.std.specs.Prelude.{◌≡◌, ℕ, ◌≤◌, Result, MatchResult}
use Rattle.circuits.specs.declared.gate.Kind.{Kind}
use Rattle.circuits.specs.declared.gate.Kind.TheVariants.{Sum, Product}
use Rattle.circuits.specs.declared.gate.UnknownKind.{UnknownKind}

-- the word of a kind
abbrev pub word_of : Kind → ℕ
word_of Sum = 0
word_of Product = 1

-- the kind whose word this is, or an error where it is the word of none
abbrev pub Reads : ℕ → Result Kind UnknownKind → Type 0
Reads w r = MatchResult r (λ kind. w ≡ word_of kind) (λ _. 2 ≤ w)
