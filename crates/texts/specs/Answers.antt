-- What each answer of the reader says of the text, and which refusal each of its errors is.
-- A text that has no numbers, because a word of it is none, is not the text that has no word at all.
use Rattle.std.specs.Prelude.{◌≡◌, ℕ, ◌<◌, ◌≤◌, List, [], ◌∷◌, ◌++◌, length, drop, Some, None, Ok, Err, Option, Result}
use Rattle.std.specs.Option.{option_map}
use Rattle.refusals.specs.declared.Refusal.{Refusal}
use Rattle.refusals.specs.declared.Refusal.TheVariants.{WrongCount, UnknownForm}
use Rattle.texts.specs.Texts.{numbers_of}
use Rattle.texts.specs.declared.error.TextError.{TextError}
use Rattle.texts.specs.declared.error.TextError.TheVariants.{NoNumber, TooMany, NoMemory}

-- a text of no known form, or not as many numbers as it takes; want of memory is no refusal
abbrev pub refusal_of : TextError → Option Refusal
refusal_of NoNumber = Some UnknownForm
refusal_of TooMany = Some WrongCount
refusal_of (NoMemory e) = None

-- the next number of a text, and what is left of the text after it
abbrev pub Next : List ℕ → Result (Option ℕ) TextError → List ℕ → Type 0
Next text (Ok (Some n)) rest = (numbers_of text ≡ option_map (λ ns. n ∷ ns) (numbers_of rest)) × (length rest < length text)
Next text (Ok None) rest = (numbers_of text ≡ Some []) × (rest ≡ [])
Next text (Err NoNumber) rest = (numbers_of text ≡ None) × (rest ≡ text)
Next text (Err TooMany) rest = ⊥
Next text (Err (NoMemory e)) rest = ⊥

-- the same number after number: after an error nothing more comes
abbrev pub Gives : List ℕ → Option (Result ℕ TextError) → List ℕ → Type 0
Gives text None rest = Next text (Ok None) rest
Gives text (Some (Ok n)) rest = Next text (Ok (Some n)) rest
Gives text (Some (Err e)) rest = (e ≡ NoNumber) × (numbers_of text ≡ None) × (rest ≡ [])

-- what an error says of a text of which all numbers are wanted, as many as they are
abbrev pub Unread : List ℕ → TextError → Type 0
Unread text NoNumber = numbers_of text ≡ None
Unread text TooMany = ⊥
Unread text (NoMemory e) = Unit {0}

-- all numbers of a text, into lent words: how many there are, and the words beyond them as they were
abbrev pub ReadInto : List ℕ → List ℕ → Result ℕ TextError → List ℕ → Type 0
ReadInto text room (Ok n) filled =
    (ns : List ℕ) × (numbers_of text ≡ Some ns) × (n ≡ length ns) × (n ≤ length room) × (filled ≡ ns ++ drop n room)
ReadInto text room (Err NoNumber) filled = numbers_of text ≡ None
ReadInto text room (Err TooMany) filled = (ns : List ℕ) × (numbers_of text ≡ Some ns) × (length room < length ns)
ReadInto text room (Err (NoMemory e)) filled = ⊥
