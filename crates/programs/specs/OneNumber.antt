-- A text that has to be just one number: a line with a coin, or how many coins are asked for.
-- Anything else is a text of no known form.
use Rattle.std.specs.Prelude.{ℕ, cond, List, [], ◌∷◌, Some, None, Ok, Err, Option, Result, nat_lt}
use Rattle.circuits.specs.Words.{modulus}
use Rattle.refusals.specs.declared.Refusal.{Refusal}
use Rattle.refusals.specs.declared.Refusal.TheVariants.{NotReduced, UnknownForm}

abbrev pub one_number : Option (List ℕ) → Result ℕ Refusal
one_number None = Err UnknownForm
one_number (Some []) = Err UnknownForm
one_number (Some (n ∷ [])) = Ok n
one_number (Some (n ∷ m ∷ numbers)) = Err UnknownForm

-- a coin has to be below p too
abbrev pub reduced_only : Result ℕ Refusal → Result ℕ Refusal
reduced_only (Ok r) = cond (nat_lt r modulus) (Ok r) (Err NotReduced)
reduced_only (Err e) = Err e
