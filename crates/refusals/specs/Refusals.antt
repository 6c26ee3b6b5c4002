-- The number of each refusal, by which callers and programs know it.
-- No refusal is 0.
use Rattle.std.specs.Prelude.{◌≡◌, ℕ, Bool, true, false, Ok, Err, Result}
use Rattle.refusals.specs.declared.Refusal.{Refusal}
use Rattle.refusals.specs.declared.Refusal.TheVariants.{NoCircuit, WrongCount, NotReduced, NotBelieved, UnknownForm}

abbrev pub number_of : Refusal → ℕ
number_of NoCircuit = 1
number_of WrongCount = 2
number_of NotReduced = 3
number_of NotBelieved = 4
number_of UnknownForm = 5

-- what a call that may refuse answers: 0, or the number of the refusal
abbrev pub answer_of : {X : Type 0} → Result X Refusal → ℕ
answer_of (Ok x) = 0
answer_of (Err e) = number_of e

-- a check that refuses by e just where a test fails
abbrev pub RefusedUnless : {X : Type 0} → Bool → Refusal → Result X Refusal → Type 0
RefusedUnless b e (Ok x) = b ≡ true
RefusedUnless b e (Err d) = (d ≡ e) × (b ≡ false)
