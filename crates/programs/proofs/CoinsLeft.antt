-- How many coins are still to fall where the verifier stands: none at the inputs, and one less after each answer and coin.
-- So a talk, which ends at the inputs, has just as many coins as the argument takes.
use Rattle.std.proofs.Common.{◌≡◌, ℕ, suc, ◌+◌, ◌≤◌, true, false, ◌⊎◌, List, [], ◌∷◌, length, drop, sym, refl, subst, inl, inr, arith}
use Rattle.std.proofs.lemmas.List.{length_push}
use Rattle.std.proofs.lemmas.Bool.{cases_Bool}
use Rattle.arithmetic.specs.Numbers.{Numbers}
use Rattle.circuits.specs.Circuit.{Layer, Circuit}
use Rattle.argument.specs.Argument.{layer_coins}
use Rattle.verdicts.specs.Machine.{Stand, variables, variables_of, variable_due, next, start}
use Rattle.verdicts.proofs.Stepping.{Due, Done, due_is, done_is, next_due, next_done}
use Rattle.programs.specs.Judge.{at_inputs}

abbrev pub CoinsLeft : {K : Type 0} → Stand K → ℕ → Type 0
CoinsLeft s n =
    (length s.point ≤ variables_of s) × (length s.point + n ≡ layer_coins s.copies s.layers s.inputs)

-- ---- by the layers that are left, d coins having fallen for the top one
inputs_reached : (copies inputs : ℕ) (ls : List Layer) (d : ℕ) → d ≤ variables copies inputs ls →
    d + 0 ≡ layer_coins copies ls inputs → at_inputs ls ≡ true
unfolding layer_coins
inputs_reached copies inputs [] d h e = refl
inputs_reached copies inputs (l ∷ ls) d h e = absurd (omega arith)

inputs_below : (copies inputs : ℕ) (ls : List Layer) (d n : ℕ) → d + suc n ≡ layer_coins copies ls inputs →
    at_inputs ls ≡ false
unfolding layer_coins
inputs_below copies inputs [] d n e = absurd (omega arith)
inputs_below copies inputs (l ∷ ls) d n e = refl

left_below : (copies inputs : ℕ) (ls : List Layer) (d n : ℕ) → d ≤ variables copies inputs ls →
    variables copies inputs ls ≤ d → d + suc n ≡ layer_coins copies ls inputs → 0 + n ≡ layer_coins copies (drop 1 ls) inputs
unfolding layer_coins
left_below copies inputs [] d n h k e = absurd (omega arith)
left_below copies inputs (l ∷ ls) d n h k e = omega arith

-- ---- where the verifier stands
pub none_left : {K : Type 0} (s : Stand K) → CoinsLeft s 0 → at_inputs s.layers ≡ true
none_left s h = inputs_reached s.copies s.inputs s.layers (length s.point) h.0 h.1

pub some_left : {K : Type 0} (s : Stand K) (n : ℕ) → CoinsLeft s (suc n) → at_inputs s.layers ≡ false
some_left s n h = inputs_below s.copies s.inputs s.layers (length s.point) n h.1

module _ {K : Type 0} (N : Numbers K) where
  pub next_left : (s : Stand K) (n : ℕ) (a : List K) (r : K) → CoinsLeft s (suc n) → CoinsLeft (next N s a r) n
  next_left s n a r h = go (cases_Bool (variable_due s))
    where
      due : Due s → CoinsLeft (next N s a r) n
      due below =
          subst (λ (t : Stand K). CoinsLeft t n) (sym (next_due N s a r below))
          (omega (arith, length_push s.point r), omega (arith, length_push s.point r))

      done : Done s → CoinsLeft (next N s a r) n
      done full =
          subst (λ (t : Stand K). CoinsLeft t n) (sym (next_done N s a r full))
          (omega arith, left_below s.copies s.inputs s.layers (length s.point) n h.0 full h.1)

      go : (variable_due s ≡ true) ⊎ (variable_due s ≡ false) → CoinsLeft (next N s a r) n
      go (inl e) = due (due_is s (variable_due s) refl e)
      go (inr e) = done (done_is s (variable_due s) refl e)

  pub start_left : (c : Circuit) (claimed z : List K) →
      CoinsLeft (start N c claimed z) (layer_coins c.copies c.layers c.inputs)
  start_left c claimed z = (omega arith, omega arith)
