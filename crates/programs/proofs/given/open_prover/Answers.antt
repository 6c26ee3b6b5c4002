-- What the view sees is the words that were checked, and numbers that are reduced are below the modulus.
use Rattle.std.proofs.Common.{◌≡◌, ℕ, ◌+◌, ◌^◌, ◌≤◌, List, length, sym, le_of_eq, lit<}
use mathlib.Core.Path.{subst⁻¹}
use Rattle.circuits.specs.Words.{modulus, word, circuit_of}
use Rattle.circuits.proofs.Reduced.{reduced_each}
use Rattle.argument.specs.Argument.{first_coins}
use Rattle.programs.proofs.given.open_prover.Goals as goal

pub open-requires : goal.open-requires
open-requires c =
    let vs = c.args.inputs.now in
    let coins = c.args.coins.now in
    record {
      inputs =
          (subst⁻¹ (λ (ws : List ℕ). length vs ≡ 2 ^ (word ws 0 + word ws 1)) c.new.ensures c.requires.given.inputs, reduced_each modulus vs (lit< tt) c.requires.given.inputs_reduced);
      coins =
          (subst⁻¹ (λ (ws : List ℕ). first_coins (circuit_of ws) ≤ length coins) c.new.ensures (le_of_eq (sym c.requires.coins.0)), c.requires.coins.1);
    }
