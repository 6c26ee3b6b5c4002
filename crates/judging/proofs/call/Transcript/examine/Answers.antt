-- The first coins choose the outputs' point, and the verifier hears the rest.
use Rattle.std.proofs.Common.{◌≡◌, ℕ, true, List, sym, ◌∙◌, subst}
use Rattle.arithmetic.specs.Numbers.{all_reduced}
use Rattle.circuits.specs.Words.{modulus}
use Rattle.claims.specs.Meaning.{numbers}
use Rattle.claims.proofs.Cutting.{reduced_part, reduced_rest}
use Rattle.judging.proofs.call.Transcript.examine.Goals as goal

pub new-verifier-requires-clause-coins : goal.new-verifier-requires-clause-coins
new-verifier-requires-clause-coins c = (
  c.split_at.ensures.front_len ∙ c.first_coins.ensures.value,
  subst (λ (xs : List ℕ). all_reduced numbers xs ≡ true) (sym c.split_at.ensures.front)
      (reduced_part modulus 0 c.first_coins.result c.args.self.coins.now c.in_ok-view.ensures.1.coins_reduced),
)

pub hear_all-requires-clause-coins : goal.hear_all-requires-clause-coins
hear_all-requires-clause-coins c =
    subst (λ (xs : List ℕ). all_reduced numbers xs ≡ true) (sym c.split_at.ensures.back)
    (reduced_rest modulus c.first_coins.result c.args.self.coins.now c.in_ok-view.ensures.1.coins_reduced)
