-- Each number is asked in turn, as the definition does.
use Rattle.std.proofs.Common.{◌≡◌, ℕ, ◌&&◌, List, ltb, refl, ◌∙◌, rules, tests}
use Rattle.std.specs.List.{list_all}
use Rattle.std.proofs.lemmas.List.Recursion.{same_from_clauses}
use Rattle.std.proofs.lemmas.Iterator.{YieldsList-from_slice}
use Rattle.std.proofs.lemmas.Iterator.Search.{all_from_yields_List}
use Rattle.arithmetic.specs.Numbers.{modulo, all_reduced}
use Rattle.circuits.proofs.checks.all_reduced.Goals as goal

all_below : (p : ℕ) (xs : List ℕ) → list_all (λ x. ltb x p) xs ≡ all_reduced (modulo p) xs
unfolding all_reduced
all_below p = same_from_clauses (list_all (λ x. ltb x p)) (all_reduced (modulo p)) (λ x b. ltb x p && b) refl (λ x xs. refl) (λ x xs. refl)

pub returns : goal.returns
returns g c =
    let p = g.M.Modular.modulus in
    all_from_yields_List (λ x. ltb x p) _ _ c.all.result c.all.ensures.ran (YieldsList-from_slice c.args.words.now (cc)) (λ x b q k. search (rules, tests))
    ∙ all_below p c.args.words.now
