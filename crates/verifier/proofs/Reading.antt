-- Numbers that are said and well formed are reduced, each of them.
-- Their count is looked at first.
use Rattle.std.proofs.Common.{◌≡◌, ℕ, ◌<◌, true, eqb, List, length, get_or, sym, subst, arith}
use Rattle.std.proofs.lemmas.Bool.{and_parts, eqb-true}
use Rattle.arithmetic.specs.Numbers.{all_reduced}
use Rattle.arithmetic.proofs.Newton.{reduced_at}
use Rattle.arithmetic.proofs.Truth.{T_of_path}
use Rattle.circuits.specs.Words.{modulus}
use Rattle.argument.specs.Sumcheck.{well_formed}
use Rattle.claims.specs.Meaning.{numbers}

pub formed_at : (n : ℕ) (xs ys : List ℕ) → xs ≡ ys → well_formed numbers n ys ≡ true → (i : ℕ) → i < n → get_or xs i 0 < modulus
formed_at n xs ys e h i l =
    let both = and_parts (eqb (length ys) n) (all_reduced numbers ys) h in
    let long : length ys ≡ n = eqb-true (length ys) n both.0 in
    subst (λ (zs : List ℕ). get_or zs i 0 < modulus) (sym e) (reduced_at modulus ys (T_of_path _ both.1) i (omega arith))
