-- The part is reduced, and so are the zeros behind it.
use Rattle.std.proofs.Common.{◌≡◌, ℕ, ◌+◌, ◌-◌, true, List, drop, replicate, sym, refl, subst}
use Rattle.arithmetic.specs.Numbers.{modulo, all_reduced}
use Rattle.circuits.specs.Words.{modulus}
use Rattle.claims.proofs.Cutting.{reduced_part, reduced_rest, reduced_both}
use Rattle.claims.proofs.cut.cut.Goals as goal

reduced_zeros : all_reduced (modulo modulus) (replicate 16 0) ≡ true
unfolding all_reduced
reduced_zeros = refl

pub returns-clause-reduced : goal.returns-clause-reduced
returns-clause-reduced c =
    let numbers = c.args.numbers.now in
    let copied = c.copy_from_slice.new.self in
    let rest = drop (c.args.len - 0) (replicate 16 0) in
    let part : all_reduced (modulo modulus) copied ≡ true =
    subst (λ (xs : List ℕ). all_reduced (modulo modulus) xs ≡ true) (sym c.copy_from_slice.ensures.after)
    (reduced_part modulus c.args.from (c.args.from + c.args.len - c.args.from) numbers c.requires.reduced)
    in
    reduced_both modulus copied rest part (reduced_rest modulus (c.args.len - 0) (replicate 16 0) reduced_zeros)
