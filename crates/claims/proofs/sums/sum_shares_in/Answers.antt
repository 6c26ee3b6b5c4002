-- What is left after the copies' variables are fixed leads to the value at each share's whole point.
use Rattle.std.proofs.Common.{◌≡◌, ℕ, ◌+◌, ◌-◌, ◌^◌, List, ◌++◌, length, take, Some, None, Option, sym, ap, ◌∙◌, arith}
use Rattle.arithmetic.specs.Numbers.{modulo}
use Rattle.tables.specs.Multilinear.{mle}
use Rattle.tables.proofs.ReducedLists.{reduced_take}
use Rattle.claims.specs.declared.share.ShareView.{ShareView}
use Rattle.claims.specs.Shares.{SecondFits, second_seen, shares_seen}
use Rattle.claims.proofs.Summing.{SameSize, sum_fixed}
use Rattle.claims.proofs.sums.sum_shares_in.Goals as goal

second_size : (p n : ℕ) (second : Option ShareView) → SecondFits p n second → SameSize n (second_seen second)
second_size p n None fit = tt
second_size p n (Some s) fit = (fit.coordinates, tt)

pub add_shares-requires-clause-reduced : goal.add_shares-requires-clause-reduced
add_shares-requires-clause-reduced g c =
    reduced_take g.M.Modular.modulus (c.fix_variables-left.result - 0) c.fix_variables-left.new.table c.fix_variables-left.ensures.reduced

pub returns : goal.returns
returns g c =
    let p = g.M.Modular.modulus in
    let left = c.fix_variables-left.result in
    let table = c.fix_variables-left.new.table in
    let values = c.args.values.now in
    let copy = c.args.copy.now in
    let n : ℕ = length c.args.shares.first.point.now in
    let copied : c.copy_from_slice.new.self ≡ values = c.copy_from_slice.ensures.after in
    let shares = shares_seen c.args.shares in
    let fixed : (z : List ℕ) → length z ≡ n → mle (modulo p) (take (left - 0) table) z ≡ mle (modulo p) values (copy ++ z) =
    λ z e.
    ap (λ (m : ℕ). mle (modulo p) (take m table) z) (omega arith) ∙
    c.fix_variables-left.ensures.values z
    (ap length copied ∙ c.requires.length.0 ∙ ap (λ (m : ℕ). 2 ^ (length copy + m)) (sym e)) ∙
    ap (λ (xs : List ℕ). mle (modulo p) xs (copy ++ z)) copied
    in
    c.add_shares.ensures ∙
    sum_fixed p n values copy (take (left - 0) table) shares (c.requires.shares.first.coordinates, second_size p n c.args.shares.second c.requires.shares.second) fixed
