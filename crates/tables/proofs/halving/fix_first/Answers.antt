-- Each turn reads two places as they were at the start, and fixes the first of them.
use Rattle.std.proofs.Common.{◌≡◌, ℕ, ◌+◌, ◌/◌, ◌<◌, T, List, length, sym, ap, ◌∙◌, subst, arith}
use Rattle.arithmetic.specs.Numbers.{modulo, all_reduced}
use Rattle.tables.proofs.HalvingSteps.{partly_fixed, partly_none, partly_at, partly_more, partly_reduced}
use Rattle.tables.proofs.ReducedLists.{reduced_anywhere}
use Rattle.tables.proofs.halving.fix_first.Goals as goal

pub loop-i-init : goal.loop-i-init
loop-i-init g c =
    partly_none (modulo g.M.Modular.modulus) c.args.r (length c.args.table.now / 2) c.args.table.now

pub at_line-requires : goal.at_line-requires
at_line-requires g c =
    let p = g.M.Modular.modulus in
    let xs = c.args.table.now in
    let positive : 0 < p = omega (arith, g.met.M.Modular.above) in
    let kept = partly_reduced p positive c.args.r (length xs / 2) c.loop-i.i xs c.requires.reduced in
    let reduced = subst (λ (l : List ℕ). T (all_reduced (modulo p) l)) (sym c.loop-i.invariant) kept in
    let below = reduced_anywhere p positive c.loop-i.table reduced in
    record { a_lt_modulus = (below _, below _); r_lt_modulus = c.requires.r_below }

pub loop-i-preserved : goal.loop-i-preserved
loop-i-preserved g c =
    let p = g.M.Modular.modulus in
    let xs = c.args.table.now in
    let half : ℕ = length xs / 2 in
    let i = c.loop-i.i in
    let first = partly_at (modulo p) c.args.r 0 half i i xs (omega arith) (omega arith) in
    let second = partly_at (modulo p) c.args.r 0 half i (half + i) xs (omega arith) (omega arith) in
    let more = partly_more (modulo p) c.args.r 0 half i xs (omega arith) in
    cc

pub returns : goal.returns
returns g c =
    let p = g.M.Modular.modulus in
    let xs = c.args.table.now in
    let half : ℕ = length xs / 2 in
    let end : c.loop-i.i ≡ half = omega arith in
    let positive : 0 < p = omega (arith, g.met.M.Modular.above) in
    let whole = partly_reduced p positive c.args.r half half xs c.requires.reduced in
    let words = c.loop-i.invariant ∙ ap (λ (i : ℕ). partly_fixed (modulo p) c.args.r half i xs) end in
    record { words = words; reduced = subst (λ (l : List ℕ). T (all_reduced (modulo p) l)) (sym words) whole }
