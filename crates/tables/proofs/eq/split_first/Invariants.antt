-- The first i numbers are split.
use Rattle.arithmetic.specs.Numbers.{modulo}
use Rattle.tables.specs.InPlace.{low_part, high_part}
use Rattle.tables.proofs.DoublingSteps.{Splitting}
use Rattle.tables.proofs.eq.split_first.Given as goal

abbrev pub invariant-loop-i : goal.invariant-loop-i
invariant-loop-i g l =
    let N = modulo g.M.Modular.modulus in Splitting (low_part N l.r) (high_part N l.r) l.initial.low l.low l.high l.i
