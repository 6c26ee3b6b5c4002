-- The gates that are left add to the tables what makes them whole.
use Rattle.std.proofs.Common.{◌^◌, length}
use Rattle.arithmetic.specs.Numbers.{modulo}
use Rattle.circuits.specs.Views.{gates_seen, places_below}
use Rattle.fronts.specs.Gathers.{to_product, to_rest}
use Rattle.fronts.proofs.Gathering.{Passed}
use Rattle.fronts.proofs.gather.gather.Given as goal

abbrev pub invariant-loop-gate : goal.invariant-loop-gate
invariant-loop-gate g l =
    let p = g.M.Modular.modulus in
    let n = 2 ^ places_below l.layer in
    record {
      h : Passed p n (λ gate r. g.F.Fn.post l.pick (gate, tt) r) (to_product (modulo p)) (gates_seen l.layer) l.weights l.initial.h (length l.yielded) l.h;
      j : Passed p n (λ gate r. g.F.Fn.post l.pick (gate, tt) r) (to_rest (modulo p)) (gates_seen l.layer) l.weights l.initial.j (length l.yielded) l.j;
    }
