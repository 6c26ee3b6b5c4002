-- A product adds nothing to J, which then stays as it was.
use Rattle.std.proofs.Common.{◌≡◌, sym, ap}
use Rattle.arithmetic.specs.Numbers.{modulo}
use Rattle.circuits.specs.Views.{kind_meant}
use Rattle.circuits.specs.declared.gate.Kind.{Kind}
use Rattle.fronts.specs.Gathers.{to_rest}
use Rattle.fronts.proofs.Gathering.{add_at_nothing, add_at_equal}
use Rattle.fronts.proofs.gather.add_gate.Goals as goal

pub returns-in-Product-clause-j : goal.returns-in-Product-clause-j
returns-in-Product-clause-j g c =
    let p = g.M.Modular.modulus in
    let N = modulo p in
    let j = c.args.j.now in
    let no-rest : to_rest N (kind_meant c.args.kind) c.args.weight c.args.other ≡ 0 = ap (λ (k : Kind). to_rest N (kind_meant k) c.args.weight c.args.other) c.in-Product.is in
    add_at_equal p j j c.args.place _ _ (add_at_nothing p j c.args.place c.requires.reduced.1 c.requires.place.1) (sym no-rest)
