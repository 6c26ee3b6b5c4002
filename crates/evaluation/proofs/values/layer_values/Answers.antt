-- Each turn writes the values of one more copy behind those of the copies before it.
use Rattle.std.proofs.Common.{◌≡◌, ◌+◌, ◌-◌, ◌*◌, ◌^◌, [], ◌∷◌, length, sym, ◌∙◌, ap₂, arith}
use Rattle.std.proofs.lemmas.List.{take_all}
use Rattle.arithmetic.specs.Numbers.{modulo}
use Rattle.circuits.specs.Circuit.{all_values}
use Rattle.circuits.specs.Views.{layer_seen, places_below}
use Rattle.evaluation.proofs.WorkingOut.{row_end, part_length, part_below, layer_none, layer_more}
use Rattle.evaluation.proofs.values.layer_values.Goals as goal

pub loop-copy-init : goal.loop-copy-init
loop-copy-init g c =
    layer_none (modulo g.M.Modular.modulus) (layer_seen c.args.layer) c.power-places.result c.gate_count-gates.result c.args.below.now c.args.values.now

pub slice_bounds-gate_values-end : goal.slice_bounds-gate_values-end
slice_bounds-gate_values-end g c =
    let e : length c.args.below.now ≡ c.power-count.result * c.power-places.result = cc c.requires.lengths.0 in
    let h = row_end c.loop-copy.copy c.power-count.result c.power-places.result c.loop-copy-test.true in
    omega arith

pub slice_bounds-gate_values-end-in-loop-copy : goal.slice_bounds-gate_values-end-in-loop-copy
slice_bounds-gate_values-end-in-loop-copy g c =
    let e : length c.args.values.now ≡ c.power-count.result * c.gate_count-gates.result = cc c.requires.lengths.1 in
    let h = row_end c.loop-copy.copy c.power-count.result c.gate_count-gates.result c.loop-copy-test.true in
    omega arith

pub gate_values-requires : goal.gate_values-requires
gate_values-requires g c =
    let k = c.loop-copy.copy in
    let count = c.power-count.result in
    let n = c.power-places.result in
    let m = c.gate_count-gates.result in
    let below = c.args.below.now in
    let values = c.loop-copy.values in
    let e : length below ≡ count * n = cc c.requires.lengths.0 in
    let f : length values ≡ count * m = cc c.requires.lengths.1 in
    let h = row_end k count n c.loop-copy-test.true in
    let i = row_end k count m c.loop-copy-test.true in
    let a : n ≡ 2 ^ places_below c.args.layer = cc in
    record {
      lengths = (part_length below (k * n) n (omega arith) ∙ a, part_length values (k * m) m (omega arith) ∙ c.gate_count-gates.ensures.value);
      reduced = part_below g.M.Modular.modulus below (k * n) (k * n + n - k * n) c.requires.reduced;
    }

pub loop-copy-preserved : goal.loop-copy-preserved
loop-copy-preserved g c =
    let N = modulo g.M.Modular.modulus in
    let k = c.loop-copy.copy in
    let count = c.power-count.result in
    let n = c.power-places.result in
    let m = c.gate_count-gates.result in
    let values = c.loop-copy.values in
    let new = c.gate_values.new.values in
    let f : length values ≡ count * m = cc c.requires.lengths.1 in
    let i = row_end k count m c.loop-copy-test.true in
    let long : length new ≡ m = c.gate_values.auto.values ∙ part_length values (k * m) m (omega arith) in
    layer_more N (layer_seen c.args.layer) n m k c.args.below.now values new c.loop-copy.invariant c.gate_values.ensures long (omega arith)

pub returns : goal.returns
returns g c =
    let N = modulo g.M.Modular.modulus in
    let k = c.loop-copy.copy in
    let m = c.gate_count-gates.result in
    let values = c.loop-copy.values in
    let e : k ≡ c.power-count.result = omega arith in
    let f : length values ≡ k * m = cc c.requires.lengths.1 in
    let a : c.power-places.result ≡ 2 ^ places_below c.args.layer = cc in
    let b : k ≡ 2 ^ c.args.copies = cc in
    sym (take_all (k * m) values (omega arith)) ∙ c.loop-copy.invariant
    ∙ ap₂ (λ x y. all_values N (layer_seen c.args.layer ∷ []) x y c.args.below.now) a b
