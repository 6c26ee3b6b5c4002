-- The layers below leave their values at the front of the spare room, and the first layer is worked out over those.
use Rattle.std.proofs.Common.{◌≡◌, ℕ, ◌-◌, ◌*◌, ◌^◌, ◌<◌, List, [], ◌∷◌, length, take, sym, ap, ◌∙◌, subst, ap₂, arith}
use native.Mathlib.Nat.{sub-zero}
use borrow.Rule.Slice.PartMut.{post_of}
use Rattle.arithmetic.specs.Numbers.{Numbers, modulo}
use Rattle.circuits.specs.Circuit.{Layer, size_below, all_values}
use Rattle.circuits.specs.Values.{EachBelow}
use Rattle.circuits.specs.Views.{layers_seen, layer_seen, size_seen, places_below}
use Rattle.circuits.proofs.Parts.{layers_parts}
use Rattle.evaluation.proofs.WorkingOut.{count_limit, front_length, first_over, none_over, all_below}
use Rattle.evaluation.proofs.values.+work_out.Goals as goal

-- what the layers below left at the front of the spare room
left_below : (N : Numbers ℕ) (rest : List Layer) (copies inputs c i count : ℕ) (vs spare : List ℕ) → c ≡ copies → i ≡ inputs →
    count ≡ 2 ^ c * 2 ^ size_below rest i → take (2 ^ c * 2 ^ size_below rest i) spare ≡ all_values N rest (2 ^ i) (2 ^ c) vs →
    take (count - 0) spare ≡ all_values N rest (2 ^ inputs) (2 ^ copies) vs
left_below N rest copies inputs c i count vs spare ec ei en e =
    ap (λ k. take k spare) (sub-zero count ∙ en) ∙ e ∙ ap₂ (λ x y. all_values N rest (2 ^ x) (2 ^ y) vs) ei ec

pub slice_bounds-copy_from_slice-end : goal.slice_bounds-copy_from_slice-end
slice_bounds-copy_from_slice-end g t c =
    let v = c.args.layers in
    let p = layers_parts v.copies v.inputs v.count v.words.now v.lawful in
    let h = count_limit v.copies v.inputs p.limit in
    omega (arith, c.requires.inputs, c.requires.room)

pub layer_values-requires : goal.layer_values-requires
layer_values-requires g t c =
    let p = g.M.Modular.modulus in
    let v = c.args.layers in
    let first = c.in-Some.first in
    let r = c.in-Some.rest in
    let split = c.in-Some.ensures in
    let vs = c.args.inputs.now in
    let spare = c.work_out.new.values in
    let left = left_below (modulo p) (layers_seen r) v.copies v.inputs r.copies r.inputs c.value_count.result vs spare
    split.copies split.inputs c.value_count.ensures.value c.work_out.ensures in
    let a : c.value_count.result ≡ 2 ^ c.copies.result * 2 ^ places_below first = cc (split.places, split.copies, split.inputs) in
    let s : size_below (layers_seen v) v.inputs ≡ size_seen first = ap (λ ls. size_below ls v.inputs) split.layers in
    let b : c.value_count-made.result ≡ 2 ^ c.copies.result * 2 ^ size_seen first = cc in
    let h : 0 < p = omega (arith, g.met.M.Modular.above) in
    record {
      limit = c.copies.ensures.limit;
      lengths = (
        front_length spare c.value_count.result (omega (arith, c.requires.room)) ∙ a,
        front_length c.work_out.new.spare c.value_count-made.result (omega (arith, c.requires.room)) ∙ b,
      );
      reduced = subst (EachBelow p) (sym left) (all_below p h (layers_seen r) (2 ^ v.inputs) (2 ^ v.copies) vs c.requires.reduced);
    }

pub returns-in-None : goal.returns-in-None
returns-in-None g t c =
    let v = c.args.layers in
    none_over (modulo g.M.Modular.modulus) (layers_seen v) v.copies v.inputs c.args.inputs.now c.copy_from_slice.new.self (post_of 0 (length c.args.inputs.now - 0) c.args.values.now)
    (omega (arith, ap length c.in-None.ensures)) c.requires.inputs c.copy_from_slice.ensures.after

pub returns-in-Some : goal.returns-in-Some
returns-in-Some g t c =
    let N = modulo g.M.Modular.modulus in
    let v = c.args.layers in
    let first = c.in-Some.first in
    let r = c.in-Some.rest in
    let split = c.in-Some.ensures in
    let vs = c.args.inputs.now in
    let spare = c.work_out.new.values in
    let parts = layers_parts v.copies v.inputs v.count v.words.now v.lawful in
    let left = left_below N (layers_seen r) v.copies v.inputs r.copies r.inputs c.value_count.result vs spare
    split.copies split.inputs c.value_count.ensures.value c.work_out.ensures in
    let new : c.layer_values.new.values ≡ all_values N (layer_seen first ∷ []) (2 ^ size_below (layers_seen r) v.inputs) (2 ^ v.copies) (take (c.value_count.result - 0) spare) =
    c.layer_values.ensures ∙ ap₂ (λ x y. all_values N (layer_seen first ∷ []) (2 ^ x) (2 ^ y) (take (c.value_count.result - 0) spare)) split.places c.copies.ensures.value in
    first_over N (layers_seen v) (layers_seen r) (layer_seen first) v.copies v.inputs vs (take (c.value_count.result - 0) spare)
    c.layer_values.new.values (post_of 0 (c.value_count-made.result - 0) c.work_out.new.spare) split.layers parts.fits c.requires.inputs left new
