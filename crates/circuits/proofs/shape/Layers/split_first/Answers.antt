-- Words of the shape of layers start with a whole layer, so that its parts lie within them.
use Rattle.std.proofs.Common.{◌≡◌, ◌+◌, ◌-◌, ◌*◌, ◌^◌, ◌<◌, length, take, drop, refl, ap, ◌∙◌, arith}
use Rattle.std.proofs.lemmas.List.{take_rest, length-take-le, length-drop}
use Rattle.circuits.specs.Parts.{layer_length}
use Rattle.circuits.specs.Words.{word, shaped}
use Rattle.circuits.proofs.Steps.{shaped_starts}
use Rattle.circuits.proofs.shape.Layers.split_first.Goals as goal

pub bounds-self-0 : goal.bounds-self-0
bounds-self-0 c =
    let s = shaped_starts c.args.self.copies c.args.self.count c.args.self.words.now (omega arith) c.args.self.shaped in
    omega arith

pub power-requires : goal.power-requires
power-requires c =
    let s = shaped_starts c.args.self.copies c.args.self.count c.args.self.words.now (omega arith) c.args.self.shaped in
    omega (arith, s.limit)

pub slice_bounds-first-end : goal.slice_bounds-first-end
slice_bounds-first-end c =
    let s = shaped_starts c.args.self.copies c.args.self.count c.args.self.words.now (omega arith) c.args.self.shaped in
    omega arith

pub invariant_of-below : goal.invariant_of-below
invariant_of-below c =
    let ws = c.args.self.words.now in
    let n = c.power.result in
    let s = shaped_starts c.args.self.copies c.args.self.count ws (omega arith) c.args.self.shaped in
    let r : take (length ws - (1 + 3 * n)) (drop (1 + 3 * n) ws) ≡ drop (layer_length ws) ws = take_rest ws (1 + 3 * n) ∙ ap (λ x. drop (1 + 3 * x) ws) c.power.ensures.value in
    record { shaped = ap (shaped c.args.self.copies (c.args.self.count - 1)) r ∙ s.rest }

pub returns : goal.returns
returns c =
    let ws = c.args.self.words.now in
    let n = c.power.result in
    let some : 0 < c.args.self.count = omega arith in
    let s = shaped_starts c.args.self.copies c.args.self.count ws some c.args.self.shaped in
    let k : 1 + 3 * n - 1 ≡ 3 * 2 ^ word ws 0 = omega (arith, c.power.ensures.value) in
    let g : take (1 + 3 * n - 1) (drop 1 ws) ≡ take (3 * 2 ^ word ws 0) (drop 1 ws) = ap (λ x. take x (drop 1 ws)) k in
    record {
      same_copies = refl;
      one_less = omega arith;
      size = refl;
      limit = s.limit;
      gates = g;
      whole = ap length g ∙ length-take-le (3 * 2 ^ word ws 0) (drop 1 ws) (omega (arith, length-drop 1 ws, s.long));
      rest = take_rest ws (1 + 3 * n) ∙ ap (λ x. drop (1 + 3 * x) ws) c.power.ensures.value;
    }
