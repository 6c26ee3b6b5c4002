-- The first layer that is split off is lawful, and so are those below it, since all of them are.
use Rattle.std.proofs.Common.{refl, sym, ◌∙◌, arith}
use Rattle.circuits.specs.Split.{SplitOff}
use Rattle.circuits.specs.declared.view.LayersView.{LayersView}
use Rattle.circuits.proofs.Parts.{LayersParts, layers_parts, split_is_layer, split_layers, split_are_layers}
use Rattle.circuits.proofs.Steps.{layers_none}
use Rattle.circuits.proofs.view.LayersView.split_first.Goals as goal

parts : (v : LayersView) → LayersParts v.copies v.inputs v.count v.words.now
parts v = layers_parts v.copies v.inputs v.count v.words.now v.lawful

pub returns-in_err-first : goal.returns-in_err-first
returns-in_err-first c = rw c.from_residual.ensures (layers_none c.args.self.count c.args.self.words.now (sym c.layers.ensures.count ∙ c.in_err-first.ensures))

pub invariant_of-layer : goal.invariant_of-layer
invariant_of-layer c =
    let v = c.args.self in
    let e = c.layers.ensures in
    let s : SplitOff v.copies v.count v.words.now c.in_ok-first.first c.in_ok-first.below = rw (e.copies, e.count, e.words) at c.in_ok-first.ensures in
    record {
      lawful = split_is_layer v.copies v.inputs v.count v.words.now c.in_ok-first.first c.in_ok-first.below (parts v) s
          c.top_size.result c.top_size.ensures.size (omega (arith, s.same_copies, c.top_size.ensures.limit));
    }

pub invariant_of-rest : goal.invariant_of-rest
invariant_of-rest c =
    let v = c.args.self in
    let e = c.layers.ensures in
    let s : SplitOff v.copies v.count v.words.now c.in_ok-first.first c.in_ok-first.below = rw (e.copies, e.count, e.words) at c.in_ok-first.ensures in
    record { lawful = split_are_layers v.copies v.inputs v.count v.words.now c.in_ok-first.first c.in_ok-first.below (parts v) s c.in_ok-first.below.shaped }

pub returns : goal.returns
returns c =
    let v = c.args.self in
    let e = c.layers.ensures in
    let s : SplitOff v.copies v.count v.words.now c.in_ok-first.first c.in_ok-first.below = rw (e.copies, e.count, e.words) at c.in_ok-first.ensures in
    record {
      layers = split_layers v.copies v.inputs v.count v.words.now c.in_ok-first.first c.in_ok-first.below (parts v) s;
      places = c.top_size.ensures.size;
      copies = refl;
      inputs = refl;
    }
