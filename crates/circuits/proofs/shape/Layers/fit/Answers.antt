-- The layer that is split off is the first of those left, so the definition takes the same step.
use Rattle.std.proofs.Common.{◌≡◌, ℕ, ◌*◌, ◌/◌, ◌^◌, Bool, true, false, ◌&&◌, length, drop, sym, ◌∙◌, arith}
use Rattle.circuits.specs.Circuit.{gates_fit, layers_fit, size_below}
use Rattle.circuits.specs.Words.{word, gates_of, layers_of}
use Rattle.circuits.specs.Split.{SplitOff}
use Rattle.circuits.specs.declared.places.Layer.{Layer}
use Rattle.circuits.specs.declared.shape.Layers.{Layers}
use Rattle.circuits.proofs.Steps.{gates_front, layers_more, layers_fit_none}
use Rattle.circuits.proofs.shape.Layers.fit.Goals as goal

fits_step : (all below : Layers) (first : Layer) (inputs top places : ℕ) (b : Bool) → SplitOff all.copies all.count all.words.now first below →
    top ≡ size_below (layers_of below.count below.words.now) inputs → places ≡ 2 ^ top → b ≡ gates_fit places (gates_of (length first.gates.now / 3) first.gates.now) →
    layers_fit (layers_of all.count all.words.now) inputs ≡ (b && layers_fit (layers_of below.count below.words.now) inputs)
fits_step all below first inputs top places b s et ep eb =
    let ws = all.words.now in
    let d : length first.gates.now / 3 ≡ 2 ^ first.size = omega (arith, s.whole) in
    let front = gates_front (2 ^ word ws 0) (3 * 2 ^ word ws 0) (drop 1 ws) (omega arith) in
    let more = layers_more all.count below.count inputs ws s.one_less in
    let gates = s.gates in
    let size = s.size in
    let rest = s.rest in
    cc

pub loop-first-preserved : goal.loop-first-preserved
loop-first-preserved c =
    record {
      same = c.loop-first.invariant.same
          ∙ fits_step c.loop-first.rest c.in-Some.below c.in-Some.first c.args.inputs c.top_size.result c.power.result true
          c.in-Some.ensures c.top_size.ensures.size c.power.ensures.value c.if-not-gates_fit.ensures;
      copies = c.in-Some.ensures.same_copies ∙ c.loop-first.invariant.copies;
    }

pub returns-then-not-gates_fit : goal.returns-then-not-gates_fit
returns-then-not-gates_fit c =
    sym (c.loop-first.invariant.same
    ∙ fits_step c.loop-first.rest c.in-Some.below c.in-Some.first c.args.inputs c.top_size.result c.power.result false
    c.in-Some.ensures c.top_size.ensures.size c.power.ensures.value c.if-not-gates_fit.ensures)

pub returns : goal.returns
returns c = sym (c.loop-first.invariant.same ∙ layers_fit_none c.loop-first.rest.count c.args.inputs c.loop-first.rest.words.now c.in_default.ensures)
