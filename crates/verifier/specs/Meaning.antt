-- Which stand of the machine a verifier is at.
-- An array's words beyond a point's coordinates mean nothing.
use Rattle.std.specs.Prelude.{ℕ, List}
use Rattle.circuits.specs.Circuit.{size_below}
use Rattle.circuits.specs.Views.{layers_seen, copies_above, inputs_below}
use Rattle.verdicts.specs.Machine.{Stand}
use Rattle.claims.specs.Drawing.{coins_drawn}
use Rattle.claims.specs.Meaning.{claim_meant}
use Rattle.verifier.specs.declared.verifier.Verifier.{Verifier}

abbrev pub stand_of : Verifier → Stand ℕ
stand_of v =
    let copies = copies_above v.layers in
    let inputs = inputs_below v.layers in
    let layers = layers_seen v.layers in
    record {
      copies = copies;
      inputs = inputs;
      layer = v.layer;
      layers = layers;
      claim = claim_meant copies (size_below layers inputs) v.claim;
      point = coins_drawn v.drawn;
      total = v.total;
    }

abbrev pub inputs_of : Verifier → List ℕ
inputs_of v = v.inputs.now
