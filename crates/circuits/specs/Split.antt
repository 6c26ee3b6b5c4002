-- What splitting the first of some layers off gives: that layer, and those below it.
-- First of the words of n layers, and then of layers as a view shows them.
use Rattle.std.specs.Prelude.{◌≡◌, ℕ, ◌+◌, ◌*◌, ◌^◌, ◌≤◌, ◌∷◌, List, length, take, drop}
use Rattle.circuits.specs.Parts.{layer_length}
use Rattle.circuits.specs.Words.{word}
use Rattle.circuits.specs.Circuit.{size_below}
use Rattle.circuits.specs.Views.{layer_seen, layers_seen, copies_above, inputs_below, places_below}
use Rattle.circuits.specs.declared.places.Layer.{Layer}
use Rattle.circuits.specs.declared.shape.Layers.{Layers}
use Rattle.circuits.specs.declared.view.LayerView.{LayerView}
use Rattle.circuits.specs.declared.view.LayersView.{LayersView}

pub record SplitOff (copies n : ℕ) (ws : List ℕ) (first : Layer) (below : Layers) : Type 0 where
  pub same_copies : below.copies ≡ copies
  pub one_less : below.count + 1 ≡ n
  pub size : first.size ≡ word ws 0
  pub limit : copies + first.size ≤ 16
  pub gates : first.gates.now ≡ take (3 * 2 ^ word ws 0) (drop 1 ws)
  pub whole : length first.gates.now ≡ 3 * 2 ^ first.size
  pub rest : below.words.now ≡ drop (layer_length ws) ws

-- the same of views: the first layer over what lies below it, and the others over the same inputs
pub record SplitsOff (all : LayersView) (first : LayerView) (below : LayersView) : Type 0 where
  pub layers : layers_seen all ≡ layer_seen first ∷ layers_seen below
  pub places : places_below first ≡ size_below (layers_seen below) (inputs_below all)
  pub copies : copies_above below ≡ copies_above all
  pub inputs : inputs_below below ≡ inputs_below all
