-- The words after the first three of a lawful circuit are those of its layers.
use Rattle.std.proofs.Common.{drop, arith}
use Rattle.circuits.specs.Words.{word}
use Rattle.circuits.proofs.Parts.{circuit_layers, layers_from, head_word}
use Rattle.circuits.proofs.view.CircuitView.layers.Goals as goal

pub invariant_of-result : goal.invariant_of-result
invariant_of-result c =
    let ws = c.args.self.words.now in
    let h = rw c.unwrap.ensures at c.split_first_chunk.ensures.cases in
    let front = c.unwrap.result.0.now in
    let copies = head_word ws front 0 h.0 (omega arith) in
    let inputs = head_word ws front 1 h.0 (omega arith) in
    let count = head_word ws front 2 h.0 (omega arith) in
    record {
      lawful = rw (copies, inputs, count, h.1) (layers_from (word ws 0) (word ws 1) (word ws 2) (drop 3 ws) (circuit_layers ws c.args.self.lawful));
    }
