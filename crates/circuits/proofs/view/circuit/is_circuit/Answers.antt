-- Within the limits it is left to ask for the shape and for the places.
use Rattle.std.proofs.Common.{◌≡◌, true, ◌&&◌, drop, sym, ap, ◌∙◌, arith}
use Rattle.circuits.specs.Circuit.{layers_fit}
use Rattle.circuits.specs.Words.{word, layers_of, shaped}
use Rattle.circuits.proofs.Parts.{circuit_by, head_word}
use Rattle.circuits.proofs.view.circuit.is_circuit.Goals as goal

pub returns-in-Some-check : goal.returns-in-Some-check
returns-in-Some-check c =
    let ws = c.args.words.now in
    let h = c.in-Some.ensures.cases in
    let front = c.in-Some.field-0-0.now in
    let copies = head_word ws front 0 h.0 (omega arith) in
    let inputs = head_word ws front 1 h.0 (omega arith) in
    let count = head_word ws front 2 h.0 (omega arith) in
    let seen = c.in-Some-check.ensures.seen in
    let form : shaped (word ws 0) (word ws 2) (drop 3 ws) ≡ true = cc (h.1, copies, count) in
    let fit : c.fit.result ≡ layers_fit (layers_of (word ws 2) (drop 3 ws)) (word ws 1) = cc (c.fit.ensures, seen.1, seen.2, h.1, inputs, count) in
    let by = circuit_by ws (omega arith) (omega arith) (omega arith) (omega arith) (omega arith) in
    fit ∙ sym (by ∙ ap (λ b. b && layers_fit (layers_of (word ws 2) (drop 3 ws)) (word ws 1)) form)
