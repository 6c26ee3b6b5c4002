-- Each turn takes the words of one layer off, as the definition does.
use Rattle.std.proofs.Common.{◌+◌, ◌-◌, ◌&&◌, drop, sym, ap, ◌∙◌}
use Rattle.circuits.specs.Words.{shaped}
use Rattle.circuits.specs.Parts.{layer_length}
use Rattle.circuits.proofs.Steps.{shaped_more, shaped-all}
use Rattle.circuits.proofs.shape.is_shaped.Goals as goal

pub returns-in-None : goal.returns-in-None
returns-in-None c =
    let copies = c.args.copies in
    let n = c.args.count in
    let i = c.loop-done._done in
    let ws = c.loop-done.rest.now in
    sym (c.loop-done.invariant ∙ shaped_more copies n i ws c.loop-done-test.true
    ∙ ap (λ b. b && shaped copies (n - (i + 1)) (drop (layer_length ws) ws)) c.in-None.ensures)

pub loop-done-preserved : goal.loop-done-preserved
loop-done-preserved c =
    let copies = c.args.copies in
    let n = c.args.count in
    let i = c.loop-done._done in
    let ws = c.loop-done.rest.now in
    c.loop-done.invariant ∙ shaped_more copies n i ws c.loop-done-test.true
    ∙ ap (λ b. b && shaped copies (n - (i + 1)) (drop (layer_length ws) ws)) c.in-Some.ensures.0
    ∙ ap (shaped copies (n - (i + 1))) (sym c.in-Some.ensures.1)

pub returns : goal.returns
returns c =
    sym (c.loop-done.invariant ∙ shaped-all c.args.copies c.args.count c.loop-done._done c.loop-done.rest.now c.loop-done-test.false
    ∙ sym c.is_empty.ensures)
