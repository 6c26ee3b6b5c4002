-- The words are those of whole gates, and each gate takes places that are there.
use Rattle.std.proofs.Common.{◌≡◌, ◌^◌, ◌<◌, length, get_or, sym, ◌∙◌, subst, arith}
use Rattle.circuits.specs.Views.{gate_meant, no_gate}
use Rattle.circuits.specs.Words.{gates_of}
use Rattle.circuits.proofs.Parts.{layer_parts, get_or-gates_of, gate_fits, Within}
use Rattle.circuits.proofs.Steps.{length-gates_of}
use Rattle.circuits.proofs.view.LayerView.gate.Goals as goal

pub read_gate-requires : goal.read_gate-requires
read_gate-requires c =
    let p = layer_parts c.args.self.size c.args.self.below c.args.self.words.now c.args.self.lawful in
    omega (arith, p.whole)

pub returns : goal.returns
returns c =
    let size = c.args.self.size in
    let below = c.args.self.below in
    let ws = c.args.self.words.now in
    let i = c.args.place in
    let p = layer_parts size below ws c.args.self.lawful in
    let e : gate_meant c.read_gate.result ≡ get_or (gates_of (2 ^ size) ws) i no_gate =
    c.read_gate.ensures ∙ sym (get_or-gates_of (2 ^ size) i ws no_gate c.requires) in
    let l : i < length (gates_of (2 ^ size) ws) = omega (arith, length-gates_of (2 ^ size) ws, c.requires) in
    let w : Within (2 ^ below) (gate_meant c.read_gate.result) = subst (Within (2 ^ below)) (sym e) (gate_fits (2 ^ below) (gates_of (2 ^ size) ws) i no_gate p.fits l) in
    record { value = e; left = w.left; right = w.right }
