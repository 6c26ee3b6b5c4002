-- Both rooms are filled by the tables of eq.
use Rattle.std.proofs.Common.{◌≡◌, ℕ, ◌^◌, ◌<◌, List, ◌++◌, length, drop, sym, ap, ◌∙◌, arith}
use Rattle.arithmetic.specs.Numbers.{modulo}
use Rattle.tables.specs.InPlace.{eq_table}
use Rattle.circuits.specs.Views.{gates_seen}
use Rattle.circuits.proofs.Parts.{layer_parts}
use Rattle.claims.proofs.Adding.{filled}
use Rattle.claims.proofs.Wires.{wired}
use Rattle.claims.proofs.wiring.layer.wire_in.Goals as goal

-- room for a table of a point's corners is filled by it
room_is : (p : ℕ) (below : ℕ) (x room words : List ℕ) → length x ≡ below → length room ≡ 2 ^ below →
    words ≡ eq_table (modulo p) x ++ drop (2 ^ length x) room → words ≡ eq_table (modulo p) x
room_is p below x room words e l h =
    filled room (eq_table (modulo p) x) words (2 ^ length x) (l ∙ ap (λ (n : ℕ). 2 ^ n) (sym e)) h

pub returns : goal.returns
returns g c =
    let p = g.M.Modular.modulus in
    let several : 1 < p = omega (arith, g.met.M.Modular.above) in
    let layer = c.args.layer in
    let below = layer.below in
    let is_x = room_is p below c.args.x.now c.args.at_x.now c.eq_table.new.out c.requires.x.0 c.requires.room.0 c.eq_table.ensures.words in
    let is_y = room_is p below c.args.y.now c.args.at_y.now c.eq_table-2.new.out c.requires.y.0 c.requires.room.1 c.eq_table-2.ensures.words in
    wired p several c.args.weights.now c.eq_table.new.out c.eq_table-2.new.out c.args.x.now c.args.y.now below
    (gates_seen layer) c.gather.result (layer_parts layer.size below layer.words.now layer.lawful).fits c.requires.x.0 c.requires.y.0 is_x is_y
    c.gather.ensures
