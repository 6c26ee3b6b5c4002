-- What was checked is what working out takes.
use Rattle.std.proofs.Common.{◌≡◌, ◌+◌, ◌*◌, ◌^◌, eqb, length, ◌∙◌, arith}
use Rattle.std.proofs.lemmas.Nat.{pow-add}
use Rattle.std.proofs.lemmas.Bool.{eqb-true, and_parts}
use Rattle.circuits.specs.Circuit.{output_size}
use Rattle.circuits.specs.Views.{circuit_seen}
use Rattle.circuits.proofs.Reduced.{reduced_each}
use Rattle.evaluation.proofs.outputs.try_run.Goals as goal

pub fill-requires : goal.fill-requires
fill-requires c =
    let seen = circuit_seen c.in_ok-view.view in
    let inputs = length c.args.inputs.now in
    let room = length c.args.room.now in
    let i = 2 ^ (seen.copies + seen.inputs) in
    let o = 2 ^ (seen.copies + output_size seen) in
    let counts = and_parts (eqb inputs i) (eqb room o) c.in_ok-check_counts.ensures in
    let a : inputs ≡ 2 ^ seen.copies * 2 ^ seen.inputs = eqb-true inputs i counts.0 ∙ pow-add 2 seen.copies seen.inputs in
    let b : room ≡ 2 ^ seen.copies * 2 ^ output_size seen = eqb-true room o counts.1 ∙ pow-add 2 seen.copies (output_size seen) in
    record {
      inputs = cc;
      reduced = reduced_each 2147483647 c.args.inputs.now (omega arith) c.in_ok-check_reduced.ensures;
      room = cc;
    }
