-- No coin is drawn yet, and the tables are those of all copies' variables.
use Rattle.std.proofs.Common.{◌≡◌, ℕ, ◌-◌, take, sym, ap, ◌∙◌, arith, pow-add}
use native.Mathlib.Nat.{sub-zero}
use Rattle.std.proofs.lemmas.List.{length-take-le}
use Rattle.arithmetic.specs.Numbers.{modulo, all_reduced}
use Rattle.arithmetic.proofs.Truth.{T_of_path}
use Rattle.circuits.specs.Views.{inputs_below}
use Rattle.circuits.specs.Words.{modulus}
use Rattle.tables.proofs.ReducedLists.{reduced_take}
use Rattle.prover.specs.Provers.{claim_held, copies_of}
use Rattle.prover.proofs.ProverSteps.{begun, shares_held}
use Rattle.prover.proofs.prover.HonestProver.start.Goals as goal

pub start_copies-requires-clause-inputs : goal.start_copies-requires-clause-inputs
start_copies-requires-clause-inputs c =
    let t = c.args.self.now in
    (t.inputs_whole ∙ pow-add 2 (copies_of t) (inputs_below t.rest), t.inputs_reduced)

pub start_copies-requires-clause-copy : goal.start_copies-requires-clause-copy
start_copies-requires-clause-copy c =
    let t = c.args.self.now in
    let n = c.start_of_x.result in (
      length-take-le (n - 0) t.copy (omega arith) ∙ sub-zero n ∙ c.start_of_x.ensures,
      reduced_take modulus (n - 0) t.copy (T_of_path (all_reduced (modulo modulus) t.copy) t.copy_reduced),
    )

pub returns : goal.returns
returns c =
    let t = c.args.self.now in
    let n = c.start_of_x.result in
    let point : take (copies_of t) t.copy ≡ take (n - 0) t.copy = ap (λ (k : ℕ). take k t.copy) (sym (sub-zero n ∙ c.start_of_x.ensures)) in
    let shares = shares_held t c.size.result c.view.result c.size.ensures.value c.view.ensures.meant in
    record {
      rooms = record { room_v = omega arith; room_w = omega arith; room_h = omega arith };
      room_j = omega arith;
      parts = begun t c.start_copies.new.v c.start_copies.new.w c.start_copies.new.h c.args.j.now c.requires.none (c.start_copies.ensures (claim_held t) point shares);
    }
