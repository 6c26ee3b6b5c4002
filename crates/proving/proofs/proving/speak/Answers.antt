-- The prover opens at the outputs' layer and speaks along the coins after the first ones.
use Rattle.std.proofs.Common.{◌-◌, length, take, drop, sym, ap, ◌∙◌, arith, length-drop}
use Rattle.arithmetic.specs.Numbers.{modulo, all_reduced}
use Rattle.arithmetic.proofs.Truth.{T_of_path}
use Rattle.argument.specs.Argument.{first_coins}
use Rattle.circuits.proofs.Reduced.{reduced_each}
use Rattle.circuits.specs.Views.{circuit_seen}
use Rattle.circuits.specs.Words.{modulus}
use Rattle.tables.proofs.ReducedLists.{reduced_take, reduced_drop}
use Rattle.proving.proofs.ProveSteps.{later_coins, room_spoken}
use Rattle.proving.proofs.proving.speak.Goals as goal

pub open-prover-requires : goal.open-prover-requires
open-prover-requires c =
    let ready = c.requires in
    record {
      inputs = (ready.inputs_many, reduced_each modulus c.args.inputs.now (omega arith) ready.inputs_reduced);
      coins = (omega (arith, ready.coins_many), ready.coins_reduced);
    }

pub answer_all-requires : goal.answer_all-requires
answer_all-requires c =
    let ready = c.requires in
    let coins = c.args.coins.now in
    let seen = circuit_seen c.args.circuit in
    let first = c.first_coins.result in
    let opened = c.open-prover.ensures.opened in
    let rest = later_coins coins first (first_coins seen) c.first_coins.ensures.value in
    record {
      stands = c.open-prover.ensures.stands;
      counts = (
        ap length rest ∙ length-drop (first_coins seen) coins ∙ omega (arith, ready.coins_many, opened.coins_are),
        ready.room_many ∙ sym opened.words_are,
      );
      coins = reduced_take modulus (length coins - first) (drop first coins)
          (reduced_drop modulus first coins (T_of_path (all_reduced (modulo modulus) coins) ready.coins_reduced));
    }

pub returns : goal.returns
returns c =
    let ready = c.requires in
    let coins = c.args.coins.now in
    let seen = circuit_seen c.args.circuit in
    let first = c.first_coins.result in
    record {
      room_is =
          room_spoken seen c.args.inputs.now coins (take (length coins - first) (drop first coins)) c.answer_all.new.room c.open-prover.result
          c.open-prover.ensures.opened (omega (arith, ready.coins_many)) (later_coins coins first (first_coins seen) c.first_coins.ensures.value)
          c.answer_all.ensures.room;
      room_reduced = c.answer_all.ensures.reduced;
    }
