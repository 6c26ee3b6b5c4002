-- At the last coin of x the tables of y are made.
use Rattle.std.proofs.Common.{◌≡◌, ℕ, ◌+◌, ◌-◌, ◌<◌, List, [], length, take, drop, sym, ap, ◌∙◌, subst, arith, length-drop}
use Rattle.arithmetic.specs.Numbers.{modulo, all_reduced}
use Rattle.arithmetic.proofs.Truth.{T_of_path}
use Rattle.circuits.specs.Views.{layer_seen}
use Rattle.circuits.specs.Words.{modulus}
use Rattle.tables.proofs.ReducedLists.{reduced_take, reduced_drop}
use Rattle.prover.specs.Provers.{claim_held, values_held, below_of, copies_of, history}
use Rattle.phases.specs.Standing.{LeftTables, RightTables}
use Rattle.prover.proofs.PartSteps.{left_fixed, parts_at_right}
use Rattle.prover.proofs.ProverSteps.{shares_held, rest_is}
use Rattle.phases.proofs.Starting.{last_number}
use Rattle.prover.proofs.prover.HonestProver.settle_right.Goals as goal

pub start_right-at_x-requires-clause-x : goal.start_right-at_x-requires-clause-x
start_right-at_x-requires-clause-x c =
    let t = c.args.self.now in
    let all : length (history t) ≡ copies_of t + below_of t = omega arith in
    let a = c.start_of_x.result in
    let xs = c.as_slice.result.now in (
      ap length (rest_is a (copies_of t) xs (history t) c.start_of_x.ensures c.as_slice.ensures.coins) ∙ length-drop (copies_of t) (history t) ∙ omega (arith, all),
      reduced_take modulus (length xs - a) (drop a xs) (reduced_drop modulus a xs (T_of_path (all_reduced (modulo modulus) xs) c.as_slice.ensures.reduced)),
    )

pub start_right-at_x-requires-clause-factor : goal.start_right-at_x-requires-clause-factor
start_right-at_x-requires-clause-factor c =
    let t = c.args.self.now in
    let all : length (history t) ≡ copies_of t + below_of t = omega arith in
    let tables = left_fixed _ _ _ _ _ _ _ _ _ _ _ _ _ c.requires.parts all in
    let several : 1 < modulus = omega arith in
    (tables.factor_below, (last_number modulus several c.args.v.now tables.tables.v_reduced).1)

pub returns-then-len-start_of_y-clause-stands : goal.returns-then-len-start_of_y-clause-stands
returns-then-len-start_of_y-clause-stands c =
    let t = c.args.self.now in
    let all : length (history t) ≡ copies_of t + below_of t = omega arith in
    let a = c.start_of_x.result in
    let xs = c.as_slice.result.now in
    let x : take (length xs - a) (drop a xs) ≡ drop (copies_of t) (history t) = rest_is a (copies_of t) xs (history t) c.start_of_x.ensures c.as_slice.ensures.coins in
    let before = left_fixed _ _ _ _ _ _ _ _ _ _ _ _ _ c.requires.parts all in
    let shares = shares_held t c.size.result c.view.result c.size.ensures.value c.view.ensures.meant in
    let place : List ℕ = take (copies_of t) (history t) in
    let after =
    c.start_right-at_x.ensures (claim_held t) (values_held t) place shares
    (subst (λ (d : List ℕ). LeftTables modulus (layer_seen t.layer) (below_of t) (claim_held t) (values_held t) place d 0 t.factor c.args.v.now c.args.w.now c.args.h.now c.args.j.now)
    (sym x) before) in
    record {
      rooms = record { room_v = omega arith; room_w = omega arith; room_h = omega arith };
      room_j = omega arith;
      parts =
          parts_at_right _ _ _ _ _ _ _ _ _ _ _ _ _ all
          (subst (λ (d : List ℕ). RightTables modulus (layer_seen t.layer) (below_of t) (claim_held t) (values_held t) place d [] (below_of t) c.start_right-at_x.result
          c.start_right-at_x.new.v c.start_right-at_x.new.h c.start_right-at_x.new.j) x after);
    }
