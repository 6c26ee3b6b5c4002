-- What `judge` holds before the first coin, and the first of 1, 2, 3 by which it refuses it, else 0.
-- 1 no circuit; 2 not as many inputs or claimed outputs as it takes; 3 one of them of p or more.
use Rattle.std.specs.Prelude.{ℕ, ◌+◌, ◌^◌, cond, not, ◌&&◌, List, length, ◌==◌}
use Rattle.arithmetic.specs.Numbers.{modulo, all_reduced}
use Rattle.circuits.specs.Circuit.{output_size}
use Rattle.circuits.specs.Views.{words_seen}
use Rattle.circuits.specs.Words.{modulus, circuit_of, is_circuit}
use Rattle.programs.specs.declared.given.Given.{Given}
use Rattle.programs.specs.declared.held.Held.{Held}

abbrev pub held_verdict : List ℕ → List ℕ → List ℕ → ℕ
held_verdict cs vs claimed =
    let c = circuit_of cs in
    let N = modulo modulus in
    cond (not (is_circuit cs)) 1
    (cond
    (not (length vs == 2 ^ (c.copies + c.inputs) && length claimed == 2 ^ (c.copies + output_size c)))
    2
    (cond (not (all_reduced N vs && all_reduced N claimed)) 3 0))

-- ---- the words of which nothing is refused
abbrev pub circuit_held : Held → List ℕ
circuit_held h = words_seen h.circuit

abbrev pub inputs_held : Held → List ℕ
inputs_held h = h.inputs.now

abbrev pub claimed_held : Held → List ℕ
claimed_held h = h.claimed.now

-- those of what `house` is given
abbrev pub circuit_given : Given → List ℕ
circuit_given g = words_seen g.circuit

abbrev pub inputs_given : Given → List ℕ
inputs_given g = g.inputs.now
