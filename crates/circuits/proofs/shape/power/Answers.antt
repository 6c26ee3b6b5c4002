-- The table passes the test, so its entries are the powers of two.
use Rattle.std.proofs.Common.{◌≡◌, ℕ, ◌^◌, ◌≤◌, true, List, [], ◌∷◌, get_or, refl, arith}
use Rattle.circuits.proofs.BitPlaces.{powers_from, bit_places, bit_limit, bit_some}
use Rattle.circuits.proofs.shape.power.Goals as goal

abbrev places : List ℕ
places =
    1 ∷ 2 ∷ 4 ∷ 8 ∷ 16 ∷ 32 ∷ 64 ∷ 128 ∷ 256 ∷ 512 ∷ 1024 ∷ 2048 ∷ 4096 ∷ 8192 ∷ 16384 ∷ 32768 ∷ 65536 ∷ []

all_powers : powers_from 0 places ≡ true
unfolding powers_from
all_powers = refl

pub returns : goal.returns
returns c =
    let small : c.args.size ≤ 16 = c.requires in
    let value : get_or places c.args.size 0 ≡ 2 ^ c.args.size = bit_places places c.args.size all_powers (omega arith) in
    record {
      value = value;
      limit = bit_limit places c.args.size all_powers (omega arith) small;
      some = bit_some places c.args.size all_powers (omega arith);
    }
