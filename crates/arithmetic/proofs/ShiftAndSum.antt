-- Why a shift and a sum bring a product back: 2^31 is 1 modulo 2^31 - 1.
-- And why one subtraction is then enough.
use Rattle.std.proofs.Common.{◌≡◌, ℕ, ◌+◌, ◌*◌, ◌/◌, ◌%◌, ◌<◌, ◌≤◌, sym, ap, ◌∙◌, mod-lt, div-lt_iff_lt-mul, mul-le-mul, arith, lit<}
use native.Mathlib.Nat.{mod-add-div, add-mul-mod_self_left, le-pred_of_lt}
use lib.Bits.{bit_and, and_mask}

-- the bits from 31 up count as much as those below
pub bits_from_31 : (n : ℕ) → (n % 2147483648 + n / 2147483648) % 2147483647 ≡ n % 2147483647
bits_from_31 n =
    let whole = mod-add-div n 2147483648 in
    let parts : n % 2147483648 + n / 2147483648 + 2147483647 * (n / 2147483648) ≡ n = omega (arith, whole) in
    sym (add-mul-mod_self_left (n % 2147483648 + n / 2147483648) 2147483647 (n / 2147483648))
    ∙ ap (λ (m : ℕ). m % 2147483647) parts

-- the bits from 31 up of a product of two numbers below the modulus
pub high_below : (a b : ℕ) → a < 2147483647 → b < 2147483647 → (a * b) / 2147483648 < 2147483646
high_below a b ha hb =
    let product : a * b ≤ 2147483646 * 2147483646 = mul-le-mul (le-pred_of_lt ha) (le-pred_of_lt hb) in
    (div-lt_iff_lt-mul (lit< tt)).1 (omega (arith, product))

-- the bits below 31, as the code masks them
mask_31 : (n : ℕ) → bit_and n 2147483647 ≡ n % 2147483648
mask_31 n = and_mask n 31

pub parts_below :
    (a b : ℕ) → a < 2147483647 → b < 2147483647 →
    bit_and (a * b) 2147483647 + (a * b) / 2147483648 < 2 * 2147483647
parts_below a b ha hb =
    let low : (a * b) % 2147483648 < 2147483648 = mod-lt (a * b) (lit< tt) in
    omega (arith, mask_31 (a * b), low, high_below a b ha hb)

pub parts_product : (a b : ℕ) → (bit_and (a * b) 2147483647 + (a * b) / 2147483648) % 2147483647 ≡ (a * b) % 2147483647
parts_product a b = rw (mask_31 (a * b)) (bits_from_31 (a * b))
