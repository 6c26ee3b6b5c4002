-- All coins are drawn, so that both cuts are within them.
use Rattle.std.proofs.Common.{◌≡◌, ℕ, ◌+◌, true, List, length, take, drop, sym, ap, ◌∙◌, subst, ap₂, arith}
use Rattle.arithmetic.specs.Numbers.{all_reduced}
use Rattle.std.proofs.lemmas.List.{drop-drop}
use Rattle.circuits.specs.Words.{modulus}
use Rattle.claims.proofs.Cutting.{reduced_part, reduced_rest}
use Rattle.claims.specs.Meaning.{numbers}
use Rattle.verdicts.specs.Machine.{size_under, point_c, point_x, point_y}
use Rattle.verifier.specs.Meaning.{stand_of}
use Rattle.verifier.proofs.PointParts.{all_drawn}
use Rattle.verifier.proofs.verifier.Verifier.parts.Goals as goal

pub split_at-requires : goal.split_at-requires
split_at-requires c =
    omega (arith, all_drawn c.args.self.now c.requires.some c.requires.done, c.copies-copies.ensures.value, ap length c.as_slice.ensures.coins)

pub split_at-requires-2 : goal.split_at-requires-2
split_at-requires-2 c =
    omega (
      arith,
      all_drawn c.args.self.now c.requires.some c.requires.done,
      c.copies-copies.ensures.value,
      ap length c.as_slice.ensures.coins,
      c.split_at.ensures.back_len,
      c.size_below.ensures.value,
    )

pub returns : goal.returns
returns c =
    let v = c.args.self.now in
    let s = stand_of v in
    let point = s.point in
    let n = c.copies-copies.result in
    let m = c.size_below.result in
    let is_n : n ≡ s.copies = c.copies-copies.ensures.value in
    let is_m : m ≡ size_under s = c.size_below.ensures.value in
    let front : c.split_at.result.0.now ≡ point_c s =
    c.split_at.ensures.front ∙ ap₂ (λ (k : ℕ) (xs : List ℕ). take k xs) is_n c.as_slice.ensures.coins
    in
    let back : c.split_at.result.1.now ≡ drop s.copies point =
    c.split_at.ensures.back ∙ ap₂ (λ (k : ℕ) (xs : List ℕ). drop k xs) is_n c.as_slice.ensures.coins
    in
    let x : c.split_at-2.result.0.now ≡ point_x s = c.split_at-2.ensures.front ∙ ap₂ (λ (k : ℕ) (xs : List ℕ). take k xs) is_m back in
    let y : c.split_at-2.result.1.now ≡ point_y s =
    c.split_at-2.ensures.back ∙ ap₂ (λ (k : ℕ) (xs : List ℕ). drop k xs) is_m back ∙ drop-drop (size_under s) s.copies point
    in
    let reduced : all_reduced numbers point ≡ true =
    subst (λ (xs : List ℕ). all_reduced numbers xs ≡ true) c.as_slice.ensures.coins c.as_slice.ensures.reduced
    in
    let every : (xs ys : List ℕ) → xs ≡ ys → all_reduced numbers ys ≡ true → all_reduced numbers xs ≡ true =
    λ xs ys e h. subst (λ (zs : List ℕ). all_reduced numbers zs ≡ true) (sym e) h
    in
    let left : length c.split_at-2.result.1.now ≡ size_under s =
    omega (
      arith,
      all_drawn v c.requires.some c.requires.done,
      ap length c.as_slice.ensures.coins,
      is_n,
      is_m,
      c.split_at.ensures.back_len,
      c.split_at-2.ensures.back_len,
    )
    in
    record {
      copies = (front, c.split_at.ensures.front_len ∙ is_n, every _ _ front (reduced_part modulus 0 s.copies point reduced));
      x = (x, c.split_at-2.ensures.front_len ∙ is_m, every _ _ x (reduced_part modulus s.copies (size_under s) point reduced));
      y = (y, left, every _ _ y (reduced_rest modulus (s.copies + size_under s) point reduced));
      limit = omega (arith, c.split_at.ensures.front_len, c.split_at-2.ensures.front_len, is_n, c.size_below.ensures.limit);
    }
