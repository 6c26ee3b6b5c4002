-- The numbers of a text by a machine that goes over it byte by byte: what the inner functions of the reader are pinned to.
-- It answers what the definition by lines and words answers, as the proofs show.
use Rattle.std.specs.Prelude.{ℕ, ◌+◌, ◌-◌, ◌*◌, cond, List, [], ◌∷◌, Some, None, Option, ◌==◌}
use Rattle.std.specs.Option.{option_map}
use Rattle.texts.specs.Texts.{is_line_end, is_space, is_digit, capped}

-- where a byte stands: first in its line, later in it between words, in a comment, or in a word whose digits so far make a number
pub data Place : Type 0 where
  first between comment : Place
  word : ℕ → Place

-- what a word adds at its end
abbrev pub with : ℕ → Option (List ℕ) → Option (List ℕ)
with n ns = option_map (λ ms. n ∷ ms) ns

unfoldable pub read_from : Place → List ℕ → Option (List ℕ)
read_from first [] = Some []
read_from first (c ∷ cs) =
    cond (is_line_end c) (read_from first cs)
    (cond (c == 35) (read_from comment cs)
    (cond (is_space c) (read_from between cs) (cond (is_digit c) (read_from (word (capped (10 * 0 + (c - 48)))) cs) None)))
read_from between [] = Some []
read_from between (c ∷ cs) =
    cond (is_line_end c) (read_from first cs)
    (cond (is_space c) (read_from between cs) (cond (is_digit c) (read_from (word (capped (10 * 0 + (c - 48)))) cs) None))
read_from comment [] = Some []
read_from comment (c ∷ cs) = cond (is_line_end c) (read_from first cs) (read_from comment cs)
read_from (word n) [] = Some (n ∷ [])
read_from (word n) (c ∷ cs) =
    cond (is_line_end c) (with n (read_from first cs))
    (cond (is_space c) (with n (read_from between cs)) (cond (is_digit c) (read_from (word (capped (10 * n + (c - 48)))) cs) None))
