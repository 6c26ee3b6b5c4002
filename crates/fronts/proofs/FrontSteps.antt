-- How long a front of some words is.
-- The checker has the front's end as `count - 0`.
use Rattle.std.proofs.Common.{◌≡◌, ℕ, ◌≤◌, List, length, take, ap, ◌∙◌}
use Rattle.std.proofs.lemmas.List.{length-take-le}

pub front_length : (n count : ℕ) (words : List ℕ) → n ≡ count → count ≤ length words → length (take n words) ≡ count
front_length n count words e h = ap (λ (k : ℕ). length (take k words)) e ∙ length-take-le count words h
