-- The numbers of a text are those of its first line, and then those of what comes after its line end.
-- A line end cuts, whatever words stand before it.
use Rattle.std.proofs.Common.{◌≡◌, ℕ, false, List, [], ◌∷◌, ◌++◌, Some, None, Option, sym, refl, ap, ◌∙◌}
use Rattle.std.proofs.lemmas.List.{append-nil}
use Rattle.std.specs.List.{flat_map, AllByRecursion}
use Rattle.texts.specs.Texts.{is_line_end, first_piece, later_pieces, pieces, words_of, number_after, before, numbers_in, numbers_of}
use Rattle.texts.proofs.Reading.{after_none}
use Rattle.texts.specs.Theorems.{and_then, LineByLine}

abbrev Inside : ℕ → Type 0
Inside c = is_line_end c ≡ false

first_line : (line rest : List ℕ) → AllByRecursion Inside line → first_piece is_line_end (line ++ (10 ∷ rest)) ≡ line
unfolding first_piece
first_line [] rest all = refl
first_line (c ∷ line) rest all = rw all.0 (ap (λ (l : List ℕ). c ∷ l) (first_line line rest all.1))

later_lines : (line rest : List ℕ) → AllByRecursion Inside line → later_pieces is_line_end (line ++ (10 ∷ rest)) ≡ pieces is_line_end rest
unfolding later_pieces
later_lines [] rest all = refl
later_lines (c ∷ line) rest all = rw all.0 (later_lines line rest all.1)

first_only : (line : List ℕ) → AllByRecursion Inside line → first_piece is_line_end line ≡ line
unfolding first_piece
first_only [] all = refl
first_only (c ∷ line) all = rw all.0 (ap (λ (l : List ℕ). c ∷ l) (first_only line all.1))

later_none : (line : List ℕ) → AllByRecursion Inside line → later_pieces is_line_end line ≡ []
unfolding later_pieces
later_none [] all = refl
later_none (c ∷ line) all = rw all.0 (later_none line all.1)

then_before : (o : Option ℕ) (p q : Option (List ℕ)) → before o (and_then p q) ≡ and_then (before o p) q
then_before None p q = refl
then_before (Some n) None q = refl
then_before (Some n) (Some ns) None = refl
then_before (Some n) (Some ns) (Some ms) = refl

numbers_append : (us vs : List (List ℕ)) → numbers_in (us ++ vs) ≡ and_then (numbers_in us) (numbers_in vs)
unfolding numbers_in
numbers_append [] vs = sym (after_none (numbers_in vs))
numbers_append (u ∷ us) vs = ap (before (number_after 0 u)) (numbers_append us vs) ∙ then_before (number_after 0 u) (numbers_in us) (numbers_in vs)

pub line_by_line : LineByLine
unfolding numbers_of
line_by_line line rest all =
    let cut : pieces is_line_end (line ++ (10 ∷ rest)) ≡ line ∷ pieces is_line_end rest = λ i. first_line line rest all i ∷ later_lines line rest all i in
    let alone : pieces is_line_end line ≡ line ∷ [] = λ i. first_only line all i ∷ later_none line all i in
    let words : flat_map words_of (line ∷ []) ≡ words_of line = append-nil (words_of line) in
    ap (λ ls. numbers_in (flat_map words_of ls)) cut
    ∙ numbers_append (words_of line) (flat_map words_of (pieces is_line_end rest))
    ∙ ap (λ ws. and_then (numbers_in ws) (numbers_of rest)) (sym words ∙ ap (flat_map words_of) (sym alone))
