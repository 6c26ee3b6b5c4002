-- One byte further in a text: what the machine makes of what is left.
-- Each lemma is a turn of a loop, or the end of one, over plain lists.
use Rattle.std.proofs.Common.{◌≡◌, ℕ, ◌+◌, ◌-◌, ◌*◌, ◌<◌, ◌≤◌, Bool, true, false, cond, eqb, ◌⊎◌, List, ◌∷◌, length, get_or, drop, None, refl, subst, inl, inr, ⊎_elim, arith}
use Rattle.std.proofs.lemmas.List.{drop_more, drop_all}
use Rattle.std.proofs.lemmas.Bool.{cases_lt, eq-eqb, ne_eqb, eqb-true, or_cases, or_parts, both_ways}
use Rattle.texts.specs.Machine.{Place, first, between, comment, word, with, read_from}
use Rattle.std.specs.Bool.{then_some}
use Rattle.texts.specs.Texts.{is_line_end, is_space, is_gap, is_digit, capped}
use Rattle.texts.specs.Gaps.{gap_place, Past}
use Rattle.texts.specs.declared.gap.Gap.{Gap}
use Rattle.texts.specs.declared.gap.Gap.TheVariants.{First, Between, Comment}
use Rattle.texts.proofs.Meaning.{by_test}

-- ---- bytes
-- a space is neither a line end nor #
space_is : (c : ℕ) → is_space c ≡ true → (c ≡ 32) ⊎ (c ≡ 13)
space_is c s = ⊎_elim (λ e. inl (eqb-true c 32 e)) (λ e. inr (eqb-true c 13 e)) (or_cases (eqb c 32) (eqb c 13) s)

pub space_no_line_end : (c : ℕ) → is_space c ≡ true → is_line_end c ≡ false
space_no_line_end c s = ne_eqb c 10 (λ e. ⊎_elim (λ (h : c ≡ 32). omega arith) (λ (h : c ≡ 13). omega arith) (space_is c s))

pub space_no_hash : (c : ℕ) → is_space c ≡ true → eqb c 35 ≡ false
space_no_hash c s = ne_eqb c 35 (λ e. ⊎_elim (λ (h : c ≡ 32). omega arith) (λ (h : c ≡ 13). omega arith) (space_is c s))

-- ---- between words
-- a place in a line that is in no word and in no comment: at its beginning, or later
abbrev pub outside : Bool → Place
outside at_first = cond at_first first between

pub past_line_end : (g : Gap) (c : ℕ) (rest : List ℕ) → c ≡ 10 → read_from (gap_place g) (c ∷ rest) ≡ read_from first rest
unfolding read_from
past_line_end First c rest e = rw (eq-eqb c 10 e) refl
past_line_end Between c rest e = rw (eq-eqb c 10 e) refl
past_line_end Comment c rest e = rw (eq-eqb c 10 e) refl

pub past_comment : (g : Gap) (c : ℕ) (rest : List ℕ) → g ≡ Comment → (c ≡ 10 → ⊥) → read_from (gap_place g) (c ∷ rest) ≡ read_from comment rest
unfolding read_from
past_comment g c rest is other = rw (is, ne_eqb c 10 other) refl

pub past_hash : (g : Gap) (c : ℕ) (rest : List ℕ) → g ≡ First → c ≡ 35 → read_from (gap_place g) (c ∷ rest) ≡ read_from comment rest
unfolding read_from
past_hash g c rest is e = rw (is, ne_eqb c 10 (λ k. omega arith), eq-eqb c 35 e) refl

pub past_space : (g : Gap) (c : ℕ) (rest : List ℕ) → (g ≡ Comment → ⊥) → is_space c ≡ true → read_from (gap_place g) (c ∷ rest) ≡ read_from between rest
unfolding read_from
past_space First c rest inside s = rw (space_no_line_end c s, space_no_hash c s, s) refl
past_space Between c rest inside s = rw (space_no_line_end c s, s) refl
past_space Comment c rest inside s = absurd (inside refl)

-- the first byte of a word, which is so wherever in its line it stands
pub past_word : (g : Gap) (c : ℕ) → (c ≡ 10 → ⊥) → (g ≡ Comment → ⊥) → (g ≡ First → c ≡ 35 → ⊥) → is_space c ≡ false → Past g c None
unfolding read_from
past_word First c line inside hash s = (rw (ne_eqb c 10 line, s) refl, λ rest. rw (ne_eqb c 10 line, ne_eqb c 35 (hash refl), s) refl)
past_word Between c line inside hash s = (rw (ne_eqb c 10 line, s) refl, λ rest. refl)
past_word Comment c line inside hash s = absurd (inside refl)

-- a space, or the first byte of a word
pub past_other : (g : Gap) (c : ℕ) → (c ≡ 10 → ⊥) → (g ≡ Comment → ⊥) → (g ≡ First → c ≡ 35 → ⊥) → Past g c (then_some (is_space c) Between)
past_other g c line inside hash =
    by_test (is_space c) (λ s. rw s (λ rest. past_space g c rest inside s)) (λ s. rw s (past_word g c line inside hash s))

pub gaps_alone : (g : Gap) (text : List ℕ) (i : ℕ) → length text ≤ i → read_from (gap_place g) (drop i text) ≡ read_from first text → read_from between (drop (length text) text) ≡ read_from first text
unfolding read_from
gaps_alone First text i end so = rw (drop_all (length text) text (omega arith)) (rw (drop_all i text end) at so)
gaps_alone Between text i end so = rw (drop_all (length text) text (omega arith)) (rw (drop_all i text end) at so)
gaps_alone Comment text i end so = rw (drop_all (length text) text (omega arith)) (rw (drop_all i text end) at so)

-- ---- comments
pub comment_goes_on : (text : List ℕ) (i : ℕ) → i < length text → (get_or text i 0 ≡ 10 → ⊥) → read_from comment (drop (i + 1) text) ≡ read_from comment (drop i text)
unfolding read_from
comment_goes_on text i h other =
    let e : is_line_end (get_or text i 0) ≡ false = ne_eqb (get_or text i 0) 10 other in rw (drop_more text i 0 h, e) refl

pub comment_ends : (text : List ℕ) (i : ℕ) → (i < length text → get_or text i 0 ≡ 10) → read_from between (drop i text) ≡ read_from comment (drop i text)
unfolding read_from
comment_ends text i stops =
    ⊎_elim
    (λ (h : i < length text). let e : is_line_end (get_or text i 0) ≡ true = eq-eqb (get_or text i 0) 10 (stops h) in rw (drop_more text i 0 h, e) refl)
    (λ (h : length text ≤ i). rw (drop_all i text h) refl)
    (cases_lt i (length text))

-- ---- words
pub word_begins : (text : List ℕ) (i : ℕ) → i < length text → is_gap (get_or text i 0) ≡ false → read_from (word 0) (drop i text) ≡ read_from between (drop i text)
unfolding read_from
word_begins text i h g =
    let p = or_parts (is_line_end (get_or text i 0)) (is_space (get_or text i 0)) g in
    rw (drop_more text i 0 h, p.0, p.1) refl

pub word_goes_on : (n : ℕ) (text : List ℕ) (i : ℕ) → i < length text → is_gap (get_or text i 0) ≡ false → is_digit (get_or text i 0) ≡ true → read_from (word (capped (10 * n + (get_or text i 0 - 48)))) (drop (i + 1) text) ≡ read_from (word n) (drop i text)
unfolding read_from
word_goes_on n text i h g d =
    let p = or_parts (is_line_end (get_or text i 0)) (is_space (get_or text i 0)) g in
    rw (drop_more text i 0 h, p.0, p.1, d) refl

pub word_breaks : (n : ℕ) (text : List ℕ) (i : ℕ) → i < length text → is_gap (get_or text i 0) ≡ false → is_digit (get_or text i 0) ≡ false → read_from (word n) (drop i text) ≡ None
unfolding read_from
word_breaks n text i h g d =
    let p = or_parts (is_line_end (get_or text i 0)) (is_space (get_or text i 0)) g in
    rw (drop_more text i 0 h, p.0, p.1, d) refl

-- a gap that is found from a byte on which is none stands later
pub gap_later : (text : List ℕ) (i j : ℕ) → i ≤ j → is_gap (get_or text i 0) ≡ false → is_gap (get_or text j 0) ≡ true → i < j
gap_later text i j h none some =
    ⊎_elim
    (λ (less : i < j). less)
    (λ (back : j ≤ i). let same : i ≡ j = omega arith in absurd (both_ways (is_gap (get_or text j 0)) (subst (λ k. is_gap (get_or text k 0) ≡ false) same none) some))
    (cases_lt i j)

-- a word ends at a gap, or where the text does; what is left is then read as a text of its own
pub at_gap : (n c : ℕ) (cs : List ℕ) → is_gap c ≡ true → read_from (word n) (c ∷ cs) ≡ with n (read_from first (c ∷ cs))
unfolding read_from
at_gap n c cs g =
    ⊎_elim
    (λ (e : is_line_end c ≡ true). rw e refl)
    (λ (s : is_space c ≡ true). rw (space_no_line_end c s, space_no_hash c s, s) refl)
    (or_cases (is_line_end c) (is_space c) g)

pub word_ends : (n : ℕ) (text : List ℕ) (i : ℕ) → (i < length text → is_gap (get_or text i 0) ≡ true) → read_from (word n) (drop i text) ≡ with n (read_from first (drop i text))
unfolding read_from
word_ends n text i stops =
    ⊎_elim
    (λ (h : i < length text). rw (drop_more text i 0 h) (at_gap n (get_or text i 0) (drop (i + 1) text) (stops h)))
    (λ (h : length text ≤ i). rw (drop_all i text h) refl)
    (cases_lt i (length text))

pub word_whole : (n : ℕ) (text : List ℕ) (i : ℕ) → length text ≤ i → read_from (word n) (drop i text) ≡ with n (read_from first (drop (length text) text))
unfolding read_from
word_whole n text i end = rw (drop_all i text end, drop_all (length text) text (omega arith)) refl
