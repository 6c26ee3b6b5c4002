-- Numbers that are written in a line, or in lines, are read again.
-- A word is read digit by digit, and what follows it is read on its own.
use Rattle.std.proofs.Common.{◌≡◌, ℕ, zero, suc, ◌+◌, ◌-◌, ◌*◌, ◌^◌, ◌<◌, ◌≤◌, Bool, true, false, eqb, leb, List, [], ◌∷◌, ◌++◌, length, take, drop, Some, None, decimal, Option, sym, refl, ap, ◌∙◌, ⊎_elim, append_assoc, append-nil, add-zero, add_assoc, mul_assoc, mul_comm, add-mul, zero-add, zero-mul, mul-one, arith, length-drop, take-append-drop}
use native.Mathlib.Nat.{pow-succ'}
use Rattle.std.proofs.lemmas.Fmt.{digits_decimal, digits_value-decimal, decimal_nonempty}
use Rattle.std.proofs.ByRecursion.{All-take, All-drop}
use Rattle.std.proofs.lemmas.Str.Parse.{IsNumeralModel, numerals_by_weight}
use Rattle.std.proofs.lemmas.Bool.{and_parts, and_from, leb-true, le-leb, ne_eqb, or_cases, or_from}
use Rattle.std.specs.Int.{IsInRange}
use Rattle.std.specs.List.{AllByRecursion}
use Rattle.texts.specs.Machine.{first, word, with, read_from}
use Rattle.texts.specs.Texts.{is_line_end, is_space, is_gap, is_digit, capped, line_of, lines_by, lines_of}
use Rattle.texts.specs.Theorems.{RoundTrip, value_of, Stops}
use Rattle.texts.proofs.Meaning.{numbers_of_is, capped_digit}
use Rattle.texts.proofs.Reading.{after, after_none}
use Rattle.texts.proofs.Steps.{outside, at_gap, space_no_hash, space_no_line_end}

-- ---- digits
abbrev pub Digit : ℕ → Type 0
Digit c = is_digit c ≡ true

digit_in : (c : ℕ) → Digit c → IsInRange 48 57 c
digit_in c d = let p = and_parts (leb 48 c) (leb c 57) d in (leb-true 48 c p.0, leb-true c 57 p.1)

in_digit : (c : ℕ) → IsInRange 48 57 c → Digit c
in_digit c h = and_from (leb 48 c) (leb c 57) (le-leb 48 c h.0) (le-leb c 57 h.1)

pub digit_no_line_end : (c : ℕ) → Digit c → is_line_end c ≡ false
digit_no_line_end c d = ne_eqb c 10 (λ e. omega (arith, (digit_in c d).0))

pub digit_no_space : (c : ℕ) → Digit c → is_space c ≡ false
digit_no_space c d = or_from (eqb c 32) (eqb c 13) (ne_eqb c 32 (λ e. omega (arith, (digit_in c d).0))) (ne_eqb c 13 (λ e. omega (arith, (digit_in c d).0)))

pub digit_no_gap : (c : ℕ) → Digit c → is_gap c ≡ false
digit_no_gap c d = or_from (is_line_end c) (is_space c) (digit_no_line_end c d) (digit_no_space c d)

pub digit_no_hash : (c : ℕ) → Digit c → eqb c 35 ≡ false
digit_no_hash c d = ne_eqb c 35 (λ e. omega (arith, (digit_in c d).0))

-- the library's words for decimal numbers are ours
own : IsNumeralModel (AllByRecursion Digit) value_of
own = numerals_by_weight (AllByRecursion Digit) (record { empty = tt; parts = λ c cs p. (digit_in c p.0, p.1); more = λ c cs h p. (in_digit c h, p) }) value_of (record { empty = refl; more = λ c cs h. refl })

-- ---- a word
pub weigh : (n d p v : ℕ) → (10 * n + d) * p + v ≡ n * (10 * p) + (d * p + v)
weigh n d p v =
    ap (λ x. x + v) (add-mul (10 * n) d p) ∙ add_assoc (10 * n * p) (d * p) v ∙ ap (λ x. x + (d * p + v)) (ap (λ x. x * p) (mul_comm 10 n) ∙ mul_assoc n 10 p)

pub digits_read : (ds rest : List ℕ) (n : ℕ) → AllByRecursion Digit ds → read_from (word (capped n)) (ds ++ rest) ≡ read_from (word (capped (n * 10 ^ length ds + value_of ds))) rest
unfolding read_from
digits_read [] rest n all = ap (λ m. read_from (word (capped m)) rest) (sym (add-zero (n * 10 ^ 0) ∙ mul-one n))
digits_read (c ∷ cs) rest n all =
    rw (digit_no_line_end c all.0, digit_no_space c all.0, all.0, capped_digit n (c - 48))
    (digits_read cs rest (10 * n + (c - 48)) all.1 ∙ ap (λ m. read_from (word (capped m)) rest) (weigh n (c - 48) (10 ^ length cs) (value_of cs) ∙ ap (λ p. n * p + ((c - 48) * 10 ^ length cs + value_of cs)) (sym (pow-succ' 10 (length cs)))))

number_begins : (b : Bool) (d : ℕ) (cs : List ℕ) → Digit d → read_from (outside b) (d ∷ cs) ≡ read_from (word (capped 0)) (d ∷ cs)
unfolding read_from
number_begins true d cs h = rw (digit_no_line_end d h, digit_no_hash d h, digit_no_space d h, h) refl
number_begins false d cs h = rw (digit_no_line_end d h, digit_no_space d h, h) refl

pub word_stops : (n : ℕ) (rest : List ℕ) → Stops is_gap rest → read_from (word n) rest ≡ with n (read_from first rest)
unfolding read_from
word_stops n [] stops = refl
word_stops n (c ∷ cs) stops = at_gap n c cs stops

pub number_read : (b : Bool) (ds rest : List ℕ) → 0 < length ds → AllByRecursion Digit ds → Stops is_gap rest → read_from (outside b) (ds ++ rest) ≡ with (capped (value_of ds)) (read_from first rest)
number_read b [] rest some all stops = absurd (omega arith)
number_read b (d ∷ ds) rest some all stops =
    number_begins b d (ds ++ rest) all.0 ∙ digits_read (d ∷ ds) rest 0 all ∙ ap (λ m. read_from (word (capped m)) rest) (ap (λ x. x + value_of (d ∷ ds)) (zero-mul (10 ^ length (d ∷ ds))) ∙ zero-add (value_of (d ∷ ds))) ∙ word_stops (capped (value_of (d ∷ ds))) rest stops

-- where a gap stands, or nothing, the beginning of a line is like any place in it
pub gap_first : (b : Bool) (rest : List ℕ) → Stops is_gap rest → read_from (outside b) rest ≡ read_from first rest
unfolding read_from
gap_first true rest stops = refl
gap_first false [] stops = refl
gap_first false (c ∷ cs) stops =
    ⊎_elim
    (λ (e : is_line_end c ≡ true). rw e refl)
    (λ (s : is_space c ≡ true). rw (space_no_line_end c s, space_no_hash c s, s) refl)
    (or_cases (is_line_end c) (is_space c) stops)

-- ---- a line
abbrev Word : ℕ → Type 0
Word n = n < 2 ^ 32

decimal_read : (b : Bool) (n : ℕ) (rest : List ℕ) → Word n → Stops is_gap rest → read_from (outside b) (decimal n ++ rest) ≡ with n (read_from first rest)
decimal_read b n rest small stops =
    let fits : n < 2 ^ 64 = omega arith in
    let same : capped (value_of (decimal n)) ≡ n = ap capped (digits_value-decimal own n fits) ∙ omega arith in
    number_read b (decimal n) rest (decimal_nonempty n fits) (digits_decimal own n fits) stops ∙ ap (λ m. with m (read_from first rest)) same

with-after : (n : ℕ) (ns : List ℕ) (o : Option (List ℕ)) → with n (after ns o) ≡ after (n ∷ ns) o
with-after n ns None = refl
with-after n ns (Some ms) = refl

line_read : (b : Bool) (ns rest : List ℕ) → AllByRecursion Word ns → Stops is_gap rest → read_from (outside b) (line_of ns ++ rest) ≡ after ns (read_from first rest)
unfolding line_of read_from
line_read b [] rest all stops = gap_first b rest stops ∙ sym (after_none (read_from first rest))
line_read b (n ∷ []) rest all stops = decimal_read b n rest all.0 stops
line_read b (n ∷ m ∷ ns) rest all stops =
    ap (read_from (outside b)) (append_assoc (decimal n) (32 ∷ line_of (m ∷ ns)) rest) ∙ decimal_read b n (32 ∷ (line_of (m ∷ ns) ++ rest)) all.0 refl ∙ ap (with n) (line_read false (m ∷ ns) rest all.1 stops) ∙ with-after n (m ∷ ns) (read_from first rest)

lines_read : (turns k : ℕ) (ns : List ℕ) → 0 < k → length ns ≤ turns → AllByRecursion Word ns → read_from first (lines_by turns k ns) ≡ Some ns
unfolding lines_by read_from
lines_read zero k [] some enough all = refl
lines_read zero k (n ∷ ns) some enough all = absurd (omega arith)
lines_read (suc turns) k [] some enough all = refl
lines_read (suc turns) k (n ∷ ns) some enough all =
    line_read true (take k (n ∷ ns)) (10 ∷ lines_by turns k (drop k (n ∷ ns))) (All-take Word k (n ∷ ns) all) refl
    ∙ ap (after (take k (n ∷ ns))) (lines_read turns k (drop k (n ∷ ns)) some (omega (arith, length-drop k (n ∷ ns))) (All-drop Word k (n ∷ ns) all))
    ∙ ap (λ (l : List ℕ). Some l) (take-append-drop k (n ∷ ns))

pub round_trip : RoundTrip
unfolding read_from
round_trip ns all = (
  numbers_of_is (line_of ns) ∙ ap (read_from first) (sym (append-nil (line_of ns))) ∙ line_read true ns [] all tt ∙ ap (λ (l : List ℕ). Some l) (append-nil ns),
  λ k some. numbers_of_is (lines_of k ns) ∙ lines_read (length ns) k ns some (omega arith) all,
)
