-- What is true of texts, in words of their own: what is written is read again, lines may be read one by one, and a text has one reading at most.
-- A reading is given by what a text is made of, with no machine and no order in which to go.
use Rattle.std.specs.Prelude.{◌≡◌, ℕ, ◌+◌, ◌-◌, ◌*◌, ◌^◌, ◌<◌, Bool, true, false, List, [], ◌∷◌, ◌++◌, length, Some, None, Option}
use Rattle.std.specs.List.{AllByRecursion}
use Rattle.std.specs.Option.{option_map}
use Rattle.texts.specs.Texts.{is_line_end, is_space, is_gap, is_digit, capped, numbers_of, line_of, lines_of}

-- ---- what is written is read again
-- numbers that are words of 32 bits, in a line, and in lines of k numbers
abbrev pub RoundTrip : Type 0
RoundTrip =
    (ns : List ℕ) → AllByRecursion (λ n. n < 2 ^ 32) ns → (numbers_of (line_of ns) ≡ Some ns) × ((k : ℕ) → 0 < k → numbers_of (lines_of k ns) ≡ Some ns)

-- ---- line by line
-- the numbers of one text and then of another, if both have numbers
abbrev pub and_then : Option (List ℕ) → Option (List ℕ) → Option (List ℕ)
and_then None p = None
and_then (Some ns) p = option_map (λ ms. ns ++ ms) p

-- a text may be read line by line: each line is a text
abbrev pub LineByLine : Type 0
LineByLine =
    (line rest : List ℕ) → AllByRecursion (λ c. is_line_end c ≡ false) line → numbers_of (line ++ (10 ∷ rest)) ≡ and_then (numbers_of line) (numbers_of rest)

-- ---- one reading
-- the number that digits write: each counts by the power of ten of its place
abbrev pub value_of : List ℕ → ℕ
value_of [] = 0
value_of (c ∷ cs) = (c - 48) * 10 ^ length cs + value_of cs

-- a text that ends here, or goes on with such a byte
abbrev pub Stops : (ℕ → Bool) → List ℕ → Type 0
Stops test [] = Unit {0}
Stops test (c ∷ cs) = test c ≡ true

-- a text, or what is left of it, from the beginning of a line on or from later in it, reads as these numbers
pub data Reads : Bool → List ℕ → List ℕ → Type 0 where
  nothing : {at_first : Bool} → Reads at_first [] []
  line_end : {at_first : Bool} {rest ns : List ℕ} (c : ℕ) → is_line_end c ≡ true → Reads true rest ns → Reads at_first (c ∷ rest) ns
  space : {at_first : Bool} {rest ns : List ℕ} (c : ℕ) → is_space c ≡ true → Reads false rest ns → Reads at_first (c ∷ rest) ns
  comment_line :
      {rest ns : List ℕ} (cs : List ℕ) → AllByRecursion (λ c. is_line_end c ≡ false) cs → Stops is_line_end rest → Reads false rest ns → Reads true (35 ∷ (cs ++ rest)) ns
  number :
      {at_first : Bool} {rest ns : List ℕ} (d : ℕ) (ds : List ℕ) → AllByRecursion (λ c. is_digit c ≡ true) (d ∷ ds) → Stops is_gap rest → Reads false rest ns → Reads at_first (d ∷ (ds ++ rest)) (capped (value_of (d ∷ ds)) ∷ ns)

-- the numbers of a text are those that it reads as, and there are no others
pub record OneReading : Type 0 where
  pub reads : (text ns : List ℕ) → numbers_of text ≡ Some ns → Reads true text ns
  pub found : (text ns : List ℕ) → Reads true text ns → numbers_of text ≡ Some ns
  pub one : (text ns ms : List ℕ) → Reads true text ns → Reads true text ms → ns ≡ ms
