-- Which numbers a text of bytes holds, and the text that numbers are written as.
-- Numbers are decimal; only spaces and line ends stand between them; a line that begins with # is passed over.
-- A line that comes alone, from a pipe, is a text too: if it begins with #, it has no numbers.
use Rattle.std.specs.Prelude.{ℕ, zero, suc, ◌+◌, ◌-◌, ◌*◌, min, Bool, false, cond, ◌&&◌, ◌||◌, List, [], ◌∷◌, ◌++◌, length, take, drop, Some, None, decimal, Option, ◌==◌, nat_le}
use Rattle.std.specs.List.{flat_map}
use Rattle.std.specs.Option.{option_map}

-- ---- bytes
abbrev pub is_line_end : ℕ → Bool
is_line_end c = c == 10

-- a space, or the carriage return that some systems write before a line end; a tab is neither, so a word with one is no number
abbrev pub is_space : ℕ → Bool
is_space c = c == 32 || c == 13

-- what parts words
abbrev pub is_gap : ℕ → Bool
is_gap c = is_line_end c || is_space c

-- 0 to 9
abbrev pub is_digit : ℕ → Bool
is_digit c = nat_le 48 c && nat_le c 57

-- ---- reading
-- the bytes before the first that cuts, and the pieces that come after it
unfoldable pub first_piece : (ℕ → Bool) → List ℕ → List ℕ
first_piece cuts [] = []
first_piece cuts (c ∷ cs) = cond (cuts c) [] (c ∷ first_piece cuts cs)

unfoldable pub later_pieces : (ℕ → Bool) → List ℕ → List (List ℕ)
later_pieces cuts [] = []
later_pieces cuts (c ∷ cs) = cond (cuts c) (first_piece cuts cs ∷ later_pieces cuts cs) (later_pieces cuts cs)

abbrev pub pieces : (ℕ → Bool) → List ℕ → List (List ℕ)
pieces cuts cs = first_piece cuts cs ∷ later_pieces cuts cs

-- without the empty ones
unfoldable pub filled : List (List ℕ) → List (List ℕ)
filled [] = []
filled ([] ∷ ps) = filled ps
filled ((c ∷ cs) ∷ ps) = (c ∷ cs) ∷ filled ps

-- a line that begins with #
abbrev pub is_comment : List ℕ → Bool
is_comment [] = false
is_comment (c ∷ cs) = c == 35

abbrev pub words_of : List ℕ → List (List ℕ)
words_of line = cond (is_comment line) [] (filled (pieces is_space line))

-- a number too large for a word of 32 bits is a number all the same, and is read as the largest word
abbrev pub largest : ℕ
largest = 4294967295

abbrev pub capped : ℕ → ℕ
capped n = min n largest

-- the number that a word goes on to write after digits that make n; none, if a byte is no digit
unfoldable pub number_after : ℕ → List ℕ → Option ℕ
number_after n [] = Some (capped n)
number_after n (c ∷ cs) = cond (is_digit c) (number_after (10 * n + (c - 48)) cs) None

-- a number before others, if they are all numbers
abbrev pub before : Option ℕ → Option (List ℕ) → Option (List ℕ)
before None ns = None
before (Some n) ns = option_map (λ ms. n ∷ ms) ns

unfoldable pub numbers_in : List (List ℕ) → Option (List ℕ)
numbers_in [] = Some []
numbers_in (w ∷ ws) = before (number_after 0 w) (numbers_in ws)

-- the numbers of a text; none, if one of its words is no number, so that the text has no known form
unfoldable pub numbers_of : List ℕ → Option (List ℕ)
numbers_of text = numbers_in (flat_map words_of (pieces is_line_end text))

-- ---- writing
-- one space between numbers, none at the end, no zeros in front, and no line end
unfoldable pub line_of : List ℕ → List ℕ
line_of [] = []
line_of (n ∷ []) = decimal n
line_of (n ∷ m ∷ ns) = decimal n ++ (32 ∷ line_of (m ∷ ns))

-- lines of k numbers, the last of what is left, each with its line end; turns bounds how many
unfoldable pub lines_by : ℕ → ℕ → List ℕ → List ℕ
lines_by zero k ns = []
lines_by (suc turns) k [] = []
lines_by (suc turns) k (n ∷ ns) = line_of (take k (n ∷ ns)) ++ (10 ∷ lines_by turns k (drop k (n ∷ ns)))

-- k is 1 or more
abbrev pub lines_of : ℕ → List ℕ → List ℕ
lines_of k ns = lines_by (length ns) k ns
