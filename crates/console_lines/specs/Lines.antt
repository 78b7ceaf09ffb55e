-- The console's lines: document 01, "The console program". A line is a list of bytes, without its newline.
use Rattle.std.specs.Prelude.{ℕ, ◌+◌, ◌-◌, ◌*◌, Bool, true, false, cond, ◌&&◌, List, [], ◌∷◌, eqb, leb, length, Option, Some, None}
use Rattle.console_lines.specs.declared.Request.{Request}
use Rattle.console_lines.specs.declared.Request.TheVariants.{Write, Read, Append, Pixel, Run, Screen, Bad}

-- "fields parted by one tab": a line has one field more than tabs.
abbrev pub in_first : ℕ → List (List ℕ) → List (List ℕ)
in_first b [] = (b ∷ []) ∷ []
in_first b (f ∷ fs) = (b ∷ f) ∷ fs

unfoldable pub fields : List ℕ → List (List ℕ)
fields [] = [] ∷ []
fields (b ∷ bs) = cond (eqb b 9) ([] ∷ fields bs) (in_first b (fields bs))

-- "a number is one to ten digits, at most 4294967295"
unfoldable pub digits : List ℕ → Bool
digits [] = true
digits (b ∷ bs) = leb 48 b && (leb b 57 && digits bs)

unfoldable pub decimal : ℕ → List ℕ → ℕ
decimal n [] = n
decimal n (b ∷ bs) = decimal (n * 10 + (b - 48)) bs

unfoldable pub number_of : List ℕ → Option ℕ
number_of f =
    cond (leb 1 (length f) && (leb (length f) 10 && (digits f && leb (decimal 0 f) 4294967295))) (Some (decimal 0 f)) None

-- Equal lists of bytes.
unfoldable pub same : List ℕ → List ℕ → Bool
same [] [] = true
same [] (c ∷ cs) = false
same (b ∷ bs) [] = false
same (b ∷ bs) (c ∷ cs) = eqb b c && same bs cs

-- The words of the requests, as bytes.
abbrev pub word_w : List ℕ
word_w = 119 ∷ []

abbrev pub word_r : List ℕ
word_r = 114 ∷ []

abbrev pub word_p : List ℕ
word_p = 112 ∷ []

abbrev pub word_f : List ℕ
word_f = 102 ∷ []

abbrev pub word_run : List ℕ
word_run = 114 ∷ 117 ∷ 110 ∷ []

abbrev pub word_s : List ℕ
word_s = 115 ∷ []

-- "place above 1,023 prints bad"
abbrev pub placed : ℕ → Request → Request
placed place request = cond (leb place 1023) request Bad

-- "`r index`", "`p word`", "`run budget`", "`s place`"
unfoldable pub with_one : List ℕ → Option ℕ → Request
with_one word None = Bad
with_one word (Some n) =
    cond (same word word_r) (Read n)
    (cond (same word word_p) (Append n) (cond (same word word_run) (Run n) (cond (same word word_s) (placed n (Screen n)) Bad)))

-- "`w index value`", "`f place pixel`"
unfoldable pub with_two : List ℕ → Option ℕ → Option ℕ → Request
with_two word None b = Bad
with_two word (Some m) None = Bad
with_two word (Some m) (Some n) = cond (same word word_w) (Write m n) (cond (same word word_f) (placed m (Pixel m n)) Bad)

-- "Any other line .. prints bad."
unfoldable pub request_in : List (List ℕ) → Request
request_in [] = Bad
request_in (word ∷ []) = Bad
request_in (word ∷ a ∷ []) = with_one word (number_of a)
request_in (word ∷ a ∷ b ∷ []) = with_two word (number_of a) (number_of b)
request_in (word ∷ a ∷ b ∷ c ∷ rest) = Bad

unfoldable pub request_of : List ℕ → Request
request_of line = request_in (fields line)
