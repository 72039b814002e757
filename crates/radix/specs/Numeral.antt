-- Mixed-radix numerals: a list of digits, highest first, over a list of radices, one for each digit.
use Rattle.std.specs.Prelude.{ℕ, ◌+◌, ◌*◌, ◌/◌, ◌%◌, ◌<◌, List, [], ◌∷◌}

-- As many digits as radices, and each digit below its radix.
unfoldable pub Digits : List ℕ → List ℕ → Type 0
Digits [] [] = Unit
Digits [] (d ∷ ds) = ⊥
Digits (r ∷ rs) [] = ⊥
Digits (r ∷ rs) (d ∷ ds) = (d < r) × Digits rs ds

-- No radix is 0.
unfoldable pub Positive : List ℕ → Type 0
Positive [] = Unit
Positive (r ∷ rs) = (0 < r) × Positive rs

-- How many numbers have a numeral in these radices: their product.
unfoldable pub count : List ℕ → ℕ
count [] = 1
count (r ∷ rs) = r * count rs

-- n, then for each digit: times its radix, plus the digit.
unfoldable pub number_from : ℕ → List ℕ → List ℕ → ℕ
number_from n [] ds = n
number_from n (r ∷ rs) [] = n
number_from n (r ∷ rs) (d ∷ ds) = number_from (n * r + d) rs ds

-- The number that the digits write.
unfoldable pub number_of : List ℕ → List ℕ → ℕ
number_of rs ds = number_from 0 rs ds

-- The digits of n: n divided by the count of the later radices, modulo the digit's own radix.
unfoldable pub digits_of : List ℕ → ℕ → List ℕ
digits_of [] n = []
digits_of (r ∷ rs) n = (n / count rs % r) ∷ digits_of rs n
