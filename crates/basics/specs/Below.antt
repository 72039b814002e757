-- Over the numbers below a number n: a sum, how many pass a test, the last that does; and the least value of a function up to n.
use Rattle.std.specs.Prelude.{ℕ, zero, suc, ◌+◌, min, Bool, cond}

-- f 0 + f 1 and so on, n of them.
unfoldable pub sum_below : ℕ → (ℕ → ℕ) → ℕ
sum_below zero f = 0
sum_below (suc n) f = sum_below n f + f n

-- How many numbers below n pass the test.
unfoldable pub count_below : ℕ → (ℕ → Bool) → ℕ
count_below n test = sum_below n (λ i. cond (test i) 1 0)

-- The last number below n that passes the test; 0 where none does.
unfoldable pub last_below : ℕ → (ℕ → Bool) → ℕ
last_below zero test = 0
last_below (suc n) test = cond (test n) n (last_below n test)

-- The least of f 0 to f n.
unfoldable pub least_up_to : ℕ → (ℕ → ℕ) → ℕ
least_up_to zero f = f 0
least_up_to (suc n) f = min (least_up_to n f) (f (suc n))
