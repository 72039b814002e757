-- From a prefix to those that are one bit longer: their numbers, the register after a prefix, and the disagreements that a step adds. The
-- search of repair goes by these. No promise has to be believed through them: that they agree with the prefixes and their disagreements is
-- proofs/StepLaws.antt.
use Rattle.std.specs.Prelude.{ℕ, ◌+◌, ◌-◌, ◌*◌, ◌/◌, ◌%◌, ◌^◌, cond, List, [], ◌∷◌, eqb, ltb, drop}
use Rattle.convolution.specs.Code.{clocked, first_mask, second_mask, parity}
use Rattle.distance.specs.Prefixes.{free_of, differences}

-- ---- Branches

-- How many prefixes are longer than one of k bits by one: "the 31 tail bits" don't branch.
unfoldable pub branches_of : ℕ → ℕ
branches_of k = cond (ltb k 50) 2 1

-- The number of the prefix of k + 1 bits whose first k are those of a number and whose last one is the branch.
unfoldable pub child_of : ℕ → ℕ → ℕ → ℕ
child_of k number branch = cond (ltb k 50) (2 * number + branch) number

-- Back from a prefix of k + 1 bits: the number of its first k, and its last one.
unfoldable pub parent_of : ℕ → ℕ → ℕ
parent_of k number = cond (ltb k 50) (number / 2) number

unfoldable pub last_branch : ℕ → ℕ → ℕ
last_branch k number = cond (ltb k 50) (number % 2) 0

-- ---- Costs

-- The register after the k bits of a prefix: the last 32 of them.
unfoldable pub register_of : ℕ → ℕ → ℕ
register_of k number = number * 2 ^ (k - free_of k) % 2 ^ 32

-- The disagreements of the two coded bits that a register gives with the next two received.
unfoldable pub step_cost : List ℕ → ℕ → ℕ
step_cost received register = differences (parity first_mask register ∷ parity second_mask register ∷ []) received

-- What a 0 after a prefix of k bits adds to its disagreements.
unfoldable pub zero_cost : List ℕ → ℕ → ℕ → ℕ
zero_cost received k number = step_cost (drop (2 * k) received) (clocked (register_of k number) 0)

-- What a branch adds, given what a 0 does: the coded bits of a 1 are the other ones, so the two costs are 2 together.
unfoldable pub branch_cost : ℕ → ℕ → ℕ
branch_cost of_zero branch = cond (eqb branch 0) of_zero (2 - of_zero)
