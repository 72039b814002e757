-- Tests on numbers that several layers' definitions make.
use Rattle.std.specs.Prelude.{ℕ, Bool, ◌&&◌, leb, ℤ}
use Rattle.std.specs.Int.Signed.{le_z}

-- n is one of low to high.
abbrev pub between : ℕ → ℕ → ℕ → Bool
between low high n = leb low n && leb n high

-- The same of integers.
abbrev pub betweenℤ : ℤ → ℤ → ℤ → Bool
betweenℤ low high n = le_z low n && le_z n high
