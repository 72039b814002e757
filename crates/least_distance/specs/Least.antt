-- The code's least distance (minimum distance): in how many places the coded bits of two different words differ at least.
use Rattle.std.specs.Prelude.{◌≡◌, ℕ, ◌^◌, ◌≤◌, ◌<◌}
use Rattle.convolution.specs.Code.{coded_bits}
use Rattle.distance.specs.Prefixes.{differences}

-- The coded bits of any two different 50-bit words differ in so many places at least, and those of two words in exactly so many.
pub record LeastDistance (least one another : ℕ) : Type 0 where
  pub apart : (v w : ℕ) → v < 2 ^ 50 → w < 2 ^ 50 → (v ≡ w → ⊥) → least ≤ differences (coded_bits v) (coded_bits w)
  pub in_50_bits : (one < 2 ^ 50) × (another < 2 ^ 50)
  pub exactly : differences (coded_bits one) (coded_bits another) ≡ least
