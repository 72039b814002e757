-- Paths from state to state, a bit a step, and their weights: two paths one after the other, a path cut where it gets too heavy, and one
-- whose first bits are zeros.
use mathlib.Core.Path.{◌≡◌, refl, ap}
use mathlib.Core.Logic.{◌⊎◌, inl, inr}
use Prim.Native.Nat.{ℕ, zero, suc, ◌+◌, ◌-◌, ◌≤◌, ◌<◌}
use native.Mathlib.Omega.{arith}
use mathlib.Core.List.{List, [], ◌∷◌, ◌++◌}
use lib.ListN.{length, replicate}
use Rattle.basics.proofs.Choice.{below_or_not}
use Rattle.distance.proofs.Bits.{AllBits}

-- Where a bit leads from a state, and what the step weighs.
pub record Steps : Type 0 where
  pub to : ℕ → ℕ → ℕ
  pub weight : ℕ → ℕ → ℕ

module _ (steps : Steps) where
  -- Where bits lead from a state.
  unfoldable pub end_of : ℕ → List ℕ → ℕ
  end_of state [] = state
  end_of state (bit ∷ bits) = end_of (steps.to state bit) bits

  -- What their steps weigh together.
  unfoldable pub weight_of : ℕ → List ℕ → ℕ
  weight_of state [] = 0
  weight_of state (bit ∷ bits) = steps.weight state bit + weight_of (steps.to state bit) bits

  -- ---- Two paths

  pub end_append : (state : ℕ) (bits more : List ℕ) → end_of state (bits ++ more) ≡ end_of (end_of state bits) more
  unfolding end_of
  end_append state [] more = refl
  end_append state (bit ∷ bits) more = end_append (steps.to state bit) bits more

  pub weight_append : (state : ℕ) (bits more : List ℕ) → weight_of state (bits ++ more) ≡ weight_of state bits + weight_of (end_of state bits) more
  unfolding end_of weight_of
  weight_append state [] more = omega arith
  weight_append state (bit ∷ bits) more = omega (arith, weight_append (steps.to state bit) bits more)

  -- ---- Cut in two

  -- The first part is within a limit, and isn't with one step more.
  pub record Cut (state limit : ℕ) (bits : List ℕ) : Type 0 where
    pub before : List ℕ
    pub bit : ℕ
    pub after : List ℕ
    pub joined : bits ≡ before ++ bit ∷ after
    pub within : weight_of state before ≤ limit
    pub beyond : limit < weight_of state before + steps.weight (end_of state before) bit

  -- The first step is within it, and what follows is cut.
  cut_later : (state limit bit : ℕ) (bits : List ℕ) → steps.weight state bit ≤ limit
      → Cut (steps.to state bit) (limit - steps.weight state bit) bits → Cut state limit (bit ∷ bits)
  unfolding end_of weight_of
  cut_later state limit bit bits h later =
      record {
        before = bit ∷ later.before;
        bit = later.bit;
        after = later.after;
        joined = rw later.joined;
        within = omega (arith, later.within);
        beyond = omega (arith, later.beyond);
      }

  pub within_or_cut : (state limit : ℕ) (bits : List ℕ) → (weight_of state bits ≤ limit) ⊎ Cut state limit bits
  unfolding end_of weight_of
  within_or_cut state limit [] = inl (omega arith)
  within_or_cut state limit (bit ∷ bits) =
      let cost = steps.weight state bit in
      below_or_not limit cost
      (λ heavy. inr (record { before = []; bit = bit; after = bits; joined = refl; within = omega arith; beyond = omega arith }))
      (λ light. longer light (within_or_cut (steps.to state bit) (limit - cost) bits))
    where
      longer : steps.weight state bit ≤ limit
          → (weight_of (steps.to state bit) bits ≤ limit - steps.weight state bit) ⊎ Cut (steps.to state bit) (limit - steps.weight state bit) bits
          → (weight_of state (bit ∷ bits) ≤ limit) ⊎ Cut state limit (bit ∷ bits)
      longer light (inl all) = inl (omega arith)
      longer light (inr later) = inr (cut_later state limit bit bits light later)

  -- ---- From the zero state

  -- A path begins with a 1 after zeros: what follows the 1 leads from where that leads.
  pub record FirstOne (bits : List ℕ) : Type 0 where
    pub after : List ℕ
    pub are_bits : AllBits after
    pub shorter : length after < length bits
    pub ends_alike : end_of 0 bits ≡ end_of (steps.to 0 1) after
    pub weighs : weight_of 0 bits ≡ steps.weight 0 1 + weight_of (steps.to 0 1) after

  -- It is zeros, and stays.
  abbrev pub Stays : List ℕ → Type 0
  Stays bits = (bits ≡ replicate (length bits) 0) × (end_of 0 bits ≡ 0)

  -- Where zeros keep the zero state and weigh nothing, a path from it is zeros, or begins with a 1 after zeros.
  pub zeros_or_one : steps.to 0 0 ≡ 0 → steps.weight 0 0 ≡ 0 → (bits : List ℕ) → AllBits bits → Stays bits ⊎ FirstOne bits
  unfolding AllBits end_of weight_of
  zeros_or_one stays free [] are_bits = inl (refl, refl)
  zeros_or_one stays free (zero ∷ bits) are_bits = longer (zeros_or_one stays free bits are_bits.1)
    where
      longer : Stays bits ⊎ FirstOne bits → Stays (zero ∷ bits) ⊎ FirstOne (zero ∷ bits)
      longer (inl (zeros, ends)) = inl (ap (λ (xs : List ℕ). 0 ∷ xs) zeros, rw stays ends)
      longer (inr one) =
          inr
          (record {
            after = one.after;
            are_bits = one.are_bits;
            shorter = omega (arith, one.shorter);
            ends_alike = rw stays one.ends_alike;
            weighs = rw (stays, free) (omega (arith, one.weighs));
          })
  zeros_or_one stays free (suc zero ∷ bits) are_bits =
      inr (record { after = bits; are_bits = are_bits.1; shorter = omega arith; ends_alike = refl; weighs = refl })
  zeros_or_one stays free (suc (suc bit) ∷ bits) are_bits = absurd (omega (arith, are_bits.0))
