-- Laws of refusals: none is an answer, none has the number 0, which is success, and number and place name one refusal alone.
-- Assumes nothing.
use mathlib.Core.Path.{◌≡◌, refl, sym, ap}
use Rattle.std.specs.Prelude.{Result, Ok, Err}
use Prim.Native.Nat.{ℕ, ◌<◌}
use native.Mathlib.Omega.{arith}
use Rattle.refusal.specs.declared.Refusal.{Refusal}
use Rattle.refusal.specs.Refusals.{refusal_number, refusal_place, refusal_from, refusals}

-- A refusal is no answer, and an answer no refusal.
module _ {A : Type 0} (f : Refusal) (a : A) where
  pub refused_not_ok : Err f ≡ Ok a → ⊥
  refused_not_ok e = let impossible : ◌≡◌ {A = ℕ} 0 1 = cc in omega arith

  pub ok_not_refused : Ok a ≡ Err f → ⊥
  ok_not_refused e = refused_not_ok (sym e)

-- Two refusals that are the same have the same number.
pub same_number : {A : Type 0} (f g : Refusal) → ◌≡◌ {A = Result A Refusal} (Err f) (Err g) → refusal_number f ≡ refusal_number g
same_number f g e = let same : f ≡ g = cc in ap refusal_number same

pub number_above_0 : (f : Refusal) → 0 < refusal_number f
number_above_0 Refusal.WrongLength = omega arith
number_above_0 (Refusal.BadCharacter place) = omega arith
number_above_0 Refusal.BadPower = omega arith
number_above_0 Refusal.WordTooLarge = omega arith
number_above_0 Refusal.BadLocatorNumber = omega arith
number_above_0 Refusal.BadPowerBits = omega arith
number_above_0 (Refusal.SymbolTooLarge place) = omega arith
number_above_0 (Refusal.WrongSync place) = omega arith
number_above_0 Refusal.NoWord = omega arith
number_above_0 (Refusal.NotTelemetry place) = omega arith
number_above_0 Refusal.ExtendedTelemetry = omega arith
number_above_0 Refusal.BadPositionNumber = omega arith
number_above_0 Refusal.BadSensorNumber = omega arith
number_above_0 (Refusal.OutOfRange place) = omega arith
number_above_0 (Refusal.BadBound place) = omega arith
number_above_0 Refusal.OverBudget = omega arith
number_above_0 Refusal.NoneWithinLimit = omega arith
number_above_0 Refusal.SharedFewest = omega arith
number_above_0 Refusal.BadFieldTable = omega arith
number_above_0 Refusal.NotExtended = omega arith
number_above_0 Refusal.ReservedNotZero = omega arith
number_above_0 Refusal.BadSlotOrType = omega arith
number_above_0 Refusal.NumberLeftOver = omega arith

pub number_not_0 : (f : Refusal) → refusal_number f ≡ 0 → ⊥
number_not_0 f zero = omega (arith, number_above_0 f)

pub from_numbers : (f : Refusal) → refusal_from (refusal_number f) (refusal_place f) ≡ f
unfolding refusal_from refusals
from_numbers Refusal.WrongLength = refl
from_numbers (Refusal.BadCharacter place) = refl
from_numbers Refusal.BadPower = refl
from_numbers Refusal.WordTooLarge = refl
from_numbers Refusal.BadLocatorNumber = refl
from_numbers Refusal.BadPowerBits = refl
from_numbers (Refusal.SymbolTooLarge place) = refl
from_numbers (Refusal.WrongSync place) = refl
from_numbers Refusal.NoWord = refl
from_numbers (Refusal.NotTelemetry place) = refl
from_numbers Refusal.ExtendedTelemetry = refl
from_numbers Refusal.BadPositionNumber = refl
from_numbers Refusal.BadSensorNumber = refl
from_numbers (Refusal.OutOfRange place) = refl
from_numbers (Refusal.BadBound place) = refl
from_numbers Refusal.OverBudget = refl
from_numbers Refusal.NoneWithinLimit = refl
from_numbers Refusal.SharedFewest = refl
from_numbers Refusal.BadFieldTable = refl
from_numbers Refusal.NotExtended = refl
from_numbers Refusal.ReservedNotZero = refl
from_numbers Refusal.BadSlotOrType = refl
from_numbers Refusal.NumberLeftOver = refl
