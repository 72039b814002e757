-- The ranges of what is measured (01, 'Telemetry').
use Rattle.std.specs.Prelude.{ℕ, ◌≡◌, Bool, cond, ◌&&◌, List, [], ◌∷◌, ℤ, pos, neg_ℤ, ltb, Result, Ok, Err}
use Rattle.std.specs.Int.Signed.{le_z}
use Rattle.basics.specs.Test.{between}
use Rattle.basics.specs.Lists.{first_false}
use Rattle.refusal.specs.declared.Refusal.{Refusal}
use Rattle.u4b.specs.Channel.{is_first_character, is_third_character, is_sub_square}
use Rattle.u4b.specs.declared.channel.FirstCharacters.{FirstCharacters}
use Rattle.telemetry.specs.declared.Measured.{Measured}

-- "Temperature -500 to 399 in tenths of a degree"
unfoldable pub temperature_in_range : ℤ → Bool
temperature_in_range tenths = le_z (neg_ℤ (pos 500)) tenths && le_z tenths (pos 399)

-- What is measured, in the order of the places: "0 first character, 1 third, 2 g5, 3 g6, 4 altitude, 5 temperature, 6 voltage, 7 speed,
-- 8 GPS"; each is in its range.
unfoldable pub in_ranges : FirstCharacters → Measured → List Bool
in_ranges taken m =
    let sensors = m.sensors in
    is_first_character taken m.channel.first
    ∷ is_third_character m.channel.third
    ∷ is_sub_square m.square.grid5
    ∷ is_sub_square m.square.grid6
    ∷ between 0 21_359 sensors.altitude
    ∷ temperature_in_range sensors.temperature
    ∷ between 3_000 4_999 sensors.voltage
    ∷ between 0 839 sensors.speed
    ∷ between 0 1 sensors.gps
    ∷ []

-- The first place that is out of its range; 9 where none is.
unfoldable pub first_out_of_range : FirstCharacters → Measured → ℕ
first_out_of_range taken m = first_false (in_ranges taken m)

-- What is measured, where it is in its ranges. "a reading outside its range is refused"
unfoldable pub range_checked : FirstCharacters → Measured → Result Measured Refusal
range_checked taken m =
    let bad = first_out_of_range taken m in
    cond (ltb bad 9) (Err (Refusal.OutOfRange bad)) (Ok m)

-- Nothing is out of its range, for some choice of the first characters that are taken: which it is doesn't matter to the two numbers, in
-- which no channel stands.
abbrev pub InRangeForSome : Measured → Type 0
InRangeForSome m = (taken : FirstCharacters) × (first_out_of_range taken m ≡ 9)
