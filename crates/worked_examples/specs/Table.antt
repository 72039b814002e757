-- The worked examples (01, 'Bench sheet') that are marked P, 02's of L2, and for L4 some of 01's in small letters, as a table: what the
-- definitions give, and what the papers say.
use Rattle.std.specs.Prelude.{ℕ, ◌≡◌, List, [], ◌∷◌, pos, neg_ℤ}
use Prim.Native.String.{String}
use Rattle.basics.specs.Ascii.{bytes}
use Rattle.message.specs.Word.{callsign_number, locator_number, lower_number}
use Rattle.message.specs.Answer.{message_numbers}
use Rattle.telemetry.specs.Codes.{altitude_code, temperature_code, voltage_code, millivolts}
use Rattle.telemetry.specs.Payload.{position_number, basic_bit, sensor_number}
use Rattle.u4b.specs.Characters.{callsign_with, locator_with, power_with, lower_of}
use Rattle.telemetry.specs.Answer.{measured_message, measured_callsign, measured_locator, telemetry_read, telemetry_numbers}
use Rattle.telemetry.specs.declared.Measured.{Measured}

-- A row: the numbers that the definitions give, and those that the papers state.
pub record Row : Type 0 where
  pub given : List ℕ
  pub stated : List ℕ

-- A row of one number.
unfoldable pub number : ℕ → ℕ → Row
number given stated = record { given = given ∷ []; stated = stated ∷ [] }

-- A row of a text.
unfoldable pub text : List ℕ → String → Row
text given stated = record { given = given; stated = bytes stated }

-- A row of a refusal: its number and place.
unfoldable pub refused : ℕ → ℕ → ℕ → ℕ → Row
refused n place stated_number stated_place = record { given = n ∷ place ∷ []; stated = stated_number ∷ stated_place ∷ [] }

-- "channel Q2, SK, 12,340 m, -150, 4,100 mV, 300 tenths, GPS 1", at any altitude
unfoldable pub measured_at : ℕ → Measured
measured_at altitude = record {
  channel = record { first = 81; third = 50 };
  square = record { grid5 = 83; grid6 = 75 };
  sensors = record { altitude = altitude; temperature = neg_ℤ (pos 150); voltage = 4_100; speed = 300; gps = 1 };
}

-- A row of a refusal of what is measured.
unfoldable pub write_refused : Measured → ℕ → ℕ → Row
write_refused m stated_number stated_place =
    let n = message_numbers (measured_message m) in
    refused n.number n.place stated_number stated_place

-- A row of a refusal of a message.
unfoldable pub read_refused : String → String → ℕ → ℕ → ℕ → Row
read_refused callsign locator power stated_number stated_place =
    let n = telemetry_numbers (telemetry_read (bytes callsign) (bytes locator) power) in
    refused n.number n.place stated_number stated_place

unfoldable pub examples : List Row
examples =
    -- '" K1ABC" gives N 259,047,992; FN20 gives M1 22,990; with 37 dBm M is 2,942,821.'
    number (callsign_number (bytes " K1ABC")) 259_047_992
    ∷ number (locator_number (bytes "FN20")) 22_990
    ∷ number (lower_number (locator_number (bytes "FN20")) 37) 2_942_821
    -- 'AR09 gives 32,399. RA90 gives 0. AA00 gives 32,220.'
    ∷ number (locator_number (bytes "AR09")) 32_399
    ∷ number (locator_number (bytes "RA90")) 0
    ∷ number (locator_number (bytes "AA00")) 32_220
    -- 'channel Q2, SK, 12,340 m, -150, 4,100 mV, 300 tenths, GPS 1 gives A 472,673, B 235,599, QQ2XFT GP99 60.'
    ∷ number (position_number (measured_at 12_340)) 472_673
    ∷ number (sensor_number basic_bit (measured_at 12_340).sensors) 235_599
    ∷ text (measured_callsign (measured_at 12_340)) "QQ2XFT"
    ∷ text (measured_locator (measured_at 12_340)) "GP99"
    ∷ number (message_numbers (measured_message (measured_at 12_340))).power 60
    -- 'A 615,167 with channel 0, 0 is 0Z0AAH. 0Z0AAI is refused 12.' In ASCII, 0 is 48. RM31 33 has an odd B in its range.
    ∷ text (callsign_with (record { first = 48; third = 48 }) 615_167) "0Z0AAH"
    ∷ read_refused "0Z0AAI" "RM31" 33 12 0
    -- 'B 604,799 is RM31 33. RM31 37 is even: 11. RM31 40 is 604,801: 13.'
    ∷ text (locator_with 604_799) "RM31"
    ∷ number (power_with 604_799) 33
    ∷ read_refused "0Z0AAH" "RM31" 37 11 0
    ∷ number (lower_of (bytes "RM31") 40) 604_801
    ∷ read_refused "0Z0AAH" "RM31" 40 13 0
    -- 'voltage 3,000 is code 20; 4,999 is code 19; code 0 reads 4,000.'
    ∷ number (voltage_code 3_000) 20
    ∷ number (voltage_code 4_999) 19
    ∷ number (millivolts 0) 4_000
    -- 'altitude 21,359 is code 1,067; 21,360 is refused 14, place 4.'
    ∷ number (altitude_code 21_359) 1_067
    ∷ write_refused (measured_at 21_360) 14 4
    -- 02, L2: '-5 tenths becomes .. code 49.'
    ∷ number (temperature_code (neg_ℤ (pos 5))) 49
    -- 02, L4: 'take a to z as their capitals': rows from above, in small letters. The channel's first character comes out as Q, 81.
    ∷ number (callsign_number (bytes " k1abc")) 259_047_992
    ∷ number (locator_number (bytes "fn20")) 22_990
    ∷ number (telemetry_numbers (telemetry_read (bytes "qq2xft") (bytes "gp99") 60)).reading.channel.first 81
    ∷ number (telemetry_numbers (telemetry_read (bytes "qq2xft") (bytes "gp99") 60)).reading.sensors.altitude 12_340
    ∷ read_refused "0z0aai" "rm31" 33 12 0
    ∷ []

-- The statement: row by row, the definitions give what the papers state.
unfoldable pub Agrees : List Row → Type 0
Agrees [] = Unit
Agrees (r ∷ rs) = (r.given ≡ r.stated) × Agrees rs
