-- The worked examples agree with the definitions: antt computes both columns of the table, in one test of all rows.
use mathlib.Core.Path.{◌≡◌, refl}
use mathlib.Core.Bool.{Bool, true}
use mathlib.Core.List.{List, [], ◌∷◌}
use Rattle.basics.specs.Ascii.{bytes}
use Rattle.basics.specs.Lists.{first_failing, index_in, same_list}
use Rattle.basics.proofs.Choice.{both_true}
use Rattle.basics.proofs.Tables.{every}
use Rattle.basics.proofs.ListLaws.{same_list_equal}
use Rattle.radix.specs.Numeral.{count, number_of, number_from, digits_of}
use Rattle.power.specs.Powers.{powers, power_index, power_at, legal_power}
use Rattle.message.specs.Character.{capital, value, character, callsign_sets, locator_sets, set_at, legal_at, digit_at, character_at, over_places, digits_from, characters_from}
use Rattle.message.specs.Word.{callsign_radices, callsign_number, locator_number_from, locator_number, lower_number}
use Rattle.message.specs.Answer.{right_lengths, message_checked, message_numbers}
use Rattle.u4b.specs.Channel.{is_first_character}
use Rattle.u4b.specs.Alphabet.{taken_at, first_not_taken}
use Rattle.u4b.specs.Characters.{upper_radices, callsign_with, upper_digits, upper_of, lower_radices, locator_with, power_with, lower_of}
use Rattle.u4b.specs.Answer.{payload_message, payload_callsign, payload_locator, payload_of, message_payload, payload_if_legal, payload_read}
use Rattle.telemetry.specs.Ranges.{temperature_in_range, in_ranges, first_out_of_range}
use Rattle.telemetry.specs.Codes.{altitude_code, temperature_code, voltage_code, speed_code, metres, degrees, millivolts, knots}
use Rattle.telemetry.specs.Payload.{position_radices, position_digits, position_number, sensor_radices, sensor_digits, sensor_number, payload_from, reading_from, reading_of}
use Rattle.telemetry.specs.Answer.{measured_message, measured_callsign, measured_locator, payload_telemetry, basic_telemetry, telemetry_if_payload, telemetry_read, telemetry_numbers}
use Rattle.worked_examples.specs.Table.{Row, number, text, refused, measured_at, write_refused, read_refused, examples, Agrees}

abbrev same : Row → Bool
same r = same_list r.given r.stated

-- Where the test holds of every row, the rows agree.
agree : (rows : List Row) → every same rows ≡ true → Agrees rows
unfolding Agrees
agree [] e = tt
agree (r ∷ rs) e =
    let tests = both_true (same r) (every same rs) e in
    (same_list_equal r.given r.stated tests.0, agree rs tests.1)

pub examples_agree : Agrees examples
unfolding same_list first_failing count number_of number_from digits_of powers index_in power_index power_at legal_power capital value character
    callsign_sets locator_sets set_at legal_at digit_at character_at over_places digits_from characters_from callsign_radices callsign_number
    locator_number_from locator_number lower_number right_lengths message_checked message_numbers is_first_character taken_at first_not_taken upper_radices
    callsign_with upper_digits upper_of lower_radices locator_with power_with lower_of payload_message payload_callsign payload_locator payload_of
    message_payload payload_if_legal payload_read temperature_in_range in_ranges first_out_of_range altitude_code temperature_code voltage_code speed_code
    metres degrees millivolts knots position_radices position_digits position_number sensor_radices sensor_digits sensor_number payload_from
    reading_from reading_of measured_message
    measured_callsign measured_locator payload_telemetry basic_telemetry telemetry_if_payload telemetry_read telemetry_numbers bytes number text refused measured_at write_refused read_refused examples
examples_agree = agree examples refl
