-- 01's example agrees with the definitions: antt computes the whole output for its three lines.
use mathlib.Core.Path.{◌≡◌, refl}
use Rattle.basics.specs.Ascii.{bytes}
use Rattle.basics.specs.Lists.{first_failing, index_in, same_list}
use Rattle.basics.proofs.ListLaws.{same_list_equal}
use Rattle.radix.specs.Numeral.{count, number_of, number_from, digits_of}
use Rattle.power.specs.Powers.{powers, power_index, legal_power}
use Rattle.message.specs.Character.{capital, value, callsign_sets, locator_sets, set_at, legal_at, digit_at, over_places, digits_from}
use Rattle.message.specs.Answer.{right_lengths, message_checked}
use Rattle.u4b.specs.Channel.{is_first_character}
use Rattle.u4b.specs.Alphabet.{taken_at, first_not_taken}
use Rattle.u4b.specs.Characters.{upper_radices, upper_digits, upper_of, lower_radices, lower_of}
use Rattle.u4b.specs.Answer.{payload_of, message_payload, payload_if_legal, payload_read}
use Rattle.telemetry.specs.Codes.{metres, degrees, millivolts, knots}
use Rattle.telemetry.specs.Payload.{position_radices, sensor_radices, reading_from, reading_of}
use Rattle.telemetry.specs.Answer.{payload_telemetry, basic_telemetry, telemetry_if_payload, telemetry_read}
use Rattle.telemetry_lines.specs.Text.{digit_character, decimal_of, decimal_text, integer_text, line_of, header, reading_text, refusal_text, answer_text}
use Rattle.telemetry_lines.specs.Line.{has_form, callsign_in, locator_in, power_in, line_answer, line_text}
use Rattle.telemetry_lines.specs.Stream.{line_after, output_after, last_text, output_of}
use Rattle.telemetry_lines.specs.Example.{lines_of, example_input, example_output}

pub example_shown : output_of example_input ≡ example_output
unfolding bytes first_failing same_list count number_of number_from digits_of powers index_in power_index legal_power capital value callsign_sets
    locator_sets set_at legal_at digit_at over_places digits_from
    right_lengths message_checked is_first_character metres degrees millivolts knots position_radices sensor_radices reading_from reading_of
    taken_at first_not_taken upper_radices upper_digits upper_of lower_radices lower_of payload_of message_payload payload_if_legal payload_read
    payload_telemetry basic_telemetry telemetry_if_payload telemetry_read digit_character decimal_of decimal_text integer_text line_of header reading_text refusal_text answer_text has_form callsign_in locator_in power_in line_answer line_text
    line_after output_after last_text output_of lines_of example_input example_output
example_shown = same_list_equal (output_of example_input) example_output refl
