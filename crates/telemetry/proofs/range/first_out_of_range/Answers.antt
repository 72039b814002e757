-- `telemetry::range::first_out_of_range` meets its contract: its tests are the definition's, one after the other.
-- Assumes nothing.
use Rattle.std.proofs.Common.{◌∙◌}
use Rattle.basics.proofs.RangeTests.{contains_between, contains_betweenℤ}
use Rattle.telemetry.specs.Ranges.{temperature_in_range, in_ranges, first_out_of_range}
use Rattle.telemetry.proofs.range.first_out_of_range.Goals as goal

pub returns : goal.returns
unfolding in_ranges first_out_of_range temperature_in_range
returns c =
    let sensors = c.args.m.sensors in
    let altitude = c.contains.ensures.value ∙ contains_between 0 21_359 sensors.altitude _ c.new.ensures.start c.new.ensures.end c.new.ensures.exhausted in
    let temperature = c.contains-2.ensures.value ∙ contains_betweenℤ _ _ sensors.temperature _ c.new-2.ensures.start c.new-2.ensures.end c.new-2.ensures.exhausted in
    let voltage = c.contains-3.ensures.value ∙ contains_between 3_000 4_999 sensors.voltage _ c.new-3.ensures.start c.new-3.ensures.end c.new-3.ensures.exhausted in
    let speed = c.contains-4.ensures.value ∙ contains_between 0 839 sensors.speed _ c.new-4.ensures.start c.new-4.ensures.end c.new-4.ensures.exhausted in
    let gps = c.contains-5.ensures.value ∙ contains_between 0 1 sensors.gps _ c.new-5.ensures.start c.new-5.ensures.end c.new-5.ensures.exhausted in
    c.first_false.ensures
    ∙ rw (c.is_first_character.ensures, c.is_third_character.ensures, c.is_sub_square.ensures, c.is_sub_square-2.ensures, altitude, temperature, voltage, speed, gps)
