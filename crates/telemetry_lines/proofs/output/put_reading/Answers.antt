-- `telemetry_lines::output::put_reading` meets its contract: its words are put one after the other.
-- Assumes nothing.
use mir.Facts.{to_z-of_z}
use mir.Syntax.{w32}
use mir.Val.{SFits}
use borrow.Author.Rules.{rules}
use Rattle.telemetry_lines.proofs.TextLaws.{reading_behind}
use Rattle.telemetry_lines.proofs.output.put_reading.Goals as goal

pub returns : goal.returns
returns g c =
    let fits : SFits w32 c.args.reading.sensors.temperature = search rules in
    rw (
      c.push.ensures.items,
      c.put_field-5.ensures.text,
      c.put_field-4.ensures.text,
      c.put_field-3.ensures.text,
      c.put_field-2.ensures.text,
      c.put_field.ensures.text,
      c.put-2.ensures.text,
      c.put.ensures.text,
      to_z-of_z fits,
    )
    (reading_behind c.args.out.now.items c.args.reading (search rules) fits (search rules) (search rules) (search rules))
