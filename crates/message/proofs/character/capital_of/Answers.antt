-- `message::character::capital_of` meets its contract: each arm is the definition in one class of bytes.
-- Assumes nothing.
use mathlib.Core.Path.{◌≡◌, sym}
use native.Mathlib.Omega.{arith}
use Rattle.message.specs.Character.{capital}
use Rattle.message.proofs.CharacterLaws.{capital_small, capital_before, capital_after}
use Rattle.message.proofs.character.capital_of.Goals as goal

pub returns-in-97-to-122 : goal.returns-in-97-to-122
returns-in-97-to-122 c = omega (arith, capital_small c.in-97-to-122.if-byte-lt97-own.false (omega arith))

pub returns-in_default : goal.returns-in_default
returns-in_default c =
    let byte = c.args.byte in
    let own : capital byte ≡ byte = capital_before (omega arith) in
    sym own

pub returns-in_default-2 : goal.returns-in_default-2
returns-in_default-2 c =
    let byte = c.args.byte in
    let own : capital byte ≡ byte = capital_after (omega arith) in
    sym own
