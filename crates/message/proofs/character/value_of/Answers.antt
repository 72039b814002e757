-- `message::character::value_of` meets its contract: each arm is the definition in one class of bytes, whose capitals are known.
-- Assumes nothing.
use mathlib.Core.Path.{◌≡◌, sym, ◌∙◌}
use native.Mathlib.Omega.{arith}
use Rattle.basics.proofs.Choice.{between_below, between_above}
use Rattle.message.specs.Character.{capital}
use Rattle.message.proofs.CharacterLaws.{capital_before, capital_small, capital_after, value_digit, value_letter, value_space, value_below_digits, value_other}
use Rattle.message.proofs.character.value_of.Goals as goal

pub returns-in-32 : goal.returns-in-32
returns-in-32 c =
    let byte = c.args.byte in
    let own : capital byte ≡ byte = capital_before (omega (arith, c.in-32.is)) in
    sym (value_space byte (own ∙ c.in-32.is))

pub returns-in-48-to-57 : goal.returns-in-48-to-57
returns-in-48-to-57 c =
    let byte = c.args.byte in
    let own : capital byte ≡ byte = capital_before (omega arith) in
    omega (arith, value_digit byte (omega arith) (omega arith))

pub returns-in-65-to-90 : goal.returns-in-65-to-90
returns-in-65-to-90 c =
    let byte = c.args.byte in
    let own : capital byte ≡ byte = capital_before (omega arith) in
    omega (arith, value_letter byte (omega arith) (omega arith))

pub returns-in-97-to-122 : goal.returns-in-97-to-122
returns-in-97-to-122 c =
    let byte = c.args.byte in
    let its = capital_small c.in-97-to-122.if-byte-lt97-own.false (omega arith) in
    omega (arith, value_letter byte (omega arith) (omega arith))

pub returns-in_default : goal.returns-in_default
returns-in_default c =
    let byte = c.args.byte in
    let own : capital byte ≡ byte = capital_before (omega arith) in
    sym (value_below_digits byte (omega arith) (λ e. c.in_default.in_default-own.rest.1 (sym own ∙ e)))

pub returns-in_default-2 : goal.returns-in_default-2
returns-in_default-2 c =
    let byte = c.args.byte in
    let own : capital byte ≡ byte = capital_before (omega arith) in
    sym (value_other byte (omega arith) (between_below 65 90 (capital byte) (omega arith)))

pub returns-in_default-3 : goal.returns-in_default-3
returns-in_default-3 c =
    let byte = c.args.byte in
    let own : capital byte ≡ byte = capital_before c.in_default.if-byte-lt97-own.true in
    sym (value_other byte (omega arith) (between_above 65 90 (capital byte) (omega arith) (omega arith)))

pub returns-in_default-4 : goal.returns-in_default-4
returns-in_default-4 c =
    let byte = c.args.byte in
    let own : capital byte ≡ byte = capital_after c.in_default.if-byte-lt123-own.false in
    sym (value_other byte (omega arith) (between_above 65 90 (capital byte) (omega arith) (omega arith)))
