-- `u4b::write` meets its contract: a refusal leaves both buffers alone; else the message's callsign and locator are written, and the rest
-- follows from the definitions' laws.
-- Assumes nothing.
use mathlib.Core.Path.{◌≡◌, sym, ap, ◌∙◌}
use mathlib.Core.Bool.{true}
use lib.ListN.{length}
use Rattle.std.specs.Prelude.{Ok}
use Rattle.message.specs.Answer.{right_lengths, content_after}
use Rattle.message.proofs.AnswerLaws.{lengths_right, lengths_wrong}
use Rattle.u4b.specs.Channel.{is_first_character}
use Rattle.u4b.specs.Answer.{payload_callsign, payload_locator}
use Rattle.u4b.proofs.AnswerLaws.{message_first, message_third, message_power, written_length, written_message}
use Rattle.u4b.proofs.RoundTripLaws.{write_promised}
use Rattle.u4b.proofs.write.Goals as goal

pub returns-in_default : goal.returns-in_default
unfolding content_after
returns-in_default c =
    let a = c.args in
    write_promised a.taken a.callsign.now a.locator.now a.payload _
    (written_length a.taken a.callsign.now a.locator.now a.payload (lengths_wrong _ _ (λ six four. c.in_default.ensures.cases six)))

pub returns-in_default-as_mut_array : goal.returns-in_default-as_mut_array
unfolding content_after
returns-in_default-as_mut_array c =
    let a = c.args in
    rw c.in-Some.ensures.cases.same
    (write_promised a.taken a.callsign.now a.locator.now a.payload _
    (written_length a.taken a.callsign.now a.locator.now a.payload (lengths_wrong _ _ (λ six four. c.in_default-as_mut_array.ensures.cases four))))

pub returns-then-not-is_first_character : goal.returns-then-not-is_first_character
unfolding content_after
returns-then-not-is_first_character c =
    let a = c.args in
    let right : right_lengths (length a.callsign.now) (length a.locator.now) ≡ true = lengths_right _ _ c.in-Some.ensures.cases.long c.in-Some-as_mut_array.ensures.cases.long in
    rw (c.in-Some.ensures.cases.same, c.in-Some-as_mut_array.ensures.cases.same)
    (write_promised a.taken a.callsign.now a.locator.now a.payload _
    (written_message a.taken a.callsign.now a.locator.now a.payload right
    ∙ message_first a.taken a.payload (sym c.is_first_character.ensures ∙ c.if-not-is_first_character.true)))

pub returns-then-not-is_third_character : goal.returns-then-not-is_third_character
unfolding content_after
returns-then-not-is_third_character c =
    let a = c.args in
    let right : right_lengths (length a.callsign.now) (length a.locator.now) ≡ true = lengths_right _ _ c.in-Some.ensures.cases.long c.in-Some-as_mut_array.ensures.cases.long in
    let is_first : is_first_character a.taken a.payload.channel.first ≡ true = sym c.is_first_character.ensures ∙ c.if-not-is_first_character.false in
    rw (c.in-Some.ensures.cases.same, c.in-Some-as_mut_array.ensures.cases.same)
    (write_promised a.taken a.callsign.now a.locator.now a.payload _
    (written_message a.taken a.callsign.now a.locator.now a.payload right
    ∙ message_third a.taken a.payload is_first (sym c.is_third_character.ensures ∙ c.if-not-is_third_character.true)))

pub returns : goal.returns
unfolding content_after payload_callsign payload_locator
returns c =
    let a = c.args in
    let right : right_lengths (length a.callsign.now) (length a.locator.now) ≡ true = lengths_right _ _ c.in-Some.ensures.cases.long c.in-Some-as_mut_array.ensures.cases.long in
    let is_first : is_first_character a.taken a.payload.channel.first ≡ true = sym c.is_first_character.ensures ∙ c.if-not-is_first_character.false in
    let power = message_power a.taken a.payload is_first (sym c.is_third_character.ensures ∙ c.if-not-is_third_character.false) ∙ ap Ok (sym c.write_locator.ensures.its_power) in
    rw (c.write_callsign.ensures, c.write_locator.ensures.its_locator)
    (write_promised a.taken a.callsign.now a.locator.now a.payload _ (written_message a.taken a.callsign.now a.locator.now a.payload right ∙ power))
