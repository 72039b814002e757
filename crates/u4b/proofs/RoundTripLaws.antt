-- The round trips between a payload and its message, and that the reader refuses exactly the messages whose capital form the writer never
-- makes.
use mathlib.Core.Path.{◌≡◌, refl, sym, ap, ◌∙◌}
use Prim.Native.Nat.{ℕ, ◌<◌}
use native.Mathlib.Nat.{mod-eq_of_lt}
use native.Mathlib.Omega.{arith}
use mathlib.Core.List.{List}
use Rattle.message.specs.Character.{capital_form}
use Rattle.message.specs.Answer.{message_checked, content_after, message_numbers}
use Rattle.message.specs.RoundTrip.{WrittenInCapitals}
use Rattle.std.specs.Prelude.{Result, Ok, Err}
use Rattle.refusal.specs.declared.Refusal.{Refusal}
use Rattle.refusal.specs.Refusals.{Refused}
use Rattle.message.proofs.AnswerLaws.{lengths_right, legal_whole, checked_legal}
use Rattle.u4b.specs.Characters.{callsign_with, locator_with, power_with}
use Rattle.u4b.specs.Answer.{payload_message, payload_callsign, payload_locator, payload_written, callsign_after_payload, locator_after_payload, payload_of, payload_read, payload_numbers}
use Rattle.u4b.specs.RoundTrip.{written_part, PayloadWritesAs, PayloadReadsBack, PayloadWritesBack, NeverFromPayload, PayloadRefusedExactly}
use Rattle.u4b.specs.declared.channel.FirstCharacters.{FirstCharacters}
use Rattle.u4b.specs.declared.Payload.{Payload}
use Rattle.u4b.proofs.CallsignLaws.{upper_count, first_legal, third_legal, callsign_with_length, callsign_with_legal, callsign_with_in_capitals, channel_of_callsign_with, callsign_with_taken, upper_of_callsign_with, first_of, third_of, callsign_with_upper_of}
use Rattle.u4b.proofs.LocatorLaws.{lower_count, locator_with_length, locator_with_legal, locator_with_in_capitals, power_with_legal, lower_of_locator_with, locator_with_lower_of, power_with_lower_of}
use Rattle.u4b.proofs.AnswerLaws.{Writable, writable, message_power, message_of_written, read_payload, readable, read_capitals}

-- ---- What was written reads back

-- Where the numbers are below their ends, nothing of them is left out.
pub whole : (p : Payload) → p.upper < 632_736 → p.lower < 615_600 → written_part p ≡ p
unfolding written_part
whole p h k = rw (upper_count, lower_count, mod-eq_of_lt h, mod-eq_of_lt k)

module _ (taken : FirstCharacters) (p : Payload) (power : ℕ) (w : Writable taken p power) where
  -- What is written is a message of legal characters and power.
  written_legal : message_checked (payload_callsign p) (payload_locator p) (power_with p.lower) ≡ (Ok tt)
  unfolding payload_callsign payload_locator
  written_legal =
      let six = callsign_with_length p.channel p.upper in
      let four = locator_with_length p.lower in
      let callsign_legal = callsign_with_legal p.channel p.upper (first_legal taken _ w.is_first) (third_legal _ w.is_third) in
      checked_legal _ _ _ (lengths_right (callsign_with p.channel p.upper) (locator_with p.lower) six four)
      (legal_whole _ _ six four callsign_legal (locator_with_legal p.lower)) (power_with_legal p.lower)

  written_read : payload_read taken (payload_callsign p) (payload_locator p) (power_with p.lower) ≡ Ok (written_part p)
  unfolding payload_callsign payload_locator payload_of written_part
  written_read =
      read_payload taken _ _ _ written_legal (omega (arith, callsign_with_taken p.channel p.upper taken w.is_first))
      ∙ rw (
        channel_of_callsign_with p.channel p.upper taken w.is_first w.is_third,
        upper_of_callsign_with p.channel p.upper,
        lower_of_locator_with p.lower,
      )

pub read_write : (taken : FirstCharacters) (p : Payload) (power : ℕ) → payload_message taken p ≡ Ok power
    → payload_read taken (payload_callsign p) (payload_locator p) power ≡ Ok (written_part p)
read_write taken p power e =
    let w = writable taken p power e in
    rw w.is_power (written_read taken p power w)

-- What is written is in capitals.
pub written_in_capitals : (taken : FirstCharacters) (p : Payload) (power : ℕ) → payload_message taken p ≡ Ok power
    → (capital_form (payload_callsign p) ≡ payload_callsign p) × (capital_form (payload_locator p) ≡ payload_locator p)
unfolding payload_callsign payload_locator
written_in_capitals taken p power e =
    let w = writable taken p power e in
    (callsign_with_in_capitals p.channel p.upper taken w.is_first w.is_third, locator_with_in_capitals p.lower)

-- ---- What was read writes the capital form back

pub write_read : (taken : FirstCharacters) (callsign locator : List ℕ) (power : ℕ) (p : Payload)
    → payload_read taken callsign locator power ≡ Ok p → PayloadWritesAs taken p (capital_form callsign) (capital_form locator) power
unfolding payload_callsign payload_locator payload_of
write_read taken callsign locator power p e =
    let r = readable taken callsign locator power p e in
    let l = r.legal in
    let is_first = first_of callsign l.six taken l.callsign_legal r.all_taken in
    let is_third = (third_of callsign l.six l.callsign_legal).1 in
    let its_power = power_with_lower_of locator power l.four l.locator_legal l.power_legal in
    rw r.is_payload (record {
      its_power = message_power taken (payload_of callsign locator power) is_first is_third ∙ ap Ok its_power;
      its_callsign = callsign_with_upper_of callsign l.six taken l.callsign_legal r.all_taken;
      its_locator = locator_with_lower_of locator power l.four l.locator_legal l.power_legal;
    })

-- ---- The reader refuses exactly the messages whose capital form the writer never makes

pub refuses_exactly : (taken : FirstCharacters) (callsign locator : List ℕ) (power : ℕ)
    → PayloadRefusedExactly (payload_read taken callsign locator power) taken callsign locator power
refuses_exactly taken callsign locator power =
    (λ refused p w. never refused p w, λ never_written. exact (payload_read taken callsign locator power) refl never_written)
  where
    never : Refused (payload_read taken callsign locator power) → NeverFromPayload taken (capital_form callsign) (capital_form locator) power
    never refused p w =
        rw (← read_capitals taken callsign locator power, ← w.its_callsign, ← w.its_locator, read_write taken p power w.its_power) at refused

    exact : (answer : Result Payload Refusal) → payload_read taken callsign locator power ≡ answer
        → NeverFromPayload taken (capital_form callsign) (capital_form locator) power → Refused answer
    exact (Ok p) e never_written = never_written p (write_read taken callsign locator power p e)
    exact (Err f) e never_written = tt

-- ---- What the functions promise, from their answers and what the lent buffers then hold

module _ (taken : FirstCharacters) (callsign locator : List ℕ) (p : Payload) where
  -- What `write` promises of an answer, clause by clause.
  abbrev pub WritePromised : Result ℕ Refusal → List ℕ → List ℕ → Type 0
  WritePromised result its_callsign its_locator = record {
    answer : result ≡ payload_written taken callsign locator p;
    numbers : message_numbers result ≡ message_numbers (payload_written taken callsign locator p);
    callsign_after : its_callsign ≡ callsign_after_payload taken callsign locator p;
    locator_after : its_locator ≡ locator_after_payload taken callsign locator p;
    reads_back : PayloadReadsBack result taken p its_callsign its_locator;
    in_capitals : WrittenInCapitals result its_callsign its_locator;
  }

  reads_back : (answer : Result ℕ Refusal) → payload_written taken callsign locator p ≡ answer
      → PayloadReadsBack answer taken p (content_after answer callsign (payload_callsign p)) (content_after answer locator (payload_locator p))
  unfolding content_after
  reads_back (Ok power) e = read_write taken p power (message_of_written taken callsign locator p power e)
  reads_back (Err f) e = tt

  in_capitals : (answer : Result ℕ Refusal) → payload_written taken callsign locator p ≡ answer
      → WrittenInCapitals answer (content_after answer callsign (payload_callsign p)) (content_after answer locator (payload_locator p))
  unfolding content_after
  in_capitals (Ok power) e = written_in_capitals taken p power (message_of_written taken callsign locator p power e)
  in_capitals (Err f) e = tt

  pub write_promised : (answer : Result ℕ Refusal) → payload_written taken callsign locator p ≡ answer
      → WritePromised answer (content_after answer callsign (payload_callsign p)) (content_after answer locator (payload_locator p))
  unfolding callsign_after_payload locator_after_payload
  write_promised answer e = record {
    answer = sym e;
    numbers = rw e;
    callsign_after = rw e;
    locator_after = rw e;
    reads_back = reads_back answer e;
    in_capitals = in_capitals answer e;
  }

module _ (taken : FirstCharacters) (callsign locator : List ℕ) (power : ℕ) where
  -- What `read` promises of an answer, clause by clause.
  abbrev pub ReadPromised : Result Payload Refusal → Type 0
  ReadPromised result = record {
    answer : result ≡ payload_read taken callsign locator power;
    numbers : payload_numbers result ≡ payload_numbers (payload_read taken callsign locator power);
    as_capitals : result ≡ payload_read taken (capital_form callsign) (capital_form locator) power;
    writes_back : PayloadWritesBack result taken callsign locator power;
    refuses_exactly : PayloadRefusedExactly result taken callsign locator power;
  }

  writes_back : (answer : Result Payload Refusal) → payload_read taken callsign locator power ≡ answer → PayloadWritesBack answer taken callsign locator power
  writes_back (Ok p) e = write_read taken callsign locator power p e
  writes_back (Err f) e = tt

  pub read_promised : (answer : Result Payload Refusal) → payload_read taken callsign locator power ≡ answer → ReadPromised answer
  read_promised answer e = record {
    answer = sym e;
    numbers = rw e;
    as_capitals = sym (read_capitals taken callsign locator power ∙ e);
    writes_back = writes_back answer e;
    refuses_exactly = rw e at (refuses_exactly taken callsign locator power);
  }
