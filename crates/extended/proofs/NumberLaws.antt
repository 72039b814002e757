-- Laws of the number that holds the codes, the slot and the type: it fits a message's two numbers, and they hold what was packed.
use mathlib.Core.Path.{◌≡◌, refl, sym, ap, ◌∙◌}
use Prim.Native.Nat.{ℕ, ◌+◌, ◌*◌, ◌/◌, ◌%◌, ◌≤◌, ◌<◌}
use native.Mathlib.Nat.{mul_comm, div-div-eq-div-mul}
use native.Mathlib.Omega.{arith}
use mathlib.Core.Bool.{true}
use mathlib.Core.List.{List, [], ◌∷◌, reverse}
use lib.ListN.{get_or}
use borrow.Author.Tests.{leb-true}
use Rattle.basics.proofs.Choice.{both_true}
use Rattle.basics.proofs.ListLaws.{reverse_reverse}
use Rattle.radix.specs.Numeral.{Digits, Positive, count, number_of, digits_of}
use Rattle.radix.proofs.Laws.{digits_positive, number_below, digits_in_range, digits_of_front, digits_of_number_of, digits_of_append, number_of_digits_of, number_of_append, count_append, count_reverse, digits_append, digits_reverse, positive_append, rest_zero}
use Rattle.u4b.specs.declared.Payload.{Payload}
use Rattle.u4b.proofs.LocatorLaws.{lower_count}
use Rattle.extended.specs.Fields.{legal_fields, counts}
use Rattle.extended.specs.Number.{header_radices, header_digits, extended_radices, extended_digits, extended_number, extended_payload, payload_number, slot_in, kind_in, reserved_in, telemetry_type_in, header_in, codes_in, left_over}
use Rattle.extended.specs.Answer.{legal_slot_and_type}
use Rattle.extended.specs.declared.field.Field.{Field}
use Rattle.extended.specs.declared.Header.{Header}
use Rattle.extended.proofs.TableLaws.{counts_positive, digit_at}

-- ---- The radices

pub header_count : count header_radices ≡ 640
unfolding count header_radices
header_count = refl

pub header_positive : Positive header_radices
unfolding Positive header_radices
header_positive = omega arith

pub header_below : (h : Header) → legal_slot_and_type h ≡ true → Digits header_radices (header_digits h)
unfolding Digits header_radices header_digits legal_slot_and_type
header_below h e =
    let tests = both_true _ _ e in
    let slot = leb-true h.slot 4 tests.0 in
    let kind = leb-true h.kind 15 tests.1 in
    (omega arith, (omega arith, (omega arith, (omega arith, tt))))

pub reverse_positive : (rs : List ℕ) → Positive rs → Positive (reverse rs)
reverse_positive rs h =
    digits_positive (reverse rs) (reverse (digits_of rs 0)) (digits_reverse rs (digits_of rs 0) (digits_in_range rs 0 h))

pub extended_positive : (fs : List Field) → legal_fields fs ≡ true → Positive (extended_radices fs)
unfolding extended_radices
extended_positive fs e =
    positive_append (reverse (counts fs)) header_radices (reverse_positive (counts fs) (counts_positive fs e)) header_positive

-- ---- What is packed

module _ (h : Header) (fs : List Field) (codes : List ℕ) (its_header : legal_slot_and_type h ≡ true) (its_codes : Digits (counts fs) codes) where
  pub digits_of_extended : Digits (extended_radices fs) (extended_digits h codes)
  unfolding extended_radices extended_digits
  digits_of_extended =
      digits_append (reverse (counts fs)) header_radices (reverse codes) (header_digits h) (digits_reverse (counts fs) codes its_codes) (header_below h its_header)

  pub number_is : extended_number h fs codes ≡ number_of (reverse (counts fs)) (reverse codes) * 640 + number_of header_radices (header_digits h)
  unfolding extended_number extended_radices extended_digits
  number_is =
      number_of_append (reverse (counts fs)) header_radices (reverse codes) (header_digits h) (digits_reverse (counts fs) codes its_codes) (header_below h its_header)
      ∙ rw header_count

  pub number_in_count : extended_number h fs codes < count (extended_radices fs)
  unfolding extended_number
  number_in_count = number_below (extended_radices fs) (extended_digits h codes) digits_of_extended

  pub upper_below : count (counts fs) ≤ 608_612_940 → number_of (reverse (counts fs)) (reverse codes) < 608_612_940
  upper_below k =
      let below = number_below (reverse (counts fs)) (reverse codes) (digits_reverse (counts fs) codes its_codes) in
      omega (arith, count_reverse (counts fs))

  pub lower_below : number_of header_radices (header_digits h) < 640
  lower_below = omega (arith, number_below header_radices (header_digits h) (header_below h its_header), header_count)

  pub number_small : count (counts fs) ≤ 608_612_940 → extended_number h fs codes < 389_512_281_600
  number_small k = omega (arith, number_is, upper_below k, lower_below)

  -- What the code makes of the two numerals is the payload.
  pub payload_is : (upper lower : ℕ) → upper ≡ number_of (reverse (counts fs)) (reverse codes) → lower ≡ number_of header_radices (header_digits h)
      → ◌≡◌ {A = Payload} (record { channel = h.channel; upper = (upper * 640 + lower) / 615_600; lower = (upper * 640 + lower) % 615_600 }) (extended_payload h fs codes)
  unfolding extended_payload
  payload_is upper lower e k = rw (e, k, number_is, lower_count)

-- The two numbers of a payload hold the number.
pub packed_number : (h : Header) (fs : List Field) (codes : List ℕ) → payload_number (extended_payload h fs codes) ≡ extended_number h fs codes
unfolding payload_number extended_payload
packed_number h fs codes = rw lower_count (omega arith)

pub packed_lower : (h : Header) (fs : List Field) (codes : List ℕ) → (extended_payload h fs codes).lower < 615_600
unfolding extended_payload
packed_lower h fs codes = rw lower_count (omega arith)

pub packed_upper : (h : Header) (fs : List Field) (codes : List ℕ) → extended_number h fs codes < 389_512_281_600 → (extended_payload h fs codes).upper < 632_736
unfolding extended_payload
packed_upper h fs codes k = rw lower_count (omega arith)

-- ---- What two numbers hold

pub payload_number_is : (p : Payload) → payload_number p ≡ p.upper * 615_600 + p.lower
unfolding payload_number
payload_number_is p = rw lower_count

-- The digits of slot, type, reserved and telemetry type, and what is above them.
pub record HeaderRead (p : Payload) (digits : List ℕ) (rest : ℕ) : Type 0 where
  pub slot : get_or digits 0 0 ≡ slot_in (payload_number p)
  pub kind : get_or digits 1 0 ≡ kind_in (payload_number p)
  pub reserved : get_or digits 2 0 ≡ reserved_in (payload_number p)
  pub telemetry_type : get_or digits 3 0 ≡ telemetry_type_in (payload_number p)
  pub above : rest ≡ payload_number p / count header_radices

pub header_read : (p : Payload) (digits : List ℕ) (rest : ℕ) → digits ≡ digits_of (5 ∷ 16 ∷ 4 ∷ 2 ∷ []) (p.upper * 615_600 + p.lower)
    → rest ≡ (p.upper * 615_600 + p.lower) / count (5 ∷ 16 ∷ 4 ∷ 2 ∷ []) → HeaderRead p digits rest
unfolding slot_in kind_in reserved_in telemetry_type_in header_radices
header_read p digits rest e k =
    let number = payload_number_is p in
    record {
      slot = rw (e, number);
      kind = rw (e, number);
      reserved = rw (e, number);
      telemetry_type = rw (e, number);
      above = rw number k;
    }

digit_of_header : (n i : ℕ) → i < 4 → get_or (digits_of header_radices n) i 0 < get_or header_radices i 0
unfolding header_radices
digit_of_header n i h = digit_at header_radices (digits_of header_radices n) i (digits_in_range header_radices n header_positive) h

pub slot_below : (n : ℕ) → slot_in n < 5
unfolding slot_in header_radices
slot_below n = digit_of_header n 0 (omega arith)

pub kind_below : (n : ℕ) → kind_in n < 16
unfolding kind_in header_radices
kind_below n = digit_of_header n 1 (omega arith)

-- What is left above the fields, by the number above the header.
pub left_is : (fs : List Field) (n : ℕ) → left_over fs n ≡ n / count header_radices / count (reverse (counts fs))
unfolding left_over extended_radices
left_is fs n =
    ap (λ (c : ℕ). n / c) (count_append (reverse (counts fs)) header_radices ∙ mul_comm (count (reverse (counts fs))) (count header_radices))
    ∙ sym (div-div-eq-div-mul n (count header_radices) (count (reverse (counts fs))))

-- The codes are below their counts.
pub codes_in_range : (fs : List Field) (n : ℕ) → legal_fields fs ≡ true → Digits (counts fs) (codes_in fs n)
unfolding codes_in
codes_in_range fs n e =
    rw reverse_reverse at
    (digits_reverse (reverse (counts fs)) (digits_of (reverse (counts fs)) (n / count header_radices))
    (digits_in_range (reverse (counts fs)) (n / count header_radices) (reverse_positive (counts fs) (counts_positive fs e))))

-- ---- There and back

-- The digits of a packed number are those that were packed.
module _ (h : Header) (fs : List Field) (codes : List ℕ) (its_header : legal_slot_and_type h ≡ true) (its_codes : Digits (counts fs) codes) where
  number_header : digits_of header_radices (extended_number h fs codes) ≡ header_digits h
  number_header =
      rw (number_is h fs codes its_header its_codes, ← header_count, digits_of_front header_radices (number_of (reverse (counts fs)) (reverse codes)) (number_of header_radices (header_digits h)) header_positive)
      (digits_of_number_of header_radices (header_digits h) (header_below h its_header))

  number_above : extended_number h fs codes / count header_radices ≡ number_of (reverse (counts fs)) (reverse codes)
  number_above = rw header_count (omega (arith, number_is h fs codes its_header its_codes, lower_below h fs codes its_header its_codes))

  pub slot_back : slot_in (extended_number h fs codes) ≡ h.slot
  unfolding slot_in header_digits
  slot_back = rw number_header

  pub kind_back : kind_in (extended_number h fs codes) ≡ h.kind
  unfolding kind_in header_digits
  kind_back = rw number_header

  pub reserved_back : reserved_in (extended_number h fs codes) ≡ 0
  unfolding reserved_in header_digits
  reserved_back = rw number_header

  pub type_back : telemetry_type_in (extended_number h fs codes) ≡ 0
  unfolding telemetry_type_in header_digits
  type_back = rw number_header

  pub codes_back : codes_in fs (extended_number h fs codes) ≡ codes
  unfolding codes_in
  codes_back =
      rw (number_above, digits_of_number_of (reverse (counts fs)) (reverse codes) (digits_reverse (counts fs) codes its_codes))
      (reverse_reverse codes)

  pub left_back : legal_fields fs ≡ true → left_over fs (extended_number h fs codes) ≡ 0
  unfolding left_over
  left_back e = (rest_zero (extended_radices fs) (extended_number h fs codes) (extended_positive fs e)).1 (number_in_count h fs codes its_header its_codes)

-- The header of a packed number is the one that was packed.
same_header : (p : Payload) (h : Header) → p.channel ≡ h.channel → slot_in (payload_number p) ≡ h.slot → kind_in (payload_number p) ≡ h.kind → header_in p ≡ h
unfolding header_in
same_header p h c s k = rw (s, k, c)

channel_back : (h : Header) (fs : List Field) (codes : List ℕ) → (extended_payload h fs codes).channel ≡ h.channel
unfolding extended_payload
channel_back h fs codes = refl

pub header_back : (h : Header) (fs : List Field) (codes : List ℕ) → legal_slot_and_type h ≡ true → Digits (counts fs) codes
    → header_in (extended_payload h fs codes) ≡ h
header_back h fs codes its_header its_codes =
    same_header (extended_payload h fs codes) h (channel_back h fs codes)
    (rw (packed_number h fs codes) (slot_back h fs codes its_header its_codes))
    (rw (packed_number h fs codes) (kind_back h fs codes its_header its_codes))

-- ---- What two numbers hold writes them again

header_again : (n : ℕ) → telemetry_type_in n ≡ 0 → reserved_in n ≡ 0 → slot_in n ∷ kind_in n ∷ 0 ∷ 0 ∷ [] ≡ digits_of header_radices n
unfolding slot_in kind_in reserved_in telemetry_type_in header_radices digits_of
header_again n t r = rw (t, r)

quotient_again : (fs : List Field) (n : ℕ) → left_over fs n ≡ 0 → n / count (extended_radices fs) ≡ 0
unfolding left_over
quotient_again fs n e = e

same_payload : (p : Payload) (fs : List Field) (codes : List ℕ) → extended_number (header_in p) fs codes ≡ payload_number p → p.lower < 615_600
    → extended_payload (header_in p) fs codes ≡ p
unfolding extended_payload header_in
same_payload p fs codes e h =
    let number = payload_number_is p in
    let upper : payload_number p / 615_600 ≡ p.upper = omega arith in
    let lower : payload_number p % 615_600 ≡ p.lower = omega arith in
    rw (e, lower_count, upper, lower)

module _ (fs : List Field) (p : Payload) (e : legal_fields fs ≡ true) (no_type : telemetry_type_in (payload_number p) ≡ 0)
    (no_reserved : reserved_in (payload_number p) ≡ 0) (none_left : left_over fs (payload_number p) ≡ 0) where
  digits_again : extended_digits (header_in p) (codes_in fs (payload_number p)) ≡ digits_of (extended_radices fs) (payload_number p)
  unfolding extended_digits extended_radices header_in codes_in header_digits
  digits_again =
      let n = payload_number p in
      rw (
        digits_of_append (reverse (counts fs)) header_radices (payload_number p),
        reverse_reverse (digits_of (reverse (counts fs)) (payload_number p / count header_radices)),
        header_again (payload_number p) no_type no_reserved,
      )

  number_again : extended_number (header_in p) fs (codes_in fs (payload_number p)) ≡ payload_number p
  unfolding extended_number
  number_again =
      rw digits_again
      (number_of_digits_of (extended_radices fs) (extended_positive fs e)
      ((rest_zero (extended_radices fs) (payload_number p) (extended_positive fs e)).0 (quotient_again fs (payload_number p) none_left)))

  pub payload_again : p.lower < 615_600 → extended_payload (header_in p) fs (codes_in fs (payload_number p)) ≡ p
  payload_again h = same_payload p fs (codes_in fs (payload_number p)) number_again h

-- The telemetry type is the lowest bit of the lower number.
pub type_is_bit : (p : Payload) → telemetry_type_in (payload_number p) ≡ p.lower % 2
unfolding telemetry_type_in header_radices digits_of count
type_is_bit p = omega (arith, payload_number_is p)
