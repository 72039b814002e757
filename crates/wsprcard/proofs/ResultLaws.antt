-- A layer's answer is the one in its result, since no refusal has the number 0. So the export promises what the layer promises.
use mathlib.Core.Path.{◌≡◌, refl, sym, ap, ◌∙◌}
use Prim.Native.Nat.{ℕ}
use borrow.Author.Tests.{ne_eqb}
use Rattle.std.specs.Prelude.{Result, Ok, Err}
use Rattle.std.specs.Result.{result_err, result_unwrap_or}
use Rattle.refusal.specs.declared.Refusal.{Refusal}
use Rattle.refusal.specs.Refusals.{refusal_number, refusal_place}
use Rattle.refusal.proofs.Laws.{number_not_0, from_numbers}
use Rattle.message.specs.Answer.{word_numbers, message_numbers}
use Rattle.frame.specs.Answer.{write_numbers}
use Rattle.repair.specs.Answer.{no_nearest, repair_numbers}
use Rattle.repair.specs.declared.Nearest.{Nearest}
use Rattle.telemetry.specs.Answer.{no_reading, telemetry_numbers}
use Rattle.telemetry.specs.declared.Reading.{Reading}
use Rattle.wsprcard.specs.Results.{written_result, word_result, message_result, repaired_result, reading_result, answer_in, write_answer_in, word_answer_in, message_answer_in, repair_answer_in, telemetry_answer_in, numbers_if_refused}
use Rattle.wsprcard.specs.declared.WsprWritten.{WsprWritten}
use Rattle.wsprcard.specs.declared.WsprWord.{WsprWord}
use Rattle.wsprcard.specs.declared.WsprMessage.{WsprMessage}
use Rattle.wsprcard.specs.declared.WsprRepaired.{WsprRepaired}
use Rattle.wsprcard.specs.declared.U4bReading.{U4bReading}

-- The answer is the one in its result.
pub record InResult {A S : Type 0} (result : A → S) (found : S → A) (a : A) : Type 0 where
  pub again : found (result a) ≡ a

-- From what an export learns of its calls, the result of the layer's answer and that this is the answer defined: it returns the result of
-- the answer defined, and the layer's answer is the one in it.
pub told : {A S : Type 0} {result : A → S} {found : S → A} {defined answer : A} {r : S} → InResult result found defined → r ≡ result answer
    → answer ≡ defined → (r ≡ result defined) × (answer ≡ found r)
told {result = result} {found = found} f e is =
    let whole = e ∙ ap result is in
    (whole, is ∙ sym (ap found whole ∙ f.again))

-- ---- The answers of each kind

refused_in_result : {A : Type 0} (f : Refusal) (done : A) → answer_in (refusal_number f) (refusal_place f) done ≡ Err f
refused_in_result f done = rw (ne_eqb (refusal_number f) 0 (number_not_0 f), from_numbers f)

pub write_in_result : (a : Result (Unit {0}) Refusal) → InResult (λ answer. written_result (write_numbers answer)) write_answer_in a
unfolding written_result write_numbers
write_in_result (Ok tt) = record { again = refl }
write_in_result (Err f) = record { again = refused_in_result f _ }

pub word_in_result : (a : Result ℕ Refusal) → InResult (λ answer. word_result (word_numbers answer)) word_answer_in a
unfolding word_result word_numbers
word_in_result (Ok w) = record { again = refl }
word_in_result (Err f) = record { again = refused_in_result f _ }

pub message_in_result : (a : Result ℕ Refusal) → InResult (λ answer. message_result (message_numbers answer)) message_answer_in a
unfolding message_result message_numbers
message_in_result (Ok p) = record { again = refl }
message_in_result (Err f) = record { again = refused_in_result f _ }

pub repair_in_result : (a : Result Nearest Refusal) → InResult (λ answer. repaired_result (repair_numbers answer)) repair_answer_in a
unfolding repaired_result repair_numbers
repair_in_result (Ok n) = record { again = refl }
repair_in_result (Err f) = record { again = refused_in_result f _ }

pub telemetry_in_result : (a : Result Reading Refusal) → InResult (λ answer. reading_result (telemetry_numbers answer)) telemetry_answer_in a
unfolding reading_result telemetry_numbers
telemetry_in_result (Ok r) = record { again = refl }
telemetry_in_result (Err f) = record { again = refused_in_result f _ }

-- ---- Each struct from the refusal in its answer and what stands beside it

pub written_of : (a : Result (Unit {0}) Refusal) → written_result (numbers_if_refused (result_err a)) ≡ written_result (write_numbers a)
unfolding write_numbers
written_of (Ok tt) = refl
written_of (Err f) = refl

pub word_of : (a : Result ℕ Refusal) {r : WsprWritten} {x : ℕ} → r ≡ written_result (numbers_if_refused (result_err a)) → x ≡ result_unwrap_or a 0
    → ◌≡◌ {A = WsprWord} (record { refusal = r.refusal; place = r.place; word = x }) (word_result (word_numbers a))
unfolding word_result word_numbers written_result
word_of (Ok y) e f = rw (e, f)
word_of (Err g) e f = rw (e, f)

pub message_of : (a : Result ℕ Refusal) {r : WsprWritten} {x : ℕ} → r ≡ written_result (numbers_if_refused (result_err a)) → x ≡ result_unwrap_or a 0
    → ◌≡◌ {A = WsprMessage} (record { refusal = r.refusal; place = r.place; power = x }) (message_result (message_numbers a))
unfolding message_result message_numbers written_result
message_of (Ok y) e f = rw (e, f)
message_of (Err g) e f = rw (e, f)

pub repaired_of : (a : Result Nearest Refusal) {r : WsprWritten} {x : Nearest} → r ≡ written_result (numbers_if_refused (result_err a)) → x ≡ result_unwrap_or a no_nearest
    → ◌≡◌ {A = WsprRepaired} (record { refusal = r.refusal; place = r.place; nearest = x }) (repaired_result (repair_numbers a))
unfolding repaired_result repair_numbers written_result no_nearest
repaired_of (Ok y) e f = rw (e, f)
repaired_of (Err g) e f = rw (e, f)

pub reading_of : (a : Result Reading Refusal) {r : WsprWritten} {x : Reading} → r ≡ written_result (numbers_if_refused (result_err a)) → x ≡ result_unwrap_or a no_reading
    → ◌≡◌ {A = U4bReading} (record { refusal = r.refusal; place = r.place; reading = x }) (reading_result (telemetry_numbers a))
unfolding reading_result telemetry_numbers written_result no_reading
reading_of (Ok y) e f = rw (e, f)
reading_of (Err g) e f = rw (e, f)
