-- The structs of the C interface for the answers of the layers, and the layers' answers in them.
use Rattle.std.specs.Prelude.{ℕ, cond, eqb, ℤ, Result, Ok, Err, Option, Some, None}
use Rattle.refusal.specs.declared.Refusal.{Refusal}
use Rattle.refusal.specs.Refusals.{RefusalNumbers, success, numbers_of, refusal_from}
use Rattle.message.specs.Answer.{WordNumbers, MessageNumbers}
use Rattle.repair.specs.Answer.{RepairNumbers}
use Rattle.telemetry.specs.Answer.{TelemetryNumbers}
use Rattle.repair.specs.declared.Nearest.{Nearest}
use Rattle.telemetry.specs.declared.Measured.{Measured}
use Rattle.telemetry.specs.declared.Reading.{Reading}
use Rattle.wsprcard.specs.declared.WsprWritten.{WsprWritten}
use Rattle.wsprcard.specs.declared.WsprWord.{WsprWord}
use Rattle.wsprcard.specs.declared.WsprMessage.{WsprMessage}
use Rattle.wsprcard.specs.declared.WsprRepaired.{WsprRepaired}
use Rattle.wsprcard.specs.declared.U4bReading.{U4bReading}

-- ---- The answers' result numbers, as the layer's definition gives them, field by field

unfoldable pub written_result : RefusalNumbers → WsprWritten
written_result numbers = record { refusal = numbers.number; place = numbers.place }

unfoldable pub word_result : WordNumbers → WsprWord
word_result numbers = record { refusal = numbers.number; place = numbers.place; word = numbers.word }

unfoldable pub message_result : MessageNumbers → WsprMessage
message_result numbers = record { refusal = numbers.number; place = numbers.place; power = numbers.power }

unfoldable pub repaired_result : RepairNumbers → WsprRepaired
repaired_result numbers = record { refusal = numbers.number; place = numbers.place; nearest = numbers.nearest }

unfoldable pub reading_result : TelemetryNumbers → U4bReading
reading_result numbers = record { refusal = numbers.number; place = numbers.place; reading = numbers.reading }

-- Number and place of what is refused; success where nothing is.
abbrev pub numbers_if_refused : Option Refusal → RefusalNumbers
numbers_if_refused (Some f) = numbers_of f
numbers_if_refused None = success

-- ---- The layers' answers in the structs, of which the exports promise what the layers promise

-- A refusal number of 0 is success: the answer is the one without a refusal. Any other number is that of a refusal, with its place.
abbrev pub answer_in : {A : Type 0} → ℕ → ℕ → A → Result A Refusal
answer_in number place done = cond (eqb number 0) (Ok done) (Err (refusal_from number place))

abbrev pub write_answer_in : WsprWritten → Result (Unit {0}) Refusal
write_answer_in r = answer_in r.refusal r.place tt

abbrev pub word_answer_in : WsprWord → Result ℕ Refusal
word_answer_in r = answer_in r.refusal r.place r.word

abbrev pub message_answer_in : WsprMessage → Result ℕ Refusal
message_answer_in r = answer_in r.refusal r.place r.power

abbrev pub repair_answer_in : WsprRepaired → Result Nearest Refusal
repair_answer_in r = answer_in r.refusal r.place r.nearest

abbrev pub telemetry_answer_in : U4bReading → Result Reading Refusal
telemetry_answer_in r = answer_in r.refusal r.place r.reading

-- ---- The arguments of telemetry as the layer's record

-- What is measured, from the arguments in their order.
abbrev pub measured_from : ℕ → ℕ → ℕ → ℕ → ℕ → ℤ → ℕ → ℕ → ℕ → Measured
measured_from first third grid5 grid6 altitude temperature voltage speed gps = record {
  channel = record { first = first; third = third };
  square = record { grid5 = grid5; grid6 = grid6 };
  sensors = record { altitude = altitude; temperature = temperature; voltage = voltage; speed = speed; gps = gps };
}
