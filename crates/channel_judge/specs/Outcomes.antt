-- The number, the offset and the values that each answer stands for.
use Rattle.std.specs.Prelude.{ℕ, Result}
use Rattle.wire.specs.declared.refusal.Refusal.{Refusal}
use Rattle.wire.specs.Refusals.{number_of, offset_of, carried_channel}
use Rattle.wire.specs.Answer.{Answer, answer, refusal}
use Rattle.wire.specs.Said.{told}
use Rattle.wire.specs.Outcomes.{Reply, reply_of}

-- the value is our own proposal beside the refusal that carries it, and 0 elsewhere
abbrev pub judged_reply : Answer (Unit {0}) → Reply ℕ
judged_reply (answer accepted) = record { number = 0; offset = 0; value = 0 }
judged_reply (refusal why) = record { number = number_of why; offset = offset_of why; value = carried_channel why }

abbrev pub reply_judgement : Result (Unit {0}) Refusal → Reply ℕ
reply_judgement r = judged_reply (told r)

abbrev pub reply_proposal : Result ℕ Refusal → Reply ℕ
reply_proposal r = reply_of 0 r

abbrev pub reply_load : Result ℕ Refusal → Reply ℕ
reply_load r = reply_of 0 r
