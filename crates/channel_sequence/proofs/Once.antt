-- Only one answer meets what is said of an entry: it can be turned back into the answer.
-- Assumes nothing.
use mathlib.Core.Path.{◌≡◌, refl}
use Rattle.std.specs.Prelude.{Result, Ok, Err, Option, Some, None}
use Rattle.wire.specs.declared.refusal.Refusal.{Refusal}
use Rattle.wire.specs.Answer.{Answer, answer, refusal}
use Rattle.wire.proofs.Once.{only_one}
use Rattle.channel.specs.declared.channel.Channel.{Channel}
use Rattle.channel_sequence.specs.Hops.{Hop, hop, nothing, said_entry}

abbrev of_entry : Answer Hop → Result (Option Channel) Refusal
of_entry (answer (hop channel)) = Ok (Some channel)
of_entry (answer nothing) = Ok None
of_entry (refusal why) = Err why

pub once_entry : {m : Answer Hop} {a b : Result (Option Channel) Refusal} → said_entry a ≡ m → said_entry b ≡ m → a ≡ b
once_entry = only_one said_entry of_entry (elim [ Ok (Some channel) ↦ refl | Ok None ↦ refl | Err why ↦ refl ])
