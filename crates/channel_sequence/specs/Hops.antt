-- The hops of a sequence: its entries, one by one.
use Rattle.std.specs.Prelude.{ℕ, ◌*◌, cond, List, leb, get_or, take, drop, Option, Some, None, Result, Ok, Err}
use Rattle.wire.specs.declared.refusal.Refusal.{Refusal}
use Rattle.wire.specs.Answer.{Answer, answer, refusal, ◌>>=◌}
use Rattle.channel.specs.declared.channel.Channel.{Channel}
use Rattle.channel.specs.declared.channel.ChannelEncoding.{ChannelEncoding}
use Rattle.channel_sequence.specs.declared.channel_sequence.ChannelSequence.{ChannelSequence}
use Rattle.channel.specs.Channels.{encoding_of, entry_size}

-- the bytes of entry n, from 0
abbrev pub entry_bytes : ChannelEncoding → ℕ → List ℕ → List ℕ
entry_bytes encoding n bytes = take (entry_size encoding) (drop (entry_size encoding * n) bytes)

-- a channel from the bytes of its entry; where that is one byte, the second is 0
abbrev pub entry_channel : ℕ → List ℕ → Channel
entry_channel encoding entry = record { encoding = encoding; first = get_or entry 0 0; second = get_or entry 1 0 }

abbrev pub zero_channel : Channel
zero_channel = record { encoding = 0; first = 0; second = 0 }

-- what stands at a number: a channel, or no such item
pub data Hop : Type 0 where
  hop : Channel → Hop
  nothing : Hop

abbrev pub hop_at : ChannelSequence → ℕ → Answer Hop
hop_at q n = do
  encoding ← encoding_of q.encoding
  answer (cond (leb 16 n) nothing (hop (entry_channel q.encoding (entry_bytes encoding n q.bytes))))

-- what an answer of the code says
abbrev pub said_entry : Result (Option Channel) Refusal → Answer Hop
said_entry (Ok (Some channel)) = answer (hop channel)
said_entry (Ok None) = answer nothing
said_entry (Err why) = refusal why
