-- The number, the offset and the values that each answer stands for.
use Rattle.std.specs.Prelude.{ℕ, Result}
use Rattle.wire.specs.declared.refusal.Refusal.{Refusal}
use Rattle.wire.specs.Outcomes.{Reply, reply_of}
use Rattle.channel.specs.declared.channel.ChannelEncoding.{ChannelEncoding}
use Rattle.channel.specs.declared.channel.ChannelEncoding.TheVariants.{Simple}

-- the zero encoding is the one whose number is 0
abbrev pub reply_encoding : Result ChannelEncoding Refusal → Reply ChannelEncoding
reply_encoding r = reply_of Simple r

abbrev pub reply_corrected : Result ℕ Refusal → Reply ℕ
reply_corrected r = reply_of 0 r
