-- The number, the offset and the values that each answer stands for.
use Rattle.std.specs.Prelude.{ℕ, Result}
use Rattle.wire.specs.declared.refusal.Refusal.{Refusal}
use Rattle.wire.specs.Outcomes.{Outcome, outcome_of}
use Rattle.data_path_fields.specs.declared.read.Head.{Head}
use Rattle.data_path_fields.specs.declared.read.Body.{Body}
use Rattle.data_path_fields.specs.Fields.{no_country, no_channel, no_infra, no_address, no_unicast, no_extended}

abbrev pub zero_head : Head
zero_head = record { flags = 0; country = no_country; channel = no_channel }

abbrev pub zero_body : Body
zero_body =
    record {
      addresses = record { bssid = no_infra; infra = no_address; awdl = no_address };
      unicast = no_unicast;
      extended = no_extended;
    }

abbrev pub outcome_head : Result (Head × ℕ) Refusal → Outcome Head
outcome_head = outcome_of zero_head 0

abbrev pub outcome_body : ℕ → Result (Body × ℕ) Refusal → Outcome Body
outcome_body at = outcome_of zero_body at
