-- What is refused would leave, and what is not is the corrected channel, since it stays.
-- Assumes nothing.
use Rattle.std.proofs.Common.{sym, ap, ◌∙◌, arith}
use mathlib.Core.Logic.{⊎_elim}
use Rattle.wire.specs.Answer.{answer}
use Rattle.channel.specs.Channels.{encoding_of}
use Rattle.channel_sequence.proofs.Corrections.{stays-or-leaves}
use Rattle.channel_sequence.proofs.conversion.corrected_inside.Goals as goal

pub returns : goal.returns
unfolding encoding_of
returns c =
    ⊎_elim
    (λ s. c.channel.ensures ∙ sym (s.1.inside ∙ ap answer (sym (s.1.same (omega arith)))))
    (λ leaves. ⊎_elim (λ p. absurd (omega arith)) (λ p. absurd (omega arith)) leaves.passes)
    (stays-or-leaves c.args.flags.0 c.args.channel)
