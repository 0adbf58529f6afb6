-- A later sender can't mislead us: unread items give no record, bytes behind an accepted value are not looked at, both leave the walk whole, and the fields of what was read are laid in a row.
-- Assumes nothing.
use Prim.Native.Nat.{ℕ}
use mathlib.Core.List.{List}
use Rattle.promises.specs.Later.{insert, grow}
use Rattle.promises.proofs.LaterFrames.{whole-written, changed, items-after, received-after}
use Rattle.wire.specs.Reading.{Reader}
use Rattle.wire.proofs.Laid.{Laid, laid-size, cut_at}
use Rattle.channel_sequence.proofs.Laid.{sequence-laid}
use Rattle.channel_sequence_tlv.proofs.Laid.{channel-sequence-laid}
use Rattle.data_path_state.proofs.Laid.{data-path-laid}
use Rattle.synchronization_parameters.proofs.Laid.{synchronization-laid}
use Rattle.action_frame.proofs.Laid.{header-laid}
use Rattle.promises.specs.Demand3.{CutIsShort, Demand3}

cut-laid : {A : Type 0} {r : Reader A} {w : A → List ℕ} → Laid r w → CutIsShort r w
cut-laid l bytes a size e = (laid-size l bytes e, λ k h. cut_at l bytes e h)

pub demand3 : Demand3
demand3 =
    record {
      same = received-after;
      synchronization-cut = cut-laid synchronization-laid;
      data-path-cut = cut-laid data-path-laid;
      channel-sequence-cut = cut-laid channel-sequence-laid;
      header-cut = cut-laid header-laid;
      sequence-cut = λ encoding. cut-laid (sequence-laid encoding);
      written = whole-written;
      inserted = λ frame front back it e u. changed frame front e (insert it u);
      grown = λ frame front back it bytes e a h. changed frame front e (grow it bytes a h);
      items = items-after;
    }
