-- What was written of a consistent record is read back, what was read is written again, and a caller who goes on to the end is given all there is: each crate's own laws say so.
-- Assumes nothing.
use mathlib.Core.Path.{refl, sym}
use Rattle.channel.proofs.Flags.{kept-mask}
use Rattle.channel_sequence.proofs.ReadConsistent as Q
use Rattle.channel_sequence.proofs.Again as Q'
use Rattle.channel_sequence_tlv.proofs.ReadSequenceTLVs as C
use Rattle.channel_sequence_tlv.proofs.SequenceTLVs as C'
use Rattle.data_path_words.proofs.OneBit.{has-bit}
use Rattle.data_path_words.proofs.MadeUp.{flags-made-up, extended-made-up, channels-made-up, options-made-up}
use Rattle.data_path_state.proofs.Sizes.{size-range}
use Rattle.data_path_state.proofs.Masks.{kept-extended-mask, kept-options-mask}
use Rattle.data_path_state.proofs.ReadConsistent as D
use Rattle.data_path_state.proofs.Again as D'
use Rattle.data_path_state.proofs.FromBytes.{read-ranges, read-exactly}
use Rattle.data_path_state.proofs.Mending.{mended-consistent, mended-same}
use Rattle.synchronization_parameters.proofs.Again as S
use Rattle.synchronization_parameters.proofs.FromBytes as S'
use Rattle.synchronization_parameters.proofs.Sizes as S''
use Rattle.tlv_items.proofs.Walks.{gives-walk, gives-walk-once}
use Rattle.tlvs.proofs.Searches.{gives_all, gives-all-once}
use Rattle.action_frame.proofs.Again as F
use Rattle.action_frame.proofs.Gaps.{gap-exactly, gap_same}
use Rattle.report.proofs.Report.{gives-dump, gives-once}
use Rattle.promises.specs.Demand2.{Demand2}
use Rattle.promises.proofs.RoundTrips.{sequence-round, channel-sequence-round, data-path-round, synchronization-round, item-round, frame-round, tail-round}
use Rattle.promises.proofs.Conversions.{sequence-not-written, channel-sequence-not-written, synchronization-not-written}
use Rattle.promises.proofs.Conversions.{exactly-convertible, conversion, channel-sequence-converted, synchronization-converted}
use Rattle.promises.proofs.EndToEnd.{end-to-end, run-together}
use Rattle.promises.proofs.Archives.{data-path-archive, channel-sequence-archive, synchronization-archive, item-archive, sequence-archive}
use Rattle.promises.proofs.Archives.{sequences-run, frames-run, unchecked-run, unmended-run}

pub demand2 : Demand2
demand2 =
    record {
      sequences = sequence-round;
      channel-sequences = channel-sequence-round;
      data-paths = data-path-round;
      synchronizations = synchronization-round;
      items = item-round;
      frames = frame-round;
      sizes = size-range;
      channel-sequence-sizes = λ c e. C'.two-sizes c e;
      synchronization-sizes = λ p e. S''.two-sizes p e;
      extended-mask = kept-extended-mask;
      options-mask = kept-options-mask;
      legacy-mask = kept-mask;
      flags-named = flags-made-up;
      extended-named = extended-made-up;
      channels-named = channels-made-up;
      options-named = options-made-up;
      presence = λ k w. sym (has-bit k w refl);
      gaps = gap-exactly;
      gaps-same = gap_same;
      legacy-sequences = sequence-not-written;
      legacy-channel-sequences = channel-sequence-not-written;
      legacy-synchronizations = synchronization-not-written;
      convertible = exactly-convertible;
      converted = λ q fits e. conversion q fits.many fits e;
      channel-sequences-converted = λ s b at e made. channel-sequence-converted s b at e made;
      synchronizations-converted = λ s b at e made. synchronization-converted s b at e made;
      sequences-consistent = λ encoding s at e. Q.read-consistent encoding s at e;
      sequences-in-width = λ encoding h s b at e. Q.read-in-width encoding h s (record { small = b }) at e;
      channel-sequences-consistent = λ s at e. C.read-consistent s at e;
      channel-sequences-in-width = λ s b at e. C.read-in-width s b at e;
      data-paths-consistent = λ s at e. D.read-consistent s at e;
      data-paths-in-width = λ s b at e. read-ranges s b at e;
      synchronizations-consistent = λ s e. S.read-consistent s e;
      synchronizations-in-width = λ s b at e. S.read-in-width s b at e;
      headers-consistent = λ s b at e. F.read-in-width s b at e;
      sequences-again = λ encoding s at e other. Q'.written-again encoding s at e other;
      channel-sequences-again = λ s b at e other. C.written-again s b at e other;
      synchronizations-again = λ s b e other. S.written-again s b e other;
      data-paths-again = λ s b at e. D'.written-again s b at e;
      headers-again = λ s b at e. F.written-again s b at e;
      frames-again = λ s b e. F.frame-again s b e;
      fixed-again = λ s b e. S.fixed-again s b e;
      sequences-exactly = Q.consistent-exactly;
      channel-sequences-exactly = C.consistent-exactly;
      data-paths-exactly = read-exactly;
      synchronizations-exactly = S'.consistent-exactly;
      mended-consistent = mended-consistent;
      mended-same = mended-same;
      laid-end-to-end = end-to-end;
      data-paths-end-to-end = data-path-archive;
      channel-sequences-end-to-end = channel-sequence-archive;
      synchronizations-end-to-end = synchronization-archive;
      items-end-to-end = item-archive;
      sequences-end-to-end = sequence-archive;
      run-together = run-together;
      sequences-run-together = sequences-run;
      frames-run-together = frames-run;
      unchecked-run-together = unchecked-run;
      unmended-run-together = unmended-run;
      tails = tail-round;
      walked = gives-walk;
      walked_once = λ tail g. gives-walk-once g (gives-walk tail);
      searched = λ type reader tail. gives_all type reader tail;
      searched-once = λ type reader tail g. gives-all-once type reader tail g (gives_all type reader tail);
      dumped = gives-dump;
      dumped-once = λ input g. gives-once input g (gives-dump input);
    }
