-- A record within its widths is consistent exactly where bytes are read as it: its own bytes are, and what is read is consistent.
-- Assumes nothing.
use mathlib.Core.Logic.{◌↔◌}
use mathlib.Core.Path.{◌≡◌}
use mathlib.Core.Bool.{true}
use Rattle.wire.specs.FromBytes.{ReadFromBytes}
use Rattle.wire.specs.Answer.{answer}
use Rattle.wire.specs.Addresses.{address_bytes}
use Rattle.wire.proofs.Octets.{Octets, octets-append, octets-little}
use Rattle.wire.proofs.ReadsBack.{from_bytes}
use Rattle.synchronization_parameters.specs.declared.synchronization_parameters_tlv.SynchronizationParametersTLV.{SynchronizationParametersTLV}
use Rattle.synchronization_parameters.specs.SynchronizationReader.{synchronization}
use Rattle.synchronization_parameters.specs.SynchronizationBytes.{consistent, fixed_bytes}
use Rattle.synchronization_parameters.specs.Widths.{SynchronizationInWidth}
use Rattle.synchronization_parameters.proofs.RoundTrip.{channels-filled, synchronization-back}
use Rattle.synchronization_parameters.proofs.Again.{read-consistent}

fixed-octets : (p : SynchronizationParametersTLV) → Octets (address_bytes p.master_address) → Octets (fixed_bytes p)
unfolding fixed_bytes
fixed-octets p address =
    octets-append (octets-little 1 p.next_channel)
    (octets-append (octets-little 2 p.tx_counter)
    (octets-append (octets-little 1 p.master_channel)
    (octets-append (octets-little 1 p.guard_time)
    (octets-append (octets-little 2 p.aw_period)
    (octets-append (octets-little 2 p.af_period)
    (octets-append (octets-little 2 p.awdl_flags)
    (octets-append (octets-little 2 p.aw_ext_length)
    (octets-append (octets-little 2 p.aw_common_length)
    (octets-append (octets-little 2 p.remaining_aw_length)
    (octets-append (octets-little 1 p.min_ext_count)
    (octets-append (octets-little 1 p.max_multicast_ext_count)
    (octets-append (octets-little 1 p.max_unicast_ext_count)
    (octets-append (octets-little 1 p.max_af_ext_count)
    (octets-append address
    (octets-append (octets-append (octets-little 1 p.presence_mode) (octets-little 1 p.reserved))
    (octets-append (octets-little 2 p.aw_seq_number) (octets-little 2 p.ap_beacon_alignment_delta)))))))))))))))))

consistent-read : (p : SynchronizationParametersTLV) → SynchronizationInWidth p → consistent p ≡ answer true → ReadFromBytes synchronization p
consistent-read p fits e =
    let w = channels-filled p fits.numbers fits.sequence.many e in
    let octets = octets-append (fixed-octets p (record { small = fits.address })) (w.octets (record { small = fits.sequence.small })) in
    from_bytes (synchronization-back p w.back fits.numbers) octets.small

pub consistent-exactly : (p : SynchronizationParametersTLV) → SynchronizationInWidth p → (consistent p ≡ answer true) ↔ ReadFromBytes synchronization p
consistent-exactly p fits = (consistent-read p fits, λ r. (read-consistent r.bytes r.reads).1)
