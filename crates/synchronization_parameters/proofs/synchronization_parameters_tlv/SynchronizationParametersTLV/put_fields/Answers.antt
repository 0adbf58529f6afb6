-- The stores, each at the place where the one before it ends, are the record's bytes.
-- Assumes nothing.
use Rattle.wire.proofs.Stores.{◌and-then◌}
use Rattle.synchronization_parameters.specs.SynchronizationBytes.{fixed_bytes}
use Rattle.synchronization_parameters.proofs.synchronization_parameters_tlv.SynchronizationParametersTLV.put_fields.Goals as goal

pub returns : goal.returns
unfolding fixed_bytes
returns c =
    (λ room. c.put_at-at.ensures)
    and-then (λ room. c.put_at-at-2.ensures)
    and-then (λ room. c.put_at-at-3.ensures)
    and-then (λ room. c.put_at-at-4.ensures)
    and-then (λ room. c.put_at-at-5.ensures)
    and-then (λ room. c.put_at-at-6.ensures)
    and-then (λ room. c.put_at-at-7.ensures)
    and-then (λ room. c.put_at-at-8.ensures)
    and-then (λ room. c.put_at-at-9.ensures)
    and-then (λ room. c.put_at-at-10.ensures)
    and-then (λ room. c.put_at-at-11.ensures)
    and-then (λ room. c.put_at-at-12.ensures)
    and-then (λ room. c.put_at-at-13.ensures)
    and-then (λ room. c.put_at-at-14.ensures)
    and-then (λ room. c.put_at-at-15.ensures)
    and-then (λ room. c.put_at-at-16.ensures)
    and-then (λ room. c.put_at-at-17.ensures)
    and-then (λ room. c.put_at-at-18.ensures)
    and-then (λ room. c.put_at.ensures)
