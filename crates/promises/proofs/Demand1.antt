-- A refusal is told by its number and its offset and leaves nothing behind: it is computed from what an answer says, every reader is lawful, and only what is not refused touches a buffer.
-- Assumes nothing.
use mathlib.Core.Path.{refl, sym, ◌∙◌}
use mathlib.Core.Bool.{false}
use Rattle.wire.specs.Addresses.{zero_address}
use Rattle.wire.proofs.Lawful.{field-lawful, number-lawful, address-lawful, short-exactly}
use Rattle.text.proofs.Once.{once_decimal, once_put_said, once_same}
use Rattle.channel.specs.declared.channel.ChannelEncoding.TheVariants.{Simple}
use Rattle.channel_sequence.specs.Sequences.{zero_sequence}
use Rattle.channel_sequence.proofs.RoundTrip.{sequence-lawful}
use Rattle.channel_sequence_tlv.specs.SequenceTLVs.{zero_channel_sequence}
use Rattle.channel_sequence_tlv.proofs.SequenceTLVs.{channel-sequence-lawful, head-short}
use Rattle.data_path_fields.specs.Outcomes.{zero_head, zero_body}
use Rattle.data_path_state.specs.Outcomes.{zero_data_path}
use Rattle.data_path_state.proofs.Laid.{head-laid, body-laid, data-path-laid}
use Rattle.synchronization_parameters.specs.SynchronizationReader.{zero_synchronization}
use Rattle.synchronization_parameters.proofs.Whole.{synchronization-lawful, front-short}
use Rattle.tlv_items.proofs.Once.{once_end}
use Rattle.tlvs.proofs.Once.{once_found}
use Rattle.action_frame.specs.Frames.{zero_frame}
use Rattle.action_frame.proofs.Laid.{header-laid}
use Rattle.promises.proofs.InFrames.{short-in-frame}
use Rattle.promises.proofs.Refusing.{numbers-exactly, numbers_apart, no-channel, reader-offset, call-offset, said-answers, told-answers, entry-answers, judgement-answers, refused-buffer, short-buffer}
use Rattle.promises.specs.Demand1.{Demand1}

pub demand1 : Demand1
demand1 =
    record {
      numbers = numbers-exactly;
      apart = numbers_apart;
      carried = no-channel;
      reader-offsets = reader-offset;
      call-offsets = call-offset;
      field-offset = λ n. short-exactly (field-lawful n);
      number-offset = λ width. short-exactly (number-lawful width);
      address-offset = short-exactly address-lawful;
      sequence-offset = λ encoding. short-exactly (sequence-lawful encoding);
      head-offset = short-exactly head-laid.lawful;
      body-offset = λ flags. short-exactly (body-laid flags).lawful;
      data-path-offset = short-exactly data-path-laid.lawful;
      synchronization-offset = short-exactly synchronization-lawful;
      channel-sequence-offset = short-exactly channel-sequence-lawful;
      header-offset = short-exactly header-laid.lawful;
      channel-sequence-front = head-short;
      synchronization-front = front-short;
      data-path-in-frame = short-in-frame data-path-laid.lawful;
      synchronization-in-frame = short-in-frame synchronization-lawful;
      channel-sequence-in-frame = short-in-frame channel-sequence-lawful;
      readers = said-answers;
      calls = told-answers;
      number = said-answers 0;
      address = said-answers zero_address;
      size = told-answers 0;
      encoding = told-answers Simple;
      corrected = told-answers 0;
      consistency = told-answers false;
      entry = entry-answers;
      sequence = said-answers zero_sequence;
      made = told-answers zero_sequence;
      judgement = judgement-answers;
      proposal = told-answers 0;
      load = told-answers 0;
      head = said-answers zero_head 0;
      body = said-answers zero_body;
      data-path = said-answers zero_data_path 0;
      synchronization = said-answers zero_synchronization 0;
      channel-sequence = said-answers zero_channel_sequence;
      frame = said-answers zero_frame 0;
      end = λ a b e. once_end e refl;
      found = λ a b e. once_found e refl;
      decimal = λ word a b p q. once_decimal p q;
      put-said = λ s at word a b t u p q. once_put_said p q;
      same = λ xs ys a b p q. once_same a b p q;
      wrote = λ s bytes said other after last p q. (p.size ∙ sym q.size, p.buffer ∙ sym q.buffer);
      put = λ s at bytes next other after last p q. (p.place ∙ sym q.place, p.buffer ∙ sym q.buffer);
      writers = refused-buffer;
      steps = short-buffer;
    }
