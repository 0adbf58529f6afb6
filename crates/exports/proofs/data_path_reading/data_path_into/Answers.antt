-- The numbers that are laid down are those of the record.
-- Assumes nothing.
use Rattle.std.proofs.Common.{ap, ◌∙◌, set, replicate}
use Rattle.wire.specs.Reading.{onward}
use Rattle.exports.specs.DataPathReading.{lay_behind_flags}
use Rattle.exports.proofs.DataPathLays.{lays-data-path}
use Rattle.exports.proofs.data_path_reading.data_path_into.Goals as goal

pub returns : goal.returns
returns c =
    let s = c.args.s.now in
    (rw c.from.ensures at c.behind_flags_into.ensures)
    ∙ ap (λ m. onward m (λ flags at. lay_behind_flags flags (set (replicate 44 0) 0 flags) s at)) c.in_ok-flags.ensures
    ∙ (lays-data-path s).of 0
