-- The file at the index has the map's bytes.
use Rattle.std.proofs.Common.{◌∙◌, sym}
use Rattle.sail_outside.proofs.Stored.{bytes_at_index}
use Rattle.sail_outside.proofs.held.bytes_of.Goals as goal

pub returns : goal.returns
returns c =
    c.as_slice.ensures.value ∙ sym (bytes_at_index c.args.files.now c.args.index c.index-files-index.result c.if-index-files.false)
