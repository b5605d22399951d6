use Rattle.soundness_fits.proofs.Owing.{fits_suffice}
use Rattle.soundness_parts.proofs.PartKinds.{with_item_kind, with_slice_kind}
use Rattle.soundness_parts.proofs.laws.updates_are_fine.Goals as goal

pub returns : goal.returns
returns c = λ q w. (with_slice_kind q w fits_suffice, with_item_kind q w fits_suffice)
