use Rattle.std.proofs.Common.{◌≡◌, ◌++◌, map, subst}
use Rattle.std.specs.Prelude.{OnOk}
use Rattle.lowered_pieces.specs.Forms.{all_notes}
use Rattle.lowered_steps.specs.Found.{indices_of}
use Rattle.lowered_steps.proofs.notes.list_given.Goals as goal

pub returns : goal.returns
returns c =
    subst (λ us. OnOk c.list_found.result (c.list_found.new.listed ≡ c.args.listed.now ++ all_notes us)) c.in_ok-found.ensures
    (subst (λ us. OnOk c.list_found.result (c.list_found.new.listed ≡ c.args.listed.now ++ all_notes (map indices_of us))) c.as_slice.ensures
    c.list_found.ensures)
