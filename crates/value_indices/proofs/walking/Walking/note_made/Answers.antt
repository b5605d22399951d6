use Rattle.std.proofs.Common.{◌≡◌, OnOk, subst, sym}
use Rattle.value_indices.specs.Walking.{seen}
use Rattle.value_indices.proofs.Methods.{made_read}
use Rattle.value_indices.proofs.walking.Walking.note_made.Goals as goal

pub returns : goal.returns
returns c = subst (λ w. OnOk c.write.result (seen c.write.new.self ≡ w))
    (sym (made_read c.args.number c.args.operands c.args.made (seen c.args.self.now))) c.write.ensures
