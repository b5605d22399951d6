use Rattle.std.proofs.Common.{◌≡◌, OnOk, subst, sym}
use Rattle.value_indices.specs.Walking.{seen}
use Rattle.value_indices.proofs.Methods.{gives_read}
use Rattle.value_indices.proofs.walking.Walking.note_given.Goals as goal

pub returns : goal.returns
returns c = subst (λ w. OnOk c.write.result (seen c.write.new.self ≡ w)) (sym (gives_read c.args.giver c.args.indices (seen c.args.self.now))) c.write.ensures
