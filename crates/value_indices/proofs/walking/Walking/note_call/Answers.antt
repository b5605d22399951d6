use Rattle.std.proofs.Common.{◌≡◌, OnOk, subst, sym}
use Rattle.value_indices.specs.Walking.{seen}
use Rattle.value_indices.proofs.Methods.{call_read}
use Rattle.value_indices.proofs.walking.Walking.note_call.Goals as goal

pub returns : goal.returns
returns c =
    let a = c.args in
    subst (λ w. OnOk c.write.result (seen c.write.new.self ≡ w))
    (sym (call_read a.place a.number a.operands a.callee a.numbers a.types (seen a.self.now))) c.write.ensures
