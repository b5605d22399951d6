use Rattle.std.proofs.Common.{◌≡◌, ◌+◌, ◌*◌}
use Rattle.std.proofs.lemmas.Result.{IfOk-weaker}
use Rattle.lowered_steps.proofs.Opened.{list_free}
use Rattle.lowered_steps.proofs.heads.behind_list.Goals as goal

pub returns : goal.returns
returns c =
    IfOk-weaker c.further-3.result (λ m. m ≡ c.in_ok-items.items + c.in_ok-tests.tests) (λ m. m ≡ c.args.free + 2 * c.args.count + 1)
    (λ m e. list_free m c.in_ok-items.items c.in_ok-tests.tests c.args.free c.args.count e c.in_ok-items.ensures c.in_ok-tests.ensures) c.further-3.ensures
