use Rattle.std.proofs.Common.{refl}
use Rattle.lowered_steps.specs.Setting.{kit_for}
use Rattle.lowered_pieces.specs.Functions.{answer_code}
use Rattle.lowered_functions.specs.Made.{event_for, result_for}
use Rattle.lowered_functions.proofs.Put.{code_made}
use Rattle.lowered_functions.proofs.functions.put_event.Goals as goal

pub put_answer-requires : goal.put_answer-requires
put_answer-requires c = record { lowered = c.requires.lowered }

pub returns : goal.returns
returns c =
    code_made c.args.walk.now c.args.given.now c.in_ok-coding.coding c.put_answer.new.coding
    (λ name l. answer_code (kit_for c.args.walk.now.setting.now name) c.args.function.now.place
    (result_for c.args.walk.now name c.args.function.now.last c.args.function.now.body) l)
    (λ name. (result_for c.args.walk.now name c.args.function.now.last c.args.function.now.body).labels 0)
    (λ name. event_for c.args.walk.now name c.args.function.now) c.in_ok-coding.ensures.slots c.in_ok-coding.ensures.code c.in_ok-coding.ensures.labels
    (λ name. refl) c.in_ok-put_answer.ensures
