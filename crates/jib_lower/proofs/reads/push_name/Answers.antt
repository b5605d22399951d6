use Rattle.std.proofs.Common.{◌≡◌, ◌∙◌, ◌∷◌, ◌++◌, List, [], ap, map}
use Rattle.std.proofs.lemmas.Result.{on_ok_weaker}
use Rattle.lowered_steps.specs.Setting.{nodes_in}
use Rattle.lowered_steps.specs.declared.setting.Reads.{Reads}
use Rattle.jib_lower.specs.Reads.{read_of, with_read}
use Rattle.jib_lower.proofs.reads.push_name.Goals as goal

pub returns : goal.returns
returns c =
    let told : List Reads = c.args.told.now in let name = c.args.name.now in
    let read = with_read (nodes_in c.args.setting.now) name (map read_of c.args.reads.now) in
    on_ok_weaker c.push.result
    (λ (e : c.push.new.self ≡ told ++ record { name = c.in_ok-copy.copy; types = c.push_reads.new.types } ∷ []). e
    ∙ (λ i. told ++ record { name = c.in_ok-copy.ensures i; types = (c.in_ok-push_reads.ensures ∙ ap read c.new-types.ensures) i } ∷ []))
    c.push.ensures.pushed
