use Rattle.std.proofs.Common.{◌∙◌, ◌+◌, ◌-◌, List, [], ◌∷◌, ◌++◌, sym, ap}
use Rattle.jib.specs.declared.code.Source.{Source}
use Rattle.lowered_nodes.proofs.Handed.{operands_more}
use Rattle.lowered_ends.proofs.Lists.{first_of, none_of, others}
use Rattle.lowered_nodes.specs.Walk.{only_number, operands_for}
use Rattle.lowered_pieces.proofs.Emitting.{grows_here, grows_then}
use Rattle.lowered_pieces.specs.Forms.{End}
use Rattle.lowered_pieces.specs.Places.{Naming, Temp}
use Rattle.lowered_steps.proofs.Sourcing.{sourced_as}
use Rattle.lowered_steps.proofs.Storing.{sourced_more}
use Rattle.sail_core.specs.declared.tree.Core.{Core}
use Rattle.std.proofs.Common.{append-nil, append_assoc}
use Rattle.std.proofs.lemmas.Result.{on_ok_weaker}
use Rattle.jib.specs.declared.code.Source.TheVariants as R
use Rattle.lowered_nodes.proofs.operands.+list_operands.Goals as goal

pub returns-in-empty-clause-read : goal.returns-in-empty-clause-read
returns-in-empty-clause-read t c =
    let walk = c.args.walk.now in λ by s. sourced_as c.args.coding.now.slots c.args.sources.now by (λ name. by name ++ operands_for walk name c.args.temp
    c.args.nodes.now) (λ name. sym (append-nil (by name)) ∙ ap (λ (cs : List Core). by name ++ operands_for walk name c.args.temp cs) (sym (none_of
    c.args.nodes.now c.in-empty.len_below))) s

pub returns-in-empty-clause-grown : goal.returns-in-empty-clause-grown
returns-in-empty-clause-grown t c =
    grows_here c.args.coding.now

pub returns-in_ok-further-in-len1-up-clause-read : goal.returns-in_ok-further-in-len1-up-clause-read
returns-in_ok-further-in-len1-up-clause-read t c =
    let walk = c.args.walk.now in let setting = walk.setting.now in λ by s. let mine : Naming → List Source = λ name. R.Slot (name (Temp c.args.temp)
    c.in_ok-typ-in-len1-up.typ) ∷ [] in let there = sourced_more _ _ c.args.sources.now _ c.in_ok-source-in-len1-up.source by mine
    c.in_ok-push-in-len1-up.ensures.pushed c.in_ok-source-in-len1-up.ensures.grown.slots s c.in_ok-source-in-len1-up.ensures.read in on_ok_weaker
    c.list_operands.result (λ z. sourced_as _ _ (λ name. (by name ++ mine name) ++ operands_for walk name c.in_ok-further-in-len1-up.field-0 (others
    c.args.nodes.now)) (λ name. by name ++ operands_for walk name c.args.temp c.args.nodes.now) (λ name. append_assoc (by name) (mine name) (operands_for
    walk name c.in_ok-further-in-len1-up.field-0 (others c.args.nodes.now)) ∙ ap (λ (us : List Source). by name ++ us) (operands_more walk name c.args.temp
    c.in_ok-typ-in-len1-up.typ c.in_ok-further-in-len1-up.field-0 c.first-item.result (others c.args.nodes.now) c.args.nodes.now
    (c.in_ok-typ-in-len1-up.ensures ∙ ap (λ (es : List End). only_number setting es) (c.in_ok-ends-in-len1-up.ensures name))
    c.in_ok-further-in-len1-up.ensures (first_of c.args.nodes.now c.first-item.result c.in-len1-up.len_at_least c.first-item.is))) z)
    (c.list_operands.ensures.read (λ name. by name ++ mine name) there)

pub returns-in_ok-further-in-len1-up-clause-grown : goal.returns-in_ok-further-in-len1-up-clause-grown
returns-in_ok-further-in-len1-up-clause-grown t c =
    on_ok_weaker c.list_operands.result (λ g. grows_then _ _ _ c.in_ok-source-in-len1-up.ensures.grown g) c.list_operands.ensures.grown
