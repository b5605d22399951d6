use Rattle.std.proofs.Common.{◌≡◌, ◌∙◌, ◌∷◌, ◌++◌, List, [], ap, if◌then◌else◌, map, sym}
use Rattle.std.proofs.lemmas.Result.{on_ok_weaker}
use Rattle.lowered_steps.specs.Setting.{nodes_in}
use Rattle.lowered_steps.specs.declared.setting.Reads.{Reads}
use Rattle.jib_lower.specs.Reads.{is_told, read_of, with_read}
use Rattle.jib_lower.proofs.reads.add_name.Goals as goal

pub returns-then-known : goal.returns-then-known
returns-then-known c =
    let told = c.args.told.now in let name = c.args.name.now in
    let more : List Reads = told ++ record { name = name; types = with_read (nodes_in c.args.setting.now) name (map read_of c.args.reads.now) [] } ∷ [] in
    sym (ap (λ b. if b then told else more) (ap (is_told name) (sym c.as_slice.ensures) ∙ sym c.is_told-known.ensures ∙ c.if-known.true))

pub returns-else-known : goal.returns-else-known
returns-else-known c =
    let told = c.args.told.now in let name = c.args.name.now in
    let more : List Reads = told ++ record { name = name; types = with_read (nodes_in c.args.setting.now) name (map read_of c.args.reads.now) [] } ∷ [] in
    on_ok_weaker c.push_name.result
    (λ (e : c.push_name.new.told ≡ more). e
    ∙ sym (ap (λ b. if b then told else more) (ap (is_told name) (sym c.as_slice.ensures) ∙ sym c.is_told-known.ensures ∙ c.if-known.false)))
    c.push_name.ensures
