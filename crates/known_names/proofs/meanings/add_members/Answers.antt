use Rattle.std.proofs.Common.{◌≡◌, ◌+◌, ◌||◌, ◌∷◌, [], ◌++◌, take, bytes_eq, sym, ap, ◌∙◌}
use Rattle.std.specs.HashSet.{contains_text}
use Rattle.std.specs.List.{list_any}
use Rattle.std.proofs.Math.Bool.{or_assoc}
use Rattle.std.proofs.lemmas.List.{take_more, take_all}
use Rattle.known_names.specs.Meanings.{is_named}
use Rattle.known_names.proofs.Growing.{any_more}
use Rattle.known_names.proofs.meanings.add_members.Goals as goal

pub loop-member-preserved : goal.loop-member-preserved
loop-member-preserved c =
    let members = c.args.members.now in
    let index = c.loop-member.member-index in
    let member = c.member-item.result in
    let was = c.args.names.now in
    let earlier = take index members in
    let grown : take (index + 1) members ≡ earlier ++ member ∷ [] =
    take_more members index member c.loop-member-test.true ∙ ap (λ x. earlier ++ x ∷ []) (sym c.member-item.is) in
    λ name. c.in_ok-add_name.ensures name
    ∙ ap (λ bytes. contains_text c.loop-member.names name || bytes_eq bytes name) c.as_str.ensures
    ∙ ap (λ b. b || bytes_eq member.name.text name) (c.loop-member.invariant name)
    ∙ or_assoc (contains_text was name) (list_any (is_named name) earlier) (bytes_eq member.name.text name)
    ∙ ap (λ b. contains_text was name || b) (sym (any_more (is_named name) earlier member) ∙ ap (list_any (is_named name)) (sym grown))

pub returns : goal.returns
returns c =
    λ name. c.loop-member.invariant name
    ∙ ap (λ all. contains_text c.args.names.now name || list_any (is_named name) all)
    (take_all c.loop-member.member-index c.args.members.now c.loop-member-test.false)
