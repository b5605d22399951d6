use Rattle.std.proofs.Common.{◌≡◌, ◌++◌, sym, ap, ◌∙◌, append-nil}
use Rattle.std.proofs.lemmas.List.{drop_all}
use Rattle.sail_globals.specs.Bound.{members, is_among}
use Rattle.sail_globals.specs.Namings.{namings_from}
use Rattle.sail_globals.specs.Held.{has_member}
use Rattle.sail_globals.proofs.namings.find_namings.Goals as goal

pub returns : goal.returns
returns c =
    let text = c.args.definitions.now in
    let list = c.loop-index.list in
    let found = c.in_ok-members.members in
    let same : has_member found ≡ is_among (members text) = λ i name. c.in_ok-members.ensures name i in
    sym (append-nil list)
    ∙ ap (λ rest. list ++ namings_from (has_member found) c.loop-index.index rest) (sym (drop_all c.loop-index.index text c.loop-index-test.false))
    ∙ c.loop-index.invariant ∙ ap (λ test. namings_from test 0 text) same
