use Rattle.std.proofs.Common.{◌≡◌, ◌∙◌, ◌∷◌, ◌++◌, ◌/◌, None, Some, ap, refl, true}
use Rattle.std.proofs.lemmas.Result.{on_ok_weaker}
use Rattle.lowered_pieces.specs.Emitted.{Begins}
use Rattle.lowered_tables.proofs.Growing.{begins_here, begins_then}
use Rattle.lowered_tables.specs.Built.{with_numbers}
use Rattle.lowered_steps.proofs.Lists.{first_of, head_of, none_of, others}
use Rattle.jib_lower.specs.Types.{all_in_ways, types_in_way, types_in_ways}
use Rattle.jib_lower.proofs.Numbering.{ok_both}
use Rattle.jib_lower.proofs.Unmade.{both_listed, exit_more, first_none, last_more}
use Rattle.jib_lower.proofs.Wayed.{no_types, no_ways_in, none_told_in, none_told_types, types_next, types_past, ways_next, ways_past}
use Rattle.jib_lower.proofs.way_types.+add_ways.Goals as goal

pub returns-in-empty-clause-known : goal.returns-in-empty-clause-known
returns-in-empty-clause-known t c =
    no_ways_in c.args.table.now.numbered c.args.mappings.now c.args.at c.args.directions.now c.args.turned.now
    (none_of c.args.directions.now c.in-empty.len_below)

pub returns-in-empty-clause-grown : goal.returns-in-empty-clause-grown
returns-in-empty-clause-grown t c = begins_here c.args.table.now.numbered

pub returns-in-empty-clause-listed : goal.returns-in-empty-clause-listed
returns-in-empty-clause-listed t c =
    ap (with_numbers c.args.types.now c.args.table.now.numbered)
    (no_types c.args.types.now c.args.mappings.now c.args.at c.args.directions.now c.args.turned.now (none_of c.args.directions.now c.in-empty.len_below))

pub returns-in-empty-turned-clause-known : goal.returns-in-empty-turned-clause-known
returns-in-empty-turned-clause-known t c =
    none_told_in c.args.table.now.numbered c.args.mappings.now c.args.at c.args.directions.now c.args.turned.now
    (none_of c.args.turned.now c.in-empty-turned.len_below)

pub returns-in-empty-turned-clause-grown : goal.returns-in-empty-turned-clause-grown
returns-in-empty-turned-clause-grown t c = begins_here c.args.table.now.numbered

pub returns-in-empty-turned-clause-listed : goal.returns-in-empty-turned-clause-listed
returns-in-empty-turned-clause-listed t c =
    ap (with_numbers c.args.types.now c.args.table.now.numbered)
    (none_told_types c.args.types.now c.args.mappings.now c.args.at c.args.directions.now c.args.turned.now
    (none_of c.args.turned.now c.in-empty-turned.len_below))

pub returns-in_ok-add_way-in-Some-clause-known : goal.returns-in_ok-add_way-in-Some-clause-known
returns-in_ok-add_way-in-Some-clause-known t c =
    ok_both c.add_ways.result
    (λ (g : Begins c.add_way.new.table.numbered c.add_ways.new.table.numbered)
    (k : all_in_ways c.add_ways.new.table.numbered c.args.mappings.now c.in_ok-next-in-len1-up-turned.next (others c.args.directions.now) (others c.args.turned.now)
    ≡ true).
    ways_next c.args.mappings.now c.args.at c.in_ok-next-in-len1-up-turned.next c.first-item.result (others c.args.directions.now) c.args.directions.now
    (first_of c.args.directions.now c.first-item.result c.in-len1-up.len_at_least c.first-item.is) c.in_ok-next-in-len1-up-turned.ensures
    c.add_way.new.table.numbered c.add_ways.new.table.numbered _ (others c.args.turned.now) c.args.turned.now g
    (head_of c.args.turned.now _ c.in-len1-up-turned.len_at_least
    ∙ ap (λ x. x ∷ others c.args.turned.now) c.in-Some.is)
    c.in_ok-add_way-in-Some.ensures.known k) c.add_ways.ensures.grown c.add_ways.ensures.known

pub returns-in_ok-add_way-in-Some-clause-grown : goal.returns-in_ok-add_way-in-Some-clause-grown
returns-in_ok-add_way-in-Some-clause-grown t c =
    on_ok_weaker c.add_ways.result (λ (g : Begins c.add_way.new.table.numbered c.add_ways.new.table.numbered).
    begins_then c.args.table.now.numbered c.add_way.new.table.numbered c.add_ways.new.table.numbered c.in_ok-add_way-in-Some.ensures.grown g)
    c.add_ways.ensures.grown

pub returns-in_ok-add_way-in-Some-clause-listed : goal.returns-in_ok-add_way-in-Some-clause-listed
returns-in_ok-add_way-in-Some-clause-listed t c =
    let first = types_in_way c.args.types.now c.args.mappings.now (c.args.at / 2) c.first-item.result in
    let rest = types_in_ways c.args.types.now c.args.mappings.now c.in_ok-next-in-len1-up-turned.next (others c.args.directions.now) (others c.args.turned.now) in
    on_ok_weaker c.add_ways.result
    (λ (h : with_numbers c.args.types.now c.add_way.new.table.numbered rest ≡ Some c.add_ways.new.table.numbered).
    both_listed c.args.types.now c.args.table.now.numbered c.add_way.new.table.numbered first rest first _ (Some c.add_ways.new.table.numbered)
    (types_next c.args.mappings.now c.args.at c.in_ok-next-in-len1-up-turned.next c.first-item.result (others c.args.directions.now) c.args.directions.now
    (first_of c.args.directions.now c.first-item.result c.in-len1-up.len_at_least c.first-item.is) c.in_ok-next-in-len1-up-turned.ensures
    c.args.types.now _ (others c.args.turned.now) c.args.turned.now
    (head_of c.args.turned.now _ c.in-len1-up-turned.len_at_least
    ∙ ap (λ x. x ∷ others c.args.turned.now) c.in-Some.is)) refl
    c.in_ok-add_way-in-Some.ensures.listed h) c.add_ways.ensures.listed

pub returns-in_ok-add_way-in-Some-clause-left : goal.returns-in_ok-add_way-in-Some-clause-left
returns-in_ok-add_way-in-Some-clause-left t c =
    let first = types_in_way c.args.types.now c.args.mappings.now (c.args.at / 2) c.first-item.result in
    let rest = types_in_ways c.args.types.now c.args.mappings.now c.in_ok-next-in-len1-up-turned.next (others c.args.directions.now) (others c.args.turned.now) in
    last_more c.add_ways.result
    (λ (h : with_numbers c.args.types.now c.add_way.new.table.numbered rest ≡ None).
    both_listed c.args.types.now c.args.table.now.numbered c.add_way.new.table.numbered first rest first _ None
    (types_next c.args.mappings.now c.args.at c.in_ok-next-in-len1-up-turned.next c.first-item.result (others c.args.directions.now) c.args.directions.now
    (first_of c.args.directions.now c.first-item.result c.in-len1-up.len_at_least c.first-item.is) c.in_ok-next-in-len1-up-turned.ensures
    c.args.types.now _ (others c.args.turned.now) c.args.turned.now
    (head_of c.args.turned.now _ c.in-len1-up-turned.len_at_least
    ∙ ap (λ x. x ∷ others c.args.turned.now) c.in-Some.is)) refl
    c.in_ok-add_way-in-Some.ensures.listed h) c.add_ways.ensures.left

pub returns-in_err-add_way-in-Some-clause-left : goal.returns-in_err-add_way-in-Some-clause-left
returns-in_err-add_way-in-Some-clause-left t c =
    let first = types_in_way c.args.types.now c.args.mappings.now (c.args.at / 2) c.first-item.result in
    let rest = types_in_ways c.args.types.now c.args.mappings.now c.in_ok-next-in-len1-up-turned.next (others c.args.directions.now) (others c.args.turned.now) in
    exit_more _ _ c.from_residual-in_err-add_way-in-Some.ensures.1
    (first_none c.args.types.now c.args.table.now.numbered first rest first _
    (types_next c.args.mappings.now c.args.at c.in_ok-next-in-len1-up-turned.next c.first-item.result (others c.args.directions.now) c.args.directions.now
    (first_of c.args.directions.now c.first-item.result c.in-len1-up.len_at_least c.first-item.is) c.in_ok-next-in-len1-up-turned.ensures
    c.args.types.now _ (others c.args.turned.now) c.args.turned.now
    (head_of c.args.turned.now _ c.in-len1-up-turned.len_at_least
    ∙ ap (λ x. x ∷ others c.args.turned.now) c.in-Some.is)) refl) c.in_err-add_way-in-Some.ensures.left

pub returns-in-None-clause-known : goal.returns-in-None-clause-known
returns-in-None-clause-known t c =
    on_ok_weaker c.add_ways-in-None.result
    (λ (k : all_in_ways c.add_ways-in-None.new.table.numbered c.args.mappings.now c.in_ok-next-in-len1-up-turned.next (others c.args.directions.now) (others c.args.turned.now)
    ≡ true).
    ways_past c.args.mappings.now c.args.at c.in_ok-next-in-len1-up-turned.next c.first-item.result (others c.args.directions.now) c.args.directions.now
    (first_of c.args.directions.now c.first-item.result c.in-len1-up.len_at_least c.first-item.is) c.in_ok-next-in-len1-up-turned.ensures
    c.add_ways-in-None.new.table.numbered (others c.args.turned.now) c.args.turned.now
    (head_of c.args.turned.now _ c.in-len1-up-turned.len_at_least
    ∙ ap (λ x. x ∷ others c.args.turned.now) c.in-None.is) k) c.add_ways-in-None.ensures.known

pub returns-in-None-clause-grown : goal.returns-in-None-clause-grown
returns-in-None-clause-grown t c = c.add_ways-in-None.ensures.grown

pub returns-in-None-clause-listed : goal.returns-in-None-clause-listed
returns-in-None-clause-listed t c =
    let rest = types_in_ways c.args.types.now c.args.mappings.now c.in_ok-next-in-len1-up-turned.next (others c.args.directions.now) (others c.args.turned.now) in
    on_ok_weaker c.add_ways-in-None.result
    (λ (h : with_numbers c.args.types.now c.args.table.now.numbered rest ≡ Some c.add_ways-in-None.new.table.numbered).
    ap (with_numbers c.args.types.now c.args.table.now.numbered)
    (types_past c.args.mappings.now c.args.at c.in_ok-next-in-len1-up-turned.next c.first-item.result (others c.args.directions.now) c.args.directions.now
    (first_of c.args.directions.now c.first-item.result c.in-len1-up.len_at_least c.first-item.is) c.in_ok-next-in-len1-up-turned.ensures
    c.args.types.now (others c.args.turned.now) c.args.turned.now
    (head_of c.args.turned.now _ c.in-len1-up-turned.len_at_least
    ∙ ap (λ x. x ∷ others c.args.turned.now) c.in-None.is)) ∙ h) c.add_ways-in-None.ensures.listed

pub returns-in-None-clause-left : goal.returns-in-None-clause-left
returns-in-None-clause-left t c =
    let rest = types_in_ways c.args.types.now c.args.mappings.now c.in_ok-next-in-len1-up-turned.next (others c.args.directions.now) (others c.args.turned.now) in
    last_more c.add_ways-in-None.result
    (λ (h : with_numbers c.args.types.now c.args.table.now.numbered rest ≡ None).
    ap (with_numbers c.args.types.now c.args.table.now.numbered)
    (types_past c.args.mappings.now c.args.at c.in_ok-next-in-len1-up-turned.next c.first-item.result (others c.args.directions.now) c.args.directions.now
    (first_of c.args.directions.now c.first-item.result c.in-len1-up.len_at_least c.first-item.is) c.in_ok-next-in-len1-up-turned.ensures
    c.args.types.now (others c.args.turned.now) c.args.turned.now
    (head_of c.args.turned.now _ c.in-len1-up-turned.len_at_least
    ∙ ap (λ x. x ∷ others c.args.turned.now) c.in-None.is)) ∙ h) c.add_ways-in-None.ensures.left
