use Rattle.std.proofs.Common.{◌≡◌, ◌∙◌, ◌&&◌, ◌||◌, ap}
use Rattle.std.specs.Prelude.{None}
use Rattle.std.specs.List.{list_all}
use Rattle.size_splits.specs.Alone.{sizes_given}
use Rattle.size_splits.specs.Sizing.{made_facts}
use Rattle.monomorph.specs.Reading.{inside_of}
use Rattle.sized_trees.specs.Bodies.{made_choices, value_at}
use Rattle.sized_trees.specs.Combinations.{choices_at}
use Rattle.tabled_cores.specs.Notes.{choice_noted, choice_passes, facts_own, has_all_cases, has_case_of, made_alone, node_passes}
use Rattle.tabled_cores.proofs.made.made_tested.Goals as goal

pub returns : goal.returns
returns c =
    let r = inside_of c.args.inside.now in
    let facts = c.args.facts.now in
    let operands = c.args.operands.now in
    let made = c.args.made.now in
    let value : c.in_ok-indices.field-0.indices ≡ value_at r made = c.in_ok-indices.ensures.indices in
    let opening : c.in_ok-indices.field-0.facts ≡ made_facts r.variables made None = c.in_ok-indices.ensures.facts in
    let own : c.in_ok-own.own ≡ sizes_given r.types (value_at r made) = c.in_ok-own.ensures ∙ ap (sizes_given r.types) value in
    let opened = c.as_slice.ensures ∙ opening in
    let given = c.as_slice-2.ensures ∙ own in
    let choices : c.in_ok-choices.choices ≡ made_choices r facts made =
    c.in_ok-choices.ensures ∙ (λ j. choices_at r facts (opened j) (given j)) in
    let here = c.as_slice-3.ensures ∙ choices in
    let have : c.in_ok-have.have ≡ has_all_cases r facts operands made =
    c.in_ok-have.ensures ∙ (λ j. list_all (has_case_of r operands (value j)) (here j)) in
    let there = c.as_slice-4.ensures ∙ choices in
    let pass : c.in_ok-pass.pass ≡ list_all (node_passes r operands made) (made_choices r facts made) =
    c.in_ok-pass.ensures ∙ (λ j. list_all (choice_passes r operands made (value j)) (there j)) in
    let alone : c.both-alone.result ≡ (facts_own r facts && made_alone r made) =
    c.both-alone.ensures ∙ (λ j. c.facts_own.ensures j && c.made_alone.ensures j) in
    let noted : c.in_ok-noted.noted ≡ list_all (choice_noted facts) (made_choices r facts made) =
    c.in_ok-noted.ensures ∙ (λ j. list_all (choice_noted facts) ((c.as_slice-5.ensures ∙ choices) j)) in
    let both = c.both.ensures ∙ (λ j. alone j && pass j) in
    let all = c.both-2.ensures ∙ (λ j. have j && both j) in
    let either = c.either.ensures ∙ (λ j. c.args.given || noted j) in
    c.both-3.ensures ∙ (λ j. all j && either j)
