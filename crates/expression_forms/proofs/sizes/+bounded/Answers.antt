use Rattle.std.proofs.Common.{rules, ◌≡◌, ◌∙◌, ◌+◌, ◌++◌, IfOk, ap, arith, subst, sym}
use Rattle.value_indices.specs.Steps.{Conditions}
use Rattle.expression_forms.specs.Sizes.{in_bounds}
use Rattle.expression_forms.proofs.Bounds.{number_is, power_is, term_is, variable_is}
use Rattle.expression_forms.proofs.NumberMasses.{atom_mass, num_mass, num_opens, power_opens, rest_term, term_at, term_mass, term_masses, term_opens}
use Rattle.expression_forms.proofs.sizes.+bounded.Goals as goal

-- ---- there is less of what is called

pub bounded-terms_bounded-requires : goal.bounded-terms_bounded-requires
bounded-terms_bounded-requires t c =
    let opens = num_opens c.args.number.now c.as_slice.result.now c.as_slice.ensures in
    let measure : num_mass c.args.number.now ≡ t = c.decreases in
    (omega (arith, opens, measure), tt)

pub terms_bounded-term_owed-requires : goal.terms_bounded-term_owed-requires
terms_bounded-term_owed-requires t c =
    let part = rest_term c.args.terms.now c.first-item.result c.in-len1-up.len_at_least c.first-item.is in
    let measure : term_masses c.args.terms.now + 3 ≡ t = c.decreases in
    (omega (arith, part, measure), tt)

pub terms_bounded-more_bounded-requires : goal.terms_bounded-more_bounded-requires
terms_bounded-more_bounded-requires t c =
    let part = rest_term c.args.terms.now c.first-item.result c.in-len1-up.len_at_least c.first-item.is in
    let measure : term_masses c.args.terms.now + 3 ≡ t = c.decreases in
    (omega (arith, part, measure), tt)

pub more_bounded-term_owed-requires : goal.more_bounded-term_owed-requires
more_bounded-term_owed-requires t c =
    let part = term_at c.args.terms.now c.loop-term.term-index c.term-item.result c.loop-term-test.true c.term-item.is in
    let measure : term_masses c.args.terms.now + 2 ≡ t = c.decreases in
    (omega (arith, part, measure), tt)

pub term_owed-atom_bounded-requires : goal.term_owed-atom_bounded-requires
term_owed-atom_bounded-requires t c =
    let opens = term_opens c.args.term.now in
    let measure : term_mass c.args.term.now + 1 ≡ t = c.decreases in
    (omega (arith, opens, measure), tt)

pub atom_bounded-bounded-requires : goal.atom_bounded-bounded-requires
atom_bounded-bounded-requires t c =
    let opens = power_opens c.args.atom.now c.in-Power.number c.get.result.now c.in-Power.is c.get.ensures in
    let measure : atom_mass c.args.atom.now ≡ t = c.decreases in
    (omega (arith, opens, measure), tt)

-- ---- what is owed

pub bounded-returns : goal.bounded-returns
bounded-returns t c =
    let is = number_is c.args.indices.now c.args.number.now c.as_slice.result.now c.as_slice.ensures in
    search (is, rules)

pub term_owed-returns : goal.term_owed-returns
term_owed-returns t c =
    c.in_ok-append.ensures.appended
    ∙ (λ j. c.in_ok-made.ensures j ++ (c.in_ok-in_bounds.ensures ∙ ap in_bounds (c.as_ref.ensures.value ∙ c.in_ok-read.ensures)) j)
    ∙ sym (term_is c.args.indices.now c.args.term.now)

pub atom_bounded-returns-in-Variable : goal.atom_bounded-returns-in-Variable
atom_bounded-returns-in-Variable t c = c.new.ensures ∙ sym (variable_is c.args.indices.now c.args.atom.now c.in-Variable.field-0 c.in-Variable.is)

pub atom_bounded-returns-in-Power : goal.atom_bounded-returns-in-Power
atom_bounded-returns-in-Power t c =
    subst (λ (cs : Conditions). IfOk c.bounded.result (λ made. made ≡ cs))
    (sym (power_is c.args.indices.now c.args.atom.now c.in-Power.number c.get.result.now c.in-Power.is c.get.ensures)) c.bounded.ensures
