use Rattle.std.proofs.Common.{rules, ◌≡◌, ◌∙◌, ◌+◌, ◌++◌, IfOk, ap, arith, subst, sym}
use Rattle.sail_types.specs.declared.numbers.Num.{Num}
use Rattle.value_indices.specs.Steps.{Conditions}
use Rattle.expression_forms.proofs.Bounds.{owed_more, power_through, through_inside, through_is, variable_through}
use Rattle.expression_forms.proofs.NumberMasses.{atom_mass, num_mass, num_opens, power_opens, term_at, term_mass, term_masses, term_opens}
use Rattle.expression_forms.specs.Sizes.{exponent_through, through, through_term}
use Rattle.expression_forms.proofs.sizes.+through.Goals as goal

-- ---- there is less of what is called

pub through-all_through-requires : goal.through-all_through-requires
through-all_through-requires t c =
    let opens = num_opens c.args.number.now c.as_slice.result.now c.as_slice.ensures in
    let measure : num_mass c.args.number.now ≡ t = c.decreases in
    (omega (arith, opens, measure), tt)

pub all_through-through_term-requires : goal.all_through-through_term-requires
all_through-through_term-requires t c =
    let part = term_at c.args.terms.now c.loop-term.term-index c.term-item.result c.loop-term-test.true c.term-item.is in
    let measure : term_masses c.args.terms.now + 3 ≡ t = c.decreases in
    (omega (arith, part, measure), tt)

pub through_term-through_atom-requires : goal.through_term-through_atom-requires
through_term-through_atom-requires t c =
    let opens = term_opens c.args.term.now in
    let measure : term_mass c.args.term.now + 1 ≡ t = c.decreases in
    (omega (arith, opens, measure), tt)

pub through_atom-through-requires : goal.through_atom-through-requires
through_atom-through-requires t c =
    let opens = power_opens c.args.atom.now c.in-Power.number c.get.result.now c.in-Power.is c.get.ensures in
    let measure : atom_mass c.args.atom.now ≡ t = c.decreases in
    (omega (arith, opens, measure), tt)

-- ---- what is owed

pub through-returns : goal.through-returns
through-returns t c =
    let is = through_is c.args.indices.now c.args.numbers.now c.args.number.now c.as_slice.result.now c.as_slice.ensures in
    search (is, rules)

pub through_term-returns : goal.through_term-returns
through_term-returns t c =
    subst (λ (cs : Conditions). IfOk c.through_atom.result (λ made. made ≡ cs))
    (sym (through_inside c.args.indices.now c.args.numbers.now c.args.term.now)) c.through_atom.ensures

pub through_atom-returns-in-Variable : goal.through_atom-returns-in-Variable
through_atom-returns-in-Variable t c =
    c.new.ensures ∙ sym (variable_through c.args.indices.now c.args.numbers.now c.args.atom.now c.in-Variable.field-0 c.in-Variable.is)

pub through_atom-returns-in_ok-append-in-Power : goal.through_atom-returns-in_ok-append-in-Power
through_atom-returns-in_ok-append-in-Power t c =
    c.in_ok-append-in-Power.ensures.appended
    ∙ (λ j. c.in_ok-made-in-Power.ensures j ++ c.in_ok-exponent_through-in-Power.ensures j)
    ∙ ap (λ (n : Num). through c.args.indices.now c.args.numbers.now c.get.result.now ++ exponent_through c.args.indices.now c.args.numbers.now n)
    (c.get-in-Power.ensures ∙ sym c.get.ensures)
    ∙ sym (power_through c.args.indices.now c.args.numbers.now c.args.atom.now c.in-Power.number c.get.result.now c.in-Power.is c.get.ensures)

pub all_through-loop-term-preserved : goal.all_through-loop-term-preserved
all_through-loop-term-preserved t c =
    owed_more (through_term c.args.indices.now c.args.numbers.now) c.args.terms.now c.loop-term.term-index c.term-item.result c.loop-term.made
    c.in_ok-through_term.field-0 c.append.new.self c.loop-term-test.true c.term-item.is c.in_ok-append.ensures.appended c.in_ok-through_term.ensures
    ∙ c.loop-term.invariant
