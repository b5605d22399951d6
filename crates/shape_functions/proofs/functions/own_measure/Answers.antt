use Rattle.std.proofs.Common.{◌≡◌, ℕ, true, List, Option, None, cond, find, is_some, option_copied, refl, sym, ap, ◌∙◌, subst, true≢false, IfOk, OnOk}
use Rattle.sail_types.specs.Sums.{and_then}
use Rattle.sail_syntax.specs.declared.definitions.Def.{Def}
use Rattle.sail_syntax.specs.declared.definitions.Def.TheVariants as D
use Rattle.sail_core.specs.declared.tree.Core.{Core}
use Rattle.sail_signatures.specs.Parts.{is_measure_of}
use Rattle.shape_rules.specs.Around.{setting_of}
use Rattle.shape_declarations.proofs.Found.{first_given}
use Rattle.shape_clauses.specs.Functions.{Measure, measure_in, measure_of, measure_core}
use Rattle.shape_functions.specs.Parts.{measure_written}
use Rattle.shape_functions.proofs.functions.own_measure.Goals as goal

one : (name : List ℕ) (d : Def) → measure_in name d ≡ cond (is_measure_of name d) (measure_written d) None
one name (D.Measure place own parameters value) = refl
one name d = refl

some : (name : List ℕ) (d : Def) → is_measure_of name d ≡ true → is_some (measure_written d) ≡ true
some name (D.Measure place own parameters value) h = refl
some name d h = absurd (true≢false (sym h))

-- the definition that is found is the first measure of the name
first : (found : Option Def) (name : List ℕ) (text : List Def) → found ≡ find (is_measure_of name) text
    → and_then found measure_written ≡ measure_of name text
first found name text h =
    ap (λ (d : Option Def). and_then d measure_written) h
    ∙ sym (first_given (is_measure_of name) measure_written (measure_in name) (measure_of name) refl (λ d ds. refl) (one name) (some name) text)

pub returns-clause-made : goal.returns-clause-made
returns-clause-made c =
    let setting = setting_of c.args.around.now in
    subst (λ (m : Option Measure). IfOk c.written_measure.result (λ (made : Option Core). made
    ≡ (measure_core setting c.args.params.now m c.args.next.now).it))
    (first (option_copied c.find_measure.result) c.args.name.now c.args.source.now.definitions.now c.find_measure.ensures)
    c.written_measure.ensures.made

pub returns-clause-next : goal.returns-clause-next
returns-clause-next c =
    let setting = setting_of c.args.around.now in
    subst (λ (m : Option Measure). OnOk c.written_measure.result (c.written_measure.new.next
    ≡ (measure_core setting c.args.params.now m c.args.next.now).next))
    (first (option_copied c.find_measure.result) c.args.name.now c.args.source.now.definitions.now c.find_measure.ensures)
    c.written_measure.ensures.next
