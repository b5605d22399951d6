-- Targets that are calls, as the definitions see them, and those that aren't.
use Rattle.std.proofs.Common.{◌≡◌, List, map, Some, None, refl, sym, ap, ◌∙◌}
use Rattle.sail_syntax.specs.declared.name.Name.{Name}
use Rattle.sail_syntax.specs.declared.expressions.Exp.{Exp}
use Rattle.sail_syntax.specs.declared.expressions.Exp.TheOpen as E
use Rattle.sail_syntax.specs.declared.expressions.Exp.TheOpen.{LExp-F}
use Rattle.sail_syntax.specs.declared.expressions.Exp.TheFolds.{fold_out-LExp, fold_out-Target, map-LExp}
use Rattle.sail_syntax.specs.declared.expressions.Exp.TheViews.{out-roll-LExp, roll-out-LExp}
use Rattle.sail_syntax.specs.declared.expressions.LExp.{LExp, out-LExp, roll-LExp}
use Rattle.sail_syntax.specs.declared.expressions.LExp.TheVariants as V
use Rattle.sail_syntax.specs.declared.expressions.Stmt.{Stmt}
use Rattle.sail_syntax.specs.declared.expressions.Suffix.{Suffix}
use Rattle.sail_syntax.specs.declared.expressions.Case.{Case}
use Rattle.sail_syntax.specs.declared.expressions.FieldValue.{FieldValue}
use Rattle.sail_syntax.specs.declared.expressions.Index.{Index}
use Rattle.sail_syntax.specs.declared.expressions.Range.{Range}
use Rattle.sail_syntax.specs.declared.expressions.Target.{Target, out-Target}
use Rattle.shape_rules.specs.Scopes.{Setting, Locals}
use Rattle.shape_rules.specs.Targets.{Part, TargetPart, SuffixPart, IndexPart, call_aim}
use Rattle.shape_rules.specs.Values.{FieldPart}
use Rattle.shape_rules.specs.Statements.{StatementPart, CasePart, RangePart, FurtherPart}
use Rattle.shape_rules.specs.Expressions.{part, exp_form, target_form, statement_form, suffix_form, case_form, field_form}
use Rattle.shape_rules.specs.Expressions.{index_form, range_form, further_form}
use Rattle.shape_walks.specs.Trees.{target_part, statement_part, suffix_part, case_part, field_value, index_part, range_part, further_part}

-- a target by its form, its parts as the definitions see them
abbrev seen : LExp-F Exp LExp Stmt Suffix Case FieldValue Index Range Target → TargetPart
seen form = target_form (map-LExp Exp LExp Stmt Suffix Case FieldValue Index Range Target
    Part TargetPart StatementPart SuffixPart CasePart FieldPart IndexPart RangePart FurtherPart
    part target_part statement_part suffix_part case_part field_value index_part range_part further_part form)

target_seen : (l : LExp) → target_part l ≡ seen (out-LExp l)
target_seen l = fold_out-LExp Part TargetPart StatementPart SuffixPart CasePart FieldPart IndexPart RangePart FurtherPart
    exp_form target_form statement_form suffix_form case_form field_form index_form range_form further_form l

pub call_target : (l : LExp) (name : Name) (args : List Exp) → l ≡ V.ToCall name args
    → target_part l ≡ record { place = name.place; aim = call_aim name (map part args); call = Some (name, map part args) }
call_target l name args is =
    target_seen l ∙ ap seen (ap out-LExp (is ∙ sym (V.rolls-ToCall name args)) ∙ out-roll-LExp (E.ToCall name args))

none_of : (l : LExp) (form : LExp-F Exp LExp Stmt Suffix Case FieldValue Index Range Target) → l ≡ roll-LExp form
    → ((name : Name) (args : List Exp) → l ≡ V.ToCall name args → ⊥) → (seen form).call ≡ None
none_of l (E.ToName name) is other = refl
none_of l (E.ToCall name args) is other = absurd (other name args (is ∙ V.rolls-ToCall name args))
none_of l (E.ToTuple place targets) is other = refl
none_of l (E.ToPart first base suffixes) is other = refl

pub no_call : (l : LExp) → ((name : Name) (args : List Exp) → l ≡ V.ToCall name args → ⊥) → (target_part l).call ≡ None
no_call l other = ap (λ (p : TargetPart). p.call) (target_seen l) ∙ none_of l (out-LExp l) (sym (roll-out-LExp l)) other

-- a further target stands where the code has it
further_is : (f : Target) → further_part f
    ≡ record { place = (out-Target f).place; to = target_part (out-Target f).to }
further_is f = fold_out-Target Part TargetPart StatementPart SuffixPart CasePart FieldPart IndexPart RangePart FurtherPart
    exp_form target_form statement_form suffix_form case_form field_form index_form range_form further_form f

pub further_to : (f : Target) (setting : Setting) (locals : Locals) (l : LExp) → l ≡ (out-Target f).to
    → (target_part l).aim setting locals ≡ (further_part f).to.aim setting locals
further_to f setting locals l same =
    ap (λ (to : LExp). (target_part to).aim setting locals) same ∙ sym (ap (λ (p : FurtherPart). p.to.aim setting locals) (further_is f))

pub further_place : (f : Target) → (out-Target f).place ≡ (further_part f).place
further_place f = sym (ap (λ (p : FurtherPart). p.place) (further_is f))
