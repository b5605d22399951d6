-- Fields of a struct literal, one after the other, and the structs that have them.
use Rattle.std.proofs.Common.{◌≡◌, ℕ, List, [], ◌∷◌, ◌++◌, length, slice_get, Option, Some, None, refl, ap, append_assoc, arith}
use Rattle.std.proofs.lemmas.List.{append-nil}
use Rattle.sail_syntax.specs.declared.expressions.FieldValue.{FieldValue, out-FieldValue}
use Rattle.sail_syntax.specs.declared.expressions.Exp.TheFolds.{fold_out-FieldValue}
use Rattle.sail_types.specs.Shapes.{shape}
use Rattle.sail_types.specs.declared.shapes.Shape.{Shape}
use Rattle.sail_types.specs.declared.types.Typ.{Typ}
use Rattle.shape_rules.specs.Targets.{Part, TargetPart, SuffixPart, IndexPart}
use Rattle.shape_rules.specs.Values.{Named, also_named, only_one, FieldPart}
use Rattle.shape_rules.specs.Statements.{StatementPart, CasePart, RangePart, FurtherPart}
use Rattle.shape_rules.specs.Expressions.{exp_form, target_form, statement_form, suffix_form, case_form, field_form, index_form, range_form, further_form}
use Rattle.shape_walks.specs.Trees.{field_value}

-- fields behind others
abbrev pub named_behind : List ℕ → List Shape → Option Named → Option Named
named_behind places shapes None = None
named_behind places shapes (Some more) = Some (record { places = places ++ more.places; shapes = shapes ++ more.shapes })

pub named_more : (places : List ℕ) (shapes : List Shape) (place : ℕ) (typ : Typ) (more : Option Named)
    → named_behind (places ++ place ∷ []) (shapes ++ shape typ ∷ []) more
    ≡ named_behind places shapes (also_named (Some (record { place = place; typ = typ })) more)
named_more places shapes place typ None = refl
named_more places shapes place typ (Some more) = λ i. Some (record {
  places = append_assoc places (place ∷ []) more.places i;
  shapes = append_assoc shapes (shape typ ∷ []) more.shapes i;
})

pub named_all : (places : List ℕ) (shapes : List Shape)
    → named_behind places shapes (Some (record { places = []; shapes = [] })) ≡ Some (record { places = places; shapes = shapes })
named_all places shapes = λ i. Some (record { places = append-nil places i; shapes = append-nil shapes i })

-- a field's name is the written one
pub field_name : (f : FieldValue) → (field_value f).name ≡ (out-FieldValue f).name
field_name f = ap (λ (part : FieldPart). part.name)
    (fold_out-FieldValue Part TargetPart StatementPart SuffixPart CasePart FieldPart IndexPart RangePart FurtherPart
    exp_form target_form statement_form suffix_form case_form field_form index_form range_form further_form f)

-- the one of some places
pub one_place : (places : List ℕ) → length places ≡ 1 → only_one places ≡ slice_get places 0
one_place [] h = absurd (omega arith)
one_place (i ∷ []) h = refl
one_place (i ∷ j ∷ places) h = absurd (omega arith)

pub other_count : (places : List ℕ) → (length places ≡ 1 → ⊥) → only_one places ≡ None
other_count [] h = refl
other_count (i ∷ []) h = absurd (h refl)
other_count (i ∷ j ∷ places) h = refl
