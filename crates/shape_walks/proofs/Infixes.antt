-- Operators between two operands find what the definitions find, by a walk whose plan turns behind the left operand.
use Rattle.std.proofs.Common.{◌≡◌, Bool, true, false, ◌&&◌, is_some, if◌then◌else◌, List, [], ◌∷◌, ◌++◌, Option, Some, None}
use Rattle.std.proofs.Common.{refl, sym, ap, ◌∙◌}
use Rattle.std.proofs.lemmas.List.{append-nil}
use Rattle.sail_base.specs.declared.place.Place.{Place}
use Rattle.sail_base.specs.declared.operators.Operator.{Operator}
use Rattle.sail_types.specs.declared.shapes.Shape.{Shape, out-Shape}
use Rattle.sail_types.specs.declared.shapes.Shape.TheVariants as V
use Rattle.sail_core.specs.declared.tree.Kind.{Kind}
use Rattle.shape_rules.specs.declared.error.ShapeError.{ShapeError}
use Rattle.shape_rules.specs.declared.error.ShapeError.TheVariants as error
use Rattle.shape_rules.specs.Findings.{Found, behind, refused}
use Rattle.shape_rules.specs.Scopes.{Setting, Locals}
use Rattle.shape_rules.specs.Calls.{several_called, operator_members, operator_text, is_unsure_of}
use Rattle.shape_rules.specs.Targets.{Part}
use Rattle.shape_rules.specs.Values.{infix_found, infix_as, logical_kind, logical_found, is_truth_form}
use Rattle.shape_rules.specs.Values.{is_variable_form, undecided}
use Rattle.shape_walks.specs.declared.heads.Head.TheVariants as H
use Rattle.shape_walks.specs.declared.walks.Plan.TheVariants as P
use Rattle.shape_walks.specs.declared.walks.Walk.{Walk}
use Rattle.shape_walks.specs.Walks.{want_of, taken, took, one_faults}
use Rattle.shape_walks.specs.Heads.{head_walk, head_made}
use Rattle.shape_walks.specs.Calls.{turned, infix_made, first_is_truth, first_is_variable, truths_of}
use Rattle.shape_walks.proofs.Formed.{several_walked}

-- behind the left operand
behind_left : Found → Walk
behind_left a = record { plan = P.Each []; shapes = a.shape ∷ []; cores = a.core ∷ []; is_unsure = is_unsure_of a }

turned_by : Option Kind → Bool → Walk → Walk
turned_by kind truth w = if is_some kind && truth then record w { plan = P.Each (V.Never ∷ V.Bool ∷ []) } else w

made_by : Place → Operator → Setting → Shape → Option Kind → Bool → Bool → Walk → Found
made_by place operator setting want kind truth variable w =
    if is_some kind && truth then truths_of place want w.cores kind
    else if is_some kind && variable then refused (error.NoMember place (operator_text operator))
    else head_made (H.Infix place operator) setting want w

-- a left operand, and the right one as it is wanted
both_by : Place → Operator → Part → Found → Setting → Locals → Shape → Option Kind → Bool → Bool → Bool → Found
both_by place operator b a setting locals want kind truth again variable =
    behind (a.faults ++ (b.elaborate setting locals (want_of (turned_by kind truth (behind_left a)))).faults)
    (made_by place operator setting want kind again variable
    (took (turned_by kind truth (behind_left a)) (b.elaborate setting locals (want_of (turned_by kind truth (behind_left a))))))

members_looked : (place : Place) (operator : Operator) (a b : Part) (setting : Setting) (locals : Locals) (want : Shape)
    → several_called place (operator_text operator) (operator_members setting operator) (a.elaborate ∷ b.elaborate ∷ []) setting locals want
    ≡ behind ((a.elaborate setting locals V.Never).faults ++ (b.elaborate setting locals V.Never).faults)
    (head_made (H.Infix place operator) setting want (took (behind_left (a.elaborate setting locals V.Never)) (b.elaborate setting locals V.Never)))
unfolding behind_left head_made taken want_of one_faults
members_looked place operator a b setting locals want =
    let x : Found = a.elaborate setting locals V.Never in
    let y : Found = b.elaborate setting locals V.Never in
    several_walked place (operator_text operator) (operator_members setting operator) (a.elaborate ∷ b.elaborate ∷ []) setting locals want
    ∙ ap (λ (fs : List ShapeError). behind (x.faults ++ fs) (head_made (H.Infix place operator) setting want (took (behind_left x) y)))
    (append-nil y.faults)

-- on no truth
other_by : (place : Place) (operator : Operator) (a b : Part) (setting : Setting) (locals : Locals) (want : Shape) (kind : Kind) (variable : Bool)
    → (if variable then undecided place operator (a.elaborate setting locals V.Never) (b.elaborate setting locals V.Never)
    else several_called place (operator_text operator) (operator_members setting operator) (a.elaborate ∷ b.elaborate ∷ []) setting locals want)
    ≡ both_by place operator b (a.elaborate setting locals V.Never) setting locals want (Some kind) false false variable
unfolding both_by made_by turned_by behind_left taken want_of
other_by place operator a b setting locals want kind true = refl
other_by place operator a b setting locals want kind false = members_looked place operator a b setting locals want

some_by : (place : Place) (operator : Operator) (a b : Part) (setting : Setting) (locals : Locals) (want : Shape) (kind : Kind) (truth : Bool)
    → is_truth_form (out-Shape (a.elaborate setting locals V.Never).shape) ≡ truth
    → infix_as place operator a b (Some kind) setting locals want
    ≡ both_by place operator b (a.elaborate setting locals V.Never) setting locals want (Some kind) truth truth
    (is_variable_form (out-Shape (a.elaborate setting locals V.Never).shape))
unfolding both_by made_by turned_by behind_left taken want_of
some_by place operator a b setting locals want kind true e =
    ap (λ (t : Bool). if t then logical_found place kind want (a.elaborate setting locals V.Never) (b.elaborate setting locals V.Bool)
    else if is_variable_form (out-Shape (a.elaborate setting locals V.Never).shape)
    then undecided place operator (a.elaborate setting locals V.Never) (b.elaborate setting locals V.Never)
    else several_called place (operator_text operator) (operator_members setting operator) (a.elaborate ∷ b.elaborate ∷ []) setting locals want) e
some_by place operator a b setting locals want kind false e =
    ap (λ (t : Bool). if t then logical_found place kind want (a.elaborate setting locals V.Never) (b.elaborate setting locals V.Bool)
    else if is_variable_form (out-Shape (a.elaborate setting locals V.Never).shape)
    then undecided place operator (a.elaborate setting locals V.Never) (b.elaborate setting locals V.Never)
    else several_called place (operator_text operator) (operator_members setting operator) (a.elaborate ∷ b.elaborate ∷ []) setting locals want) e
    ∙ other_by place operator a b setting locals want kind (is_variable_form (out-Shape (a.elaborate setting locals V.Never).shape))

kind_by : (place : Place) (operator : Operator) (a b : Part) (setting : Setting) (locals : Locals) (want : Shape) (kind : Option Kind) (truth : Bool)
    → is_truth_form (out-Shape (a.elaborate setting locals V.Never).shape) ≡ truth
    → infix_as place operator a b kind setting locals want
    ≡ both_by place operator b (a.elaborate setting locals V.Never) setting locals want kind truth truth
    (is_variable_form (out-Shape (a.elaborate setting locals V.Never).shape))
unfolding both_by made_by turned_by behind_left taken want_of
kind_by place operator a b setting locals want None truth e = members_looked place operator a b setting locals want
kind_by place operator a b setting locals want (Some kind) truth e = some_by place operator a b setting locals want kind truth e

-- the left operand stands first, whatever is wanted of the right one
first_again : (kind : Option Kind) (truth : Bool) (a b : Found)
    → first_is_truth (took (turned_by kind truth (behind_left a)) b).shapes ≡ is_truth_form (out-Shape a.shape)
unfolding turned_by behind_left taken
first_again None truth a b = refl
first_again (Some kind) true a b = refl
first_again (Some kind) false a b = refl

variable_again : (kind : Option Kind) (truth : Bool) (a b : Found)
    → first_is_variable (took (turned_by kind truth (behind_left a)) b).shapes ≡ is_variable_form (out-Shape a.shape)
unfolding turned_by behind_left taken
variable_again None truth a b = refl
variable_again (Some kind) true a b = refl
variable_again (Some kind) false a b = refl

-- it is wanted as no parameter
faults_again : (kind : Option Kind) (truth : Bool) (a b : Found) → one_faults (turned_by kind truth (behind_left a)) b ≡ b.faults
unfolding turned_by behind_left one_faults
faults_again None truth a b = refl
faults_again (Some kind) true a b = refl
faults_again (Some kind) false a b = refl

-- an operator between two operands
pub infix_walked : (place : Place) (operator : Operator) (a b : Part) (setting : Setting) (locals : Locals) (want : Shape) (w v : Walk)
    → w ≡ took (head_walk (H.Infix place operator) 2 want) (a.elaborate setting locals (want_of (head_walk (H.Infix place operator) 2 want)))
    → v ≡ turned operator w
    → infix_found place operator a b setting locals want
    ≡ behind (one_faults (head_walk (H.Infix place operator) 2 want) (a.elaborate setting locals (want_of (head_walk (H.Infix place operator) 2 want)))
    ++ one_faults v (b.elaborate setting locals (want_of v)))
    (infix_made place operator setting want (took v (b.elaborate setting locals (want_of v))))
unfolding both_by made_by turned_by behind_left taken want_of head_walk turned infix_made one_faults
infix_walked place operator a b setting locals want w v first second =
    let x : Found = a.elaborate setting locals V.Never in
    let truth : Bool = is_truth_form (out-Shape x.shape) in
    let kind : Option Kind = logical_kind operator in
    let behind_it : Walk = turned_by kind truth (behind_left x) in
    let right : Found = b.elaborate setting locals (want_of behind_it) in
    let same : v ≡ turned_by kind truth (behind_left x) = second ∙ ap (turned operator) first in
    kind_by place operator a b setting locals want kind truth refl
    ∙ (λ j. both_by place operator b x setting locals want kind truth (sym (first_again kind truth x right) j)
    (sym (variable_again kind truth x right) j))
    ∙ ap (λ (faults : List ShapeError). behind (x.faults ++ faults) (infix_made place operator setting want (took behind_it right)))
    (sym (faults_again kind truth x right))
    ∙ ap (λ (u : Walk). behind (x.faults ++ one_faults u (b.elaborate setting locals (want_of u)))
    (infix_made place operator setting want (took u (b.elaborate setting locals (want_of u))))) (sym same)
