-- Forms over two lists of expressions, one behind the other.
use Rattle.std.proofs.Common.{◌≡◌, ◌≢◌, ◌+◌, ℕ, suc, List, [], ◌∷◌, ◌++◌, length, map, Some, None}
use Rattle.std.proofs.Common.{refl, sym, ap, ◌∙◌, arith, length-append}
use Rattle.sail_syntax.specs.declared.expressions.Exp.{Exp}
use Rattle.sail_types.specs.declared.shapes.Shape.{Shape}
use Rattle.shape_rules.specs.declared.error.ShapeError.{ShapeError}
use Rattle.shape_rules.specs.Findings.{refused, behind}
use Rattle.shape_rules.specs.Scopes.{Setting, Locals}
use Rattle.shape_rules.specs.Calls.{Elaborate}
use Rattle.shape_rules.specs.Expressions.{part}
use Rattle.shape_rules.specs.Targets.{Part, elaborations}
use Rattle.shape_walks.specs.declared.heads.Head.{Head}
use Rattle.shape_walks.specs.declared.walks.Walk.{Walk}
use Rattle.shape_walks.specs.Walks.{each_taken, each_faults}
use Rattle.shape_walks.specs.Heads.{head_found, head_fault, head_walk, head_made, walked_from}
use Rattle.shape_walks.specs.Trees.{elaborates}
use Rattle.shape_walks.proofs.Walked.{taken_behind, faults_behind}
use Rattle.shape_walks.proofs.Formed.{head_walked, head_refused}

count_parts : (es : List Exp) → length (map part es) ≡ length es
count_parts [] = refl
count_parts (e ∷ es) = ap suc (count_parts es)

count_both : (front back : List Exp) → length (map part front ++ map part back) ≡ length front + length back
count_both front back =
    length-append (map part front) (map part back) ∙ (λ i. count_parts front i + count_parts back i)

both_elaborations : (front back : List Exp) → elaborations (map part front ++ map part back) ≡ elaborates front ++ elaborates back
both_elaborations [] back = refl
both_elaborations (e ∷ front) back = ap (λ (es : List Elaborate). (part e).elaborate ∷ es) (both_elaborations front back)

some_walked : (head : Head) (parts : List Part) (setting : Setting) (locals : Locals) (want : Shape) (count : ℕ)
    → length parts ≡ count → count ≢ 0 → head_fault head count ≡ None
    → head_found head parts setting locals want ≡ walked_from head (elaborations parts) setting locals want (head_walk head count want)
some_walked head [] setting locals want count many some fault = absurd (some (sym many))
some_walked head (one ∷ parts) setting locals want count many some fault =
    head_walked head one parts setting locals want (ap (head_fault head) many ∙ fault)
    ∙ ap (λ (n : ℕ). walked_from head (elaborations (one ∷ parts)) setting locals want (head_walk head n want)) many

some_refused : (head : Head) (parts : List Part) (setting : Setting) (locals : Locals) (want : Shape) (count : ℕ) (e : ShapeError)
    → length parts ≡ count → count ≢ 0 → head_fault head count ≡ Some e → head_found head parts setting locals want ≡ refused e
some_refused head [] setting locals want count e many some fault = absurd (some (sym many))
some_refused head (one ∷ parts) setting locals want count e many some fault =
    head_refused head one parts setting locals want e (ap (head_fault head) many ∙ fault)

none_found : (head : Head) (parts : List Part) (setting : Setting) (locals : Locals) (want : Shape)
    → length parts ≡ 0 → head_found head parts setting locals want ≡ head_found head [] setting locals want
none_found head [] setting locals want none = refl
none_found head (one ∷ parts) setting locals want none = absurd (omega (arith, none))

both_walked : (head : Head) (es fs : List Elaborate) (setting : Setting) (locals : Locals) (want : Shape) (w : Walk)
    → walked_from head (es ++ fs) setting locals want w
    ≡ behind (each_faults es setting locals w ++ each_faults fs setting locals (each_taken es setting locals w))
    (head_made head setting want (each_taken fs setting locals (each_taken es setting locals w)))
both_walked head es fs setting locals want w = λ i.
    behind (faults_behind es fs setting locals w i) (head_made head setting want (taken_behind es fs setting locals w i))

pub listed_is : (head : Head) (front back : List Exp) (setting : Setting) (locals : Locals) (want : Shape) (count : ℕ)
    → count ≡ length front + length back → count ≢ 0 → head_fault head count ≡ None
    → head_found head (map part front ++ map part back) setting locals want
    ≡ behind (each_faults (elaborates front) setting locals (head_walk head count want)
    ++ each_faults (elaborates back) setting locals (each_taken (elaborates front) setting locals (head_walk head count want)))
    (head_made head setting want
    (each_taken (elaborates back) setting locals (each_taken (elaborates front) setting locals (head_walk head count want))))
listed_is head front back setting locals want count many some fault =
    some_walked head (map part front ++ map part back) setting locals want count (count_both front back ∙ sym many) some fault
    ∙ ap (λ (es : List Elaborate). walked_from head es setting locals want (head_walk head count want)) (both_elaborations front back)
    ∙ both_walked head (elaborates front) (elaborates back) setting locals want (head_walk head count want)

pub listed_refused : (head : Head) (front back : List Exp) (setting : Setting) (locals : Locals) (want : Shape) (count : ℕ) (e : ShapeError)
    → count ≡ length front + length back → count ≢ 0 → head_fault head count ≡ Some e
    → head_found head (map part front ++ map part back) setting locals want ≡ refused e
listed_refused head front back setting locals want count e many some fault =
    some_refused head (map part front ++ map part back) setting locals want count e (count_both front back ∙ sym many) some fault

pub listed_bare : (head : Head) (front back : List Exp) (setting : Setting) (locals : Locals) (want : Shape) (count : ℕ)
    → count ≡ length front + length back → count ≡ 0
    → head_found head (map part front ++ map part back) setting locals want ≡ head_found head [] setting locals want
listed_bare head front back setting locals want count many none =
    none_found head (map part front ++ map part back) setting locals want (count_both front back ∙ sym many ∙ none)
