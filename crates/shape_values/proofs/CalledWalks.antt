-- Calls of what takes one value, by a walk over that value, and calls of builtins by how many members they have.
use Rattle.std.proofs.Common.{◌≡◌, ◌≢◌, ◌+◌, ◌≤◌, ◌<◌, ℕ, List, [], ◌∷◌, ◌++◌, length, map, get_or, None, Some, Bor, refl, sym}
use Rattle.std.proofs.Common.{ap, ◌∙◌, arith}
use Rattle.std.proofs.lemmas.List.{append-nil}
use Rattle.sail_base.specs.declared.place.Place.{Place}
use Rattle.sail_syntax.specs.declared.expressions.Exp.{Exp}
use Rattle.sail_syntax.specs.declared.words.Brackets.TheVariants as B
use Rattle.sail_types.specs.declared.members.Member.{Member}
use Rattle.sail_types.specs.declared.shapes.Shape.{Shape}
use Rattle.shape_rules.specs.declared.callees.Candidate.{Candidate}
use Rattle.shape_rules.specs.declared.error.ShapeError.{ShapeError}
use Rattle.shape_rules.specs.Findings.{Found, behind, refused}
use Rattle.shape_rules.specs.Scopes.{Setting, Locals}
use Rattle.shape_rules.specs.Calls.{Elaborate, one_called, several_called, row_called, arguments_for, or_unit, member_candidate}
use Rattle.shape_rules.specs.Expressions.{part}
use Rattle.shape_rules.specs.Targets.{Part, elaborations}
use Rattle.shape_rules.specs.Values.{as_one, group_found}
use Rattle.shape_walks.specs.declared.heads.Head.{Head}
use Rattle.shape_walks.specs.declared.heads.Head.TheVariants as H
use Rattle.shape_walks.specs.declared.walks.Walk.{Walk}
use Rattle.shape_walks.specs.Walks.{want_of, took, one_faults}
use Rattle.shape_walks.specs.Heads.{head_found, head_fault, head_walk, head_made}
use Rattle.shape_walks.proofs.Formed.{head_walked, head_refused}

-- ---- one value

-- a form over one part, by what is found of it
abbrev alone : Place → Elaborate → List Part
alone place e = record { place = place; elaborate = e } ∷ []

alone_walked : (head : Head) (place : Place) (e : Elaborate) (setting : Setting) (locals : Locals) (want : Shape) → head_fault head 1 ≡ None
    → head_found head (alone place e) setting locals want
    ≡ behind (one_faults (head_walk head 1 want) (e setting locals (want_of (head_walk head 1 want))))
    (head_made head setting want (took (head_walk head 1 want) (e setting locals (want_of (head_walk head 1 want)))))
alone_walked head place e setting locals want fits =
    let w : Walk = head_walk head 1 want in
    let a : Found = e setting locals (want_of w) in
    let one : Part = record { place = place; elaborate = e } in
    head_walked head one [] setting locals want fits
    ∙ ap (λ (faults : List ShapeError). behind faults (head_made head setting want (took w a))) (append-nil (one_faults w a))

alone_refused : (head : Head) (place : Place) (e : Elaborate) (setting : Setting) (locals : Locals) (want : Shape) (error : ShapeError)
    → head_fault head 1 ≡ Some error → head_found head (alone place e) setting locals want ≡ refused error
alone_refused head place e setting locals want error other =
    head_refused head (record { place = place; elaborate = e }) [] setting locals want error other

-- a call of a callee on one value, where it takes one and where it doesn't
pub value_walked : (place : Place) (f : Bor Candidate) (e : Elaborate) (setting : Setting) (locals : Locals) (want : Shape)
    → head_fault (H.One place f) 1 ≡ None
    → one_called place f.now (e ∷ []) setting locals want
    ≡ behind (one_faults (head_walk (H.One place f) 1 want) (e setting locals (want_of (head_walk (H.One place f) 1 want))))
    (head_made (H.One place f) setting want (took (head_walk (H.One place f) 1 want) (e setting locals (want_of (head_walk (H.One place f) 1 want)))))
value_walked place f e setting locals want fits = alone_walked (H.One place f) place e setting locals want fits

pub value_refused : (place : Place) (f : Bor Candidate) (e : Elaborate) (setting : Setting) (locals : Locals) (want : Shape) (error : ShapeError)
    → head_fault (H.One place f) 1 ≡ Some error → one_called place f.now (e ∷ []) setting locals want ≡ refused error
value_refused place f e setting locals want error other = alone_refused (H.One place f) place e setting locals want error other

-- arguments as one value: the one of the first list, the one of the second, and a tuple of another count
pub one_front : (place : Place) (front back : List Exp) (only : Exp) → 1 ≤ length front → length front < 2 → length back < 1 → only ≡ get_or front 0 only
    → as_one place (map part front ++ map part back) ≡ part only
one_front place [] back only some few none same = absurd (omega arith)
one_front place (e ∷ []) [] only some few none same = ap part (sym same)
one_front place (e ∷ []) (f ∷ back) only some few none same = absurd (omega arith)
one_front place (e ∷ d ∷ front) back only some few none same = absurd (omega arith)

pub one_back : (place : Place) (front back : List Exp) (only : Exp) → length front < 1 → 1 ≤ length back → length back < 2 → only ≡ get_or back 0 only
    → as_one place (map part front ++ map part back) ≡ part only
one_back place (e ∷ front) back only none some few same = absurd (omega arith)
one_back place [] [] only none some few same = absurd (omega arith)
one_back place [] (e ∷ []) only none some few same = ap part (sym same)
one_back place [] (e ∷ d ∷ back) only none some few same = absurd (omega arith)

pub several_value : (place : Place) (front back : List Exp) (setting : Setting) (locals : Locals) (want : Shape) → length front + length back ≢ 1
    → (as_one place (map part front ++ map part back)).elaborate setting locals want
    ≡ group_found place B.Tuple (elaborations (map part front ++ map part back)) setting locals want
several_value place [] [] setting locals want other = refl
several_value place [] (e ∷ []) setting locals want other = absurd (other refl)
several_value place [] (e ∷ d ∷ back) setting locals want other = refl
several_value place (e ∷ []) [] setting locals want other = absurd (other refl)
several_value place (e ∷ []) (d ∷ back) setting locals want other = refl
several_value place (e ∷ d ∷ front) back setting locals want other = refl

-- ---- builtins

pub row_one : (place : Place) (name : List ℕ) (members : List Member) (only : Member) (unit : Elaborate) (args : List Elaborate)
    (setting : Setting) (locals : Locals) (want : Shape) → 1 ≤ length members → length members < 2 → only ≡ get_or members 0 only
    → row_called place name (map member_candidate members) unit args setting locals want
    ≡ one_called place (member_candidate only) (arguments_for unit (member_candidate only).params args) setting locals want
row_one place name [] only unit args setting locals want some few same = absurd (omega arith)
row_one place name (m ∷ []) only unit args setting locals want some few same =
    ap (λ (x : Member). one_called place (member_candidate x) (arguments_for unit (member_candidate x).params args) setting locals want) (sym same)
row_one place name (m ∷ n ∷ members) only unit args setting locals want some few same = absurd (omega arith)

pub row_several : (place : Place) (name : List ℕ) (members : List Member) (unit : Elaborate) (args : List Elaborate)
    (setting : Setting) (locals : Locals) (want : Shape) → length members ≢ 1
    → row_called place name (map member_candidate members) unit args setting locals want
    ≡ several_called place name (map member_candidate members) (or_unit unit args) setting locals want
row_several place name [] unit args setting locals want other = refl
row_several place name (m ∷ []) unit args setting locals want other = absurd (other refl)
row_several place name (m ∷ n ∷ members) unit args setting locals want other = refl
