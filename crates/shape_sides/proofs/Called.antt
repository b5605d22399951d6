-- Calls of what takes one value, by a walk over that value, and calls of builtins by how many members they have.
use Rattle.std.proofs.Common.{◌≡◌, ◌≢◌, ◌≤◌, ◌<◌, ℕ, List, [], ◌∷◌, length, map, get_or, None, Some, Bor, refl, sym, ap, arith}
use Rattle.sail_base.specs.declared.place.Place.{Place}
use Rattle.sail_types.specs.declared.members.Member.{Member}
use Rattle.sail_types.specs.declared.shapes.Shape.{Shape}
use Rattle.shape_rules.specs.declared.callees.Candidate.{Candidate}
use Rattle.shape_rules.specs.declared.error.ShapeError.{ShapeError}
use Rattle.shape_rules.specs.Findings.{behind, refused}
use Rattle.shape_rules.specs.Scopes.{Setting, Locals}
use Rattle.shape_rules.specs.Calls.{Elaborate, one_called, several_called, row_called, arguments_for, or_unit, member_candidate}
use Rattle.shape_walks.specs.declared.heads.Head.TheVariants as H
use Rattle.shape_walks.specs.Walks.{want_of, took, one_faults}
use Rattle.shape_walks.specs.Heads.{head_fault, head_walk, head_made}
use Rattle.shape_sides.proofs.Listed.{one_is, one_refused}

-- ---- one value

-- a call of a callee on one value, where it takes one
pub value_is : (place : Place) (f : Bor Candidate) (e : Elaborate) (setting : Setting) (locals : Locals) (want : Shape)
    → head_fault (H.One place f) 1 ≡ None
    → one_called place f.now (e ∷ []) setting locals want
    ≡ behind (one_faults (head_walk (H.One place f) 1 want) (e setting locals (want_of (head_walk (H.One place f) 1 want))))
    (head_made (H.One place f) setting want (took (head_walk (H.One place f) 1 want) (e setting locals (want_of (head_walk (H.One place f) 1 want)))))
value_is place f e setting locals want fits = one_is (H.One place f) (record { place = place; elaborate = e }) setting locals want fits

-- and where it takes another count
pub value_refused : (place : Place) (f : Bor Candidate) (e : Elaborate) (setting : Setting) (locals : Locals) (want : Shape) (error : ShapeError)
    → head_fault (H.One place f) 1 ≡ Some error → one_called place f.now (e ∷ []) setting locals want ≡ refused error
value_refused place f e setting locals want error other =
    one_refused (H.One place f) (record { place = place; elaborate = e }) setting locals want error other

-- ---- builtins

pub row_one : (place : Place) (name : List ℕ) (ms : List Member) (only : Member) (unit : Elaborate) (es : List Elaborate)
    (setting : Setting) (locals : Locals) (want : Shape) → 1 ≤ length ms → length ms < 2 → only ≡ get_or ms 0 only
    → row_called place name (map member_candidate ms) unit es setting locals want
    ≡ one_called place (member_candidate only) (arguments_for unit (member_candidate only).params es) setting locals want
row_one place name [] only unit es setting locals want some few same = absurd (omega arith)
row_one place name (m ∷ []) only unit es setting locals want some few same =
    ap (λ (x : Member). one_called place (member_candidate x) (arguments_for unit (member_candidate x).params es) setting locals want) (sym same)
row_one place name (m ∷ n ∷ ms) only unit es setting locals want some few same = absurd (omega arith)

pub row_several : (place : Place) (name : List ℕ) (ms : List Member) (unit : Elaborate) (es : List Elaborate) → length ms ≢ 1
    → row_called place name (map member_candidate ms) unit es ≡ several_called place name (map member_candidate ms) (or_unit unit es)
row_several place name [] unit es some = refl
row_several place name (m ∷ []) unit es some = absurd (some refl)
row_several place name (m ∷ n ∷ ms) unit es some = refl
