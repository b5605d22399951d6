-- Forms over a list of parts.
use Rattle.std.proofs.Common.{◌≡◌, ◌≢◌, ℕ, suc, List, [], ◌∷◌, length, map, Some, None, refl, sym, ap, ◌∙◌}
use Rattle.std.proofs.lemmas.List.{append-nil}
use Rattle.sail_syntax.specs.declared.patterns.Pat.{Pat}
use Rattle.sail_types.specs.declared.shapes.Shape.{Shape}
use Rattle.shape_rules.specs.declared.error.ShapeError.{ShapeError}
use Rattle.shape_rules.specs.Findings.{Found, refused, behind}
use Rattle.shape_rules.specs.Scopes.{Setting, Locals}
use Rattle.shape_rules.specs.Sides.{read_side}
use Rattle.shape_rules.specs.Targets.{Part}
use Rattle.shape_walks.specs.declared.heads.Head.{Head}
use Rattle.shape_walks.specs.declared.walks.Walk.{Walk}
use Rattle.shape_walks.specs.Walks.{want_of, took, one_faults, each_taken, each_faults}
use Rattle.shape_walks.specs.Heads.{head_found, head_fault, head_walk, head_made, walked_from}
use Rattle.shape_walks.proofs.Formed.{head_walked, head_refused}
use Rattle.shape_sides.specs.Trees.{elaborates}

pub count_parts : (ps : List Pat) → length (map read_side ps) ≡ length ps
count_parts [] = refl
count_parts (p ∷ ps) = ap suc (count_parts ps)

pub listed_is : (head : Head) (ps : List Pat) (setting : Setting) (locals : Locals) (want : Shape) (count : ℕ)
    → count ≡ length ps → count ≢ 0 → head_fault head count ≡ None
    → head_found head (map read_side ps) setting locals want
    ≡ behind (each_faults (elaborates ps) setting locals (head_walk head count want))
    (head_made head setting want (each_taken (elaborates ps) setting locals (head_walk head count want)))
listed_is head [] setting locals want count many some fault = absurd (some many)
listed_is head (p ∷ ps) setting locals want count many some fault =
    let same : length (map read_side (p ∷ ps)) ≡ count = count_parts (p ∷ ps) ∙ sym many in
    head_walked head (read_side p) (map read_side ps) setting locals want (ap (head_fault head) same ∙ fault)
    ∙ ap (λ (n : ℕ). walked_from head (elaborates (p ∷ ps)) setting locals want (head_walk head n want)) same

pub listed_refused : (head : Head) (ps : List Pat) (setting : Setting) (locals : Locals) (want : Shape) (count : ℕ) (e : ShapeError)
    → count ≡ length ps → count ≢ 0 → head_fault head count ≡ Some e → head_found head (map read_side ps) setting locals want ≡ refused e
listed_refused head [] setting locals want count e many some fault = absurd (some many)
listed_refused head (p ∷ ps) setting locals want count e many some fault =
    let same : length (map read_side (p ∷ ps)) ≡ count = count_parts (p ∷ ps) ∙ sym many in
    head_refused head (read_side p) (map read_side ps) setting locals want e (ap (head_fault head) same ∙ fault)

pub listed_bare : (head : Head) (ps : List Pat) (setting : Setting) (locals : Locals) (want : Shape) (count : ℕ)
    → count ≡ length ps → count ≡ 0 → head_found head (map read_side ps) setting locals want ≡ head_found head [] setting locals want
listed_bare head [] setting locals want count many none = refl
listed_bare head (p ∷ ps) setting locals want count many none = absurd (cc)

-- a form over one part
pub one_is : (head : Head) (a : Part) (setting : Setting) (locals : Locals) (want : Shape) → head_fault head 1 ≡ None
    → head_found head (a ∷ []) setting locals want
    ≡ behind (one_faults (head_walk head 1 want) (a.elaborate setting locals (want_of (head_walk head 1 want))))
    (head_made head setting want (took (head_walk head 1 want) (a.elaborate setting locals (want_of (head_walk head 1 want)))))
one_is head a setting locals want fault =
    let w : Walk = head_walk head 1 want in
    let x : Found = a.elaborate setting locals (want_of w) in
    head_walked head a [] setting locals want fault
    ∙ ap (λ (es : List ShapeError). behind es (head_made head setting want (took w x))) (append-nil (one_faults w x))

pub one_refused : (head : Head) (a : Part) (setting : Setting) (locals : Locals) (want : Shape) (e : ShapeError)
    → head_fault head 1 ≡ Some e → head_found head (a ∷ []) setting locals want ≡ refused e
one_refused head a setting locals want e fault = head_refused head a [] setting locals want e fault
