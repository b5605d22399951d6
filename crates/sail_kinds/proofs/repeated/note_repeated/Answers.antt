use Rattle.std.proofs.Common.{◌≡◌, ℕ, ◌+◌, ◌∷◌, List, drop, Bool, not, ◌&&◌, ◌||◌, bytes_eq, is_some, sym, ap, ◌∙◌, subst}
use Rattle.std.proofs.lemmas.List.{drop_more}
use Rattle.std.specs.HashMap.{get_by}
use Rattle.sail_syntax.specs.declared.name.Name.{Name}
use Rattle.sail_kinds.specs.Failures.{first_failure}
use Rattle.sail_kinds.specs.Repeated.{clash_where, clashes_behind, is_none_of}
use Rattle.sail_kinds.proofs.Clashes.{clash_noted, none_clashed, stands_after}
use Rattle.sail_kinds.proofs.repeated.note_repeated.Goals as goal

pub loop-name-preserved : goal.loop-name-preserved
loop-name-preserved c =
    let names = c.args.names.now in
    let i = c.loop-name.name-index in
    let name = c.name-item.result in
    let before = c.loop-name.before in
    let now = c.insert.new.self in
    let stood : List ℕ → Bool = λ other. is_some (get_by (λ key. bytes_eq other key.now) before) in
    let stands : List ℕ → Bool = λ other. is_some (get_by (λ key. bytes_eq other key.now) now) in
    let is : (other : List ℕ) → stands other ≡ (bytes_eq name.text other || stood other) =
    subst (λ (text : List ℕ). (other : List ℕ) → stands other ≡ (bytes_eq text other || stood other)) c.as_str-text.ensures
    (stands_after before now c.as_str-text.result.now c.in_ok-insert.ensures.updates) in
    let rest : drop i names ≡ name ∷ drop (i + 1) names =
    drop_more names i name c.loop-name-test.true ∙ ap (λ (first : Name). first ∷ drop (i + 1) names) (sym c.name-item.is) in
    let found : c.contains_key-stood.result ≡ stood name.text = c.contains_key-stood.ensures ∙ ap stood c.as_str-text.ensures in
    let noted : c.note_where.new.first.error ≡ first_failure c.loop-name.first.error (clash_where (stood name.text) name) =
    c.in_ok-note_where.ensures ∙ ap (λ (b : Bool). first_failure c.loop-name.first.error (clash_where b name)) found in record {
      failures = ap (λ kept. first_failure kept (clashes_behind stands (drop (i + 1) names))) noted
          ∙ clash_noted c.loop-name.first.error stood stands name (drop (i + 1) names) is
          ∙ ap (λ (ns : List Name). first_failure c.loop-name.first.error (clashes_behind stood ns)) (sym rest)
          ∙ c.loop-name.invariant.failures;
      none = ap (λ b. b && is_none_of (clashes_behind stands (drop (i + 1) names)))
          (c.both-is_none.ensures ∙ ap (λ (b : Bool). c.loop-name.is_none && not b) found)
          ∙ none_clashed c.loop-name.is_none stood stands name (drop (i + 1) names) is
          ∙ ap (λ (ns : List Name). c.loop-name.is_none && is_none_of (clashes_behind stood ns)) (sym rest)
          ∙ c.loop-name.invariant.none;
    }
