-- The local names of a part go out of scope at its end.
use Rattle.std.proofs.Common.{◌≡◌, ◌+◌, ◌-◌, ◌≤◌, suc, List, [], ◌∷◌, length, drop, sym, ap, ◌∙◌, arith}
use Rattle.std.proofs.lemmas.List.{drop-drop}
use Rattle.sail_syntax.specs.declared.name.Name.{Name}
use Rattle.sail_names.specs.Locals.{Local, constant, behind}
use Rattle.sail_names.proofs.Left.{drop_one}
use Rattle.used_names.specs.parts.Scopes.{IsInside}

-- the names in scope are inside of themselves
pub inside_itself : (locals : List Local) → IsInside locals locals
inside_itself locals = record { more = grind arith; same = grind arith }

pub inside_one : (local : Local) (inner outer : List Local) → IsInside inner outer → IsInside (local ∷ inner) outer
inside_one local inner outer h =
    let more : length outer ≤ length inner = h.more in
    let one : suc (length inner) - length outer ≡ (length inner - length outer) + 1 = omega arith in
    record {
      more = omega arith;
      same = ap (λ n. drop n (local ∷ inner)) one ∙ drop_one (length inner - length outer) local inner ∙ h.same;
    }

pub inside_more : (names : List Name) (inner outer : List Local) → IsInside inner outer → IsInside (behind names inner) outer
inside_more [] inner outer h = h
inside_more (name ∷ names) inner outer h = inside_more names (constant name ∷ inner) outer (inside_one (constant name) inner outer h)

-- inside of what is inside
pub inside_trans : (inner middle outer : List Local) → IsInside inner middle → IsInside middle outer → IsInside inner outer
inside_trans inner middle outer h k =
    let near : length middle ≤ length inner = h.more in
    let far : length outer ≤ length middle = k.more in
    let count : length inner - length outer ≡ (length inner - length middle) + (length middle - length outer) = omega arith in
    record {
      more = omega arith;
      same = ap (λ n. drop n inner) count
          ∙ sym (drop-drop (length middle - length outer) (length inner - length middle) inner)
          ∙ ap (drop (length middle - length outer)) h.same ∙ k.same;
    }

-- behind a part its names are out of scope
pub left : (inner outer : List Local) → IsInside inner outer → drop (length inner - length outer) inner ≡ outer
left inner outer h = h.same

pub left_behind : (names : List Name) (locals : List Local)
    → (length locals ≤ length (behind names locals)) × (drop (length (behind names locals) - length locals) (behind names locals) ≡ locals)
left_behind names locals =
    let h : IsInside (behind names locals) locals = inside_more names locals locals (inside_itself locals) in (h.more, h.same)

pub left_one : (local : Local) (locals : List Local) → drop (length (local ∷ locals) - length locals) (local ∷ locals) ≡ locals
left_one local locals = (inside_one local locals locals (inside_itself locals)).same
