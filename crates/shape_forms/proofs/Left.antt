-- The local names of a part go out of scope at its end.
use Rattle.std.proofs.Common.{◌≡◌, ℕ, ◌+◌, ◌-◌, ◌≤◌, suc, List, [], ◌∷◌, ◌++◌, reverse, length, drop}
use Rattle.std.proofs.Common.{sym, ap, ◌∙◌, subst, arith}
use Rattle.std.proofs.lemmas.Grind.{common_steps}
use Rattle.std.proofs.lemmas.List.{drop-drop, reverse-append, append_assoc}
use Rattle.shape_rules.specs.declared.locals.Local.{Local}
use Rattle.shape_rules.specs.Scopes.{under}
use Rattle.shape_forms.specs.Steps.{IsInside}

-- the names in scope are inside of themselves
pub inside_itself : (locals : List Local) → IsInside locals locals
inside_itself locals = record { more = grind arith; same = grind arith }

drop_one : (n : ℕ) (local : Local) (inner : List Local) → drop (n + 1) (local ∷ inner) ≡ drop n inner
drop_one n local inner = grind (arith, common_steps)

pub inside_one : (local : Local) (inner outer : List Local) → IsInside inner outer → IsInside (local ∷ inner) outer
inside_one local inner outer h =
    let more : length outer ≤ length inner = h.more in
    let one : suc (length inner) - length outer ≡ (length inner - length outer) + 1 = omega arith in
    record {
      more = omega arith;
      same = ap (λ n. drop n (local ∷ inner)) one ∙ drop_one (length inner - length outer) local inner ∙ h.same;
    }

pub under_first : (first : Local) (found locals : List Local) → under (first ∷ found) locals ≡ under found (first ∷ locals)
under_first first found locals =
    ap (λ all. all ++ locals) (reverse-append (first ∷ []) found) ∙ append_assoc (reverse found) (first ∷ []) locals

pub inside_more : (found inner outer : List Local) → IsInside inner outer → IsInside (under found inner) outer
inside_more [] inner outer h = h
inside_more (first ∷ found) inner outer h =
    subst (λ (all : List Local). IsInside all outer) (sym (under_first first found inner))
    (inside_more found (first ∷ inner) outer (inside_one first inner outer h))

-- inside of what is inside
pub inside_trans : (inner middle outer : List Local) → IsInside inner middle → IsInside middle outer → IsInside inner outer
inside_trans inner middle outer h k =
    let near : length middle ≤ length inner = h.more in
    let far : length outer ≤ length middle = k.more in
    let count : length inner - length outer ≡ (length inner - length middle) + (length middle - length outer) = omega arith in
    record {
      more = omega arith;
      same = ap (λ n. drop n inner) count
          ∙ sym (drop-drop (length middle - length outer) (length inner - length middle) inner)
          ∙ ap (drop (length middle - length outer)) h.same ∙ k.same;
    }

-- behind a part its names are out of scope
pub left : (inner outer : List Local) → IsInside inner outer → drop (length inner - length outer) inner ≡ outer
left inner outer h = h.same

pub left_behind : (found locals : List Local)
    → (length locals ≤ length (under found locals)) × (drop (length (under found locals) - length locals) (under found locals) ≡ locals)
left_behind found locals =
    let h : IsInside (under found locals) locals = inside_more found locals locals (inside_itself locals) in (h.more, h.same)

pub left_one : (local : Local) (locals : List Local) → drop (length (local ∷ locals) - length locals) (local ∷ locals) ≡ locals
left_one local locals = (inside_one local locals locals (inside_itself locals)).same
