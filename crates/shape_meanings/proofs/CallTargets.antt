-- `f(a) = e` is the call `f(a, e)`.
use Rattle.std.proofs.Common.{◌≡◌, List, [], ◌∷◌, ◌++◌, sym, ◌∙◌}
use Rattle.sail_types.specs.declared.values.Value.{Value}
use Rattle.sail_syntax.specs.declared.name.Name.{Name}
use Rattle.sail_core.specs.Run.{Now, gives, goes_on, in_turn, ◌then◌}
use Rattle.sail_meaning.specs.World as Source
use Rattle.sail_meaning.specs.World.{Piece}
use Rattle.sail_meaning.specs.Expressions.{each}
use Rattle.sail_meaning.specs.Targets.{assigned, call_spot}
use Rattle.shape_rules.specs.Scopes.{Setting, Locals}
use Rattle.shape_rules.specs.Calls.{Elaborate}
use Rattle.shape_meanings.specs.Parts.{IsRight}
use Rattle.shape_meanings.proofs.Operators.{one_turn, right_via}
use Rattle.shape_meanings.proofs.Suffixes.{then_then}

-- several arguments and one more
one_behind : (ms : List Source.Meaning) (mv : Source.Meaning) (w : Source.World) (now : Now Value) (g : List Value → Piece Value)
    → goes_on (in_turn (each (ms ++ mv ∷ []) w) now) g ≡ goes_on (in_turn (each ms w) now) (λ vs. mv w then λ v. g (vs ++ v ∷ []))
one_behind [] mv w now g = sym (one_turn (mv w now) g)
one_behind (m ∷ ms) mv w now g =
    let all : Piece (List Value) = in_turn (each (ms ++ mv ∷ []) w) in
    let most : Piece (List Value) = in_turn (each ms w) in
    then_then (m w now) (λ x. all then λ xs. gives (x ∷ xs)) g
    ∙ (λ j. goes_on (m w now) (λ x later.
    (then_then (all later) (λ xs. gives (x ∷ xs)) g ∙ one_behind ms mv w later (λ xs. g (x ∷ xs))
    ∙ sym (then_then (most later) (λ xs. gives (x ∷ xs)) (λ vs. mv w then λ v. g (vs ++ v ∷ [])))) j))
    ∙ sym (then_then (m w now) (λ x. most then λ xs. gives (x ∷ xs)) (λ vs. mv w then λ v. g (vs ++ v ∷ [])))

assigned_call : (name : Name) (ms : List Source.Meaning) (mv : Source.Meaning) (w : Source.World) (now : Now Value)
    → assigned (λ w. in_turn (each ms w) then λ vs. gives (call_spot w name vs)) [] mv w now
    ≡ (in_turn (each (ms ++ mv ∷ []) w) then w.call name.place name.text) now
assigned_call name ms mv w now =
    then_then (in_turn (each ms w) now) (λ vs. gives (call_spot w name vs)) (λ spot. mv w then spot.write)
    ∙ sym (one_behind ms mv w now (w.call name.place name.text))

pub call_target_right : (setting : Setting) (locals : Locals) (name : Name) (el : Elaborate) (ms : List Source.Meaning) (mv : Source.Meaning)
    → IsRight setting locals el (λ w. in_turn (each (ms ++ mv ∷ []) w) then w.call name.place name.text)
    → IsRight setting locals el (assigned (λ w. in_turn (each ms w) then λ vs. gives (call_spot w name vs)) [] mv)
call_target_right setting locals name el ms mv right want e =
    right_via setting locals want (el setting locals want) (λ w. in_turn (each (ms ++ mv ∷ []) w) then w.call name.place name.text)
    (assigned (λ w. in_turn (each ms w) then λ vs. gives (call_spot w name vs)) [] mv) (λ i w now. sym (assigned_call name ms mv w now) i) (right want e)
