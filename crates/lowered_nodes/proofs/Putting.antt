-- What is put for a form.
use Rattle.std.proofs.Common.{◌≡◌, ◌∙◌, List, [], ◌∷◌, ◌++◌, ap, subst}
use Rattle.std.specs.Prelude.{OnOk, Result}
use Rattle.lowered_pieces.specs.declared.coding.Coding.{Coding}
use Rattle.lowered_pieces.specs.Forms.{Piece, nothing_piece}
use Rattle.lowered_pieces.specs.Places.{Naming}
use Rattle.lowered_pieces.proofs.Emitting.{emits_none}
use Rattle.lowered_steps.specs.declared.stands.Stand.{Stand}
use Rattle.lowered_steps.specs.declared.tails.Tail.{Tail}
use Rattle.lowered_nodes.specs.declared.walk.Walk.{Walk}
use Rattle.lowered_nodes.specs.Walk.{Puts}

-- what is put for a form is put for one that is the same
pub put_as : {T E : Type 0} (r : Result T E) (a b : Coding) (walk : Walk) (stand : Stand) (tail : Tail) (p q : Naming → Piece)
    → ((name : Naming) → p name ≡ q name) → OnOk r (Puts a b walk stand tail p) → OnOk r (Puts a b walk stand tail q)
put_as r a b walk stand tail p q same h = subst (λ (f : Naming → Piece). OnOk r (Puts a b walk stand tail f)) (λ i name. same name i) h

-- where nothing is put, and there is nothing
pub put_nothing_here : (old : Coding) (walk : Walk) (stand : Stand) (tail : Tail) {p : Naming → Piece} → ((name : Naming) → nothing_piece ≡ p name)
    → Puts old old walk stand tail p
put_nothing_here old walk stand tail same = subst (λ (f : Naming → Piece). Puts old old walk stand tail f) (λ i name. same name i) (emits_none old)

-- the only item that was put into a list
pub only_pushed : {A : Type 0} (xs old new : List A) (x : A) → xs ≡ new → new ≡ old ++ x ∷ [] → old ≡ [] → xs ≡ x ∷ []
only_pushed xs old new x is pushed none = is ∙ pushed ∙ ap (λ us. us ++ x ∷ []) none
