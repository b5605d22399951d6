-- What begins last before a place, part by part.
use Rattle.std.proofs.Common.{◌≡◌, List, [], ◌∷◌, ◌++◌, Option, None, refl, ap, ◌∙◌}
use Rattle.std.specs.Prelude.{Result, Ok, Err, IfOk}
use Rattle.sail_base.specs.declared.place.Place.{Place}
use Rattle.sail_syntax.specs.declared.definitions.Def.{Def}
use Rattle.sail_compile.specs.declared.variables.Begun.{Begun}
use Rattle.sail_compile.specs.Variables.{later, latest, all_begun, names_of, names_at}

pub latest_append : (at : Place) (kept : Option Begun) (bs cs : List Begun) → latest at kept (bs ++ cs) ≡ latest at (latest at kept bs) cs
latest_append at kept [] cs = refl
latest_append at kept (b ∷ bs) cs = latest_append at (later at kept b) bs cs

-- what was found in the definitions that were read is found in the text
pub found_names : (text read : List Def) (at : Place) (found : Option Begun) → read ≡ text → found ≡ latest at None (all_begun read)
    → names_of text found ≡ names_at text at
found_names text read at found same is = ap (names_of text) (is ∙ ap (λ t. latest at None (all_begun t)) same)

pub ok_same : {A E : Type 0} (r : Result A E) (a b : A) → a ≡ b → IfOk r (λ x. x ≡ a) → IfOk r (λ x. x ≡ b)
ok_same (Ok x) a b same is = is ∙ same
ok_same (Err e) a b same is = is
