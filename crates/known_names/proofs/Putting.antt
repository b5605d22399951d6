-- How the first definition takes each name of a value, as one more naming is put into the map.
use Rattle.std.proofs.Common.{◌≡◌, ℕ, Bool, true, false, ◌&&◌, cond, List, [], ◌∷◌, ◌++◌, refl, sym, ap, ◌∙◌, bytes_eq, Option, Some, None}
use Rattle.std.specs.Prelude.{option_map}
use Rattle.std.specs.Option.{option_or}
use Rattle.std.proofs.lemmas.List.Folds.{find-append}
use Rattle.std.proofs.lemmas.Slice.Eq.{bytes_eq-Decides}
use Rattle.sail_globals.specs.declared.naming.Space.TheVariants.{Values}
use Rattle.sail_globals.specs.declared.naming.Naming.{Naming}
use Rattle.sail_globals.specs.Clashes.{is_same_space, takes}
use Rattle.known_names.specs.declared.firsts.Taking.{Taking}
use Rattle.known_names.specs.Meanings.{naming_of}
use Rattle.known_names.specs.Held.{taking, AreFirst}
use Rattle.known_names.proofs.Growing.{or_nothing}

-- the first naming of a name, where one more stands behind
pub naming_more : (earlier : List Naming) (naming : Naming) (name : List ℕ)
    → naming_of (earlier ++ naming ∷ []) name
    ≡ option_or (naming_of earlier name) (cond (is_same_space naming.space Values && bytes_eq naming.name name) (Some naming) None)
naming_more earlier naming name = find-append (takes Values name) earlier (naming ∷ [])

taken_first : (t : Bool) (old : Option Taking) (first : Option Naming) (naming : Naming) → (t ≡ true → old ≡ None) → old ≡ option_map taking first
    → cond t (Some (taking naming)) old ≡ option_map taking (option_or first (cond t (Some naming) None))
taken_first true old None naming free h = refl
taken_first true old (Some one) naming free h = let both : None ≡ Some (taking one) = sym (free refl) ∙ h in cc
taken_first false old None naming free h = h
taken_first false old (Some one) naming free h = h

-- a name that none has taken is put into the map
pub first_put : (earlier : List Naming) (names now : List ℕ → Option Taking) (naming : Naming) → naming.space ≡ Values → names naming.name ≡ None
    → ((other : List ℕ) → now other ≡ cond (bytes_eq naming.name other) (Some (taking naming)) (names other))
    → AreFirst earlier names → AreFirst (earlier ++ naming ∷ []) now
first_put earlier names now naming space free is h =
    λ name. is name
    ∙ taken_first (bytes_eq naming.name name) (names name) (naming_of earlier name) naming
    (λ t. sym (ap names ((bytes_eq-Decides naming.name name).0 t)) ∙ free) (h name)
    ∙ ap (λ own. option_map taking (option_or (naming_of earlier name) (cond (is_same_space own Values && bytes_eq naming.name name) (Some naming) None)))
    (sym space)
    ∙ ap (option_map taking) (sym (naming_more earlier naming name))

stays : (t : Bool) (old : Option Taking) (first : Option Naming) (naming : Naming) → (t ≡ true → (one : Taking) × (old ≡ Some one))
    → old ≡ option_map taking first → old ≡ option_map taking (option_or first (cond t (Some naming) None))
stays true old None naming there h = let both : Some (there refl).0 ≡ None = sym (there refl).1 ∙ h in cc
stays true old (Some one) naming there h = h
stays false old None naming there h = h
stays false old (Some one) naming there h = h

-- a name that one has taken keeps its first
pub first_kept : (earlier : List Naming) (names : List ℕ → Option Taking) (naming : Naming) (one : Taking) → naming.space ≡ Values
    → names naming.name ≡ Some one → AreFirst earlier names → AreFirst (earlier ++ naming ∷ []) names
first_kept earlier names naming one space held h =
    λ name. stays (bytes_eq naming.name name) (names name) (naming_of earlier name) naming
    (λ t. (one, sym (ap names ((bytes_eq-Decides naming.name name).0 t)) ∙ held)) (h name)
    ∙ ap (λ own. option_map taking (option_or (naming_of earlier name) (cond (is_same_space own Values && bytes_eq naming.name name) (Some naming) None)))
    (sym space)
    ∙ ap (option_map taking) (sym (naming_more earlier naming name))

-- a name of another space takes none of a value
pub other_space : (earlier : List Naming) (names : List ℕ → Option Taking) (naming : Naming) → is_same_space naming.space Values ≡ false
    → AreFirst earlier names → AreFirst (earlier ++ naming ∷ []) names
other_space earlier names naming other h =
    λ name. h name ∙ ap (option_map taking) (or_nothing (naming_of earlier name)
    ∙ ap (λ t. option_or (naming_of earlier name) (cond (t && bytes_eq naming.name name) (Some naming) None)) (sym other)
    ∙ sym (naming_more earlier naming name))
