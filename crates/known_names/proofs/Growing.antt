-- What names mean and what overloads can enter, once one more definition or naming stands behind others.
use Rattle.std.proofs.Common.{◌≡◌, ℕ, ◌+◌, ◌<◌, Bool, true, false, ◌||◌, cond, List, [], ◌∷◌, ◌++◌, length}
use Rattle.std.proofs.Common.{get_or, take, replicate, zero, suc, refl, sym, ap, ◌∙◌, append-nil, bytes_eq, Option, Some, None}
use Rattle.std.specs.Prelude.{find, option_map, is_some}
use Rattle.std.specs.List.{list_any, flat_map}
use Rattle.std.specs.Option.{option_or}
use Rattle.std.proofs.Math.Bool.{or-false}
use Rattle.std.proofs.lemmas.List.{take_more}
use Rattle.std.proofs.lemmas.List.Concat.{flat_map-append}
use Rattle.std.proofs.lemmas.List.Elements.{filter_map-append}
use Rattle.std.proofs.lemmas.List.Folds.{find-append, list_any-append}
use Rattle.sail_syntax.specs.declared.name.Name.{Name}
use Rattle.sail_syntax.specs.declared.definitions.Def.{Def}
use Rattle.sail_globals.specs.declared.naming.Naming.{Naming}
use Rattle.sail_names.specs.declared.names.Global.{Global}
use Rattle.sail_types.specs.Rows.{row_name}
use Rattle.sail_types.specs.declared.rows.Row.{Row}
use Rattle.known_names.specs.Meanings.{builtin_row, naming_of, naming_entered, members_entered, added_to_name}
use Rattle.known_names.specs.Held.{AreEntered}

-- what the members enter that one more definition adds
pub members_more : (namings : List Naming) (added : Def → List Name) (earlier : List Def) (d : Def)
    → members_entered namings (flat_map added (earlier ++ d ∷ [])) ≡ members_entered namings (flat_map added earlier) ++ members_entered namings (added d)
members_more namings added earlier d =
    ap (members_entered namings) (flat_map-append added earlier (d ∷ []) ∙ ap (λ last. flat_map added earlier ++ last) (append-nil (added d)))
    ∙ filter_map-append (λ name. naming_entered (naming_of namings name.text)) (flat_map added earlier) (added d)

-- what the overloads of names enter, where one more definition adds members
pub entered_more : (namings : List Naming) (earlier : List Def) (d : Def) (entered now : List ℕ → List ℕ)
    → ((name : List ℕ) → now name ≡ entered name ++ members_entered namings (added_to_name name d))
    → AreEntered namings earlier entered → AreEntered namings (earlier ++ d ∷ []) now
entered_more namings earlier d entered now is h =
    λ name. is name ∙ ap (λ all. all ++ members_entered namings (added_to_name name d)) (h name)
    ∙ sym (members_more namings (added_to_name name) earlier d)

-- lists that are all empty
pub empty_replicate : (count number : ℕ) → get_or (replicate {A = List ℕ} count []) number [] ≡ []
empty_replicate zero number = refl
empty_replicate (suc count) zero = refl
empty_replicate (suc count) (suc number) = empty_replicate count number

-- a value that is there stays the first
pub stays_first : {A : Type 0} (t : Bool) (old new : Option A) → (t ≡ true → is_some old ≡ true) → old ≡ option_or old (cond t new None)
stays_first true None new there = let both : false ≡ true = there refl in cc
stays_first true (Some value) new there = refl
stays_first false None new there = refl
stays_first false (Some value) new there = refl

-- where there is none a new value is the first
pub comes_first : {A : Type 0} (t : Bool) (old : Option A) (new : A) → (t ≡ true → is_some old ≡ false)
    → cond t (Some new) old ≡ option_or old (cond t (Some new) None)
comes_first true None new free = refl
comes_first true (Some value) new free = let both : true ≡ false = free refl in cc
comes_first false None new free = refl
comes_first false (Some value) new free = refl

mapped_or : {A B : Type 0} (f : A → B) (a b : Option A) → option_map f (option_or a b) ≡ option_or (option_map f a) (option_map f b)
mapped_or f None b = refl
mapped_or f (Some value) b = refl

mapped_where : {A B : Type 0} (f : A → B) (t : Bool) (value : A) → option_map f (cond t (Some value) None) ≡ cond t (Some (f value)) None
mapped_where f true value = refl
mapped_where f false value = refl

-- nothing comes behind
pub or_nothing : {A : Type 0} (old : Option A) → old ≡ option_or old None
or_nothing None = refl
or_nothing (Some value) = refl

-- of one more item the first that passes a test, under a function
pub find_more : {A B : Type 0} (f : A → B) (test : A → Bool) (earlier : List A) (item : A)
    → option_map f (find test (earlier ++ item ∷ [])) ≡ option_or (option_map f (find test earlier)) (cond (test item) (Some (f item)) None)
find_more f test earlier item =
    ap (option_map f) (find-append test earlier (item ∷ []))
    ∙ mapped_or f (find test earlier) (cond (test item) (Some item) None)
    ∙ ap (option_or (option_map f (find test earlier))) (mapped_where f (test item) item)

-- one more row stands behind others
pub rows_more : (rows : List Row) (at : ℕ) (default : Row) (values now : List ℕ → Option Global) → at < length rows
    → ((name : List ℕ) → now name ≡ option_or (values name)
    (cond (bytes_eq (row_name (get_or rows at default)) name) (Some (builtin_row (get_or rows at default))) None))
    → ((name : List ℕ) → values name ≡ option_map builtin_row (find (λ row. bytes_eq (row_name row) name) (take at rows)))
    → (name : List ℕ) → now name ≡ option_map builtin_row (find (λ row. bytes_eq (row_name row) name) (take (at + 1) rows))
rows_more rows at default values now within is h name =
    let row : Row = get_or rows at default in
    let test : Row → Bool = λ one. bytes_eq (row_name one) name in
    is name ∙ ap (λ old. option_or old (cond (test row) (Some (builtin_row row)) None)) (h name)
    ∙ sym (find_more builtin_row test (take at rows) row)
    ∙ ap (λ all. option_map builtin_row (find test all)) (sym (take_more rows at default within))

pub or_first : {A : Type 0} (a b c : Option A) → option_or a (option_or b c) ≡ option_or (option_or a b) c
or_first None b c = refl
or_first (Some value) b c = refl

-- one more item passes a test, or an earlier one
pub any_more : {A : Type 0} (test : A → Bool) (earlier : List A) (item : A) → list_any test (earlier ++ item ∷ []) ≡ (list_any test earlier || test item)
any_more test earlier item = list_any-append test earlier (item ∷ []) ∙ ap (λ b. list_any test earlier || b) (or-false (test item))
