-- Names that are taken keep their meaning, and the table its rows.
use Rattle.std.proofs.Common.{◌≡◌, ℕ, Bool, true, false, cond, bytes_eq, List, [], ◌∷◌, ◌++◌}
use Rattle.std.proofs.Common.{if◌then◌else◌, refl, ap, ◌∙◌, append-nil, Option, Some, None, is_some, is_none}
use Rattle.std.specs.Option.{option_or}
use Rattle.std.proofs.lemmas.Slice.Eq.{bytes_eq-Decides}
use Rattle.std.proofs.lemmas.Grind.{common_steps}
use Rattle.std.proofs.Common.{arith}
use Rattle.sail_kinds.specs.declared.scope.NamedType.{NamedType}
use Rattle.sail_syntax.specs.declared.definitions.Param.{Param}
use Rattle.sail_types.specs.declared.table.Form.{Form}
use Rattle.type_definitions.specs.Defined.{Types, named_with, with_name, with_form, next_type, table_row}

same_name : (xs ys : List ℕ) → bytes_eq xs ys ≡ true → xs ≡ ys
same_name xs ys h = grind (arith, bytes_eq-Decides xs ys)

kept_at : (b : Bool) (typ found : NamedType) (named : List ℕ → Option NamedType) (name other : List ℕ)
    → (b ≡ true → name ≡ other) → named name ≡ Some found → cond b (option_or (named other) (Some typ)) (named other) ≡ named other
kept_at true typ found named name other same h = grind (arith, common_steps)
kept_at false typ found named name other same h = refl

-- a name that is taken keeps its meaning
pub with_taken : (name : List ℕ) (typ found : NamedType) (named : List ℕ → Option NamedType) → named name ≡ Some found → with_name name typ named ≡ named
with_taken name typ found named h = λ i other. kept_at (bytes_eq name other) typ found named name other (same_name name other) h i

-- one more row, where the name was free
abbrev pub added : Types → List ℕ → List Param → Form → Option NamedType → Types
added types name parameters form found = record {
  named = with_name name (next_type parameters types) types.named;
  table = types.table ++ (if is_none found then table_row name parameters form ∷ [] else []);
}

abbrev formed : Types → List ℕ → List Param → Form → Option NamedType → Types
formed types name parameters form found = if is_some found then types else (record {
  named = with_name name (next_type parameters types) types.named;
  table = types.table ++ table_row name parameters form ∷ [];
})

added_where : (types : Types) (name : List ℕ) (parameters : List Param) (form : Form) (found : Option NamedType) → types.named name ≡ found
    → added types name parameters form found ≡ formed types name parameters form found
added_where types name parameters form None h = refl
added_where types name parameters form (Some found) h =
    λ i. record { named = with_taken name (next_type parameters types) found types.named h i; table = append-nil types.table i }

pub form_added : (types : Types) (name : List ℕ) (parameters : List Param) (form : Form)
    → added types name parameters form (types.named name) ≡ with_form name parameters form types
form_added types name parameters form = added_where types name parameters form (types.named name) refl

-- likewise where the name was given, and then the row
pub row_added : (types now final : Types) (name : List ℕ) (parameters : List Param) (form made : Form) (typ : NamedType) (free : Bool)
    → now ≡ named_with types name typ → typ ≡ next_type parameters types → free ≡ is_none (types.named name) → made ≡ form → final.named ≡ now.named
    → final.table ≡ now.table ++ (if free then table_row name parameters made ∷ [] else []) → final ≡ with_form name parameters form types
row_added types now final name parameters form made typ free is next is_free same named table =
    let is_named : final.named ≡ with_name name (next_type parameters types) types.named =
    named ∙ ap (λ (t : Types). t.named) (is ∙ ap (named_with types name) next) in
    let is_table : final.table ≡ types.table ++ (if is_none (types.named name) then table_row name parameters form ∷ [] else []) =
    table ∙ (λ i. (is i).table ++ (if is_free i then table_row name parameters (same i) ∷ [] else [])) in
    (λ i. record { named = is_named i; table = is_table i }) ∙ form_added types name parameters form
