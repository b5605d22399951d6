-- What names mean by overloads, once each overload of a text is put under its name.
use Rattle.std.proofs.Common.{◌≡◌, ℕ, Bool, true, false, ◌||◌, cond, List, [], ◌∷◌, ◌++◌, map, refl, sym, ap, ◌∙◌, bytes_eq}
use Rattle.std.proofs.Common.{Option, Some, None}
use Rattle.std.specs.List.{list_any}
use Rattle.std.specs.Option.{option_or}
use Rattle.std.proofs.lemmas.Slice.Eq.{bytes_eq-Decides}
use Rattle.sail_syntax.specs.declared.definitions.Def.{Def}
use Rattle.sail_syntax.specs.declared.definitions.Def.TheVariants as D
use Rattle.sail_syntax.specs.declared.definitions.Overloaded.TheVariants as Over
use Rattle.sail_types.specs.Rows.{row_named}
use Rattle.sail_types.specs.declared.table.Types.{Types}
use Rattle.shape_rules.specs.Written.{joined}
use Rattle.shape_rules.specs.declared.callees.Candidate.{Candidate}
use Rattle.shape_rules.specs.declared.callees.Meant.{Meant}
use Rattle.shape_rules.specs.declared.error.ShapeError.{ShapeError}
use Rattle.shape_rules.specs.Findings.{first_failure}
use Rattle.shape_models.specs.declared.clashes.Added.{Added}
use Rattle.shape_models.specs.declared.overloads.Overload.{Overload}
use Rattle.shape_models.specs.Models.{Own, or_row, or_overload, value_of, candidates, added_to_name, members_at, overloads_by, overloads_in}
use Rattle.shape_models.specs.Models.{operators, operator_added, named_faults, overloads_faults}
use Rattle.shape_models.specs.Overloads.{overload_faults}
use Rattle.shape_models.specs.Held.{or_named}
use Rattle.shape_rules.proofs.Firsts.{first_failure_append}
use Rattle.shape_models.proofs.Steps.{or_nothing}

nothing_more : (m : Option Meant) → or_overload m [] ≡ m
nothing_more None = refl
nothing_more (Some meant) = refl

-- an overload that is put twice
twice : (m : Option Meant) (fs : List Candidate) (any : Bool) → or_overload (or_overload m fs) (cond any fs []) ≡ or_overload m fs
twice (Some meant) fs true = refl
twice (Some meant) fs false = refl
twice None [] true = refl
twice None [] false = refl
twice None (f ∷ fs) true = refl
twice None (f ∷ fs) false = refl

named_step : (t any : Bool) (m : Option Meant) (fs gs : List Candidate) → (t ≡ true → fs ≡ gs)
    → or_overload (or_overload m (cond t fs [])) (cond any gs []) ≡ or_overload m (cond (t || any) gs [])
named_step true any m fs gs same =
    ap (λ hs. or_overload (or_overload m hs) (cond any gs [])) (same refl) ∙ twice m gs any
named_step false any m fs gs same = ap (λ x. or_overload x (cond any gs [])) (nothing_more m)

-- whether a definition adds to the overload of a name
adds : List ℕ → Def → Bool
adds name (D.Overload place (Over.Named it) names) = bytes_eq it.text name
adds name d = false

-- the overloads of these definitions, put one after the other
puts : (types : Types) (own : Own) (text : List Def) (ds : List Def) (m : Option Meant) (name : List ℕ)
    → or_named m (joined (map (overloads_by types own text) ds)) name
    ≡ or_overload m (cond (list_any (adds name) ds) (candidates (added_to_name types own text name)) [])
unfolding adds
puts types own text [] m name = sym (nothing_more m)
puts types own text (D.Overload place (Over.Named it) names ∷ ds) m name =
    puts types own text ds (or_overload m (cond (bytes_eq it.text name) (candidates (added_to_name types own text it.text)) [])) name
    ∙ named_step (bytes_eq it.text name) (list_any (adds name) ds) m (candidates (added_to_name types own text it.text))
    (candidates (added_to_name types own text name))
    (λ t. ap (λ n. candidates (added_to_name types own text n)) ((bytes_eq-Decides it.text name).0 t))
puts types own text (D.Overload place (Over.Operator at it) names ∷ ds) m name = puts types own text ds m name
puts types own text (d ∷ ds) m name = puts types own text ds m name

-- what isn't overloaded has no members
adds_none : (t any : Bool) (added : List Added) (more : List Added) → (any ≡ false → more ≡ []) → (t || any) ≡ false → cond t added [] ++ more ≡ []
adds_none true any added more rest h = cc
adds_none false any added more rest h = rest h

none_added : (types : Types) (own : Own) (text : List Def) (name : List ℕ) → list_any (adds name) text ≡ false
    → added_to_name types own text name ≡ []
unfolding adds
none_added types own [] name h = refl
none_added types own (D.Overload place (Over.Named it) names ∷ text) name h =
    adds_none (bytes_eq it.text name) (list_any (adds name) text) (members_at types own place names) (added_to_name types own text name)
    (none_added types own text name) h
none_added types own (D.Overload place (Over.Operator at it) names ∷ text) name h = none_added types own text name h
none_added types own (d ∷ text) name h = none_added types own text name h

all_put : (any : Bool) (m : Option Meant) (added : List Added) → (any ≡ false → added ≡ [])
    → or_overload m (cond any (candidates added) []) ≡ or_overload m (candidates added)
all_put true m added none = refl
all_put false m added none = ap (λ all. or_overload m (candidates all)) (sym (none refl))

-- the overloads of a text, put one after the other
pub named_are_put : (types : Types) (own : Own) (text : List Def) (m : Option Meant) (name : List ℕ)
    → or_named m (overloads_in types own text) name ≡ or_overload m (candidates (added_to_name types own text name))
named_are_put types own text m name =
    puts types own text text m name
    ∙ all_put (list_any (adds name) text) m (added_to_name types own text name) (none_added types own text name)

-- what a name means before any top-level let
pub value_first : (types : Types) (own : Own) (text : List Def) (name : List ℕ)
    → or_named (or_row (own name) (row_named name)) (overloads_in types own text) name ≡ value_of types own text [] name
value_first types own text name =
    named_are_put types own text (or_row (own name) (row_named name)) name
    ∙ ap (λ x. or_overload (or_row x (row_named name)) (candidates (added_to_name types own text name))) (sym (or_nothing (own name)))

-- what names mean by a map that had the definitions' meanings, then the builtins and then the overloads
pub values_found : (types : Types) (own : Own) (text : List Def) (first rows last : Own) (named : List Overload)
    → ((name : List ℕ) → first name ≡ own name) → named ≡ overloads_in types first text
    → ((name : List ℕ) → rows name ≡ or_row (first name) (row_named name)) → ((name : List ℕ) → last name ≡ or_named (rows name) named name)
    → (name : List ℕ) → last name ≡ value_of types own text [] name
values_found types own text first rows last named is_first is_named is_rows is_last name =
    is_last name
    ∙ ap (λ m. or_named m named name) (is_rows name ∙ ap (λ m. or_row m (row_named name)) (is_first name))
    ∙ ap (λ (os : List Overload). or_named (or_row (own name) (row_named name)) os name)
    (is_named ∙ ap (λ (o : Own). overloads_in types o text) (λ i x. is_first x i))
    ∙ value_first types own text name

-- failures of overloads, by what names mean by a map
pub failures_noted : (types : Types) (own first : Own) (text : List Def) (start named all : Option ShapeError) (os : List Overload)
    → ((name : List ℕ) → first name ≡ own name) → os ≡ overloads_in types first text → named ≡ first_failure start (named_faults os)
    → all ≡ first_failure named (joined (map (λ operator. overload_faults (operator_added types first text operator)) operators))
    → all ≡ first_failure start (overloads_faults types own text)
failures_noted types own first text start named all os is_first is_os is_named is_all =
    let behind = joined (map (λ operator. overload_faults (operator_added types first text operator)) operators) in
    is_all
    ∙ ap (λ k. first_failure k behind) (is_named ∙ ap (λ (x : List Overload). first_failure start (named_faults x)) is_os)
    ∙ sym (first_failure_append start (named_faults (overloads_in types first text)) behind)
    ∙ ap (λ (o : Own). first_failure start (overloads_faults types o text)) (λ i x. is_first x i)
