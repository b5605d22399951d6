-- Names of a pattern, of which no two are equal: they can be looked up in either order.
use Rattle.std.proofs.Common.{◌≡◌, ℕ, List, [], ◌∷◌, map, reverse, ap, sym, ◌∙◌, refl, subst, Bool, true, false, Option, Some, None, is_some}
use Rattle.std.proofs.Common.{if◌then◌else◌}
use Rattle.std.proofs.lemmas.List.{reverse-append}
use Rattle.std.specs.Str.{bytes_eq}
use Rattle.sail_syntax.specs.declared.name.Name.{Name}
use Rattle.sail_names.specs.declared.locals.Binding.TheVariants.{Constant}
use Rattle.sail_names.specs.Locals as Bound
use Rattle.sail_names.specs.Locals.{binding_of, constant}
use Rattle.sail_names.specs.Patterns.{clash_if, clashes_behind, clashes}
use Rattle.shape_joins.proofs.Order.{no}
use Rattle.shape_rules.specs.declared.locals.Local.{Local}
use Rattle.shape_rules.specs.Scopes.{local_of}
use Rattle.shape_meanings.specs.Parts.{EitherWay}
use Rattle.shape_meanings.proofs.Settling.{both_empty, same_name}
use Rattle.shape_meanings.proofs.Lets.{or_outer, inner_first}
use Rattle.shape_meanings.proofs.StructNames.{bytes_same}

-- ---- texts that are apart

abbrev pub NoneIs : List ℕ → List (List ℕ) → Type 0
NoneIs x [] = Unit {0}
NoneIs x (y ∷ ys) = (bytes_eq x y ≡ false) × NoneIs x ys

abbrev pub TextsApart : List (List ℕ) → Type 0
TextsApart [] = Unit {0}
TextsApart (x ∷ xs) = NoneIs x xs × TextsApart xs

false_true : {A : Type 0} → false ≡ true → A
false_true h = no h

pub no_if : (b : Bool) → (b ≡ true → ⊥) → b ≡ false
no_if true f = absurd (f refl)
no_if false f = refl

-- another name than one of these isn't found among them
none_there : (ls : List Local) (x name : List ℕ) → NoneIs x (map (λ (l : Local). l.name) ls) → bytes_eq x name ≡ true → local_of name ls ≡ None
none_there [] x name apart h = refl
none_there (l ∷ ls) x name apart h =
    ap (λ b. if b then Some l else local_of name ls) (no_if (bytes_eq l.name name) (λ k. false_is (sym apart.0 ∙ both k)))
    ∙ none_there ls x name apart.1 h
  where
    false_is : false ≡ true → ⊥
    false_is h = cc

    both : bytes_eq l.name name ≡ true → bytes_eq x l.name ≡ true
    both k = ap (bytes_eq x) (same_name l.name name k ∙ sym (same_name x name h)) ∙ bytes_same x

or_none : (o : Option Local) → or_outer o None ≡ o
or_none None = refl
or_none (Some l) = refl

step : (b : Bool) (l : Local) (o : Option Local) → (b ≡ true → o ≡ None) → or_outer o (if b then Some l else None) ≡ (if b then Some l else o)
step true l o f = ap (λ p. or_outer p (Some l)) (f refl)
step false l o f = or_none o

pub either_way : (ls : List Local) → TextsApart (map (λ (l : Local). l.name) ls) → EitherWay ls
either_way [] apart name = refl
either_way (l ∷ ls) apart name =
    ap (local_of name) (reverse-append (l ∷ []) ls) ∙ inner_first name (reverse ls) (l ∷ [])
    ∙ ap (λ o. or_outer o (if bytes_eq l.name name then Some l else None)) (either_way ls apart.1 name)
    ∙ step (bytes_eq l.name name) l (local_of name ls) (λ h. none_there ls l.name name apart.0 h)

-- ---- what the tables find

-- a name that these bind
abbrev Covers : List ℕ → Bound.Locals → Type 0
Covers x bound = (y : List ℕ) → bytes_eq x y ≡ true → is_some (binding_of y bound) ≡ true

covers_more : (x : List ℕ) (l : Bound.Local) (bound : Bound.Locals) → Covers x bound → Covers x (l ∷ bound)
covers_more x l bound c y h = by_test (bytes_eq l.name y)
  where
    by_test : (b : Bool) → is_some (if b then Some l.binding else binding_of y bound) ≡ true
    by_test true = refl
    by_test false = c y h

covers_own : (name : Name) (bound : Bound.Locals) → Covers name.text (constant name ∷ bound)
covers_own name bound y h = ap (λ b. is_some (if b then Some Constant else binding_of y bound)) h

unclashed : (b : Bool) (name : Name) → clash_if b name ≡ [] → b ≡ false
unclashed true name e = absurd (not_none e)
  where
    not_none : {A : Type 0} {x : A} → (x ∷ []) ≡ [] → ⊥
    not_none e = cc
unclashed false name e = refl

later_apart : (x : List ℕ) (bound : Bound.Locals) (names : List Name) → Covers x bound → clashes_behind bound names ≡ []
    → NoneIs x (map (λ (n : Name). n.text) names)
later_apart x bound [] c e = tt
later_apart x bound (name ∷ names) c e =
    let h = both_empty (clash_if (is_some (binding_of name.text bound)) name) (clashes_behind (constant name ∷ bound) names) e in (
      no_if (bytes_eq x name.text) (λ k. false_is (sym (unclashed (is_some (binding_of name.text bound)) name h.0) ∙ c name.text k)),
      later_apart x (constant name ∷ bound) names (covers_more x (constant name) bound c) h.1,
    )
  where
    false_is : false ≡ true → ⊥
    false_is h = cc

pub all_apart : (bound : Bound.Locals) (names : List Name) → clashes_behind bound names ≡ [] → TextsApart (map (λ (n : Name). n.text) names)
all_apart bound [] e = tt
all_apart bound (name ∷ names) e =
    let h = both_empty (clash_if (is_some (binding_of name.text bound)) name) (clashes_behind (constant name ∷ bound) names) e in
    (later_apart name.text (constant name ∷ bound) names (covers_own name bound) h.1, all_apart (constant name ∷ bound) names h.1)

-- names that the tables find no two equal of, whatever else is found of them
pub names_either : (ls : List Local) (names : List Name) → map (λ (l : Local). l.name) ls ≡ map (λ (n : Name). n.text) names → clashes names ≡ []
    → EitherWay ls
names_either ls names same e = either_way ls (subst TextsApart (sym same) (all_apart [] names e))
