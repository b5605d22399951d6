-- Roles in which one name is taken without a clash are of one class: by each of them the name means what it means by the first.
use Rattle.std.proofs.Common.{◌≡◌, List, [], ◌∷◌, ◌++◌, map, filter, refl, sym, ap, ◌∙◌, subst, Bool, true, false, ◌&&◌, ◌||◌, cond, ℕ, Option, Some, None}
use Rattle.std.proofs.lemmas.Bool.{and_parts}
use Rattle.std.specs.List.{list_all, list_any}
use Rattle.sail_globals.specs.declared.naming.Called.{Called}
use Rattle.sail_globals.specs.declared.naming.Called.TheVariants.{Direction, Function, Mapping}
use Rattle.sail_globals.specs.declared.naming.Naming.{Naming}
use Rattle.sail_globals.specs.declared.naming.Role.{Role}
use Rattle.sail_globals.specs.declared.naming.Role.TheVariants.{Declared, Defined, Overloaded, Whole}
use Rattle.sail_globals.specs.declared.naming.Space.TheVariants.{Values}
use Rattle.sail_globals.specs.Clashes.{is_free, is_other_half, is_overloaded, is_same_called, taken, takes}
use Rattle.sail_names.specs.declared.names.Global.{Global}
use Rattle.known_names.specs.Meanings.{global_as, naming_of}
use Rattle.shape_joins.proofs.JoinsLeast.{none, some_same}
use Rattle.shape_joins.proofs.Order.{no, two}
use Rattle.known_texts.proofs.Roles.{all_over, are_free, or_elim}

abbrev pub class : Role → Global
class r = global_as [] r 0

same_called : (a b : Called) → is_same_called a b ≡ true → a ≡ b
same_called Function Function h = refl
same_called Function Mapping h = no h
same_called Function Direction h = no h
same_called Mapping Function h = no h
same_called Mapping Mapping h = refl
same_called Mapping Direction h = no h
same_called Direction Function h = no h
same_called Direction Mapping h = no h
same_called Direction Direction h = refl

val_body : (a : Called) → class (Declared a) ≡ class (Defined a)
val_body Function = refl
val_body Mapping = refl
val_body Direction = refl

half_class : (r s : Role) → is_other_half r s ≡ true → class r ≡ class s
half_class (Declared a) (Defined b) h = ap (λ c. class (Declared c)) (same_called a b h) ∙ val_body b
half_class (Declared a) s h = no h
half_class (Defined a) (Declared b) h = ap (λ c. class (Defined c)) (same_called a b h) ∙ sym (val_body b)
half_class (Defined a) s h = no h
half_class Overloaded Overloaded h = refl
half_class Overloaded s h = no h
half_class (Whole what) s h = no h

over_class : (r s : Role) → is_overloaded r ≡ true → is_overloaded s ≡ true → class r ≡ class s
over_class Overloaded Overloaded h k = refl
over_class Overloaded s h k = no k
over_class (Declared called) s h k = no h
over_class (Defined called) s h k = no h
over_class (Whole what) s h k = no h

among_over : (test : Role → Bool) (rs : List Role) → list_all is_overloaded rs ≡ true → list_any test rs ≡ true
    → (s : Role) × (test s ≡ true) × (is_overloaded s ≡ true)
among_over test [] h k = no k
among_over test (r ∷ rs) h k =
    let all = and_parts (is_overloaded r) (list_all is_overloaded rs) h in
    or_elim (test r) (list_any test rs) k (λ e. (r, e, all.0)) (λ e. among_over test rs all.1 e)

-- a role that passes is of the class of the first
pub alike : (test : Role → Bool) (r : Role) (rest : List Role) → are_free [] (r ∷ rest) ≡ true → list_any test (r ∷ rest) ≡ true
    → (s : Role) × (test s ≡ true) × (class s ≡ class r)
alike test r [] free h = or_elim (test r) false h (λ e. (r, e, refl)) (λ e. no e)
alike test r (t ∷ []) free h =
    let half : is_other_half r t ≡ true = (and_parts (is_other_half r t) true free).0 in
    or_elim (test r) (test t || false) h (λ e. (r, e, refl))
    (λ e. or_elim (test t) false e (λ f. (t, f, sym (half_class r t half))) (λ f. no f))
alike test r (t ∷ u ∷ rest) free h =
    let k = and_parts (is_other_half r t) (is_free (r ∷ t ∷ []) u && are_free (r ∷ t ∷ u ∷ []) rest) free in
    let l = and_parts (is_free (r ∷ t ∷ []) u) (are_free (r ∷ t ∷ u ∷ []) rest) k.1 in
    let over = and_parts (list_all is_overloaded (r ∷ t ∷ [])) (is_overloaded u) l.0 in
    let first = and_parts (is_overloaded r) (is_overloaded t && true) over.0 in
    let second = and_parts (is_overloaded t) true first.1 in
    let more : list_all is_overloaded rest ≡ true = all_over r t (u ∷ []) rest l.1 in
    let all : list_all is_overloaded (r ∷ t ∷ u ∷ rest) ≡ true =
    two (is_overloaded r) (is_overloaded t && (is_overloaded u && list_all is_overloaded rest)) first.0
    (two (is_overloaded t) (is_overloaded u && list_all is_overloaded rest) second.0 (two (is_overloaded u) (list_all is_overloaded rest) over.1 more)) in
    let s = among_over test (r ∷ t ∷ u ∷ rest) all h in
    (s.0, s.1, over_class s.0 r s.2 first.0)

-- ---- the first that takes a name of a value

abbrev pub roles : List Naming → List Role
roles ns = map (λ one. one.role) ns

abbrev pub FirstOf : List ℕ → List Naming → Option Naming → Type 0
FirstOf name fs None = roles fs ≡ []
FirstOf name fs (Some n) = (rest : List Role) × (roles fs ≡ n.role ∷ rest) × (takes Values name n ≡ true)

first_step : (name : List ℕ) (b : Bool) (n : Naming) (fs : List Naming) (o : Option Naming) → takes Values name n ≡ b → FirstOf name fs o
    → FirstOf name (cond b (n ∷ fs) fs) (cond b (Some n) o)
first_step name true n fs o is h = (roles fs, refl, is)
first_step name false n fs o is h = h

-- it has the first of the roles in which the name is taken
abbrev pub FirstIs : List ℕ → List Naming → Option Naming → Type 0
FirstIs name ns o = FirstOf name (filter (takes Values name) ns) o

pub first_taken : (name : List ℕ) (ns : List Naming) → FirstIs name ns (naming_of ns name)
first_taken name [] = refl
first_taken name (n ∷ ns) =
    first_step name (takes Values name n) n (filter (takes Values name) ns) (naming_of ns name) refl (first_taken name ns)

-- ---- what is so of each naming is so of the first that takes a name

abbrev pub EachOf : (Naming → Type 0) → List Naming → Type 0
EachOf P [] = Unit {0}
EachOf P (n ∷ ns) = P n × EachOf P ns

pub both_of : (P : Naming → Type 0) (xs ys : List Naming) → EachOf P xs → EachOf P ys → EachOf P (xs ++ ys)
both_of P [] ys h k = k
both_of P (x ∷ xs) ys h k = (h.0, both_of P xs ys h.1 k)

module _ (P : Naming → Type 0) (name : List ℕ) (n : Naming) where
  found_step : (b : Bool) (m : Naming) (o : Option Naming) → P m → (o ≡ Some n → P n) → cond b (Some m) o ≡ Some n → P n
  found_step true m o its next e = subst P (some_same m n e) its
  found_step false m o its next e = next e

  pub found_of : (ns : List Naming) → EachOf P ns → naming_of ns name ≡ Some n → P n
  found_of [] are e = none e
  found_of (m ∷ ms) are e =
      found_step (takes Values name m) m (naming_of ms name) are.0 (λ k. found_of ms are.1 k) e

-- of a naming that takes a name in a role that passes
module _ (P : Naming → Type 0) (test : Role → Bool) (name : List ℕ) where
  abbrev Such : Type 0
  Such = (n : Naming) × P n × (test n.role ≡ true) × (takes Values name n ≡ true)

  abbrev passing : List Naming → Bool
  passing fs = list_any test (roles fs)

  some_step : (b : Bool) (n : Naming) (fs : List Naming) → takes Values name n ≡ b → P n → (passing fs ≡ true → Such) → passing (cond b (n ∷ fs) fs) ≡ true
      → Such
  some_step true n fs its own next h = or_elim (test n.role) (passing fs) h (λ e. (n, own, e, its)) next
  some_step false n fs its own next h = next h

  pub some_of : (ns : List Naming) → EachOf P ns → list_any test (taken ns Values name) ≡ true → Such
  some_of [] are h = no h
  some_of (n ∷ ns) are h =
      some_step (takes Values name n) n (filter (takes Values name) ns) refl are.0 (λ k. some_of ns are.1 k) h
