-- What is known where an expression stands, and how it goes on behind names that are bound.
use Rattle.std.proofs.Common.{◌≡◌, ℕ, List, [], ◌∷◌, ◌++◌, map, append_assoc, reverse, ap, sym, ◌∙◌, refl, subst, Bool, true, false, Option, Some}
use Rattle.std.proofs.Common.{None}
use Rattle.std.proofs.Common.{if◌then◌else◌}
use Rattle.std.proofs.lemmas.List.{reverse-append}
use Rattle.std.specs.Str.{bytes_eq}
use Rattle.sail_base.specs.declared.kind.Kind.{Kind}
use Rattle.sail_base.specs.declared.kind.Kind.TheVariants as Sort
use Rattle.sail_types.specs.Rows.{members_of, operator_rows}
use Rattle.sail_types.specs.declared.shapes.Shape.{Shape}
use Rattle.sail_types.specs.declared.table.Types.{Types}
use Rattle.sail_syntax.specs.declared.name.Name.{Name}
use Rattle.sail_syntax.specs.declared.types.TyExp.{TyExp}
use Rattle.sail_names.specs.declared.locals.Binding.{Binding}
use Rattle.sail_names.specs.declared.locals.Binding.TheVariants.{Constant, Variable}
use Rattle.sail_names.specs.declared.names.Global.{Global}
use Rattle.sail_names.specs.declared.names.Global.TheVariants as G
use Rattle.sail_names.specs.declared.around.Allowed.{Allowed}
use Rattle.sail_names.specs.declared.around.Allowed.TheVariants.{Any, LoopMeasure}
use Rattle.sail_names.specs.Known as Tables
use Rattle.sail_names.specs.Known.{is_let_seen, in_measure}
use Rattle.sail_names.specs.Locals as Bound
use Rattle.sail_names.specs.Locals.{binding_of, behind}
use Rattle.sail_names.specs.Patterns.{type_failures}
use Rattle.shape_joins.proofs.JoinsLeast.{some_same}
use Rattle.shape_joins.proofs.Order.{no}
use Rattle.shape_rules.specs.declared.callees.Candidate.{Candidate}
use Rattle.shape_rules.specs.declared.callees.Meant.{Meant}
use Rattle.shape_rules.specs.declared.locals.Local.{Local}
use Rattle.shape_rules.specs.Calls.{builtin_members, member_candidate}
use Rattle.shape_rules.specs.Scopes.{Setting, Locals, local_of, constant, variable, under, plainly}
use Rattle.shape_meanings.specs.Whole.{IsSettled}
use Rattle.shape_meanings.specs.Counted.{counted, AreCounted, LocalsCounted, Counts}
use Rattle.shape_meanings.specs.Naming.{AreKnown, AreBound, BoundAs, MeantAs}
use Rattle.shape_meanings.specs.Sound.{VarsSettled}
use Rattle.shape_meanings.proofs.Binds.{as_bound}

-- names mean what the tables know, each `var` in scope has a settled shape, and named types in shapes have the arguments that they should have
pub record Ready (setting : Setting) (names : Tables.Setting) (locals : Locals) (bound : Bound.Locals) : Type 0 where
  pub known : AreKnown setting names
  pub are : AreBound bound locals
  pub settled : VarsSettled setting locals
  pub counted : LocalsCounted setting.types locals

-- ---- one more name

bound_if : (b : Bool) (binding : Binding) (l : Local) (o : Option Binding) (p : Option Local) → BoundAs (Some binding) (Some l) → BoundAs o p
    → BoundAs (if b then Some binding else o) (if b then Some l else p)
bound_if true binding l o p one others = one
bound_if false binding l o p one others = others

settled_if : (types : Types) (b : Bool) (l m : Local) (p : Option Local) → (l.is_variable ≡ true → IsSettled types l.shape)
    → (p ≡ Some m → m.is_variable ≡ true → IsSettled types m.shape) → (if b then Some l else p) ≡ Some m → m.is_variable ≡ true → IsSettled types m.shape
settled_if types true l m p one others is var =
    subst (λ (x : Local). IsSettled types x.shape) (some_same l m is) (one (ap (λ (x : Local). x.is_variable) (some_same l m is) ∙ var))
settled_if types false l m p one others is var = others is var

pub pushed : (setting : Setting) (names : Tables.Setting) (locals : Locals) (bound : Bound.Locals) (l : Local) (b : Bound.Local)
    → Ready setting names locals bound → b.name ≡ l.name → BoundAs (Some b.binding) (Some l) → (l.is_variable ≡ true → IsSettled setting.types l.shape)
    → counted setting.types l.shape ≡ true → Ready setting names (l ∷ locals) (b ∷ bound)
pushed setting names locals bound l b r same one settled fine = record {
  known = r.known;
  are = λ name.
      subst (λ n. BoundAs (if bytes_eq n name then Some b.binding else binding_of name bound) (if bytes_eq l.name name then Some l else local_of name locals))
      (sym same) (bound_if (bytes_eq l.name name) b.binding l (binding_of name bound) (local_of name locals) one (r.are name));
  settled = λ name m is var.
      settled_if setting.types (bytes_eq l.name name) l m (local_of name locals) settled (r.settled name m) is var;
  counted = (fine, r.counted);
}

clash : {A : Type 0} → false ≡ true → A
clash h = absurd (empty h)
  where
    empty : false ≡ true → ⊥
    empty h = cc

pub with_constant : (setting : Setting) (names : Tables.Setting) (locals : Locals) (bound : Bound.Locals) (name : Name) (s : Shape)
    → Ready setting names locals bound → counted setting.types s ≡ true → Ready setting names (constant name.text s ∷ locals) (Bound.constant name ∷ bound)
with_constant setting names locals bound name s r fine =
    pushed setting names locals bound (constant name.text s) (Bound.constant name) r refl refl (λ h. clash h) fine

pub with_variable : (setting : Setting) (names : Tables.Setting) (locals : Locals) (bound : Bound.Locals) (name : Name) (s : Shape)
    → Ready setting names locals bound → IsSettled setting.types s → counted setting.types s ≡ true
    → Ready setting names (variable name.text s ∷ locals) (Bound.variable name ∷ bound)
with_variable setting names locals bound name s r settled fine =
    pushed setting names locals bound (variable name.text s) (Bound.variable name) r refl refl (λ h. settled) fine

-- ---- the names of a pattern

abbrev heads : {A : Type 0} → A → List A → A
heads x [] = x
heads x (y ∷ ys) = y

abbrev tails : {A : Type 0} → List A → List A
tails [] = []
tails (x ∷ xs) = xs

not_empty : {A : Type 0} {x : A} {xs : List A} → (x ∷ xs) ≡ [] → ⊥
not_empty e = cc

empty_not : {A : Type 0} {x : A} {xs : List A} → [] ≡ (x ∷ xs) → ⊥
empty_not e = cc

constant_is : (b : Bool) → (if b then Variable else Constant) ≡ Constant → b ≡ false
constant_is true e = absurd (other e)
  where
    other : Variable ≡ Constant → ⊥
    other e = cc
constant_is false e = refl

pub under_more : (l : Local) (ls : List Local) (locals : Locals) → under ls (l ∷ locals) ≡ under (l ∷ ls) locals
under_more l ls locals =
    sym (append_assoc (reverse ls) (l ∷ []) locals) ∙ ap (λ xs. xs ++ locals) (sym (reverse-append (l ∷ []) ls))

pub with_names : (ls : List Local) (ns : List Name) (setting : Setting) (names : Tables.Setting) (locals : Locals) (bound : Bound.Locals)
    → Ready setting names locals bound → map as_bound ls ≡ map Bound.constant ns → LocalsCounted setting.types ls
    → Ready setting names (under ls locals) (behind ns bound)
with_names [] [] setting names locals bound r same fine = r
with_names [] (n ∷ ns) setting names locals bound r same fine = absurd (empty_not same)
with_names (l ∷ ls) [] setting names locals bound r same fine = absurd (not_empty same)
with_names (l ∷ ls) (n ∷ ns) setting names locals bound r same fine =
    let one : as_bound l ≡ Bound.constant n = ap (heads (as_bound l)) same in
    let rest : map as_bound ls ≡ map Bound.constant ns = ap tails same in
    let not_variable : l.is_variable ≡ false = constant_is l.is_variable (ap (λ (b : Bound.Local). b.binding) one) in
    subst (λ xs. Ready setting names xs (behind ns (Bound.constant n ∷ bound))) (under_more l ls locals)
    (with_names ls ns setting names (l ∷ locals) (Bound.constant n ∷ bound)
    (pushed setting names locals bound l (Bound.constant n) r (sym (ap (λ (b : Bound.Local). b.name) one)) not_variable
    (λ h. clash (sym not_variable ∙ h)) fine.0) rest fine.1)

-- ---- plain expressions

let_seen : (allowed : Allowed) (n number : ℕ) → is_let_seen LoopMeasure n number ≡ true → is_let_seen allowed n number ≡ true
let_seen Any n number h = refl
let_seen allowed n number h = h

meant_plain : (names : Tables.Setting) (o : Option Global) (meant : Option Meant) → MeantAs names o meant → MeantAs (in_measure names) o meant
meant_plain names (Some (G.Let n)) meant m = λ h. m (let_seen names.allowed n names.number h)
meant_plain names (Some G.Register) meant m = m
meant_plain names (Some G.Member) meant m = m
meant_plain names (Some (G.Function n)) meant m = λ h. no h
meant_plain names (Some (G.Direction n)) meant m = λ h. no h
meant_plain names (Some G.Constructor) meant m = m
meant_plain names (Some (G.Mapping n)) meant m = λ h. no h
meant_plain names (Some (G.Overload ns)) meant m = λ h. no h
meant_plain names (Some G.Builtin) meant m = m
meant_plain names (Some G.StateBuiltin) meant m = m
meant_plain names None meant m = tt

same_failures : (kind : Kind) (typ : TyExp) (names : Tables.Setting) → type_failures kind typ (in_measure names) ≡ type_failures kind typ names
unfolding type_failures
same_failures kind typ names = refl

-- in a plain expression an operator means its builtin members
front_counted : (types : Types) (xs ys zs : List Candidate) → AreCounted types (xs ++ ys ++ zs) → AreCounted types (xs ++ ys ++ [])
front_counted types [] [] zs h = tt
front_counted types [] (y ∷ ys) zs h = (h.0, h.1, front_counted types [] ys zs h.2)
front_counted types (x ∷ xs) ys zs h = (h.0, h.1, front_counted types xs ys zs h.2)

plain_counts : (setting : Setting) → Counts setting → Counts (plainly setting)
plain_counts setting c = record {
  values = c.values;
  operators = λ operator.
      front_counted setting.types (builtin_members operator) (map member_candidate (members_of setting.types (operator_rows operator)))
      (setting.added operator) (c.operators operator);
  prefixes = c.prefixes;
  exception = c.exception;
  fields = c.fields;
}

pub plain_ready : (setting : Setting) (names : Tables.Setting) (locals : Locals) (bound : Bound.Locals) → Ready setting names locals bound
    → Ready (plainly setting) (in_measure names) locals bound
plain_ready setting names locals bound r = record {
  known = record {
    within = r.known.within;
    values = λ name. meant_plain names (names.known.value name) (setting.value name) (r.known.values name);
    called = r.known.called;
    counted_typs = λ typ t h is. r.known.counted_typs typ t (sym (same_failures Sort.Type typ names) ∙ h) is;
    counts = plain_counts setting r.known.counts;
    members = r.known.members;
    exception = r.known.exception;
    typs = λ typ h. r.known.typs typ (sym (same_failures Sort.Type typ names) ∙ h);
    numbers = λ typ h. r.known.numbers typ (sym (same_failures Sort.Int typ names) ∙ h);
    constraints = λ typ h. r.known.constraints typ (sym (same_failures Sort.Bool typ names) ∙ h);
    answer = r.known.answer;
    structs = r.known.structs;
  };
  are = r.are;
  settled = r.settled;
  counted = r.counted;
}
