-- What is checked of a text doesn't depend on how its cycles of calls are numbered.
use Rattle.std.proofs.Common.{◌≡◌, ℕ, zero, suc, ◌<◌, List, [], ◌∷◌, ◌++◌, length, map, take, drop, get_or, slice_set, refl, sym, ap, ◌∙◌, inl, inr, arith}
use Rattle.std.specs.Prelude.{Option, Some, None, Result, Ok, Err}
use Rattle.sail_syntax.specs.declared.definitions.Def.{Def}
use Rattle.sail_syntax.specs.declared.definitions.Def.TheVariants as D
use Rattle.sail_syntax.specs.declared.definitions.FunctionClause.{FunctionClause}
use Rattle.sail_base.specs.declared.place.Place.{Place}
use Rattle.sail_core.specs.declared.model.CoreModel.{CoreModel}
use Rattle.sail_core.specs.declared.model.Function.{Function}
use Rattle.sail_kinds.specs.declared.scope.Variable.{Variable}
use Rattle.sail_signatures.specs.declared.signature.Signature.{Signature}
use Rattle.shape_rules.specs.Written.{joined}
use Rattle.shape_rules.specs.Scopes.{Setting}
use Rattle.shape_models.specs.Models.{Tabled, setting_of}
use Rattle.shape_clauses.specs.Functions.{functions_if, functions_of}
use Rattle.shapes.specs.Failures.{own_in, all_lets}
use Rattle.shapes.specs.Resolved.{resolved}
use Rattle.shapes.specs.Tabled.{tabled_of}
use Rattle.bidir_check.specs.declared.error.CheckError.{CheckError}
use Rattle.bidir_check.specs.declared.error.CheckError.TheVariants as check
use Rattle.bidir_check.specs.Certification.{Certification}
use Rattle.bidir_check.specs.Checking.{IsMet, certified_by, checked as certificates_of}
use Rattle.constraint_gen.specs.Obligations.{obligations}
use Rattle.farkas.specs.declared.certificate.Cert.{Cert}
use Rattle.monomorph.specs.declared.error.MonoError.{MonoError}
use Rattle.monomorph.specs.declared.error.MonoError.TheVariants as mono
use Rattle.sized_nodes.specs.declared.trees.Instance.{Instance}
use Rattle.monomorph.specs.Instances.{instances, IsMet as IsListed}
use Rattle.obligations.specs.declared.obligation.Obligation.{Obligation}
use Rattle.sail_compile.specs.Checked.{no_cycle, core_of, checked_core, checked, instances_of}
use Rattle.sail_compile.specs.parts.Cycles.{without_cycle, without_cycles}
use Rattle.sail_compile.specs.parts.Told.{IsOfChecks, IsOfSizes, IsCoreOf}

-- the functions up to one more are changed
pub set-mapped : (f : Function → Function) (functions : List Function) (i : ℕ) (function new : Function) → i < length functions
    → function ≡ get_or (map f (take i functions) ++ drop i functions) i function → new ≡ f function
    → slice_set (map f (take i functions) ++ drop i functions) i new ≡ map f (take (suc i) functions) ++ drop (suc i) functions
set-mapped f [] i function new h e n = absurd (omega arith)
set-mapped f (first ∷ functions) zero function new h e n = ap (λ x. x ∷ functions) (n ∙ ap f e)
set-mapped f (first ∷ functions) (suc i) function new h e n = ap (λ xs. f first ∷ xs) (set-mapped f functions i function new (omega arith) e n)

-- ---- the core of a text without the numbers of its cycles

module _ (tabled : Tabled) (text : List Def) (setting : List Variable → Setting) where
  one_function : (place : Place) (name : List ℕ) (clauses : List FunctionClause) (s : Option Signature) (cycle : Option ℕ) (more : List Function)
      → map without_cycle (functions_if tabled text setting place name clauses s cycle ++ more)
      ≡ functions_if tabled text setting place name clauses s None ++ map without_cycle more
  one_function place name clauses None cycle more = refl
  one_function place name clauses (Some s) cycle more = refl

  all_functions : (cycle : List ℕ → Option ℕ) (ds : List Def)
      → map without_cycle (joined (map (functions_of tabled text setting cycle) ds)) ≡ joined (map (functions_of tabled text setting no_cycle) ds)
  all_functions cycle [] = refl
  all_functions cycle (D.Function place extent name clauses ∷ ds) =
      one_function place name.text clauses (tabled.signature name.text) (cycle name.text) (joined (map (functions_of tabled text setting cycle) ds))
      ∙ ap (λ more. functions_if tabled text setting place name.text clauses (tabled.signature name.text) None ++ more) (all_functions cycle ds)
  all_functions cycle (d ∷ ds) = all_functions cycle ds

resolved_without : (tabled : Tabled) (cycle : List ℕ → Option ℕ) (text : List Def)
    → without_cycles (resolved tabled cycle text) ≡ resolved tabled no_cycle text
resolved_without tabled cycle text =
    ap (λ (functions : List Function). record (resolved tabled cycle text) { functions = functions })
    (all_functions tabled text (setting_of tabled (own_in tabled text) text (all_lets tabled text)) cycle text)

core_without : (text : List Def) (core : CoreModel) → IsCoreOf text core → without_cycles core ≡ core_of text
core_without text core is = ap without_cycles is.1 ∙ resolved_without (tabled_of text) is.0 text

-- ---- an answer of the check is that of the text

module _ (text : List Def) (core : CoreModel) (is : IsCoreOf text core) where
  checked_is : checked_core (without_cycles core) ≡ checked text
  checked_is = ap checked_core (core_without text core is)

  pub closed_is : (made : Certification) → IsMet (Ok made) (checked_core (without_cycles core)) → checked text ≡ Ok made
  closed_is made (inl met) = sym (met ∙ checked_is)
  closed_is made (inr wanting) = cc wanting

  pub unclosed_is : (e : CheckError) → IsMet {A = Certification} (Err e) (checked_core (without_cycles core)) → IsOfChecks e → checked text ≡ Err e
  unclosed_is e (inl met) told = sym (met ∙ checked_is)
  unclosed_is check.OutOfMemory (inr wanting) told = absurd told
  unclosed_is (check.Open place names point) (inr wanting) told = cc wanting
  unclosed_is (check.Limit place names limit) (inr wanting) told = cc wanting

-- ---- the instances of a core with certificates are those of the text

pub certified_core : (core : CoreModel) (os : List Obligation) (r : Result (List Cert) CheckError) (made : Certification)
    → certified_by core os r ≡ Ok made → made.core ≡ core
certified_core core os (Ok certs) made is =
    let same : record { core = core; obligations = os; certificates = certs } ≡ made = cc is in
    sym (ap (λ (c : Certification). c.core) same)
certified_core core os (Err error) made is = cc is

module _ (text : List Def) (made : Certification) (is : checked text ≡ Ok made) where
  pub core_is : made.core ≡ core_of text
  core_is = certified_core (core_of text) (obligations (core_of text)) (certificates_of (obligations (core_of text))) made is

  instances_are : instances made.core ≡ instances_of text
  instances_are = ap instances core_is

  pub listed_is : (list : List Instance) → IsListed (Ok list) (instances made.core) → instances_of text ≡ Ok list
  listed_is list (inl met) = sym (met ∙ instances_are)
  listed_is list (inr wanting) = cc wanting

  pub unlisted_is : (e : MonoError) → IsListed (Err e) (instances made.core) → IsOfSizes e → instances_of text ≡ Err e
  unlisted_is e (inl met) told = sym (met ∙ instances_are)
  unlisted_is mono.OutOfMemory (inr wanting) told = absurd told
  unlisted_is (mono.SizeOpen place name) (inr wanting) told = cc wanting
  unlisted_is (mono.WidthLimit place size) (inr wanting) told = cc wanting
  unlisted_is (mono.InstanceLimit place count) (inr wanting) told = cc wanting
