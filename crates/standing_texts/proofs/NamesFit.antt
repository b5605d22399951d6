-- What the names of a text mean is called with as many arguments as what the core has of it takes.
use Rattle.std.proofs.Common.{◌≡◌, ℕ, List, [], ◌∷◌, map, length, ap, ◌∙◌, sym, refl, subst, Bool, true, ◌&&◌, Option, Some, None}
use Rattle.std.proofs.Common.{nat_eq, nat_lt, suc, arith, if◌then◌else◌}
use Rattle.std.specs.Prelude.{slice_get}
use Rattle.std.specs.List.{list_all}
use Rattle.std.proofs.lemmas.List.{length-map}
use Rattle.sail_types.specs.Named.{members, payload}
use Rattle.sail_types.specs.Shapes.{shape}
use Rattle.sail_types.specs.declared.shapes.Shape.{Shape}
use Rattle.sail_types.specs.declared.table.Types.{Types}
use Rattle.sail_types.specs.declared.types.Typ.{Typ, Typ-F, out-Typ}
use Rattle.sail_types.specs.declared.types.Typ.TheOpen as T
use Rattle.sail_core.specs.declared.model.Function.{Function}
use Rattle.sail_core.specs.declared.tree.Callee.TheVariants as C
use Rattle.pattern_leaves.specs.Settings.{Around}
use Rattle.call_arguments.specs.Callees.{payload_form}
use Rattle.shape_joins.proofs.Order.{no, same_nat, two}
use Rattle.shape_rules.specs.declared.callees.Candidate.{Candidate}
use Rattle.shape_rules.specs.declared.callees.Doing.{Doing}
use Rattle.shape_rules.specs.declared.callees.Doing.TheVariants as D
use Rattle.shape_rules.specs.declared.callees.Meant.{Meant}
use Rattle.shape_rules.specs.declared.callees.Meant.TheVariants as M
use Rattle.shape_rules.specs.declared.locals.Local.{Local}
use Rattle.shape_rules.specs.Calls.{param_shapes, parameters_form}
use Rattle.shape_meanings.specs.Worlds.{is_payload, is_payload_form}
use Rattle.model_progress.specs.Shaped.{params_of}
use Rattle.soundness_forms.specs.Standing.{has_arguments, has_payload}
use Rattle.standing_models.specs.Tests.{candidate_fits, doing_fits, meant_fits}
use Rattle.text_progress.specs.Entries.{AllIn, DoesIn, Parts, ValueIn}

-- ---- payloads

as_many : (ts : List Typ) → nat_eq (length (map shape ts)) (length ts) ≡ true
as_many ts = ap (λ (k : ℕ). nat_eq k (length ts)) (length-map ts shape) ∙ same_nat (length ts)

first_place : (n : ℕ) → nat_lt 0 (suc n) ≡ true
first_place n = grind arith

payload_by : (t : Typ) (x : Typ-F Typ) → is_payload_form x ≡ true
    → (nat_lt 0 (length (map shape (parameters_form t x)))
    && nat_eq (length (map shape (parameters_form t x))) (length (payload_form (length (map shape (parameters_form t x))) t x))) ≡ true
payload_by t (T.Tuple []) e = no e
payload_by t (T.Tuple (a ∷ [])) e = no e
payload_by t (T.Tuple (a ∷ b ∷ ts)) e =
    two (nat_lt 0 (length (map shape (a ∷ b ∷ ts)))) _ (first_place (length (map shape (b ∷ ts))))
    (ap (λ (c : Bool). nat_eq (length (map shape (a ∷ b ∷ ts))) (length (if c then a ∷ b ∷ ts else t ∷ []))) (as_many (a ∷ b ∷ ts)) ∙ as_many (a ∷ b ∷ ts))
payload_by t x e = refl

payload_fits : (t : Typ) → is_payload t ≡ true → has_payload (length (param_shapes t)) (Some t) ≡ true
payload_fits t e = payload_by t (out-Typ t) e

-- ---- names

module _ (around : Around) (core : Parts) (types : around.types ≡ core.types) (functions : around.functions ≡ core.functions) where
  called_fits : (i : ℕ) (g : Function) (f : Candidate) → slice_get core.functions i ≡ Some g → f.params ≡ params_of g.parameters
      → has_arguments (length f.params) (slice_get around.functions i) ≡ true
  called_fits i g f there takes =
      ap (has_arguments (length f.params)) (ap (λ (fs : List Function). slice_get fs i) functions ∙ there)
      ∙ ap (λ (ss : List Shape). nat_eq (length ss) (length g.parameters)) takes
      ∙ ap (λ (k : ℕ). nat_eq k (length g.parameters)) (length-map g.parameters shape) ∙ same_nat (length g.parameters)

  does_fit : (f : Candidate) (doing : Doing) → DoesIn core f doing → doing_fits around doing (length f.params) ≡ true
  does_fit f (D.Calls (C.Row row)) h = refl
  does_fit f (D.Calls (C.Constructor u k)) h =
      ap (λ (ss : List Shape). has_payload (length ss) (payload around.types u k)) h.0.params
      ∙ ap (has_payload (length (param_shapes h.0.typ))) (ap (λ (t : Types). payload t u k) types ∙ h.0.there) ∙ payload_fits h.0.typ h.0.several
  does_fit f (D.Calls (C.Function i)) h = called_fits i h.0 f h.1 h.2
  does_fit f (D.Calls (C.Converts n)) h = refl
  does_fit f (D.Calls callee) h = absurd h
  does_fit f D.Conses h = refl

  pub all_fit : (fs : List Candidate) → AllIn core fs → list_all (candidate_fits around) fs ≡ true
  all_fit [] h = refl
  all_fit (f ∷ fs) h = two (candidate_fits around f) (list_all (candidate_fits around) fs) (does_fit f f.doing h.0.does) (all_fit fs h.1)

  pub value_fits : (lets : List Local) (o : Option Meant) → ValueIn core lets o → meant_fits around o ≡ true
  value_fits lets None h = refl
  value_fits lets (Some (M.Row row)) h = refl
  value_fits lets (Some (M.Overload fs)) h = all_fit fs h
  value_fits lets (Some (M.Let i s)) h = refl
  value_fits lets (Some (M.Callee f)) h = does_fit f f.doing h.does
  value_fits lets (Some (M.Member e k)) h = subst (λ (t : Types). nat_lt k (length (members t e)) ≡ true) (sym types) h.1
  value_fits lets (Some meant) h = refl
