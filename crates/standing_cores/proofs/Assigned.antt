-- Assignments: the arguments, indexes and values in them stand right.
use Rattle.std.proofs.Common.{suc, nat_eq, Bool, true, false, List, [], ◌∷◌, ◌++◌, length, refl, Option, Some, None, if◌then◌else◌}
use Rattle.sail_base.specs.declared.place.Place.{Place}
use Rattle.sail_types.specs.declared.shapes.Shape.{Shape}
use Rattle.sail_syntax.specs.declared.name.Name.{Name}
use Rattle.sail_core.specs.declared.tree.Kind.TheVariants as K
use Rattle.shape_joins.specs.Learning.{holes}
use Rattle.shape_rules.specs.declared.callees.Candidate.{Candidate}
use Rattle.shape_rules.specs.declared.callees.Meant.{Meant}
use Rattle.shape_rules.specs.declared.callees.Meant.TheVariants as M
use Rattle.shape_rules.specs.declared.error.ShapeError.{ShapeError}
use Rattle.shape_rules.specs.declared.error.ShapeError.TheVariants as error
use Rattle.shape_rules.specs.declared.locals.Local.{Local}
use Rattle.shape_rules.specs.Calls.{Args, Chosen, args_found, chosen, solved}
use Rattle.shape_rules.specs.Scopes.{Locals, Setting}
use Rattle.shape_rules.specs.Statements.{FurtherPart, assign_as, assign_found, assign_to, righted}
use Rattle.shape_rules.specs.Targets.{Aimed, Part, TargetPart, aimed_nowhere, call_aim, call_aimed, callee_aimed, callee_counted, callees_of}
use Rattle.shape_rules.specs.Targets.{each_aimed, elaborations, meant_aim, name_aimed, one_of, read_aimed, register_aimed, written_by}
use Rattle.sail_kinds.specs.Scopes.{Within}
use Rattle.standing_cores.specs.Places.{Reads, StandsRight}
use Rattle.standing_cores.proofs.Forms.{AllFine, Fine, PartsFine, also_fine, args_fine, els_fine, named_fine, over_fine, settled_fine, solved_fine}

module _ (within : Within) where
  -- ---- targets

  abbrev pub CallFine : Option (Name × List Part) → Type 0
  CallFine None = Unit {0}
  CallFine (Some call) = PartsFine within call.1

  abbrev pub TargetFine : TargetPart → Type 0
  TargetFine t = ((setting : Setting) (ok : Reads within setting) (locals : Locals) → AllFine (t.aim setting locals).parts) × CallFine t.call

  abbrev pub TargetsFine : List TargetPart → Type 0
  TargetsFine [] = Unit {0}
  TargetsFine (t ∷ ts) = TargetFine t × TargetsFine ts

  register_fine : (name : Name) (meant : Option Meant) → AllFine (register_aimed name meant).parts
  register_fine name (Some (M.Register r s)) = tt
  register_fine name meant = tt

  pub name_fine : (name : Name) (local : Option Local) (meant : Option Meant) → AllFine (name_aimed name local meant).parts
  name_fine name (Some local) meant = tt
  name_fine name None meant = register_fine name meant

  called_fine : (name : Name) (faults : List ShapeError) (args : Args) (reader writer : Option Chosen) → AllFine args.cores
      → AllFine (call_aimed name faults args reader writer).parts
  called_fine name faults args reader None h = tt
  called_fine name faults args reader (Some writer) h = h

  counted_fine : (name : Name) (f : Candidate) (args : List Part) → PartsFine within args → (setting : Setting) (ok : Reads within setting) (locals : Locals)
      → AllFine (callee_counted name f args setting locals).parts
  counted_fine name f args h setting ok locals = by_count (nat_eq (length f.params) (suc (length args)))
    where
      by_count : (b : Bool) → AllFine (
          if b then callee_aimed name f (length args) (solved (elaborations args) setting locals f.params (holes f.variables))
          else aimed_nowhere name.place (error.Arity name.place (length f.params) (suc (length args)) ∷ [])).parts
      by_count true = solved_fine within (elaborations args) (els_fine within args h) setting ok locals f.params (holes f.variables)
      by_count false = tt

  meant_fine : (name : Name) (args : List Part) (fs : List Candidate) (one : Option Candidate) → PartsFine within args
      → (setting : Setting) (ok : Reads within setting) (locals : Locals)
      → AllFine (meant_aim name args fs one setting locals).parts
  meant_fine name args fs (Some f) h setting ok locals = counted_fine name f args h setting ok locals
  meant_fine name args fs None h setting ok locals =
      let found : Args = args_found (elaborations args) setting locals in
      called_fine name found.faults found (chosen fs found.shapes) _ (args_fine within (elaborations args) (els_fine within args h) setting ok locals)

  pub call_fine : (name : Name) (args : List Part) → PartsFine within args → (setting : Setting) (ok : Reads within setting) (locals : Locals)
      → AllFine (call_aim name args setting locals).parts
  call_fine name args h setting ok locals =
      meant_fine name args (callees_of setting.types (setting.value name.text))
      (one_of (setting.value name.text) (callees_of setting.types (setting.value name.text))) h setting ok locals

  pub each_fine : (ts : List TargetPart) → TargetsFine ts → (setting : Setting) (ok : Reads within setting) (locals : Locals)
      → AllFine (each_aimed ts setting locals).parts
  each_fine [] h setting ok locals = tt
  each_fine (t ∷ ts) h setting ok locals = also_fine _ _ (h.0.0 setting ok locals) (each_fine ts h.1 setting ok locals)

  written_fine : (name : Name) (fs : List Candidate) (args : Args) (reader : Option Chosen) (one : Option Candidate) (base : Aimed) → AllFine args.cores
      → AllFine base.parts
      → AllFine (written_by name fs args reader one base).parts
  written_fine name fs args reader (Some f) base h k = k
  written_fine name fs args reader None base h k = called_fine name args.faults args reader _ h

  pub read_fine : (call : Option (Name × List Part)) → CallFine call → (setting : Setting) (ok : Reads within setting) (locals : Locals) (base : Aimed)
      → AllFine base.parts
      → AllFine (read_aimed call setting locals base).parts
  read_fine None h setting ok locals base k = k
  read_fine (Some call) h setting ok locals base k =
      let found : Args = args_found (elaborations call.1) setting locals in
      let fs : List Candidate = callees_of setting.types (setting.value call.0.text) in
      written_fine call.0 fs found (chosen fs found.shapes) (one_of (setting.value call.0.text) fs) base
      (args_fine within (elaborations call.1) (els_fine within call.1 h) setting ok locals) k

  -- ---- assignments

  abbrev pub FurthersFine : List FurtherPart → Type 0
  FurthersFine [] = Unit {0}
  FurthersFine (f ∷ fs) = TargetFine f.to × FurthersFine fs

  righted_fine : (fs : List FurtherPart) (value : Part) → FurthersFine fs → StandsRight within value.elaborate
      → (setting : Setting) (ok : Reads within setting) (locals : Locals) (want : Shape)
      → AllFine (righted fs value setting locals want).parts
  righted_fine [] value h k setting ok locals want = (k setting ok locals want, tt)
  righted_fine (f ∷ fs) value h k setting ok locals want =
      also_fine _ _ (h.0.0 setting ok locals) (righted_fine fs value h.1 k setting ok locals (f.to.aim setting locals).shape)

  to_fine : (place : Place) (t : TargetPart) (fs : List FurtherPart) (value : Part) → TargetFine t → FurthersFine fs → StandsRight within value.elaborate
      → (setting : Setting) (ok : Reads within setting) (locals : Locals) (want : Shape)
      → Fine (assign_to place (t.aim setting locals) fs value setting locals want).core
  to_fine place t fs value h k one setting ok locals want =
      settled_fine place want (t.aim setting locals).answer _ (λ s. over_fine place (K.Assign _)
      ((t.aim setting locals).parts ++ (righted fs value setting locals (t.aim setting locals).shape).parts) ((λ ss. refl), (refl, refl))
      (also_fine _ _ (h.0 setting ok locals) (righted_fine fs value k one setting ok locals (t.aim setting locals).shape)))

  behind_fine : (args : List Part) (value : Part) → PartsFine within args → StandsRight within value.elaborate → PartsFine within (args ++ value ∷ [])
  behind_fine [] value h k = (k, tt)
  behind_fine (a ∷ args) value h k = (h.0, behind_fine args value h.1 k)

  as_fine : (place : Place) (t : TargetPart) (fs : List FurtherPart) (value : Part) (call : Option (Name × List Part)) → TargetFine t → CallFine call
      → FurthersFine fs → StandsRight within value.elaborate
      → StandsRight within (assign_as place t fs value call)
  as_fine place t [] value (Some call) h c k one setting ok locals want =
      named_fine within call.0 (call.1 ++ value ∷ []) (behind_fine call.1 value c one) setting ok locals want
  as_fine place t [] value None h c k one setting ok locals want = to_fine place t [] value h k one setting ok locals want
  as_fine place t (f ∷ fs) value call h c k one setting ok locals want = to_fine place t (f ∷ fs) value h k one setting ok locals want

  pub assign_fine : (place : Place) (t : TargetPart) (fs : List FurtherPart) (value : Part) → TargetFine t → FurthersFine fs
      → StandsRight within value.elaborate
      → StandsRight within (assign_found place t fs value)
  assign_fine place t fs value h k one = as_fine place t fs value t.call h h.1 k one
