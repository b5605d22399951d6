-- Names of values of a text: registers, top-level lets and members of enums are on both sides the same (Sail language manual, "Registers", "Enums",
-- "Let bindings").
use Rattle.std.specs.Prelude.{◌≡◌, ℕ, nat_lt, true, List, [], ◌∷◌, length, Option, Some, None}
use Rattle.sail_types.specs.Named.{members as enum_members}
use Rattle.sail_types.specs.declared.shapes.Shape.{Shape}
use Rattle.sail_types.specs.declared.table.Types.{Types}
use Rattle.sail_types.specs.declared.types.Typ.{Typ}
use Rattle.sail_types.specs.declared.values.Value.{Value}
use Rattle.sail_types.specs.declared.values.Value.TheVariants as Val
use Rattle.sail_syntax.specs.declared.definitions.Def.{Def}
use Rattle.sail_syntax.specs.declared.definitions.Def.TheVariants as D
use Rattle.sail_meaning.specs.Named.{member_named}
use Rattle.sail_meaning.specs.World.{Bindings}
use Rattle.shape_rules.specs.declared.callees.Meant.{Meant}
use Rattle.shape_rules.specs.declared.callees.Meant.TheVariants as M
use Rattle.shape_rules.specs.declared.locals.Local.{Local}
use Rattle.shape_rules.specs.Written.{typ_in}
use Rattle.shape_models.specs.Models.{Tabled, let_in, setting_of, within_variables}
use Rattle.shape_meanings.specs.Keeping.{Fits}
use Rattle.shape_meanings.specs.Whole.{Choice}
use Rattle.shape_meanings.specs.Models.{register_shapes}
use Rattle.shape_meanings.specs.Worlds.{ValueAs}
use Rattle.shapes.specs.Failures.{own_in}
use Rattle.model_meanings.specs.Callees.{core_world, source_world}
use Rattle.known_texts.specs.TextLaws.{model_in}
use Rattle.known_texts.specs.Texts.{text_of}

-- the tables refuse a register whose type stands for none
abbrev pub RegistersTyped : Tabled → List Def → Type 0
RegistersTyped tabled [] = Unit {0}
RegistersTyped tabled ((D.Register place name typ initial) ∷ text) =
    ((t : Typ) × (typ_in (within_variables tabled []) typ ≡ Some t)) × RegistersTyped tabled text
RegistersTyped tabled (d ∷ text) = RegistersTyped tabled text

-- the member of an enum that a name means
abbrev pub member_of : Option Meant → Option Value
member_of (Some (M.Member i k)) = Some (Val.Member i k)
member_of meant = None

-- the tables refuse two definitions of one name, so that a name is found among the members of enums where it means one, and no let hides a register
pub record NamesAreOnce (tabled : Tabled) (text : List Def) (lets : List Local) : Type 0 where
  pub members : (name : List ℕ) → member_named tabled.types name ≡ member_of ((setting_of tabled (own_in tabled text) text lets []).value name)
  pub in_range : (name : List ℕ) (i k : ℕ) → own_in tabled text name ≡ Some (M.Member i k) → nat_lt k (length (enum_members tabled.types i)) ≡ true
  pub registers : (name : List ℕ) (r : ℕ) (s : Shape) → own_in tabled text name ≡ Some (M.Register r s) → let_in 0 lets name ≡ None

-- each name of a top-level let has on both sides the same value, which has its shape whatever variables stand for; those that openings don't come to
-- have none on either side
abbrev pub LetsAre : Types → List Local → List Value → Bindings → Type 0
LetsAre types [] [] [] = Unit {0}
LetsAre types (l ∷ ls) [] [] = Unit {0}
LetsAre types (l ∷ ls) (v ∷ vs) (b ∷ bs) =
    (b.name ≡ l.name) × (b.held ≡ v) × ((c : Choice) → Fits types c l.shape v) × LetsAre types ls vs bs
LetsAre types ls vs bs = ⊥

abbrev pub ValuesStand : Type 0
ValuesStand =
    (tabled : Tabled) (cycle : List ℕ → Option ℕ) (text : List Def) (lets : List Local) (hart : ℕ) (values : List Value) (bindings : Bindings)
    → RegistersTyped tabled text → NamesAreOnce tabled text lets → LetsAre tabled.types lets values bindings
    → (name : List ℕ)
    → ValueAs (setting_of tabled (own_in tabled text) text lets []) (register_shapes (text_of tabled cycle text).registers)
    (core_world (model_in tabled cycle text lets hart values bindings) 0 [] [] [])
    (source_world (model_in tabled cycle text lets hart values bindings) 0 [] (within_variables tabled []) []) name
    ((setting_of tabled (own_in tabled text) text lets []).value name)
