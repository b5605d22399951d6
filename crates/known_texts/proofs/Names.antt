-- What a name means to shapes is what the text calls by it: its definition, else a let, a builtin or an overload.
use Rattle.std.proofs.Common.{◌≡◌, ℕ, suc, List, [], ◌∷◌, map, refl, Bool, true, false, Option, Some, None, if◌then◌else◌}
use Rattle.std.specs.Option.{option_or}
use Rattle.std.specs.Str.{bytes_eq}
use Rattle.sail_base.specs.declared.operators.Operator.{Operator}
use Rattle.sail_syntax.specs.declared.definitions.Def.{Def}
use Rattle.sail_types.specs.Rows.{row_named}
use Rattle.sail_types.specs.declared.rows.Row.{Row}
use Rattle.sail_types.specs.declared.shapes.Shape.{Shape}
use Rattle.sail_types.specs.declared.values.Value.{Value}
use Rattle.sail_meaning.specs.Text.{Called, Callee, alone, mapping}
use Rattle.sail_meaning.specs.World.{Bindings}
use Rattle.shape_rules.specs.declared.callees.Candidate.{Candidate}
use Rattle.shape_rules.specs.declared.callees.Meant.{Meant}
use Rattle.shape_rules.specs.declared.callees.Meant.TheVariants as M
use Rattle.shape_rules.specs.declared.locals.Local.{Local}
use Rattle.shape_rules.specs.Scopes.{Setting}
use Rattle.shape_rules.specs.Written.{joined}
use Rattle.shape_models.specs.Models as Shapes
use Rattle.shape_models.specs.Models.{Tabled, added_to_name, candidates, entries, let_in, setting_of}
use Rattle.shape_meanings.specs.Worlds.{Distinct}
use Rattle.shapes.specs.Failures.{own_in}
use Rattle.model_meanings.specs.Callees.{CandidatesStand, Model}
use Rattle.model_meanings.specs.Models.{NameStands}
use Rattle.known_texts.specs.Definitions.{DefinitionsAre}
use Rattle.known_texts.specs.TextLaws.{NamesAreApart, model_in}
use Rattle.known_texts.specs.Texts as Text
use Rattle.known_texts.specs.Texts.{all_named, called_in, text_of}
use Rattle.known_texts.proofs.Definitions.{all_stand}
use Rattle.known_texts.proofs.NamesInOrder.{OwnStands, own_stands}
use Rattle.known_texts.proofs.OverloadMembers.{name_stands, operator_stands}

-- what a let means
abbrev pub IsLet : Option Meant → Type 0
IsLet None = Unit {0}
IsLet (Some (M.Let i s)) = Unit {0}
IsLet meant = ⊥

let_if : (b : Bool) (i : ℕ) (s : Shape) (later : Option Meant) → IsLet later → IsLet (if b then Some (M.Let i s) else later)
let_if true i s later h = tt
let_if false i s later h = h

pub let_is : (i : ℕ) (lets : List Local) (name : List ℕ) → IsLet (let_in i lets name)
let_is i [] name = tt
let_is i (l ∷ ls) name = let_if (bytes_eq l.name name) i l.shape (let_in (suc i) ls name) (let_is (suc i) ls name)

by_meaning : (setting : Setting) (m : Model) (name : List ℕ) (own : Option Meant) (called : Option Called) (bound : Option Meant) (row : Option Row)
    (fs : List Candidate) (cs : List Callee)
    → OwnStands setting m name own called → IsLet bound → CandidatesStand setting m fs cs → Distinct fs
    → m.source.text.called name ≡ Text.or_overload (Text.or_row setting.types called row) cs
    → NameStands setting m name (Shapes.or_overload (Shapes.or_row (option_or own bound) row) fs)
by_meaning setting m name (Some (M.Callee f)) (Some (alone callee)) bound row fs cs st l added apart is = (callee, is, st.0, st.1)
by_meaning setting m name (Some (M.Mapping it)) (Some (mapping forwards backwards)) bound row fs cs st l added apart is = record {
  forwards = forwards;
  backwards = backwards;
  called = is;
  left = st.left;
  right = st.right;
  ahead = st.ahead;
  back = st.back;
  no_constructor = st.no_constructor;
}
by_meaning setting m name (Some (M.Register r s)) None bound row fs cs st l added apart is = tt
by_meaning setting m name (Some (M.Member i k)) None bound row fs cs st l added apart is = tt
by_meaning setting m name (Some meant) called bound row fs cs st l added apart is = absurd st
by_meaning setting m name None (Some c) bound row fs cs st l added apart is = absurd st
by_meaning setting m name None None (Some (M.Let i s)) row fs cs st l added apart is = tt
by_meaning setting m name None None (Some meant) row fs cs st l added apart is = absurd l
by_meaning setting m name None None None (Some row) fs cs st l added apart is = is
by_meaning setting m name None None None None [] cs st l added apart is = tt
by_meaning setting m name None None None None (f ∷ fs) [] st l added apart is = absurd added
by_meaning setting m name None None None None (f ∷ fs) (c ∷ cs) st l added apart is = (c ∷ cs, is, added, apart)

module _ (tabled : Tabled) (cycle : List ℕ → Option ℕ) (text : List Def) (lets : List Local) (hart : ℕ) (values : List Value) (bindings : Bindings)
    (are : DefinitionsAre tabled text (setting_of tabled (own_in tabled text) text lets) cycle) where
  abbrev setting : Setting
  setting = setting_of tabled (own_in tabled text) text lets []

  abbrev m : Model
  m = model_in tabled cycle text lets hart values bindings

  abbrev called : List ℕ → Option Called
  called = called_in (all_named tabled cycle text)

  owns : (name : List ℕ) → OwnStands setting m name (own_in tabled text name) (called name)
  owns name =
      own_stands setting m (entries tabled text) (all_named tabled cycle text) (all_stand tabled cycle text lets hart values bindings are) name

  pub names_stand : NamesAreApart tabled text → (name : List ℕ) → NameStands setting m name (setting.value name)
  names_stand apart name =
      by_meaning setting m name (own_in tabled text name) (called name) (let_in 0 lets name) (row_named name)
      (candidates (added_to_name tabled.types (own_in tabled text) text name)) (joined (map (Text.adds_to_name tabled.types called name) text)) (owns name)
      (let_is 0 lets name) (name_stands setting m (own_in tabled text) called owns text name) (apart name) refl

  pub added_stand : (operator : Operator) → CandidatesStand setting m (setting.added operator) ((text_of tabled cycle text).added operator)
  added_stand operator = operator_stands setting m (own_in tabled text) called owns text operator
