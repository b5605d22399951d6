-- Lets that are bound so far, among those that all lets of a text bind; and what is known of a text in the setting under them.
use Rattle.std.proofs.Common.{◌≡◌, ℕ, suc, List, [], ◌∷◌, ◌++◌, append-nil, append_assoc, map, ap, sym, ◌∙◌, refl, subst, Bool, true, false, Option, Some}
use Rattle.std.proofs.Common.{None, if◌then◌else◌}
use Rattle.std.specs.Option.{option_or}
use Rattle.std.specs.Str.{bytes_eq}
use Rattle.sail_syntax.specs.declared.definitions.Def.{Def}
use Rattle.sail_types.specs.Named.{fields}
use Rattle.sail_types.specs.Rows.{row_named}
use Rattle.sail_types.specs.declared.rows.Row.{Row}
use Rattle.sail_types.specs.declared.table.Field.{Field}
use Rattle.sail_types.specs.declared.table.Types.{Types}
use Rattle.sail_types.specs.declared.values.Value.{Value}
use Rattle.sail_core.specs.declared.tree.Callee.TheVariants as C
use Rattle.sail_core.specs.Start as CoreStart
use Rattle.sail_meaning.specs.Named.{constructor_named}
use Rattle.sail_meaning.specs.Start as SourceStart
use Rattle.sail_meaning.specs.Text.{Called, Callee, Text, alone, mapping}
use Rattle.sail_meaning.specs.World.{Bindings}
use Rattle.shape_joins.proofs.JoinsLeast.{none}
use Rattle.shape_rules.specs.declared.callees.Candidate.{Candidate}
use Rattle.shape_rules.specs.declared.callees.Doing.{Doing}
use Rattle.shape_rules.specs.declared.callees.Doing.TheVariants as Does
use Rattle.shape_rules.specs.declared.callees.Meant.{Meant}
use Rattle.shape_rules.specs.declared.callees.Meant.TheVariants as M
use Rattle.shape_rules.specs.declared.locals.Local.{Local}
use Rattle.shape_rules.specs.Scopes.{Setting}
use Rattle.shape_rules.specs.Written.{joined}
use Rattle.shape_models.specs.Models as Shapes
use Rattle.shape_models.specs.Models.{Own, Tabled, added_to_name, candidates, let_in, setting_of, within_variables}
use Rattle.shape_meanings.specs.Models.{register_shapes}
use Rattle.shape_meanings.specs.Naming.{is_constructor}
use Rattle.shape_meanings.specs.Worlds.{FieldsBelow, ValueAs}
use Rattle.shape_meanings.proofs.PatternsSound.{constructor_doing}
use Rattle.shapes.specs.Failures.{all_lets, let_binds, lets_behind, lets_with, own_in}
use Rattle.model_meanings.specs.Callees.{CandidateStands, DoesAs, Model, core_world, source_world}
use Rattle.model_meanings.specs.Models.{constructor_of}
use Rattle.opening_meanings.specs.Openings.{AreBound}
use Rattle.opening_meanings.specs.Plain.{callee_if, uncalled_meant}
use Rattle.opening_meanings.specs.Worlds.{NameOpens, Opens}
use Rattle.known_texts.specs.Definitions.{DefinitionsAre}
use Rattle.known_texts.specs.TextLaws.{model_in}
use Rattle.known_texts.specs.Texts as Texts
use Rattle.known_texts.specs.Texts.{all_named, called_in, text_of}
use Rattle.known_texts.specs.Values.{LetsAre, NamesAreOnce, RegistersTyped, member_of}
use Rattle.known_texts.specs.Whole.{TypesKnown, setting_in}
use Rattle.known_texts.proofs.Definitions.{all_stand}
use Rattle.known_texts.proofs.NamesInOrder.{OwnStands, own_stands}
use Rattle.known_texts.proofs.Names.{IsLet, let_is}
use Rattle.known_texts.proofs.ValueNames.{values_stand}

-- ---- lists of lets

pub bound_more : (types : Types) (ls ms : List Local) (vs us : List Value) (bs cs : Bindings) → AreBound types ls vs bs → AreBound types ms us cs
    → AreBound types (ls ++ ms) (vs ++ us) (bs ++ cs)
bound_more types [] ms [] us [] cs a b = b
bound_more types (l ∷ ls) ms (v ∷ vs) us (x ∷ bs) cs a b = (a.0, a.1, a.2, bound_more types ls ms vs us bs cs a.3 b)
bound_more types ls ms vs us bs cs a b = absurd a

pub no_lets : (types : Types) (ls : List Local) → LetsAre types ls [] []
no_lets types [] = tt
no_lets types (l ∷ ls) = tt

-- those that openings don't come to have no value yet
pub lets_so_far : (types : Types) (ls more : List Local) (vs : List Value) (bs : Bindings) → AreBound types ls vs bs → LetsAre types (ls ++ more) vs bs
lets_so_far types [] more [] [] a = no_lets types more
lets_so_far types (l ∷ ls) more (v ∷ vs) (b ∷ bs) a = (a.0, a.1, a.2, lets_so_far types ls more vs bs a.3)
lets_so_far types ls more vs bs a = absurd a

pub lets_of_bound : (types : Types) (ls : List Local) (vs : List Value) (bs : Bindings) → AreBound types ls vs bs → LetsAre types ls vs bs
lets_of_bound types ls vs bs a = subst (λ (ms : List Local). LetsAre types ms vs bs) (append-nil ls) (lets_so_far types ls [] vs bs a)

-- lets come behind those before
pub lets_go_on : (tabled : Tabled) (own : Own) (text : List Def) (lets : List Local) (more : List Def)
    → (later : List Local) × (lets_behind tabled own text lets more ≡ (lets ++ later))
lets_go_on tabled own text lets [] = ([], sym (append-nil lets))
lets_go_on tabled own text lets (d ∷ more) =
    let next = lets_go_on tabled own text (lets_with tabled own text lets d) more in
    (let_binds tabled own text lets d ++ next.0, next.1 ∙ append_assoc lets (let_binds tabled own text lets d) next.0)

-- ---- a name under the lets that are bound so far

front_step : (b : Bool) (l : Local) (i : ℕ) (later sooner : Option Meant) → (later ≡ None → sooner ≡ None)
    → (if b then Some (M.Let i l.shape) else later) ≡ None → (if b then Some (M.Let i l.shape) else sooner) ≡ None
front_step true l i later sooner next e = none (sym e)
front_step false l i later sooner next e = next e

let_in_front : (i : ℕ) (ls ms : List Local) (name : List ℕ) → let_in i (ls ++ ms) name ≡ None → let_in i ls name ≡ None
let_in_front i [] ms name e = refl
let_in_front i (l ∷ ls) ms name e =
    front_step (bytes_eq l.name name) l i (let_in (suc i) (ls ++ ms) name) (let_in (suc i) ls name) (λ h. let_in_front (suc i) ls ms name h) e

-- no let is a member of an enum
same_member : (own a b : Option Meant) (row : Option Row) (fs : List Candidate) → IsLet a → IsLet b
    → member_of (Shapes.or_overload (Shapes.or_row (option_or own a) row) fs) ≡ member_of (Shapes.or_overload (Shapes.or_row (option_or own b) row) fs)
same_member (Some meant) a b row fs la lb = refl
same_member None a b row fs la lb = no_member a row fs la ∙ sym (no_member b row fs lb)
  where
    no_member : (a : Option Meant) (row : Option Row) (fs : List Candidate) → IsLet a
        → member_of (Shapes.or_overload (Shapes.or_row a row) fs) ≡ None
    no_member None None [] l = refl
    no_member None None (f ∷ fs) l = refl
    no_member None (Some row) fs l = refl
    no_member (Some (M.Let i s)) row fs l = refl
    no_member (Some meant) row fs l = absurd l

pub once_before : (tabled : Tabled) (text : List Def) (ls ms : List Local) → NamesAreOnce tabled text (ls ++ ms) → NamesAreOnce tabled text ls
once_before tabled text ls ms once = record {
  members = λ name.
      once.members name
      ∙ same_member (own_in tabled text name) (let_in 0 (ls ++ ms) name) (let_in 0 ls name) (row_named name)
      (candidates (added_to_name tabled.types (own_in tabled text) text name)) (let_is 0 (ls ++ ms) name) (let_is 0 ls name);
  in_range = once.in_range;
  registers = λ name r s is. let_in_front 0 ls ms name (once.registers name r s is);
}

-- ---- what can be called

module _ (tabled : Tabled) (cycle : List ℕ → Option ℕ) (text : List Def)
    (are : DefinitionsAre tabled text (setting_in tabled text) cycle) where
  abbrev source : Text
  source = text_of tabled cycle text

  abbrev all : Setting
  all = setting_in tabled text []

  abbrev m : Model
  m = model_in tabled cycle text (all_lets tabled text) 0 [] []

  abbrev called : List ℕ → Option Called
  called = called_in (all_named tabled cycle text)

  own_name : (name : List ℕ) → OwnStands all m name (own_in tabled text name) (called name)
  own_name name =
      own_stands all m (Shapes.entries tabled text) (all_named tabled cycle text) (all_stand tabled cycle text (all_lets tabled text) 0 [] [] are) name

  constructor_does : (f : Candidate) (callee : Callee) (u k : ℕ) → f.doing ≡ Does.Calls (C.Constructor u k) → DoesAs all m f callee f.doing
      → DoesAs all m f callee (Does.Calls (C.Constructor u k))
  constructor_does f callee u k is does = subst (λ (d : Doing). DoesAs all m f callee d) is does

  constructor_opens : (name : List ℕ) (f : Candidate) (callee : Callee) → CandidateStands all m f callee
      → constructor_named tabled.types name ≡ constructor_of f.doing → source.called name ≡ Some (alone callee) → (b : Bool) → is_constructor f.doing ≡ b
      → NameOpens tabled.types source name (callee_if b f)
  constructor_opens name f callee st named by_name false is = tt
  constructor_opens name f callee st named by_name true is =
      let doing = constructor_doing f.doing is in
      let does = constructor_does f callee doing.0 doing.1 doing.2 st.does in
      record {
        union = doing.0;
        place = doing.1;
        does = doing.2;
        called = by_name ∙ ap (λ (k : Callee). Some (alone k)) does.0;
        named = named ∙ ap constructor_of doing.2;
        whole = st.whole;
        answer = st.answer;
        is = does.1;
      }

  by_meaning : (name : List ℕ) (own : Option Meant) (o : Option Called) (bound : Option Meant) (row : Option Row) (fs : List Candidate) (cs : List Callee)
      → OwnStands all m name own o → IsLet bound → source.called name ≡ Texts.or_overload (Texts.or_row tabled.types o row) cs
      → NameOpens tabled.types source name (uncalled_meant (Shapes.or_overload (Shapes.or_row (option_or own bound) row) fs))
  by_meaning name (Some (M.Callee f)) (Some (alone callee)) bound row fs cs st l is =
      constructor_opens name f callee st.0 st.1 is (is_constructor f.doing) refl
  by_meaning name (Some (M.Mapping it)) (Some (mapping forwards backwards)) bound row fs cs st l is = tt
  by_meaning name (Some (M.Register r s)) None bound row fs cs st l is = tt
  by_meaning name (Some (M.Member i k)) None bound row fs cs st l is = tt
  by_meaning name (Some meant) o bound row fs cs st l is = absurd st
  by_meaning name None (Some c) bound row fs cs st l is = absurd st
  by_meaning name None None (Some (M.Let i s)) row fs cs st l is = tt
  by_meaning name None None (Some meant) row fs cs st l is = absurd l
  by_meaning name None None None (Some row) fs cs st l is = is
  by_meaning name None None None None [] cs st l is = tt
  by_meaning name None None None None (f ∷ fs) cs st l is = tt

  pub name_opens : (lets : List Local) (name : List ℕ)
      → NameOpens tabled.types source name (uncalled_meant ((setting_of tabled (own_in tabled text) text lets []).value name))
  name_opens lets name =
      by_meaning name (own_in tabled text name) (called name) (let_in 0 lets name) (row_named name)
      (candidates (added_to_name tabled.types (own_in tabled text) text name)) (joined (map (Texts.adds_to_name tabled.types called name) text)) (own_name name)
      (let_is 0 lets name) refl

  -- ---- all of it

  value_opens : (lets : List Local) (values : List Value) (bindings : Bindings) (name : List ℕ) (meant : Option Meant)
      → ValueAs (setting_of tabled (own_in tabled text) text lets []) (register_shapes source.registers)
      (core_world (model_in tabled cycle text lets 0 values bindings) 0 [] [] [])
      (source_world (model_in tabled cycle text lets 0 values bindings) 0 [] (within_variables tabled []) []) name meant
      → ValueAs (setting_of tabled (own_in tabled text) text lets []) (register_shapes source.registers) (CoreStart.opening_world values)
      (SourceStart.opening_world source bindings) name meant
  value_opens lets values bindings name (Some (M.Register r s)) h = h
  value_opens lets values bindings name (Some (M.Let i s)) h = h
  value_opens lets values bindings name (Some (M.Member i k)) h = h
  value_opens lets values bindings name meant h = h

  fields_known : (lets : List Local) (i : ℕ) (o : Option (List Field)) → FieldsBelow all i o
      → FieldsBelow (setting_of tabled (own_in tabled text) text lets []) i o
  fields_known lets i None h = tt
  fields_known lets i (Some fs) h = h

  -- under some of the lets, of which some have values
  pub text_opens : TypesKnown all (register_shapes source.registers) → RegistersTyped tabled text
      → (lets : List Local) → NamesAreOnce tabled text lets → (values : List Value) (bindings : Bindings) → LetsAre tabled.types lets values bindings
      → Opens (setting_of tabled (own_in tabled text) text lets []) (register_shapes source.registers) source values bindings
  text_opens types typed lets once values bindings valued = record {
    types = refl;
    within = refl;
    no_answer = refl;
    closed_registers = types.closed_registers;
    closed_thrown = types.closed_thrown;
    fields_below = λ i. fields_known lets i (fields tabled.types i) (types.fields_below i);
    structs = types.structs;
    values = λ name.
        value_opens lets values bindings name ((setting_of tabled (own_in tabled text) text lets []).value name)
        (values_stand tabled cycle text lets 0 values bindings typed once valued name);
    names = λ name. name_opens lets name;
  }
