-- The worlds around the core of a text that nothing is refused for: what each of its expressions can name is there.
use Rattle.std.proofs.Common.{◌≡◌, ℕ, ◌<◌, List, [], map, ap, sym, ◌∙◌, refl, subst, Bool, true, false, Option, Some, None}
use Rattle.std.specs.Prelude.{slice_get}
use Rattle.std.specs.List.{list_all}
use Rattle.sail_syntax.specs.declared.definitions.Def.{Def}
use Rattle.sail_types.specs.Named.{fields}
use Rattle.sail_types.specs.Shapes.{shape}
use Rattle.sail_types.specs.declared.shapes.Shape.{Shape}
use Rattle.sail_types.specs.declared.values.Value.{Value}
use Rattle.sail_kinds.specs.declared.scope.Variable.{Variable}
use Rattle.sail_core.specs.declared.model.CoreModel.{CoreModel}
use Rattle.sail_core.specs.declared.tree.Callee.TheVariants as C
use Rattle.sail_core.specs.Making.{World}
use Rattle.sail_core.specs.Start.{opening_world}
use Rattle.sail_cycles.specs.Callees.{mappings_of_global}
use Rattle.sail_names.specs.declared.around.Allowed.TheVariants.{Plain}
use Rattle.sail_names.specs.declared.names.Global.{Global}
use Rattle.sail_names.specs.declared.names.Global.TheVariants as G
use Rattle.sail_names.specs.Known as Tables
use Rattle.sail_names.specs.Known.{is_any, is_construction, is_global_value, is_let_seen}
use Rattle.shape_joins.proofs.Order.{no}
use Rattle.shape_rules.specs.declared.callees.Doing.{Doing}
use Rattle.shape_rules.specs.declared.callees.Doing.TheVariants as D
use Rattle.shape_rules.specs.declared.callees.Meant.{Meant}
use Rattle.shape_rules.specs.declared.callees.Meant.TheVariants as M
use Rattle.shape_rules.specs.declared.locals.Local.{Local}
use Rattle.shape_rules.specs.Scopes.{answering, plainly, thrown_as}
use Rattle.shape_models.specs.Models.{Tabled, exception_in, setting_of}
use Rattle.shape_meanings.specs.Keeping.{Fits, FitAll, reach_of}
use Rattle.shape_meanings.specs.Naming.{AreKnown, MeantAs}
use Rattle.shape_meanings.specs.Whole.{Choice, all_below}
use Rattle.shape_meanings.specs.Worlds.{FieldsBelow}
use Rattle.shapes.specs.Failures.{all_lets, own_in}
use Rattle.shapes.specs.Resolved.{resolved}
use Rattle.shapes.specs.Tabled.{tabled_of}
use Rattle.known_texts.specs.Values.{RegistersTyped}
use Rattle.known_texts.specs.Known.{DefinitionsKnown}
use Rattle.known_texts.specs.Whole.{setting_in}
use Rattle.shape_progress.specs.Going.{GoesOn}
use Rattle.model_progress.specs.Shaped.{Around, Common, common_of, reach_in, thrown_of}
use Rattle.shape_stands.specs.Inside.{Inside}
use Rattle.text_progress.specs.Entries.{MaybeIn, MeantIn, Parts, ValueIn}
use Rattle.text_progress.specs.Positions.{Given, LetsThere, in_body, in_let, in_plain}
use Rattle.text_progress.proofs.Entries as Entries
use Rattle.text_progress.proofs.Entries.{all_in}
use Rattle.text_progress.proofs.Insides.{HeadWays, Ways, Works, each_called, inside, lets_there}
use Rattle.text_progress.proofs.Meant.{operator_in, value_in}

-- the shape of what is thrown is the same in the model and in the setting
same_thrown : (o : Option ℕ) → thrown_of o ≡ thrown_as o
same_thrown None = refl
same_thrown (Some i) = refl

-- that a register can be named in a plain expression is refused
not_plain : {A : Type 0} (names : Tables.Setting) (o : Option Global) (r : ℕ) (s : Shape) → MeantAs names o (Some (M.Register r s))
    → is_global_value Plain names.number o ≡ true → names.allowed ≡ Plain → A
not_plain names (Some G.Register) r s means is plain = no is
not_plain names (Some (G.Let n)) r s means is plain =
    let k = means (subst (λ a. is_let_seen a n names.number ≡ true) (sym plain) is) in
    absurd (differ k.0 k.1 k.2)
  where
    differ : (i : ℕ) (t : Shape) → Some (M.Register r s) ≡ Some (M.Let i t) → ⊥
    differ i t e = cc
not_plain names (Some G.Member) r s means is plain = absurd (differ means.0 means.1 means.2)
  where
    differ : (i k : ℕ) → Some (M.Register r s) ≡ Some (M.Member i k) → ⊥
    differ i k e = cc
not_plain names (Some G.Constructor) r s means is plain = no is
not_plain names (Some (G.Function n)) r s means is plain = no is
not_plain names (Some (G.Mapping n)) r s means is plain = no is
not_plain names (Some (G.Direction n)) r s means is plain = no is
not_plain names (Some (G.Overload ns)) r s means is plain = no is
not_plain names (Some G.Builtin) r s means is plain = no is
not_plain names (Some G.StateBuiltin) r s means is plain = no is
not_plain names None r s means is plain = no is

module _ (text : List Def) (cycle : List ℕ → Option ℕ) (known : DefinitionsKnown (tabled_of text) text (setting_in (tabled_of text) text))
    (typed : RegistersTyped (tabled_of text) text) where
  abbrev tabled : Tabled
  tabled = tabled_of text

  abbrev lets : List Local
  lets = all_lets (tabled_of text) text

  abbrev pub m : CoreModel
  m = resolved (tabled_of text) cycle text

  abbrev pub shapes : List Shape
  shapes = map (λ (l : Local). l.shape) lets

  abbrev pub common : Common
  common = common_of m shapes

  abbrev pub parts : Parts
  parts = Entries.core (tabled_of text) cycle text lets

  each_own : (name : List ℕ) → MaybeIn parts (own_in (tabled_of text) text name)
  each_own = all_in (tabled_of text) cycle text lets known typed

  pub values : (some : List Local) (variables : List Variable) (name : List ℕ)
      → ValueIn parts some ((setting_of (tabled_of text) (own_in (tabled_of text) text) text some variables).value name)
  values some variables name = value_in parts (own_in (tabled_of text) text) each_own text some name

  -- what is in reach is the same to the model and to shapes
  pub same_reach : (variables : List Variable) (answer : Option Shape) (c : Choice) (slots : List Local)
      → reach_in common answer c slots ≡ reach_of (answering answer (setting_in (tabled_of text) text variables)) common.registers c slots
  same_reach variables answer c slots =
      ap (λ t. record { types = tabled.types; registers = common.registers; thrown = t; answer = answer; choice = c; slots = slots })
      (same_thrown (exception_in tabled))

  -- ---- bodies and measures, in the world of what was called

  module _ (rank : ℕ → ℕ) (bound : ℕ) (c : Choice) (w : World Value) (around : Around common m rank bound w) where
    abbrev can : ℕ → Type 0
    can n = rank n < bound

    body_works : (variables : List Variable) (answer : Option Shape) (names : Tables.Setting) (converts : ℕ → Bool)
        → Works parts (in_body text variables answer names converts) can common.registers c w
    body_works variables answer names converts = record {
      call = λ i f there d place vs fit slots.
          subst (λ r. GoesOn r w (Fits tabled.types d (shape f.result)) (w.call place i None vs)) (same_reach variables answer c slots)
          (around.call answer c slots i f there d place vs fit);
      enter = λ i g there d v fit slots.
          subst (λ r. GoesOn r w (Fits tabled.types d (shape g.result)) (w.enter i v)) (same_reach variables answer c slots) (around.enter answer c slots i g there d v fit);
      way = λ i g there may d v fit slots.
          subst (λ r. GoesOn r w (Fits tabled.types d (shape g.result)) (w.way i v)) (same_reach variables answer c slots) (around.way answer c slots i g there may d v fit);
    }

    seen : (variables : List Variable) (name : List ℕ) (r : ℕ) (s : Shape) → (setting_in (tabled_of text) text variables).value name ≡ Some (M.Register r s)
        → slice_get common.registers r ≡ Some s
    seen variables name r s e =
        let it : MeantIn parts (M.Register r s) = subst (ValueIn parts lets) e (values lets variables name) in it

    pub body_inside : (variables : List Variable) (answer : Option Shape) (names : Tables.Setting) (converts : ℕ → Bool)
        → AreKnown (answering answer (setting_in (tabled_of text) text variables)) names → all_below 0 common.registers ≡ true
        → Given (in_body text variables answer names converts) w
        → ((name : List ℕ) → is_construction names name ≡ true → list_all converts (mappings_of_global (names.known.value name)) ≡ true
        → Ways can ((setting_in (tabled_of text) text variables).value name))
        → ((i : ℕ) → FieldsBelow (answering answer (setting_in (tabled_of text) text variables)) i (fields tabled.types i))
        → Inside (in_body text variables answer names converts) common.registers c w
    body_inside variables answer names converts are whole given ways below =
        inside (answering answer (setting_in (tabled_of text) text variables)) names converts m.functions m.directions common.registers can common.registers
        c w are lets (values lets variables) (λ any. body_works variables answer names converts)
        (λ operator. each_called (answering answer (setting_in (tabled_of text) text variables)) names converts m.functions m.directions common.registers
        can common.registers c w (body_works variables answer names converts) ((setting_in (tabled_of text) text variables).added operator)
        (operator_in parts (own_in (tabled_of text) text) each_own text operator)) (λ name r s e is. seen variables name r s e) whole
        (lets_there (answering answer (setting_in (tabled_of text) text variables)) names converts m.functions m.directions common.registers can
        common.registers c w lets (values lets variables) (around.lets c)) given ways below

  -- ---- lets, initial values and measures, which are plain: nothing is asked of their world but what lets are

  doing_ways : (doing : Doing) → HeadWays (λ n. Unit {0}) doing
  doing_ways (D.Calls (C.Converts n)) = tt
  doing_ways doing = tt

  all_ways : (o : Option Meant) → Ways (λ n. Unit {0}) o
  all_ways (Some (M.Callee f)) = doing_ways f.doing
  all_ways (Some (M.Mapping m)) = (tt, tt)
  all_ways o = tt

  plain_inside : (some : List Local) (variables : List Variable) (names : Tables.Setting) (registers : List Shape) (c : Choice) (w : World Value)
      → AreKnown (plainly (setting_of (tabled_of text) (own_in (tabled_of text) text) text some variables)) names → names.allowed ≡ Plain
      → all_below 0 registers ≡ true
      → LetsThere (record { setting = plainly (setting_of (tabled_of text) (own_in (tabled_of text) text) text some variables); names = names; converts = λ q. false }) c w
      → Given (record { setting = plainly (setting_of (tabled_of text) (own_in (tabled_of text) text) text some variables); names = names; converts = λ q. false }) w
      → ((i : ℕ) → FieldsBelow (plainly (setting_of (tabled_of text) (own_in (tabled_of text) text) text some variables)) i (fields tabled.types i))
      → Inside (record { setting = plainly (setting_of (tabled_of text) (own_in (tabled_of text) text) text some variables); names = names; converts = λ q. false })
      registers c w
  plain_inside some variables names registers c w are plain whole has_lets given below =
      inside (plainly (setting_of (tabled_of text) (own_in (tabled_of text) text) text some variables)) names (λ q. false) m.functions m.directions
      common.registers (λ n. Unit {0}) registers c w are some (values some variables) (λ any. no (sym (ap is_any plain) ∙ any)) (λ operator. tt)
      (λ name r s e is. not_plain names (names.known.value name) r s (subst (MeantAs names (names.known.value name)) e (are.values name))
      (subst (λ a. is_global_value a names.number (names.known.value name) ≡ true) plain is) plain) whole has_lets given
      (λ name is may. all_ways ((setting_of (tabled_of text) (own_in (tabled_of text) text) text some variables).value name)) below

  pub let_inside : (some : List Local) (names : Tables.Setting) (c : Choice) (vs : List Value) → AreKnown (in_let text some names).setting names
      → names.allowed ≡ Plain → LetsThere (in_let text some names) c (opening_world vs) → Given (in_let text some names) (opening_world vs)
      → ((i : ℕ) → FieldsBelow (in_let text some names).setting i (fields tabled.types i)) → Inside (in_let text some names) [] c (opening_world vs)
  let_inside some names c vs are plain has_lets given below = plain_inside some [] names [] c (opening_world vs) are plain refl has_lets given below

  pub measured_inside : (variables : List Variable) (names : Tables.Setting) (registers : List Shape) (c : Choice) (w : World Value)
      → AreKnown (in_plain text variables names).setting names → names.allowed ≡ Plain → all_below 0 registers ≡ true
      → LetsThere (in_plain text variables names) c w → Given (in_plain text variables names) w
      → ((i : ℕ) → FieldsBelow (in_plain text variables names).setting i (fields tabled.types i)) → Inside (in_plain text variables names) registers c w
  measured_inside variables names registers c w are plain whole has_lets given below =
      plain_inside lets variables names registers c w are plain whole has_lets given below

  -- lets have their values in the world of what was called
  pub lets_seen : (variables : List Variable) (names : Tables.Setting) (c : Choice) (w : World Value) → FitAll tabled.types c shapes w.lets
      → LetsThere (in_plain text variables names) c w
  lets_seen variables names c w fit =
      lets_there (plainly (setting_in (tabled_of text) text variables)) names (λ q. false) m.functions m.directions common.registers (λ n. Unit {0})
      common.registers c w lets (values lets variables) fit
