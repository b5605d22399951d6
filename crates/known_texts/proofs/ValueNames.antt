-- Names of values: what shapes find of a name is what both sides find.
use Rattle.std.proofs.Common.{◌≡◌, ℕ, suc, ◌+◌, List, [], ◌∷◌, ◌++◌, length, map, ap, sym, ◌∙◌, refl, subst, Bool, true, false, not, Option}
use Rattle.std.proofs.Common.{Some, None, if◌then◌else◌, nat_eq, nat_lt, arith}
use Rattle.std.specs.Prelude.{slice_get}
use Rattle.std.specs.List.{position, position_or_len}
use Rattle.std.specs.Option.{option_or}
use Rattle.std.specs.Str.{bytes_eq}
use Rattle.sail_types.specs.Named.{constructors, members}
use Rattle.sail_types.specs.Rows.{row_named}
use Rattle.sail_types.specs.Shapes.{fits, form_fits, shape}
use Rattle.sail_types.specs.declared.rows.Row.{Row}
use Rattle.sail_types.specs.declared.shapes.Shape.{Shape, out-Shape}
use Rattle.sail_types.specs.declared.shapes.Shape.TheOpen as S
use Rattle.sail_types.specs.declared.shapes.Shape.TheVariants as V
use Rattle.sail_types.specs.declared.shapes.Shape.TheViews.{out-roll-Shape}
use Rattle.sail_types.specs.declared.table.Field.{Field}
use Rattle.sail_types.specs.declared.table.Types.{Types}
use Rattle.sail_types.specs.declared.types.Typ.{Typ}
use Rattle.sail_types.specs.declared.values.Value.{Value}
use Rattle.sail_types.specs.declared.values.Value.TheOpen as W
use Rattle.sail_types.specs.declared.values.Value.TheVariants as Val
use Rattle.sail_syntax.specs.declared.definitions.Def.{Def}
use Rattle.sail_syntax.specs.declared.definitions.Def.TheVariants as D
use Rattle.sail_signatures.specs.declared.signature.Signature.{Signature}
use Rattle.model_state.specs.declared.state.Register.{Register}
use Rattle.sail_core.specs.Run.{held_in}
use Rattle.sail_meaning.specs.Named.{member_named}
use Rattle.sail_meaning.specs.World.{Bindings, register_named}
use Rattle.shape_joins.proofs.JoinsLeast.{none, some_same}
use Rattle.shape_joins.proofs.Order.{same_nat, two}
use Rattle.shape_rules.specs.declared.callees.Candidate.{Candidate}
use Rattle.shape_rules.specs.declared.callees.Meant.{Meant}
use Rattle.shape_rules.specs.declared.callees.Meant.TheVariants as M
use Rattle.shape_rules.specs.declared.locals.Local.{Local}
use Rattle.shape_rules.specs.Scopes.{Setting}
use Rattle.shape_rules.specs.Written.{joined, shape_or_never, typ_in}
use Rattle.shape_models.specs.declared.entries.Counts.{Counts}
use Rattle.shape_models.specs.declared.entries.Entry.{Entry}
use Rattle.shape_models.specs.Models as Shapes
use Rattle.shape_models.specs.Models.{Tabled, added_to_name, candidates, counts_with, def_entries, entries, entries_from, let_in, meant_in, no_counts}
use Rattle.shape_models.specs.Models.{params_variables, place_in_table, setting_of, type_variables, within_variables}
use Rattle.shape_meanings.specs.Keeping.{Fits}
use Rattle.shape_meanings.specs.Whole.{Choice}
use Rattle.shape_meanings.specs.Models.{register_shapes}
use Rattle.shape_meanings.specs.Worlds.{LetAs, ValueAs}
use Rattle.shape_meanings.proofs.Values.{fits_form}
use Rattle.shapes.specs.Failures.{own_in}
use Rattle.model_meanings.specs.Callees.{Model, core_world, source_world}
use Rattle.known_texts.specs.TextLaws.{model_in}
use Rattle.known_texts.specs.Texts.{register_if, registers_by, text_of}
use Rattle.known_texts.specs.Values.{LetsAre, NamesAreOnce, RegistersTyped, member_of}
use Rattle.known_texts.proofs.Names.{IsLet, let_is}

-- ---- lets

abbrev let_place : Option Meant → ℕ
let_place (Some (M.Let i s)) = i
let_place meant = 0

abbrev let_shape : Option Meant → Shape
let_shape (Some (M.Let i s)) = s
let_shape meant = V.Unit

module _ (types : Types) (name : List ℕ) where
  -- what is known of the value of a let
  abbrev HasShape : Shape → Option Value → Type 0
  HasShape s None = Unit {0}
  HasShape s (Some v) = (c : Choice) → Fits types c s v

  -- a let among lets behind so many
  abbrev LetAt : ℕ → List Value → Bindings → ℕ → Shape → Type 0
  LetAt i vs bs k s =
      (j : ℕ) × (k ≡ (i + j)) × (o : Option Value) × (slice_get vs j ≡ o) × (held_in name bs ≡ o) × HasShape s o

  let_step : (i : ℕ) (l : Local) (ls : List Local) (v : Value) (vs : List Value) (held : Value) (bs : Bindings) (k : ℕ) (s : Shape) (b : Bool)
      → held ≡ v → ((c : Choice) → Fits types c l.shape v)
      → (let_in (suc i) ls name ≡ Some (M.Let k s) → LetAt (suc i) vs bs k s)
      → (if b then Some (M.Let i l.shape) else let_in (suc i) ls name) ≡ Some (M.Let k s)
      → (j : ℕ) × (k ≡ (i + j)) × (o : Option Value) × (slice_get (v ∷ vs) j ≡ o) × ((if b then Some held else held_in name bs) ≡ o) × HasShape s o
  let_step i l ls v vs held bs k s true same fit later e =
      let shapes : l.shape ≡ s = ap let_shape e in (
        0,
        sym (ap let_place e) ∙ and_none i,
        Some v,
        refl,
        ap Some same,
        subst (λ t. (c : Choice) → Fits types c t v) shapes fit,
      )
    where
      and_none : (i : ℕ) → i ≡ (i + 0)
      and_none i = omega arith
  let_step i l ls v vs held bs k s false same fit later e =
      let at : LetAt (suc i) vs bs k s = later e in
      (suc at.0, at.1 ∙ moved i at.0, at.2, at.3, at.4, at.5)
    where
      moved : (i j : ℕ) → (suc i + j) ≡ (i + suc j)
      moved i j = omega arith

  -- its place, where it has no value
  behind_step : (i : ℕ) (l : Local) (later : Option Meant) (k : ℕ) (s : Shape) (b : Bool)
      → (later ≡ Some (M.Let k s) → (j : ℕ) × (k ≡ (suc i + j))) → (if b then Some (M.Let i l.shape) else later) ≡ Some (M.Let k s)
      → (j : ℕ) × (k ≡ (i + j))
  behind_step i l later k s true next e = (0, sym (ap let_place e) ∙ and_none i)
    where
      and_none : (i : ℕ) → i ≡ (i + 0)
      and_none i = omega arith
  behind_step i l later k s false next e =
      let at = next e in
      (suc at.0, at.1 ∙ moved i at.0)
    where
      moved : (i j : ℕ) → (suc i + j) ≡ (i + suc j)
      moved i j = omega arith

  let_behind : (i : ℕ) (ls : List Local) (k : ℕ) (s : Shape) → let_in i ls name ≡ Some (M.Let k s) → (j : ℕ) × (k ≡ (i + j))
  let_behind i [] k s e = none e
  let_behind i (l ∷ ls) k s e =
      behind_step i l (let_in (suc i) ls name) k s (bytes_eq l.name name) (λ h. let_behind (suc i) ls k s h) e

  let_found : (i : ℕ) (ls : List Local) (vs : List Value) (bs : Bindings) (k : ℕ) (s : Shape) → LetsAre types ls vs bs
      → let_in i ls name ≡ Some (M.Let k s) → LetAt i vs bs k s
  let_found i [] [] [] k s are e = none e
  let_found i (l ∷ ls) [] [] k s are e =
      let at = let_behind i (l ∷ ls) k s e in
      (at.0, at.1, None, refl, refl, tt)
  let_found i (l ∷ ls) (v ∷ vs) (b ∷ bs) k s are e =
      subst (λ (n : List ℕ). (j : ℕ) × (k ≡ (i + j)) × (o : Option Value) × (slice_get (v ∷ vs) j ≡ o)
      × ((if bytes_eq n name then Some b.held else held_in name bs) ≡ o) × HasShape s o) (sym are.0)
      (let_step i l ls v vs b.held bs k s (bytes_eq l.name name) are.1 are.2 (λ h. let_found (suc i) ls vs bs k s are.3 h) e)
  let_found i ls vs bs k s are e = absurd are

  let_none_step : (i : ℕ) (l : Local) (later : Option Meant) (held : Value) (bs : Bindings) (b : Bool) → (later ≡ None → held_in name bs ≡ None)
      → (if b then Some (M.Let i l.shape) else later) ≡ None → (if b then Some held else held_in name bs) ≡ None
  let_none_step i l later held bs true next e = none (sym e)
  let_none_step i l later held bs false next e = next e

  let_none : (i : ℕ) (ls : List Local) (vs : List Value) (bs : Bindings) → LetsAre types ls vs bs → let_in i ls name ≡ None → held_in name bs ≡ None
  let_none i [] [] [] are e = refl
  let_none i (l ∷ ls) [] [] are e = refl
  let_none i (l ∷ ls) (v ∷ vs) (b ∷ bs) are e =
      subst (λ (n : List ℕ). (if bytes_eq n name then Some b.held else held_in name bs) ≡ None) (sym are.0)
      (let_none_step i l (let_in (suc i) ls name) b.held bs (bytes_eq l.name name) (λ h. let_none (suc i) ls vs bs are.3 h) e)
  let_none i ls vs bs are e = absurd are

-- ---- registers

abbrev register_place : Option Meant → ℕ
register_place (Some (M.Register r s)) = r
register_place meant = 0

abbrev register_shape : Option Meant → Shape
register_shape (Some (M.Register r s)) = s
register_shape meant = V.Unit

abbrev IsOther : Meant → Type 0
IsOther (M.Register r s) = ⊥
IsOther meant = Unit {0}

abbrev AreOthers : List Entry → Type 0
AreOthers [] = Unit {0}
AreOthers (e ∷ es) = IsOther e.meant × AreOthers es

members_other : (i k : ℕ) (names : List (List ℕ)) → AreOthers (Shapes.members_from i k names)
members_other i k [] = tt
members_other i k (n ∷ names) = (tt, members_other i (suc k) names)

enum_other : (tabled : Tabled) (o : Option ℕ) → AreOthers (Shapes.enum_entries tabled o)
enum_other tabled None = tt
enum_other tabled (Some i) = members_other i 0 (members tabled.types i)

constructors_other : (u count k : ℕ) (fs : List Field) → AreOthers (Shapes.constructors_from u count k fs)
constructors_other u count k [] = tt
constructors_other u count k (f ∷ fs) = (tt, constructors_other u count (suc k) fs)

union_other : (tabled : Tabled) (count : ℕ) (o : Option ℕ) → AreOthers (Shapes.union_entries tabled count o)
union_other tabled count None = tt
union_other tabled count (Some u) = constructors_other u count 0 (constructors tabled.types u)

function_other : (name : List ℕ) (n : ℕ) (o : Option Signature) → AreOthers (Shapes.function_entry name n o)
function_other name n None = tt
function_other name n (Some s) = (tt, tt)

mapping_other : (name : List ℕ) (n : ℕ) (o : Option Signature) → AreOthers (Shapes.mapping_entries name n o)
mapping_other name n None = tt
mapping_other name n (Some s) = (tt, (tt, (tt, tt)))

module _ (tabled : Tabled) (name : List ℕ) (r : ℕ) (s : Shape) where
  abbrev Means : List Entry → Type 0
  Means es = meant_in es name ≡ Some (M.Register r s)

  -- what means a register stands behind others
  behind_if : (b : Bool) (meant : Meant) (later : Option Meant) (fs : List Entry) → IsOther meant → (later ≡ Some (M.Register r s) → Means fs)
      → (if b then Some meant else later) ≡ Some (M.Register r s) → Means fs
  behind_if true meant later fs other next e = absurd (subst IsOther (some_same meant (M.Register r s) e) other)
  behind_if false meant later fs other next e = next e

  behind : (es fs : List Entry) → AreOthers es → Means (es ++ fs) → Means fs
  behind [] fs others e = e
  behind (x ∷ es) fs others e =
      behind_if (bytes_eq x.name name) x.meant (meant_in (es ++ fs) name) fs others.0 (λ h. behind es fs others.1 h) e

  -- the register among those of some definitions, behind so many
  abbrev RegisterAt : ℕ → List Register → Type 0
  RegisterAt c regs =
      (j : ℕ) × (r ≡ (c + j)) × (position_or_len (λ x. bytes_eq x.name name) regs ≡ j) × (nat_lt j (length regs) ≡ true)
      × (slice_get (register_shapes regs) j ≡ Some s)

  register_step : (n : List ℕ) (t : Typ) (c : ℕ) (regs : List Register) (later : Option Meant) (b : Bool) → bytes_eq n name ≡ b
      → (later ≡ Some (M.Register r s) → RegisterAt (suc c) regs)
      → (if b then Some (M.Register c (shape t)) else later) ≡ Some (M.Register r s) → RegisterAt c (record { name = n; typ = t } ∷ regs)
  register_step n t c regs later true is next e = (
    0,
    sym (ap register_place e) ∙ and_none c,
    ap (λ b. if not b then 1 + position_or_len (λ x. bytes_eq x.name name) regs else 0) is,
    first (length regs),
    ap (λ o. Some (register_shape o)) e,
  )
    where
      and_none : (c : ℕ) → c ≡ (c + 0)
      and_none c = omega arith

      first : (k : ℕ) → nat_lt 0 (suc k) ≡ true
      first k = grind arith
  register_step n t c regs later false is next e =
      let at : RegisterAt (suc c) regs = next e in (
        suc at.0,
        at.1 ∙ moved c at.0,
        ap (λ b. if not b then 1 + position_or_len (λ x. bytes_eq x.name name) regs else 0) is ∙ ap (λ k. 1 + k) at.2 ∙ one_and at.0,
        more at.0 (length regs) at.3,
        at.4,
      )
    where
      moved : (c j : ℕ) → (suc c + j) ≡ (c + suc j)
      moved c j = omega arith

      one_and : (j : ℕ) → (1 + j) ≡ suc j
      one_and j = omega arith

      more : (j k : ℕ) → nat_lt j k ≡ true → nat_lt (suc j) (suc k) ≡ true
      more j k h = grind (arith, h)

  register_in : (more : List Def) (counts : Counts) → RegistersTyped tabled more → Means (entries_from tabled counts more)
      → RegisterAt counts.registers (joined (map (registers_by tabled) more))
  register_in [] counts typed e = none e
  register_in ((D.Register place n typ initial) ∷ more) counts typed e =
      subst (λ o. (if bytes_eq n.text name then Some (M.Register counts.registers (shape_or_never o)) else meant_in (entries_from tabled
      (counts_with counts (D.Register place n typ initial)) more) name) ≡ Some (M.Register r s)
      → RegisterAt counts.registers (register_if n.text o ++ joined (map (registers_by tabled) more))) (sym typed.0.1)
      (register_step n.text typed.0.0 counts.registers (joined (map (registers_by tabled) more))
      (meant_in (entries_from tabled (counts_with counts (D.Register place n typ initial)) more) name) (bytes_eq n.text name) refl
      (λ h. register_in more (counts_with counts (D.Register place n typ initial)) typed.1 h)) e
  register_in ((D.Enum place n ms) ∷ more) counts typed e =
      register_in more counts typed
      (behind (Shapes.enum_entries tabled (place_in_table tabled n.text)) (entries_from tabled counts more)
      (enum_other tabled (place_in_table tabled n.text)) e)
  register_in ((D.Union place n variables cs) ∷ more) counts typed e =
      register_in more counts typed
      (behind (Shapes.union_entries tabled (type_variables (params_variables variables)) (place_in_table tabled n.text)) (entries_from tabled counts more)
      (union_other tabled (type_variables (params_variables variables)) (place_in_table tabled n.text)) e)
  register_in ((D.Function place extent n clauses) ∷ more) counts typed e =
      register_in more (counts_with counts (D.Function place extent n clauses)) typed
      (behind (Shapes.function_entry n.text counts.functions (tabled.signature n.text))
      (entries_from tabled (counts_with counts (D.Function place extent n clauses)) more)
      (function_other n.text counts.functions (tabled.signature n.text)) e)
  register_in ((D.Mapping place n sides cs) ∷ more) counts typed e =
      register_in more (counts_with counts (D.Mapping place n sides cs)) typed
      (behind (Shapes.mapping_entries n.text counts.mappings (tabled.signature n.text))
      (entries_from tabled (counts_with counts (D.Mapping place n sides cs)) more)
      (mapping_other n.text counts.mappings (tabled.signature n.text)) e)
  register_in (d ∷ more) counts typed e = register_in more counts typed e

  register_there : (text : List Def) → RegistersTyped tabled text → Means (entries tabled text)
      → (position (λ x. bytes_eq x.name name) (joined (map (registers_by tabled) text)) ≡ Some r)
      × (slice_get (register_shapes (joined (map (registers_by tabled) text))) r ≡ Some s)
  register_there text typed e =
      let regs : List Register = joined (map (registers_by tabled) text) in
      let at : RegisterAt 0 regs = register_in text no_counts typed (behind (Shapes.union_entries tabled 1 (Some 0)) (entries_from tabled no_counts text)
      (union_other tabled 1 (Some 0)) e) in
      let is : at.0 ≡ r = sym (at.1 ∙ none_and at.0) in (
        (λ i. if nat_lt (at.2 i) (length regs) then Some (at.2 i) else None) ∙ ap (λ b. if b then Some at.0 else None) at.3 ∙ ap Some is,
        ap (slice_get (register_shapes regs)) (sym is) ∙ at.4,
      )
    where
      none_and : (j : ℕ) → (0 + j) ≡ j
      none_and j = omega arith

-- ---- a name that no definition has is no register's

module _ (tabled : Tabled) (name : List ℕ) where
  abbrev NoneIn : List Entry → Type 0
  NoneIn es = meant_in es name ≡ None

  none_if : (b : Bool) (meant : Meant) (later : Option Meant) → (if b then Some meant else later) ≡ None → (b ≡ false) × (later ≡ None)
  none_if true meant later e = none (sym e)
  none_if false meant later e = (refl, e)

  none_behind : (es fs : List Entry) → NoneIn (es ++ fs) → NoneIn fs
  none_behind [] fs e = e
  none_behind (x ∷ es) fs e = none_behind es fs (none_if (bytes_eq x.name name) x.meant (meant_in (es ++ fs) name) e).1

  abbrev IsPast : List Register → Type 0
  IsPast regs = nat_lt (position_or_len (λ x. bytes_eq x.name name) regs) (length regs) ≡ false

  past_step : (n : List ℕ) (t : Option Typ) (regs : List Register) → bytes_eq n name ≡ false → IsPast regs → IsPast (register_if n t ++ regs)
  past_step n None regs is past = past
  past_step n (Some t) regs is past =
      ap (λ b. nat_lt (if not b then 1 + position_or_len (λ x. bytes_eq x.name name) regs else 0) (suc (length regs))) is
      ∙ further (position_or_len (λ x. bytes_eq x.name name) regs) (length regs) past
    where
      further : (j k : ℕ) → nat_lt j k ≡ false → nat_lt (1 + j) (suc k) ≡ false
      further j k h = grind (arith, h)

  registers_past : (more : List Def) (counts : Counts) → NoneIn (entries_from tabled counts more) → IsPast (joined (map (registers_by tabled) more))
  registers_past [] counts e = refl
  registers_past ((D.Register place n typ initial) ∷ more) counts e =
      let k = none_if (bytes_eq n.text name) (M.Register counts.registers (shape_or_never (typ_in (within_variables tabled []) typ)))
      (meant_in (entries_from tabled (counts_with counts (D.Register place n typ initial)) more) name) e in
      past_step n.text (typ_in (within_variables tabled []) typ) (joined (map (registers_by tabled) more)) k.0
      (registers_past more (counts_with counts (D.Register place n typ initial)) k.1)
  registers_past (d ∷ more) counts e =
      registers_past more (counts_with counts d) (none_behind (def_entries tabled counts d) (entries_from tabled (counts_with counts d) more) e)

  pub no_register_named : (text : List Def) → own_in tabled text name ≡ None
      → position (λ x. bytes_eq x.name name) (joined (map (registers_by tabled) text)) ≡ None
  no_register_named text e =
      let regs : List Register = joined (map (registers_by tabled) text) in
      ap (λ b. if b then Some (position_or_len (λ x. bytes_eq x.name name) regs) else None)
      (registers_past text no_counts (none_behind (Shapes.union_entries tabled 1 (Some 0)) (entries_from tabled no_counts text) e))

-- ---- what a name of a value is, whatever it means

-- a definition means no let, row or overload
abbrev IsOwn : Option Meant → Type 0
IsOwn (Some (M.Let i s)) = ⊥
IsOwn meant = Unit {0}

abbrev AreOwn : List Entry → Type 0
AreOwn [] = Unit {0}
AreOwn (e ∷ es) = IsOwn (Some e.meant) × AreOwn es

own_join : (es fs : List Entry) → AreOwn es → AreOwn fs → AreOwn (es ++ fs)
own_join [] fs a b = b
own_join (e ∷ es) fs a b = (a.0, own_join es fs a.1 b)

own_if : (b : Bool) (meant : Meant) (later : Option Meant) → IsOwn (Some meant) → IsOwn later → IsOwn (if b then Some meant else later)
own_if true meant later here there = here
own_if false meant later here there = there

own_in_entries : (es : List Entry) (name : List ℕ) → AreOwn es → IsOwn (meant_in es name)
own_in_entries [] name own = tt
own_in_entries (e ∷ es) name own = own_if (bytes_eq e.name name) e.meant (meant_in es name) own.0 (own_in_entries es name own.1)

members_own : (i k : ℕ) (names : List (List ℕ)) → AreOwn (Shapes.members_from i k names)
members_own i k [] = tt
members_own i k (n ∷ names) = (tt, members_own i (suc k) names)

enum_own : (tabled : Tabled) (o : Option ℕ) → AreOwn (Shapes.enum_entries tabled o)
enum_own tabled None = tt
enum_own tabled (Some i) = members_own i 0 (members tabled.types i)

constructors_own : (u count k : ℕ) (fs : List Field) → AreOwn (Shapes.constructors_from u count k fs)
constructors_own u count k [] = tt
constructors_own u count k (f ∷ fs) = (tt, constructors_own u count (suc k) fs)

union_own : (tabled : Tabled) (count : ℕ) (o : Option ℕ) → AreOwn (Shapes.union_entries tabled count o)
union_own tabled count None = tt
union_own tabled count (Some u) = constructors_own u count 0 (constructors tabled.types u)

function_own : (name : List ℕ) (n : ℕ) (o : Option Signature) → AreOwn (Shapes.function_entry name n o)
function_own name n None = tt
function_own name n (Some s) = (tt, tt)

mapping_own : (name : List ℕ) (n : ℕ) (o : Option Signature) → AreOwn (Shapes.mapping_entries name n o)
mapping_own name n None = tt
mapping_own name n (Some s) = (tt, (tt, (tt, tt)))

definition_own : (tabled : Tabled) (counts : Counts) (d : Def) → AreOwn (def_entries tabled counts d)
definition_own tabled counts (D.Register place n typ initial) = (tt, tt)
definition_own tabled counts (D.Enum place n ms) = enum_own tabled (place_in_table tabled n.text)
definition_own tabled counts (D.Union place n variables cs) =
    union_own tabled (type_variables (params_variables variables)) (place_in_table tabled n.text)
definition_own tabled counts (D.Function place extent n clauses) = function_own n.text counts.functions (tabled.signature n.text)
definition_own tabled counts (D.Mapping place n sides cs) = mapping_own n.text counts.mappings (tabled.signature n.text)
definition_own tabled counts d = tt

definitions_own : (tabled : Tabled) (counts : Counts) (text : List Def) → AreOwn (entries_from tabled counts text)
definitions_own tabled counts [] = tt
definitions_own tabled counts (d ∷ text) =
    own_join (def_entries tabled counts d) (entries_from tabled (counts_with counts d) text) (definition_own tabled counts d)
    (definitions_own tabled (counts_with counts d) text)

own_is : (tabled : Tabled) (text : List Def) (name : List ℕ) → IsOwn (own_in tabled text name)
own_is tabled text name =
    own_in_entries (entries tabled text) name
    (own_join (Shapes.union_entries tabled 1 (Some 0)) (entries_from tabled no_counts text) (union_own tabled 1 (Some 0))
    (definitions_own tabled no_counts text))

member_fits : (types : Types) (i k : ℕ) → nat_lt k (length (members types i)) ≡ true → fits types (Val.Member i k) (V.Named i []) ≡ true
member_fits types i k h =
    ap (λ v. fits types v (V.Named i [])) (sym (Val.rolls-Member i k)) ∙ fits_form types (W.Member i k) (V.Named i [])
    ∙ ap (form_fits types (W.Member i k)) (ap out-Shape (sym (V.rolls-Named i [])) ∙ out-roll-Shape (S.Named i []))
    ∙ two (nat_eq i i) (nat_lt k (length (members types i))) (same_nat i) h

module _ (tabled : Tabled) (cycle : List ℕ → Option ℕ) (text : List Def) (lets : List Local) (hart : ℕ) (values : List Value) (bindings : Bindings)
    (typed : RegistersTyped tabled text) (once : NamesAreOnce tabled text lets) (are : LetsAre tabled.types lets values bindings) (name : List ℕ) where
  abbrev setting : Setting
  setting = setting_of tabled (own_in tabled text) text lets []

  abbrev m : Model
  m = model_in tabled cycle text lets hart values bindings

  abbrev IsValue : Option Meant → Type 0
  IsValue meant =
      ValueAs setting (register_shapes (text_of tabled cycle text).registers) (core_world m 0 [] [] [])
      (source_world m 0 [] (within_variables tabled []) []) name meant

  let_as : (s : Shape) (o : Option Value) → HasShape tabled.types name s o
      → position (λ x. bytes_eq x.name name) (joined (map (registers_by tabled) text)) ≡ None
      → LetAs tabled.types (register_named (source_world m 0 [] (within_variables tabled []) []) name) s o
  let_as s None has absent = absent
  let_as s (Some v) has absent = has

  by_meaning : (own bound : Option Meant) (row : Option Row) (fs : List Candidate) → own_in tabled text name ≡ own → let_in 0 lets name ≡ bound → IsOwn own
      → IsLet bound → member_named tabled.types name ≡ member_of (Shapes.or_overload (Shapes.or_row (option_or own bound) row) fs)
      → IsValue (Shapes.or_overload (Shapes.or_row (option_or own bound) row) fs)
  by_meaning (Some (M.Register r s)) bound row fs is isb o l member =
      let there = register_there tabled name r s text typed is in
      let none_held : held_in name bindings ≡ None = let_none tabled.types name 0 lets values bindings are (once.registers name r s is) in
      ((λ j. option_or (member j) (none_held j)), there.0, there.1)
  by_meaning (Some (M.Member i k)) bound row fs is isb o l member = (member, member_fits tabled.types i k (once.in_range name i k is))
  by_meaning (Some (M.Let i s)) bound row fs is isb o l member = absurd o
  by_meaning (Some meant) bound row fs is isb o l member = member
  by_meaning None (Some (M.Let i s)) row fs is isb o l member =
      let at : LetAt tabled.types name 0 values bindings i s = let_found tabled.types name 0 lets values bindings i s are isb in
      let place : at.0 ≡ i = sym (at.1 ∙ none_and at.0) in (
        member,
        at.2,
        ap (slice_get values) (sym place) ∙ at.3,
        (λ j. option_or (member j) (at.4 j)),
        let_as s at.2 at.5 (no_register_named tabled name text is),
      )
    where
      none_and : (j : ℕ) → (0 + j) ≡ j
      none_and j = omega arith
  by_meaning None (Some meant) row fs is isb o l member = absurd l
  by_meaning None None (Some row) fs is isb o l member = member
  by_meaning None None None [] is isb o l member = member
  by_meaning None None None (f ∷ fs) is isb o l member = member

  value_is : IsValue (setting.value name)
  value_is =
      by_meaning (own_in tabled text name) (let_in 0 lets name) (row_named name) (candidates (added_to_name tabled.types (own_in tabled text) text name)) refl
      refl (own_is tabled text name) (let_is 0 lets name) (once.members name)

pub values_stand : (tabled : Tabled) (cycle : List ℕ → Option ℕ) (text : List Def) (lets : List Local) (hart : ℕ) (values : List Value)
    (bindings : Bindings)
    → RegistersTyped tabled text → NamesAreOnce tabled text lets → LetsAre tabled.types lets values bindings
    → (name : List ℕ)
    → ValueAs (setting_of tabled (own_in tabled text) text lets []) (register_shapes (text_of tabled cycle text).registers)
    (core_world (model_in tabled cycle text lets hart values bindings) 0 [] [] [])
    (source_world (model_in tabled cycle text lets hart values bindings) 0 [] (within_variables tabled []) []) name
    ((setting_of tabled (own_in tabled text) text lets []).value name)
values_stand tabled cycle text lets hart values bindings typed once are name = value_is tabled cycle text lets hart values bindings typed once are name
