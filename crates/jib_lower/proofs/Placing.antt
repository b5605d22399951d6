-- Functions of instances stand in the module: with the slots of their code, and with calls of functions that are there.
use Rattle.std.proofs.Common.{◌≡◌, ◌∙◌, ℕ, zero, suc, ◌<◌, ◌≤◌, ℤ, Bool, true, false, List, [], ◌∷◌, length, map, Option, Some, None, refl, sym, ap, subst}
use Rattle.std.proofs.Common.{◌+◌, ◌++◌, arith}
use Rattle.std.specs.Prelude.{◌*◌, ◌&&◌, cond, if◌then◌else◌, nat_le, nat_lt, slice_get}
use Rattle.std.proofs.lemmas.Bool.Decides.{nat_tests}
use Rattle.sail_core.specs.declared.model.CoreModel.{CoreModel}
use Rattle.size_values.specs.declared.sized.Sized.{Sized, Sized-F, out-Sized}
use Rattle.size_values.specs.declared.sized.Sized.TheOpen as Z
use Rattle.size_values.specs.declared.sized.Sized.TheVariants as S
use Rattle.sized_nodes.specs.declared.trees.NodeSizes.{NodeSizes}
use Rattle.sized_nodes.specs.declared.trees.Signature.{Signature}
use Rattle.sized_nodes.specs.declared.trees.SizedCore.{SizedCore}
use Rattle.sized_nodes.specs.declared.trees.SizedInstance.{SizedInstance}
use Rattle.jib.specs.declared.code.Function.{Function as Made}
use Rattle.jib.specs.declared.code.Module.{Module}
use Rattle.jib.specs.Typing.{let_typ, opening_typ}
use Rattle.jib.specs.Valid.{is_tick}
use Rattle.lowered_types.specs.Table.{TypesStand, all_known, form_never, is_known, type_in}
use Rattle.lowered_types.proofs.Standing.{found, known_lt}
use Rattle.lowered_slots.specs.Laws.{SlotsTyped}
use Rattle.lowered_slots.specs.Slots.{name_in}
use Rattle.lowered_pieces.specs.declared.coding.Coding.{Coding}
use Rattle.lowered_pieces.specs.Nodes.{told_as}
use Rattle.lowered_pieces.specs.Places.{Naming}
use Rattle.lowered_pieces.specs.Lowering.{kit_of}
use Rattle.lowered_steps.specs.declared.setting.Mapped.{Mapped as Direction}
use Rattle.lowered_steps.specs.declared.setting.Reads.{Reads}
use Rattle.lowered_steps.specs.declared.setting.Setting.{Setting}
use Rattle.lowered_steps.specs.Setting.{direction_in, kit_for, number_for, size_for, tables_for, ways_for}
use Rattle.lowered_ends.specs.declared.around.Around.{Around}
use Rattle.lowered_ends.specs.Around.{answer_in, called_number, callees_of, result_in}
use Rattle.lowered_typed.specs.declared.signs.Called.{Called}
use Rattle.lowered_typed.specs.Judging.{parameters_in, signs_of, turned_in}
use Rattle.lowered_validity.specs.Laws.{Numbered, sizes_small}
use Rattle.lowered_validity.specs.Right.{Entered, Placed, Signs}
use Rattle.jib_lower.specs.declared.instances.Model.{Model}
use Rattle.jib_lower.specs.Crossings.{is_in}
use Rattle.jib_lower.specs.Directions.{WayAround, WayAt, WayMade}
use Rattle.jib_lower.specs.Entering.{mapped_by, place_in}
use Rattle.jib_lower.specs.Functions.{FunctionMade}
use Rattle.jib_lower.specs.Instances.{Enters, MadeAt, SettingOf}
use Rattle.jib_lower.specs.Lowered.{FlatFrom, ModelOf}
use Rattle.jib_lower.specs.Order.{made_in}
use Rattle.jib_lower.specs.Types.{all_small, exception_typ}
use Rattle.jib_lower.proofs.Basics.{and_left, and_right, basic_of, got_before, integer_typ, is_there, kit_same, nothing_typ, slot_there, some_same}
use Rattle.jib_lower.proofs.Basics.{get_past, there_below, truth_typ}
use Rattle.jib_lower.proofs.Found.{WayFound, made_there, mapped_at, or_left, or_right, way_found}

none_is : {A X : Type 0} (x : A) → None ≡ Some x → X
none_is x e = cc

no : {X : Type 0} → false ≡ true → X
no e = cc

le_true : (a b : ℕ) → nat_le a b ≡ true → a ≤ b
le_true a b h = grind (arith, nat_tests)

never_small : (z : Sized-F Sized) → form_never z ≡ true → sizes_small z ≡ true
never_small Z.Never e = refl
never_small z e = no e

small_at : (xs : List Sized) (i : ℕ) (t : Sized) → all_small xs ≡ true → slice_get xs i ≡ Some t → sizes_small (out-Sized t) ≡ true
small_at [] i t h e = none_is t e
small_at (x ∷ xs) zero t h e =
    ap (λ y. sizes_small (out-Sized y)) (sym (some_same x t e)) ∙ and_left (sizes_small (out-Sized x)) (all_small xs) h
small_at (x ∷ xs) (suc i) t h e = small_at xs i t (and_right (sizes_small (out-Sized x)) (all_small xs) h) e

-- types that have numbers are small
pub small_known : (xs : List Sized) (t : Sized) → all_small xs ≡ true → is_known xs t ≡ true → sizes_small (out-Sized t) ≡ true
small_known xs t h k = by (form_never (out-Sized t)) refl
  where
    by : (b : Bool) → form_never (out-Sized t) ≡ b → sizes_small (out-Sized t) ≡ true
    by true e = never_small (out-Sized t) e
    by false e = small_at xs (type_in xs t) t h (found xs t (known_lt xs t k e))

module _ (core : CoreModel) (sized : SizedCore) (m : Module) (low : FlatFrom core sized m) where
  abbrev ss : List Sized
  ss = low.table.numbered

  pub basics : (is_known ss S.Unit ≡ true) × (is_known ss S.Bool ≡ true) × (is_known ss S.Int ≡ true)
  basics =
      let e : Sized = exception_typ core.exception in
      let r : all_known ss (S.Bool ∷ S.Int ∷ e ∷ []) ≡ true = and_right (is_known ss S.Unit) (all_known ss (S.Bool ∷ S.Int ∷ e ∷ [])) low.basic in
      let q : all_known ss (S.Int ∷ e ∷ []) ≡ true = and_right (is_known ss S.Bool) (all_known ss (S.Int ∷ e ∷ [])) r in (
        and_left (is_known ss S.Unit) (all_known ss (S.Bool ∷ S.Int ∷ e ∷ [])) low.basic,
        and_left (is_known ss S.Bool) (all_known ss (S.Int ∷ e ∷ [])) r,
        and_left (is_known ss S.Int) (all_known ss (e ∷ [])) q,
      )

  -- ---- what is around code

  module _ (model : Model) (mo : ModelOf core sized low.table m model) (bodies : List (List NodeSizes)) (numbers : List (Option ℤ)) (setting : Setting)
      {told : List Reads} {asked : List Direction} (s : SettingOf model bodies numbers told asked setting) where
    types_are : setting.types.now ≡ core.types
    types_are = s.types ∙ ap (λ c. c.types) mo.of_core

    pub numbered_are : setting.numbered.now ≡ ss
    numbered_are = s.numbered ∙ mo.numbered

    pub stands_here : TypesStand setting.types.now setting.numbered.now m.types
    stands_here =
        subst (λ ts. TypesStand ts setting.numbered.now m.types) (sym types_are)
        (subst (λ xs. TypesStand core.types xs m.types) (sym numbered_are) (subst (λ vs. TypesStand core.types ss vs) (sym low.types) low.stands.each))

    known_here : (t : Sized) → is_known ss t ≡ true → is_known setting.numbered.now t ≡ true
    known_here t k = ap (λ xs. is_known xs t) numbered_are ∙ k

    pub exception_here : setting.exception ≡ m.exception
    exception_here =
        s.exception ∙ ap (λ xs. type_in xs model.exception.now) mo.numbered ∙ ap (type_in ss) mo.raised ∙ sym low.exception

    pub kit_here : (name : Naming) (e : ℕ) → m.exception ≡ e
        → kit_for setting name ≡ kit_of setting.types.now name (number_for setting) e (size_for setting) (ways_for setting)
    kit_here name e is =
        kit_same setting name e (s.nothing ∙ mo.nothing) (s.truths ∙ mo.truths)
        (s.unit ∙ ap (λ xs. type_in xs model.nothing.now) (sym s.numbered) ∙ ap (type_in setting.numbered.now) mo.nothing)
        (s.truth ∙ ap (λ xs. type_in xs model.truths.now) (sym s.numbered) ∙ ap (type_in setting.numbered.now) mo.truths)
        (s.integer ∙ ap (λ xs. type_in xs S.Int) (sym s.numbered)) (exception_here ∙ is)

    pub numbered_here : (instances : List SizedInstance) → Numbered setting.types.now (tables_for setting instances) setting.numbered.now
    numbered_here instances = record {
      known = λ t k. k;
      unit = ap (is_known setting.numbered.now) (nothing_typ setting.types.now) ∙ known_here S.Unit basics.0;
      truth = ap (is_known setting.numbered.now) (truth_typ setting.types.now) ∙ known_here S.Bool basics.1;
      integer = ap (is_known setting.numbered.now) (integer_typ setting.types.now) ∙ known_here S.Int basics.2;
      small = λ t k. small_known ss t low.small (ap (λ xs. is_known xs t) (sym numbered_are) ∙ k);
    }

  -- ---- what calls enter

  -- the opening of this number has this type
  abbrev pub LetsThere : Type 0
  LetsThere = (k t : ℕ) → slice_get low.model.lets.now k ≡ Some t → opening_typ m (slice_get m.openings k) ≡ Some t

  -- functions of directions stand first
  pub way_there : (k : ℕ) (f : Made) → slice_get low.ways k ≡ Some f → slice_get m.functions k ≡ Some f
  way_there k f e = ap (λ fs. slice_get fs k) low.all ∙ got_before low.ways (low.functions ++ low.opened) k f e

  -- the k-th function of instances stands behind these
  pub function_there : (k : ℕ) (f : Made) → slice_get low.functions k ≡ Some f → slice_get m.functions (length low.ways + k) ≡ Some f
  function_there k f e =
      ap (λ fs. slice_get fs (length low.ways + k)) low.all ∙ get_past low.ways (low.functions ++ low.opened) k
      ∙ got_before low.functions low.opened k f e

  -- and behind these the k-th of openings
  pub opened_there : (k : ℕ) (f : Made) → slice_get low.opened k ≡ Some f
      → slice_get m.functions (length low.ways + 2 * length sized.instances + k) ≡ Some f
  opened_there k f e =
      let many : length low.functions ≡ 2 * length sized.instances =
      low.instances.many ∙ ap (λ (z : SizedCore). 2 * length z.instances) low.is.of_sized in
      ap (slice_get m.functions) (grouped (length low.ways) (2 * length sized.instances) k)
      ∙ ap (λ n. slice_get m.functions (length low.ways + (n + k))) (sym many)
      ∙ ap (λ fs. slice_get fs (length low.ways + (length low.functions + k))) low.all
      ∙ get_past low.ways (low.functions ++ low.opened) (length low.functions + k) ∙ get_past low.functions low.opened k ∙ e
    where
      grouped : (a b c : ℕ) → a + b + c ≡ a + (b + c)
      grouped a b c = omega arith

  same_some : {A : Type 0} (x y : A) (o : Option A) → o ≡ Some x → o ≡ Some y → x ≡ y
  same_some x y o e f = some_same x y (sym e ∙ f)

  ticked : (f : Made) (coding : Coding) → f.code ≡ coding.code → is_tick (slice_get coding.code 0) ≡ true → is_tick (slice_get f.code 0) ≡ true
  ticked f coding e h = ap (λ c. is_tick (slice_get c 0)) e ∙ h

  lt_is : (a b : ℕ) → a < b → nat_lt a b ≡ true
  lt_is a b h = grind (arith, nat_tests)

  lt_more : (a b c : ℕ) → nat_lt a b ≡ true → b ≤ c → nat_lt a c ≡ true
  lt_more a b c h le = grind (arith, nat_tests)

  -- what the n-th function enters by a call of the instance at a place, of this cycle, where it may read all openings
  module _ (n : ℕ) (f : Made) (lets : f.lets ≡ length low.model.lets.now) where
    enters : (before p : ℕ) → before ≡ length low.ways → (c : Called) (x : SizedInstance) → slice_get sized.instances p ≡ Some x
        → slice_get low.model.called.now p ≡ Some c → Enters ss low.called.cycles x c → c.cycle ≤ f.cycle → (number : Sized → ℕ) (answer : Sized)
        → number answer ≡ type_in ss (result_in x.signature) → Entered m f n (called_number before p) (number answer) c.parameters
    enters before p first c x there calls e below number answer is =
        let at : MadeAt low.model low.functions p x = low.instances.each p x (ap (λ z. slice_get z.instances p) low.is.of_sized ∙ there) in
        let g : FunctionMade at.walk.setting.now at.head at.made.called_coding at.called = at.made.called_is in
        let one : at.signature ≡ e.signature = same_some at.signature e.signature x.signature at.plain.signed e.plain.signed in
        let two : at.called_is ≡ c = same_some at.called_is c (slice_get low.model.called.now p) at.enters calls in
        let numbers : number_for at.walk.setting.now ≡ type_in ss = ap type_in
        (numbered_are low.model low.is x.bodies x.instance.numbers at.walk.setting.now at.setting) in
        record {
          called = at.called;
          there = ap (λ b. slice_get m.functions (called_number b p)) first ∙ function_there (2 * p) at.called at.called_there;
          takes = g.parameters ∙ ap (λ n. map n at.head.given.now) numbers ∙ ap (map (type_in ss)) at.headed.given
              ∙ ap (λ (q : Signature). map (type_in ss) (map told_as q.parameters)) one ∙ sym e.parameters;
          gives = g.result ∙ at.headed.result ∙ ap (λ xs. type_in xs (told_as at.signature.result)) low.is.numbered
              ∙ ap (λ (o : Option Signature). type_in ss (result_in o)) (sym at.plain.signed) ∙ sym is;
          cycle = subst (λ n. n ≤ f.cycle) (sym (g.cycle ∙ at.headed.cycle_is ∙ ap (λ (d : Called). d.cycle) two)) below;
          lets = subst (λ n. n ≤ f.lets) (sym (g.lets ∙ at.headed.lets ∙ sym lets)) (self f.lets);
          ticks = or_left (is_tick (slice_get at.called.code 0)) (nat_lt (called_number before p) n)
              (ticked at.called at.made.called_coding g.code (ap (λ code. is_tick (slice_get code 0)) at.made.called_made.put));
        }
      where
        self : (n : ℕ) → n ≤ n
        self n = omega (arith)

    -- so for what is decided to be entered
    pub entered : (before cycle p : ℕ) → before ≡ length low.ways → (ts : List ℕ) (o : Option Called) → slice_get low.model.called.now p ≡ o
        → f.cycle ≡ cycle → (number : Sized → ℕ) → number ≡ type_in ss → (instances : List SizedInstance) → instances ≡ sized.instances
        → parameters_in cycle o ≡ Some ts → Entered m f n (called_number before p) (number (answer_in (slice_get instances p))) ts
    entered before cycle p first ts None e same number is instances are d = none_is ts d
    entered before cycle p first ts (Some c) e same number is instances are d = by (nat_le c.cycle cycle) refl d
      where
        by : (b : Bool) → nat_le c.cycle cycle ≡ b → (if b then Some c.parameters else None) ≡ Some ts
            → Entered m f n (called_number before p) (number (answer_in (slice_get instances p))) ts
        by false h d = none_is ts d
        by true h d =
            let r = is_there sized.instances p (subst (λ n. p < n) low.called.many (there_below low.model.called.now p c e)) in
            let q = low.called.each p r.0 r.1 in
            let one : q.0 ≡ c = same_some q.0 c (slice_get low.model.called.now p) q.1 e in
            subst (λ us. Entered m f n (called_number before p) (number (answer_in (slice_get instances p))) us) (some_same c.parameters ts d)
            (enters before p first c r.0 r.1 e (subst (λ d. Enters ss low.called.cycles r.0 d) one q.2)
            (subst (λ n. c.cycle ≤ n) (sym same) (le_true c.cycle cycle h)) number (answer_in (slice_get instances p))
            (ap (λ (n : Sized → ℕ). n (answer_in (slice_get instances p))) is
            ∙ ap (λ (xs : List SizedInstance). type_in ss (answer_in (slice_get xs p))) are ∙ ap (λ o. type_in ss (answer_in o)) r.1))

    -- so for a direction of a mapping that may be asked, the function of which stands before this one
    pub directed : (cycle below : ℕ) → f.cycle ≡ cycle → below ≤ n → (number : Sized → ℕ) → number ≡ type_in ss → (xs : List Direction)
        → xs ≡ low.model.directions.now → (ts : List (Option ℕ)) → ts ≡ low.model.turned.now → (d : ℕ)
        → (turned_in cycle (slice_get ts d) && nat_lt (direction_in (slice_get xs d)).function below) ≡ true
        → Entered m f n (direction_in (slice_get xs d)).function (number (direction_in (slice_get xs d)).gives)
        (number (direction_in (slice_get xs d)).takes ∷ [])
    directed cycle below same room number is xs xs_are ts ts_are d h =
        by (slice_get low.model.turned.now d) refl (ap (λ us. turned_in cycle (slice_get us d)) (sym ts_are)
        ∙ and_left (turned_in cycle (slice_get ts d)) (nat_lt (direction_in (slice_get xs d)).function below) h)
      where
        self : (n : ℕ) → n ≤ n
        self n = omega (arith)

        before : nat_lt (direction_in (slice_get xs d)).function n ≡ true
        before =
            lt_more (direction_in (slice_get xs d)).function below n
            (and_right (turned_in cycle (slice_get ts d)) (nat_lt (direction_in (slice_get xs d)).function below) h) room

        found : (c : ℕ) → c ≤ cycle → slice_get low.model.turned.now d ≡ Some (Some c) → WayFound low.model 0 low.model.order.now low.ways d
            → Entered m f n (direction_in (slice_get xs d)).function (number (direction_in (slice_get xs d)).gives)
            (number (direction_in (slice_get xs d)).takes ∷ [])
        found c lower e w =
            let k : ℕ = place_in low.model.order.now d in
            let q : WayAt low.model d k w.made = subst (λ i. WayAt low.model d i w.made) (first_is k) w.at in
            let way : WayMade low.model d k q.cycle q.direction w.made = q.is in
            let x : Direction = mapped_by low.model.core.now.types k q.direction in
            let is_cycle : q.cycle ≡ c = one_cycle q.cycle c (sym q.turned ∙ e) in
            let at : slice_get xs d ≡ Some x =
            ap (λ ys. slice_get ys d) (xs_are ∙ low.entered)
            ∙ mapped_at core.types low.model.order.now 0 core.directions d q.direction
            (ap (λ (z : CoreModel). slice_get z.directions d) (sym low.is.of_core) ∙ q.found)
            ∙ ap (λ i. Some (mapped_by core.types (place_in low.model.order.now i) q.direction)) (first_is d)
            ∙ ap (λ (z : CoreModel). Some (mapped_by z.types k q.direction)) (sym low.is.of_core) in
            let g : FunctionMade way.taken.walk.setting.now way.taken.head way.taken.code.coding w.made = way.taken.code.is in
            let around : WayAround low.model (way.nodes ∷ []) q.direction x q.cycle way.taken.walk way.taken.judge way.taken.head = way.taken.around in
            let numbers : number_for way.taken.walk.setting.now ≡ number =
            ap type_in (numbered_are low.model low.is (way.nodes ∷ []) [] way.taken.walk.setting.now around.setting) ∙ sym is in
            subst
            (λ (o : Option Direction). nat_lt (direction_in o).function n ≡ true
            → Entered m f n (direction_in o).function (number (direction_in o).gives) (number (direction_in o).takes ∷ [])) (sym at)
            (λ lt. record {
              called = w.made;
              there = way_there k w.made w.there;
              takes = g.parameters ∙ ap (λ n. map n way.taken.head.given.now) numbers ∙ ap (map number) around.takes;
              gives = g.result ∙ around.gives ∙ ap (λ us. type_in us x.gives) low.is.numbered ∙ ap (λ (n : Sized → ℕ). n x.gives) (sym is);
              cycle = subst (λ n. n ≤ f.cycle) (sym (g.cycle ∙ around.head_cycle ∙ is_cycle)) (subst (λ n. c ≤ n) (sym same) lower);
              lets = subst (λ n. n ≤ f.lets) (sym (g.lets ∙ around.reads ∙ sym lets)) (self f.lets);
              ticks = or_right (is_tick (slice_get w.made.code 0)) (nat_lt k n) lt;
            }) before
          where
            first_is : (i : ℕ) → 0 + i ≡ i
            first_is i = omega arith

            one_cycle : (a b : ℕ) → Some (Some a) ≡ Some (Some b) → a ≡ b
            one_cycle a b e = cc

        among : (c : ℕ) → slice_get low.model.turned.now d ≡ Some (Some c) → is_in d low.model.order.now ≡ true
        among c e =
            low.ordered.same d
            ∙ subst (λ i. is_in i (made_in 0 low.model.turned.now) ≡ true) (begun d) (made_there 0 low.model.turned.now d c e)
          where
            begun : (i : ℕ) → 0 + i ≡ i
            begun i = omega arith

        by : (o : Option (Option ℕ)) → slice_get low.model.turned.now d ≡ o → turned_in cycle (slice_get low.model.turned.now d) ≡ true
            → Entered m f n (direction_in (slice_get xs d)).function (number (direction_in (slice_get xs d)).gives)
            (number (direction_in (slice_get xs d)).takes ∷ [])
        by None e g = no (sym (ap (turned_in cycle) e) ∙ g)
        by (Some None) e g = no (sym (ap (turned_in cycle) e) ∙ g)
        by (Some (Some c)) e g =
            found c (le_true c cycle (sym (ap (turned_in cycle) e) ∙ g)) e (way_found low.model low.directions d (among c e))

  -- ---- the functions of an instance

  module _ (slots : SlotsTyped) (lets_there : LetsThere) (p : ℕ) (x : SizedInstance) (at : MadeAt low.model low.functions p x) where
    abbrev pub setting_at : Setting
    setting_at = at.walk.setting.now

    abbrev pub around_at : Around
    around_at = at.walk.around.now

    abbrev pub signs_at : Signs
    signs_at = signs_of setting_at at.judge.signs.now

    table_is : m.types ≡ signs_at.table
    table_is = sym (ap (λ (z : Module). z.types) at.signs.shell ∙ low.is.shell_types)

    pub raised_is : m.exception ≡ signs_at.exception
    raised_is = sym (ap (λ (z : Module). z.exception) at.signs.shell ∙ low.is.shell_exception)

    numbers_are : setting_at.numbered.now ≡ ss
    numbers_are = numbered_are low.model low.is x.bodies x.instance.numbers setting_at at.setting

    stands_at : TypesStand setting_at.types.now setting_at.numbered.now signs_at.table
    stands_at =
        subst (TypesStand setting_at.types.now setting_at.numbered.now) table_is
        (stands_here low.model low.is x.bodies x.instance.numbers setting_at at.setting)

    known_at : (t : Sized) → is_known ss t ≡ true → is_known setting_at.numbered.now t ≡ true
    known_at t k = ap (λ xs. is_known xs t) numbers_are ∙ k

    -- they stand behind those of directions
    pub placed : (n : ℕ) → length low.ways ≤ n → (f : Made) (coding : Coding) → FunctionMade setting_at at.head coding f
        → Placed setting_at.types.now setting_at.numbered.now (type_in setting_at.numbered.now) (callees_of setting_at around_at) m f n (name_in coding.slots)
        signs_at
    placed n behind f coding is = record {
      named = λ q t lt. ap (λ ts. slice_get ts (name_in coding.slots q t)) is.slots
          ∙ slot_there slots coding.slots q t (subst (λ ts. name_in coding.slots q t < length ts) is.slots lt);
      table = table_is;
      stands = stands_at;
      basic = basic_of setting_at.types.now setting_at.numbered.now signs_at.table stands_at (name_in coding.slots) signs_at.exception
          (size_for setting_at) (ways_for setting_at)
          (known_at S.Unit basics.0) (known_at S.Bool basics.1) (known_at S.Int basics.2);
      exception = raised_is;
      registers = sym (ap (λ (z : Module). z.registers) at.signs.shell ∙ low.is.shell_registers);
      lets = λ k t e. let_is f is k t (ap (λ ts. slice_get ts k) (sym at.signs.lets) ∙ e);
      result = is.result ∙ at.headed.result ∙ sym at.signs.result;
      is_pure = is.is_pure ∙ at.headed.is_pure ∙ sym at.signs.is_pure;
      entered = λ q ts d. entered n f (is.lets ∙ at.headed.lets) around_at.before at.judge.signs.now.cycle q before_is ts
          (slice_get low.model.called.now q) refl
          (is.cycle ∙ at.headed.cycle_is ∙ sym at.signs.cycle_is) (number_for setting_at) (ap type_in numbers_are) around_at.instances.now
          (at.around.instances ∙ ap (λ (z : SizedCore). z.instances) low.is.of_sized)
          (ap (λ (cs : List Called). parameters_in at.judge.signs.now.cycle (slice_get cs q)) (sym at.signs.called) ∙ d);
      directed = λ d h. directed n f (is.lets ∙ at.headed.lets) at.judge.signs.now.cycle at.judge.signs.now.below
          (is.cycle ∙ at.headed.cycle_is ∙ sym at.signs.cycle_is) (subst (λ b. b ≤ n) (sym (at.signs.below ∙ low.before)) behind) (number_for setting_at)
          (ap type_in numbers_are) setting_at.directions.now at.setting.directions_are at.judge.signs.now.turned.now at.signs.turned d h;
    }
      where
        before_is : around_at.before ≡ length low.ways
        before_is = at.around.before ∙ low.before

        let_is : (f : Made) → FunctionMade setting_at at.head coding f → (k t : ℕ) → slice_get low.model.lets.now k ≡ Some t → let_typ m f k ≡ Some t
        let_is f is k t e =
            ap (λ b. cond b (opening_typ m (slice_get m.openings k)) None)
            (lt_is k f.lets (subst (λ n. k < n) (sym (is.lets ∙ at.headed.lets)) (there_below low.model.lets.now k t e)))
            ∙ lets_there k t e
