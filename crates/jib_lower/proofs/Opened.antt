-- Functions of openings: what they read stands before them, and they are valid.
use Rattle.std.proofs.Common.{◌≡◌, ◌∙◌, ℕ, zero, suc, ◌<◌, ◌≤◌, ◌+◌, Bool, true, false, List, [], ◌∷◌, length, map, Option, Some, None, refl, sym, ap}
use Rattle.std.proofs.Common.{subst, arith, eq-eqb, append-nil}
use Rattle.std.specs.Prelude.{◌&&◌, ◌*◌, ◌++◌, cond, nat_eq, nat_lt, slice_get}
use Rattle.std.proofs.lemmas.Bool.Decides.{nat_tests}
use Rattle.sail_base.specs.declared.place.Place.{Place as TextPlace}
use Rattle.sail_core.specs.declared.patterns.Arm.{Arm}
use Rattle.sail_core.specs.declared.patterns.Arm.TheVariants.{Flat}
use Rattle.sail_core.specs.declared.patterns.Step.{Step}
use Rattle.sail_core.specs.declared.model.CoreModel.{CoreModel}
use Rattle.sail_core.specs.declared.model.Opening.{Opening}
use Rattle.size_values.specs.declared.sized.Sized.{Sized}
use Rattle.size_values.specs.declared.sized.Sized.TheVariants as S
use Rattle.sized_nodes.specs.declared.trees.NodeSizes.{NodeSizes}
use Rattle.sized_nodes.specs.declared.trees.SizedCore.{SizedCore}
use Rattle.jib.specs.declared.code.Instruction.{Instruction}
use Rattle.jib.specs.declared.code.Function.{Function as Made}
use Rattle.jib.specs.declared.code.Opening.{Opening as MadeOpening}
use Rattle.jib.specs.declared.code.Module.{Module}
use Rattle.jib.specs.Typing.{let_typ, opening_typ, result_some, same}
use Rattle.jib.specs.Valid.{function_right}
use Rattle.lowered_types.specs.Table.{TypesStand, is_known, type_in}
use Rattle.lowered_slots.specs.Laws.{SlotsTyped}
use Rattle.lowered_slots.specs.Slots.{name_in}
use Rattle.lowered_laws.specs.CodeLaws.{sets}
use Rattle.lowered_pieces.specs.declared.coding.Coding.{Coding}
use Rattle.lowered_pieces.specs.Forms.{Callees}
use Rattle.lowered_pieces.specs.Functions.{event_code}
use Rattle.lowered_pieces.specs.Lowering.{kit_of, piece}
use Rattle.lowered_pieces.specs.Openings.{named_piece}
use Rattle.lowered_pieces.specs.Places.{Kit, Naming}
use Rattle.lowered_pieces.specs.Tables.{Tables}
use Rattle.lowered_steps.specs.declared.setting.Reads.{Reads}
use Rattle.lowered_steps.specs.declared.setting.Setting.{Setting}
use Rattle.lowered_steps.specs.Setting.{kit_for, number_for, size_for, tables_for, ways_for}
use Rattle.lowered_ends.specs.declared.around.Around.{Around}
use Rattle.lowered_functions.specs.Walk.{Walk}
use Rattle.lowered_ends.specs.Around.{callees_of}
use Rattle.lowered_functions.specs.declared.openings.LetName.{LetName}
use Rattle.lowered_functions.specs.Made.{CodeMade, first_slots}
use Rattle.lowered_pieces.specs.Emitted.{Begins}
use Rattle.lowered_typed.specs.declared.signs.Called.{Called}
use Rattle.lowered_typed.specs.declared.signs.Judge.{Judge}
use Rattle.lowered_typed.specs.Judging.{parameters_in, signs_of, turned_in}
use Rattle.lowered_validity.specs.Laws.{CodesAreRight, Ended, NamesAreRight, Numbered, ValuesAreRight, is_named, is_value}
use Rattle.lowered_laws.specs.FormLaws.{OpeningsOwnLabels}
use Rattle.lowered_validity.specs.Right.{Placed, Signs}
use Rattle.lowered_validity.specs.Typing.{are_of, arm_right, typing}
use Rattle.jib_lower.specs.declared.functions.Head.{Head}
use Rattle.jib_lower.specs.declared.instances.Model.{Model}
use Rattle.jib_lower.specs.Functions.{FunctionMade}
use Rattle.jib_lower.specs.Lowered.{FlatFrom, NameMade, NamesMade, OpeningAround, OpeningsMade, ValueMade, named_more, named_none, opened_from, opens_let}
use Rattle.jib_lower.specs.Lowered.{opens_none, opens_register}
use Rattle.jib_lower.proofs.Basics.{and_left, basic_of, both, slot_there, some_same, there_below}
use Rattle.jib_lower.proofs.Placing.{LetsThere, basics, exception_here, kit_here, numbered_are, numbered_here, opened_there, stands_here}
use Rattle.jib_lower.proofs.Standing.{function_is_right}

none_is : {A X : Type 0} (x : A) → None ≡ Some x → X
none_is x e = cc

no : {X : Type 0} → false ≡ true → X
no e = cc

lt_is : (a b : ℕ) → a < b → nat_lt a b ≡ true
lt_is a b h = grind (arith, nat_tests)

pub record OpeningLaws : Type 0 where
  pub values : ValuesAreRight
  pub names : NamesAreRight
  pub codes : CodesAreRight
  pub slots : SlotsTyped
  pub own : OpeningsOwnLabels

-- ---- lists

abbrev pub results : List Made → List ℕ
results fs = map (λ (f : Made). f.result) fs

pub assoc : {A : Type 0} (xs ys zs : List A) → (xs ++ ys) ++ zs ≡ xs ++ (ys ++ zs)
assoc [] ys zs = refl
assoc (x ∷ xs) ys zs = ap (λ ws. x ∷ ws) (assoc xs ys zs)

results_behind : (xs ys : List Made) → results (xs ++ ys) ≡ results xs ++ results ys
results_behind [] ys = refl
results_behind (x ∷ xs) ys = ap (λ ts. x.result ∷ ts) (results_behind xs ys)

result_at : (fs : List Made) (k t : ℕ) → slice_get (results fs) k ≡ Some t → (f : Made) × (slice_get fs k ≡ Some f) × (f.result ≡ t)
result_at [] k t e = none_is t e
result_at (f ∷ fs) zero t e = (f, refl, some_same f.result t e)
result_at (f ∷ fs) (suc k) t e = result_at fs k t e

opened_at : (rs : List (Option ℕ)) (n k : ℕ) → k < length rs → (o : MadeOpening) × (slice_get (opened_from n rs) k ≡ Some o) × (o.function ≡ n + k)
opened_at [] n k lt = absurd (nothing lt)
  where
    nothing : k < 0 → ⊥
    nothing lt = omega (arith, lt)
opened_at (r ∷ rs) n zero lt = (record { function = n; register = r }, refl, begun n)
  where
    begun : (n : ℕ) → n ≡ n + 0
    begun n = omega arith
opened_at (r ∷ rs) n (suc k) lt =
    let q = opened_at rs (n + 1) k (omega (arith, lt)) in
    (q.0, q.1, q.2 ∙ shifted n k)
  where
    shifted : (n k : ℕ) → n + 1 + k ≡ n + suc k
    shifted n k = omega arith

-- ---- the types of openings

module _ (model : Model) where
  pub names_types : {place : TextPlace} {k : ℕ} {whole : Sized} {steps : List Step} {texts : List (List ℕ)} {before names : List ℕ} {given : List Made}
      {after more : List ℕ} → NamesMade model place k whole steps texts before names given after more → after ≡ before ++ results given
  names_types (named_none {before = before}) = sym (append-nil before)
  names_types (named_more {before = before} {made = made} {rest = rest} n ns) = names_types ns ∙ assoc before (made.result ∷ []) (results rest)

  pub opens_types : {i : ℕ} {os : List Opening} {before names : List ℕ} {opened : List Made} {rs : List (Option ℕ)} {after more : List ℕ}
      → OpeningsMade model i os before names opened rs after more → after ≡ before ++ results opened
  opens_types (opens_none {before = before}) = sym (append-nil before)
  opens_types (opens_register {before = before} {made = made} {rest = rest} k n v r os) = opens_types os ∙ assoc before (made.result ∷ []) (results rest)
  opens_types (opens_let {before = before} {made = made} {given = given} {rest = rest} v n arm whole k taken names os) =
      opens_types os ∙ ap (λ b. b ++ results rest) (names_types names) ∙ assoc (before ++ made.result ∷ []) (results given) (results rest)
      ∙ assoc before (made.result ∷ []) (results given ++ results rest)
      ∙ ap (λ ts. before ++ (made.result ∷ ts)) (sym (results_behind given rest))

  abbrev pub nones : List Made → List (Option ℕ)
  nones fs = map (λ (f : Made). None) fs

  many_nones : (fs : List Made) (rs : List (Option ℕ)) (gs : List Made) → length rs ≡ length gs → length (nones fs ++ rs) ≡ length (fs ++ gs)
  many_nones [] rs gs e = e
  many_nones (f ∷ fs) rs gs e = ap suc (many_nones fs rs gs e)

  opens_many : {i : ℕ} {os : List Opening} {before names : List ℕ} {opened : List Made} {rs : List (Option ℕ)} {after more : List ℕ}
      → OpeningsMade model i os before names opened rs after more → length rs ≡ length opened
  opens_many opens_none = refl
  opens_many (opens_register k n v r os) = ap suc (opens_many os)
  opens_many (opens_let {given = given} {rest = rest} {registers = registers} v n arm whole k taken names os) =
      ap suc (many_nones given registers rest (opens_many os))

module _ (core : CoreModel) (sized : SizedCore) (m : Module) (low : FlatFrom core sized m) where
  pub lets_there : LetsThere core sized m low
  lets_there k t e =
      let types : low.model.lets.now ≡ results low.opened = opens_types low.bare low.openings in
      let r = result_at low.opened k t (ap (λ ts. slice_get ts k) (sym types) ∙ e) in
      let lt : k < length low.of_registers =
      subst (λ n. k < n) (sym (opens_many low.bare low.openings)) (there_below low.opened k r.0 r.1) in
      let o = opened_at low.of_registers (length low.ways + 2 * length sized.instances) k lt in
      ap (λ os. opening_typ m (slice_get os k)) low.opens ∙ ap (opening_typ m) o.1 ∙ ap (λ n. result_some (slice_get m.functions n)) o.2
      ∙ ap result_some (opened_there core sized m low k r.0 r.1) ∙ ap Some r.2

  -- ---- the function of an opening

  many_types : (xs : List Sized) → xs ≡ low.table.numbered → length xs ≡ length m.types
  many_types xs e = ap length e ∙ sym low.stands.same ∙ sym (ap length low.types)

  -- what stands before it is there
  abbrev Before : List ℕ → Type 0
  Before before = (k t : ℕ) → slice_get before k ≡ Some t → slice_get low.model.lets.now k ≡ Some t

  module _ (laws : OpeningLaws) where
    module _ (bodies : List (List NodeSizes)) {told : List Reads} (before names : List ℕ) (walk : Walk) (judge : Judge) (head : Head)
        (oa : OpeningAround low.bare bodies told before names walk judge head) (prefix : Before before) where
      abbrev setting : Setting
      setting = walk.setting.now

      abbrev around : Around
      around = walk.around.now

      abbrev signs : Signs
      signs = signs_of setting judge.signs.now

      abbrev callees : Callees
      callees = callees_of setting around

      abbrev tables : Tables
      tables = tables_for setting around.instances.now

      table_is : m.types ≡ signs.table
      table_is = sym (ap (λ (z : Module). z.types) oa.shell ∙ low.bare_is.shell_types)

      raised_is : m.exception ≡ signs.exception
      raised_is = sym (ap (λ (z : Module). z.exception) oa.shell ∙ low.bare_is.shell_exception)

      numbers_are : setting.numbered.now ≡ low.table.numbered
      numbers_are = numbered_are core sized m low low.bare low.bare_is bodies [] setting oa.setting

      stands_at : TypesStand setting.types.now setting.numbered.now signs.table
      stands_at =
          subst (TypesStand setting.types.now setting.numbered.now) table_is (stands_here core sized m low low.bare low.bare_is bodies [] setting oa.setting)

      known_at : (t : Sized) → is_known low.table.numbered t ≡ true → is_known setting.numbered.now t ≡ true
      known_at t k = ap (λ xs. is_known xs t) numbers_are ∙ k

      numbered : Numbered setting.types.now tables setting.numbered.now
      numbered = numbered_here core sized m low low.bare low.bare_is bodies [] setting oa.setting around.instances.now

      kit_is : (name : Naming)
          → kit_for setting name ≡ kit_of setting.types.now name (number_for setting) signs.exception (size_for setting) (ways_for setting)
      kit_is name = kit_here core sized m low low.bare low.bare_is bodies [] setting oa.setting name signs.exception raised_is

      placed : (n : ℕ) (f : Made) (coding : Coding) → FunctionMade setting head coding f
          → Placed setting.types.now setting.numbered.now (type_in setting.numbered.now) callees m f n (name_in coding.slots) signs
      placed n f coding is = record {
        named = λ q t lt. ap (λ ts. slice_get ts (name_in coding.slots q t)) is.slots
            ∙ slot_there laws.slots coding.slots q t (subst (λ ts. name_in coding.slots q t < length ts) is.slots lt);
        table = table_is;
        stands = stands_at;
        basic = basic_of setting.types.now setting.numbered.now signs.table stands_at (name_in coding.slots) signs.exception (size_for setting)
            (ways_for setting) (known_at S.Unit (basics core sized m low).0) (known_at S.Bool (basics core sized m low).1)
            (known_at S.Int (basics core sized m low).2);
        exception = raised_is;
        registers = sym (ap (λ (z : Module). z.registers) oa.shell ∙ low.bare_is.shell_registers);
        lets = λ k t e. let_is f is k t (ap (λ ts. slice_get ts k) (sym oa.lets) ∙ e);
        result = is.result ∙ sym oa.result;
        is_pure = is.is_pure ∙ oa.pure ∙ sym oa.is_pure;
        entered = λ q ts d.
            none_is ts (ap (λ (cs : List Called). parameters_in judge.signs.now.cycle (slice_get cs q)) (sym oa.called) ∙ d);
        directed = λ d h.
            let turns : Bool = turned_in judge.signs.now.cycle (slice_get judge.signs.now.turned.now d) in
            no (ap (λ (cs : List (Option ℕ)). turned_in judge.signs.now.cycle (slice_get cs d)) (sym oa.turned)
            ∙ and_left turns (nat_lt (ways_for setting d).function judge.signs.now.below) h);
      }
        where
          let_is : (f : Made) → FunctionMade setting head coding f → (k t : ℕ) → slice_get before k ≡ Some t → let_typ m f k ≡ Some t
          let_is f is k t e =
              ap (λ b. cond b (opening_typ m (slice_get m.openings k)) None)
              (lt_is k f.lets (subst (λ n. k < n) (sym (is.lets ∙ oa.reads)) (there_below before k t e)))
              ∙ lets_there k t (prefix k t e)

      -- code that is right and sets its labels once is that of a valid function
      valid_of : (n : ℕ) (f : Made) (coding : Coding) → FunctionMade setting head coding f → (code : Kit → List Instruction)
          → CodeMade walk coding [] (λ name. code (kit_for setting name))
          → Ended m f n (code (kit_of setting.types.now (name_in coding.slots) (number_for setting) signs.exception (size_for setting) (ways_for setting)))
          → ((kit : Kit) (k : ℕ) → sets k (code kit) ≤ 1) → function_right m n f ≡ true
      valid_of n f coding is code made ended own =
          function_is_right m laws.codes n f setting head coding is
          (subst (λ ts. Begins (first_slots setting ts) coding.slots) (sym oa.takes) made.first) made.room
          (many_types setting.numbered.now numbers_are) (exception_here core sized m low low.bare low.bare_is bodies [] setting oa.setting)
          (subst (Ended m f n) (sym (code_is ∙ ap code (kit_is (name_in coding.slots)))) ended)
          (λ k. subst (λ c. sets k c ≤ 1) (sym code_is) (own (kit_for setting (name_in coding.slots)) k))
        where
          code_is : f.code ≡ code (kit_for setting (name_in coding.slots))
          code_is = is.code ∙ made.put

    -- of a value
    pub value_is_right : (n : ℕ) (o : Opening) (bodies : List (List NodeSizes)) (before names : List ℕ) (f : Made) → Before before
        → ValueMade low.bare o bodies before names f → function_right m n f ≡ true
    value_is_right n o bodies before names f prefix v =
        valid_of bodies before names v.walk v.judge v.head v.around prefix n f v.coding v.is code v.code
        (laws.values s.types.now s.numbered.now (callees_of s a) (tables_for s a.instances.now) g m f n (name_in v.coding.slots)
        (placed bodies before names v.walk v.judge v.head v.around prefix n f v.coding v.is)
        (numbered bodies before names v.walk v.judge v.head v.around prefix) o.place o.value decided)
        (λ kit k. (laws.own s.types.now kit o.place k).0 (number_for s) (callees_of s a) (tables_for s a.instances.now) o.value)
      where
        s : Setting
        s = v.walk.setting.now

        a : Around
        a = v.walk.around.now

        g : Signs
        g = signs_of s v.judge.signs.now

        code : Kit → List Instruction
        code kit = event_code kit o.place (piece s.types.now kit (number_for s) (callees_of s a) (tables_for s a.instances.now) o.value)

        decides : Setting → Around → Bool
        decides s a =
            is_value s.types.now s.numbered.now (callees_of s a) (tables_for s a.instances.now) (signs_of s v.judge.signs.now) (name_in v.coding.slots) o.value

        at_judge : decides v.judge.setting.now v.judge.around.now ≡ true
        at_judge =
            let j : Setting = v.judge.setting.now in
            let b : Around = v.judge.around.now in
            let gj : Signs = signs_of j v.judge.signs.now in
            both (typing j.types.now (type_in j.numbered.now) (callees_of j b) (tables_for j b.instances.now) gj o.value).right
            (are_of j.types.now (type_in j.numbered.now) (callees_of j b) (tables_for j b.instances.now) gj g.result
            (typing j.types.now (type_in j.numbered.now) (callees_of j b) (tables_for j b.instances.now) gj o.value).types)
            v.right
            (ap (are_of j.types.now (type_in j.numbered.now) (callees_of j b) (tables_for j b.instances.now) gj g.result) v.only
            ∙ both (nat_eq (type_in j.numbered.now v.typ) g.result) true
            (eq-eqb (type_in j.numbered.now v.typ) g.result
            (ap (λ (z : Setting). type_in z.numbered.now v.typ) v.around.judged.0 ∙ ap (λ xs. type_in xs v.typ) v.around.setting.numbered
            ∙ sym v.result ∙ sym v.around.result)) refl)

        decided : decides s a ≡ true
        decided =
            subst (λ b. decides s b ≡ true) v.around.judged.1
            (subst (λ j. decides j v.judge.around.now ≡ true) v.around.judged.0 at_judge)

    -- of a name
    pub name_is_right : (n : ℕ) (place : TextPlace) (k : ℕ) (whole : Sized) (steps : List Step) (text before names : List ℕ) (f : Made) → Before before
        → NameMade low.bare place k whole steps text before names f → function_right m n f ≡ true
    name_is_right n place k whole steps text before names f prefix v =
        valid_of [] before names v.walk v.judge v.head v.around prefix n f v.coding v.is code v.code
        (laws.names s.types.now s.numbered.now (callees_of s a) (tables_for s a.instances.now) g m f n (name_in v.coding.slots)
        (placed [] before names v.walk v.judge v.head v.around prefix n f v.coding v.is)
        (numbered [] before names v.walk v.judge v.head v.around prefix) [] w.place w.opening w.whole.now arm w.name.now w.typ.now decided)
        (λ kit k. (laws.own s.types.now kit w.place k).1 w.opening w.whole.now arm w.name.now w.typ.now)
      where
        s : Setting
        s = v.walk.setting.now

        a : Around
        a = v.walk.around.now

        g : Signs
        g = signs_of s v.judge.signs.now

        w : LetName
        w = v.name

        arm : Arm
        arm = Flat 0 v.name.steps.now

        code : Kit → List Instruction
        code kit = event_code kit w.place (named_piece s.types.now kit [] w.place w.opening w.whole.now arm w.name.now w.typ.now)

        decides : Setting → Around → Bool
        decides z b =
            arm_right z.types.now (type_in z.numbered.now) (callees_of z b) (tables_for z b.instances.now) (signs_of z v.judge.signs.now) (Flat 0 steps)
            (whole ∷ [])

        arm_is : arm_right s.types.now (type_in s.numbered.now) (callees_of s a) (tables_for s a.instances.now) g arm (w.whole.now ∷ []) ≡ true
        arm_is =
            ap (λ ss. arm_right s.types.now (type_in s.numbered.now) (callees_of s a) (tables_for s a.instances.now) g (Flat 0 ss) (w.whole.now ∷ []))
            v.steps_are
            ∙ ap (λ t. arm_right s.types.now (type_in s.numbered.now) (callees_of s a) (tables_for s a.instances.now) g (Flat 0 steps) (t ∷ [])) v.whole_is
            ∙ subst (λ b. decides s b ≡ true) v.around.judged.1
            (subst (λ j. decides j v.judge.around.now ≡ true) v.around.judged.0 v.right)

        given_is : same (slice_get g.lets w.opening) (Some (type_in s.numbered.now w.whole.now)) ≡ true
        given_is =
            ap (λ ls. same (slice_get ls w.opening) (Some (type_in s.numbered.now w.whole.now))) v.around.lets
            ∙ ap (λ i. same (slice_get before i) (Some (type_in s.numbered.now w.whole.now))) v.opening
            ∙ ap (λ t. same (slice_get before k) (Some (type_in s.numbered.now t))) v.whole_is
            ∙ ap (λ xs. same (slice_get before k) (Some (type_in xs whole))) v.around.setting.numbered ∙ v.given

        result_is : nat_eq (type_in s.numbered.now w.typ.now) g.result ≡ true
        result_is =
            eq-eqb (type_in s.numbered.now w.typ.now) g.result
            (ap (λ xs. type_in xs w.typ.now) v.around.setting.numbered ∙ sym v.result ∙ sym v.around.result)

        decided : is_named s.types.now s.numbered.now (callees_of s a) (tables_for s a.instances.now) g (name_in v.coding.slots) w.opening w.whole.now arm
            w.typ.now ≡ true
        decided =
            both (same (slice_get g.lets w.opening) (Some (type_in s.numbered.now w.whole.now)))
            (arm_right s.types.now (type_in s.numbered.now) (callees_of s a) (tables_for s a.instances.now) g arm (w.whole.now ∷ [])
            && nat_eq (type_in s.numbered.now w.typ.now) g.result) given_is
            (both (arm_right s.types.now (type_in s.numbered.now) (callees_of s a) (tables_for s a.instances.now) g arm (w.whole.now ∷ []))
            (nat_eq (type_in s.numbered.now w.typ.now) g.result) arm_is result_is)
