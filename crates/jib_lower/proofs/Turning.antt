-- Functions of directions of mappings are valid.
use Rattle.std.proofs.Common.{◌≡◌, ◌∙◌, ℕ, ◌<◌, ◌≤◌, Bool, true, List, [], ◌∷◌, length, map, Some, None, refl, sym, ap}
use Rattle.std.proofs.Common.{subst, arith, eq-eqb}
use Rattle.std.specs.Prelude.{◌&&◌, cond, nat_eq, nat_lt, slice_get}
use Rattle.std.proofs.lemmas.Bool.Decides.{nat_tests}
use Rattle.sail_types.specs.declared.table.Types.{Types}
use Rattle.sail_types.specs.declared.types.Typ.{Typ}
use Rattle.sail_core.specs.declared.model.CoreModel.{CoreModel}
use Rattle.sail_core.specs.declared.model.Direction.{Direction}
use Rattle.sail_core.specs.declared.tree.Core.{Core, fold_out-Core, out-Core}
use Rattle.sail_core.specs.declared.tree.Kind.TheVariants as K
use Rattle.sail_core.specs.Meaning.{option_typ}
use Rattle.size_values.specs.declared.sized.Sized.{Sized}
use Rattle.size_values.specs.declared.sized.Sized.TheVariants as S
use Rattle.sized_nodes.specs.declared.trees.NodeSizes.{NodeSizes}
use Rattle.sized_nodes.specs.declared.trees.SizedCore.{SizedCore}
use Rattle.checked_meaning.specs.Items.{fixed_typ}
use Rattle.jib.specs.declared.code.Instruction.{Instruction}
use Rattle.jib.specs.declared.code.Function.{Function as Made}
use Rattle.jib.specs.declared.code.Module.{Module}
use Rattle.jib.specs.Typing.{let_typ, opening_typ}
use Rattle.jib.specs.Valid.{function_right}
use Rattle.lowered_types.specs.Table.{TypesStand, is_known, type_in}
use Rattle.lowered_slots.specs.Laws.{SlotsTyped}
use Rattle.lowered_slots.specs.Slots.{name_in}
use Rattle.lowered_laws.specs.CodeLaws.{sets}
use Rattle.lowered_laws.specs.FormLaws.{OpeningsOwnLabels}
use Rattle.lowered_pieces.specs.Forms.{Callees}
use Rattle.lowered_pieces.specs.Functions.{direction_code}
use Rattle.lowered_pieces.specs.Lowering.{Node, kind_lowered, kind_piece, kit_of, node, piece, pieces_of}
use Rattle.lowered_pieces.specs.Mapped.{optional_piece}
use Rattle.lowered_pieces.specs.Places.{Kit, Naming}
use Rattle.lowered_pieces.specs.Tables.{Tables}
use Rattle.lowered_steps.specs.declared.setting.Mapped.{Mapped}
use Rattle.lowered_steps.specs.declared.setting.Setting.{Setting}
use Rattle.lowered_steps.specs.Setting.{kit_for, number_for, size_for, tables_for, ways_for}
use Rattle.lowered_ends.specs.declared.around.Around.{Around}
use Rattle.lowered_ends.specs.Around.{callees_of}
use Rattle.lowered_typed.specs.declared.signs.Called.{Called}
use Rattle.lowered_typed.specs.Judging.{parameters_in, signs_of}
use Rattle.lowered_validity.specs.Laws.{CodesAreRight, DirectionsAreRight, Ended, Numbered, is_value}
use Rattle.lowered_validity.specs.Right.{Placed, Signs}
use Rattle.lowered_validity.specs.Typing.{Typing, are_of, kind_ends, kind_right, kind_types, typing}
use Rattle.jib_lower.specs.Directions.{BodyOf, WayAt, WayMade}
use Rattle.jib_lower.specs.Entering.{mapped_by, option_in}
use Rattle.jib_lower.specs.Lowered.{FlatFrom}
use Rattle.jib_lower.proofs.Basics.{basic_of, both, slot_there, there_below}
use Rattle.jib_lower.proofs.Opened.{lets_there}
use Rattle.jib_lower.proofs.Placing.{basics, directed, entered, exception_here, kit_here, numbered_are, numbered_here, stands_here}
use Rattle.jib_lower.proofs.Standing.{function_is_right}

pub record WayLaws : Type 0 where
  pub directions : DirectionsAreRight
  pub codes : CodesAreRight
  pub slots : SlotsTyped
  pub own : OpeningsOwnLabels

lt_is : (a b : ℕ) → a < b → nat_lt a b ≡ true
lt_is a b h = grind (arith, nat_tests)

-- ---- the body of a direction

module _ (types : Types) (kit : Kit) (number : Sized → ℕ) (callees : Callees) (tables : Tables) where
  -- its code
  pub option_piece : (m : Direction) (typ : Typ) (clauses : Core) → BodyOf m typ clauses
      → piece types kit number callees tables m.body
      ≡ optional_piece types kit (fixed_typ types (option_typ typ)) (fixed_typ types typ) (piece types kit number callees tables clauses)
  option_piece m typ clauses b =
      ap (λ (n : Node). n.piece)
      (fold_out-Core Node (λ c. record {
        piece = kind_piece types kit number callees tables c.place c.number c.kind (pieces_of c.parts);
        ok = kind_lowered types callees tables c.number c.kind c.parts;
      }) m.body)
      ∙ ap (λ k. kind_piece types kit number callees tables (out-Core m.body).place (out-Core m.body).number k
      (pieces_of (map (node types kit number callees tables) (out-Core m.body).parts))) b.kind
      ∙ ap (λ cs. kind_piece types kit number callees tables (out-Core m.body).place (out-Core m.body).number (K.Optional typ)
      (pieces_of (map (node types kit number callees tables) cs))) b.parts

module _ (types : Types) (number : Sized → ℕ) (callees : Callees) (tables : Tables) (g : Signs) where
  -- and its types
  pub option_types : (m : Direction) (typ : Typ) (clauses : Core) → BodyOf m typ clauses
      → (typing types number callees tables g m.body).types ≡ fixed_typ types (option_typ typ) ∷ fixed_typ types (option_typ typ) ∷ []
  option_types m typ clauses b =
      ap (λ (t : Typing). t.types)
      (fold_out-Core Typing (λ c. record {
        types = kind_types types number callees tables g c.number c.kind c.parts;
        ends = kind_ends types number callees tables g c.number c.kind c.parts;
        right = kind_right types number callees tables g c.number c.kind c.parts;
      }) m.body)
      ∙ ap (λ k. kind_types types number callees tables g (out-Core m.body).number k
      (map (typing types number callees tables g) (out-Core m.body).parts)) b.kind
      ∙ ap (λ cs. kind_types types number callees tables g (out-Core m.body).number (K.Optional typ) (map (typing types number callees tables g) cs)) b.parts

module _ (core : CoreModel) (sized : SizedCore) (m : Module) (low : FlatFrom core sized m) (laws : WayLaws) where
  many_types : (xs : List Sized) → xs ≡ low.table.numbered → length xs ≡ length m.types
  many_types xs e = ap length e ∙ sym low.stands.same ∙ sym (ap length low.types)

  module _ (d number cycle : ℕ) (way : Direction) (f : Made) (w : WayMade low.model d number cycle way f) where
    abbrev x : Mapped
    x = mapped_by low.model.core.now.types number way

    abbrev bodies : List (List NodeSizes)
    bodies = w.nodes ∷ []

    abbrev setting : Setting
    setting = w.taken.walk.setting.now

    abbrev around : Around
    around = w.taken.walk.around.now

    abbrev signs : Signs
    signs = signs_of setting w.taken.judge.signs.now

    abbrev callees : Callees
    callees = callees_of setting around

    abbrev tables : Tables
    tables = tables_for setting around.instances.now

    abbrev name : Naming
    name = name_in w.taken.code.coding.slots

    table_is : m.types ≡ signs.table
    table_is = sym (ap (λ (z : Module). z.types) w.taken.around.shell ∙ low.is.shell_types)

    raised_is : m.exception ≡ signs.exception
    raised_is = sym (ap (λ (z : Module). z.exception) w.taken.around.shell ∙ low.is.shell_exception)

    numbers_are : setting.numbered.now ≡ low.table.numbered
    numbers_are = numbered_are core sized m low low.model low.is bodies [] setting w.taken.around.setting

    types_are : setting.types.now ≡ core.types
    types_are = w.taken.around.setting.types ∙ ap (λ (c : CoreModel). c.types) low.is.of_core

    stands_at : TypesStand setting.types.now setting.numbered.now signs.table
    stands_at =
        subst (TypesStand setting.types.now setting.numbered.now) table_is
        (stands_here core sized m low low.model low.is bodies [] setting w.taken.around.setting)

    known_at : (t : Sized) → is_known low.table.numbered t ≡ true → is_known setting.numbered.now t ≡ true
    known_at t k = ap (λ xs. is_known xs t) numbers_are ∙ k

    numbered : Numbered setting.types.now tables setting.numbered.now
    numbered = numbered_here core sized m low low.model low.is bodies [] setting w.taken.around.setting around.instances.now

    kit_is : kit_for setting name ≡ kit_of setting.types.now name (number_for setting) signs.exception (size_for setting) (ways_for setting)
    kit_is = kit_here core sized m low low.model low.is bodies [] setting w.taken.around.setting name signs.exception raised_is

    reads : f.lets ≡ length low.model.lets.now
    reads = w.taken.code.is.lets ∙ w.taken.around.reads

    own_cycle : f.cycle ≡ w.taken.judge.signs.now.cycle
    own_cycle = w.taken.code.is.cycle ∙ w.taken.around.head_cycle ∙ sym w.taken.around.cycle_is

    -- it asks those that stand before it
    placed : Placed setting.types.now setting.numbered.now (type_in setting.numbered.now) callees m f number name signs
    placed = record {
      named = λ q t lt. ap (λ ts. slice_get ts (name q t)) w.taken.code.is.slots
          ∙ slot_there laws.slots w.taken.code.coding.slots q t (subst (λ ts. name q t < length ts) w.taken.code.is.slots lt);
      table = table_is;
      stands = stands_at;
      basic = basic_of setting.types.now setting.numbered.now signs.table stands_at name signs.exception (size_for setting)
          (ways_for setting) (known_at S.Unit (basics core sized m low).0) (known_at S.Bool (basics core sized m low).1)
          (known_at S.Int (basics core sized m low).2);
      exception = raised_is;
      registers = sym (ap (λ (z : Module). z.registers) w.taken.around.shell ∙ low.is.shell_registers);
      lets = λ k t e. let_is k t (ap (λ ts. slice_get ts k) (sym w.taken.around.lets) ∙ e);
      result = w.taken.code.is.result ∙ w.taken.around.gives ∙ sym w.taken.around.result;
      is_pure = w.taken.code.is.is_pure ∙ w.taken.around.impure ∙ sym w.taken.around.is_pure;
      entered = λ q ts e. entered core sized m low number f reads around.before w.taken.judge.signs.now.cycle q (w.taken.around.before ∙ low.before) ts
          (slice_get low.model.called.now q) refl own_cycle (number_for setting) (ap type_in numbers_are) around.instances.now
          (w.taken.around.instances ∙ ap (λ (z : SizedCore). z.instances) low.is.of_sized)
          (ap (λ (cs : List Called). parameters_in w.taken.judge.signs.now.cycle (slice_get cs q)) (sym w.taken.around.called) ∙ e);
      directed = λ k h. directed core sized m low number f reads w.taken.judge.signs.now.cycle w.taken.judge.signs.now.below own_cycle
          (same_place w.taken.judge.signs.now.below number w.taken.around.below) (number_for setting) (ap type_in numbers_are) setting.directions.now
          w.taken.around.setting.directions_are w.taken.judge.signs.now.turned.now w.taken.around.turned k h;
    }
      where
        same_place : (a b : ℕ) → a ≡ b → a ≤ b
        same_place a b e = omega (arith, e)

        let_is : (k t : ℕ) → slice_get low.model.lets.now k ≡ Some t → let_typ m f k ≡ Some t
        let_is k t e =
            ap (λ b. cond b (opening_typ m (slice_get m.openings k)) None)
            (lt_is k f.lets (subst (λ n. k < n) (sym reads) (there_below low.model.lets.now k t e)))
            ∙ lets_there core sized m low k t e

    -- the option that its clauses give is of the type of its result
    abbrev decides : Setting → Around → Bool
    decides s a =
        is_value s.types.now s.numbered.now (callees_of s a) (tables_for s a.instances.now) (signs_of s w.taken.judge.signs.now) name way.body

    gives_is : x.gives ≡ fixed_typ core.types (option_typ w.taken.typ)
    gives_is =
        ap (option_in low.model.core.now.types) w.taken.body.kind ∙ ap (λ (c : CoreModel). fixed_typ c.types (option_typ w.taken.typ)) low.is.of_core

    decided : decides setting around ≡ true
    decided =
        subst (λ b. decides setting b ≡ true) w.taken.around.judged.1
        (subst (λ s. decides s w.taken.judge.around.now ≡ true) w.taken.around.judged.0 at_judge)
      where
        s : Setting
        s = w.taken.judge.setting.now

        a : Around
        a = w.taken.judge.around.now

        numbering : Sized → ℕ
        numbering = type_in s.numbered.now

        g : Signs
        g = signs_of s w.taken.judge.signs.now

        option : Sized
        option = fixed_typ s.types.now (option_typ w.taken.typ)

        same_number : nat_eq (numbering option) signs.result ≡ true
        same_number =
            eq-eqb (numbering option) signs.result
            (ap (λ (z : Setting). type_in z.numbered.now (fixed_typ z.types.now (option_typ w.taken.typ))) w.taken.around.judged.0
            ∙ ap (λ ts. type_in setting.numbered.now (fixed_typ ts (option_typ w.taken.typ))) types_are
            ∙ ap (type_in setting.numbered.now) (sym gives_is) ∙ ap (λ xs. type_in xs x.gives) w.taken.around.setting.numbered ∙ sym w.taken.around.result)

        at_judge : decides s a ≡ true
        at_judge =
            both (typing s.types.now numbering (callees_of s a) (tables_for s a.instances.now) g way.body).right
            (are_of s.types.now numbering (callees_of s a) (tables_for s a.instances.now) g signs.result
            (typing s.types.now numbering (callees_of s a) (tables_for s a.instances.now) g way.body).types) w.taken.code.right
            (ap (are_of s.types.now numbering (callees_of s a) (tables_for s a.instances.now) g signs.result)
            (option_types s.types.now numbering (callees_of s a) (tables_for s a.instances.now) g way w.taken.typ w.taken.clauses w.taken.body)
            ∙ both (nat_eq (numbering option) signs.result) (nat_eq (numbering option) signs.result && true) same_number
            (both (nat_eq (numbering option) signs.result) true same_number refl))

    abbrev code : Kit → List Instruction
    code kit = direction_code kit way.place (piece setting.types.now kit (number_for setting) callees tables way.body)

    code_is : f.code ≡ code (kit_for setting name)
    code_is =
        w.taken.code.is.code ∙ w.taken.code.code.put
        ∙ ap (direction_code (kit_for setting name) way.place)
        (sym (option_piece setting.types.now (kit_for setting name) (number_for setting) callees tables way w.taken.typ w.taken.clauses w.taken.body))

    once : (kit : Kit) (k : ℕ) → sets k (code kit) ≤ 1
    once kit k = (laws.own setting.types.now kit way.place k).0 (number_for setting) callees tables way.body

    pub way_is_valid : function_right m number f ≡ true
    way_is_valid =
        function_is_right m laws.codes number f setting w.taken.head w.taken.code.coding w.taken.code.is w.taken.code.code.first w.taken.code.code.room
        (many_types setting.numbered.now numbers_are)
        (exception_here core sized m low low.model low.is bodies [] setting w.taken.around.setting)
        (subst (Ended m f number) (sym (code_is ∙ ap code kit_is))
        (laws.directions setting.types.now setting.numbered.now callees tables signs m f number name placed numbered way.place way.body decided))
        (λ k. subst (λ c. sets k c ≤ 1) (sym code_is) (once (kit_for setting name) k))

  pub way_is_right : (d number : ℕ) (f : Made) → WayAt low.model d number f → function_right m number f ≡ true
  way_is_right d number f at = way_is_valid d number at.cycle at.direction f at.is
