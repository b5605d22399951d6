-- The functions of openings of a module: what each comes to is what its opening comes to in the meaning.
use Rattle.std.proofs.Common.{◌≡◌, ◌∙◌, ◌<◌, ℕ, zero, suc, ◌+◌, ℤ, Bool, true, false, List, [], ◌∷◌, ◌++◌, length, Option, Some, None, refl, sym, ap}
use Rattle.std.proofs.Common.{subst, arith}
use Rattle.std.specs.Prelude.{slice_get, slice_index_or}
use Rattle.sail_base.specs.declared.place.Place.{Place as TextPlace}
use Rattle.sail_types.specs.declared.numbers.Num.{Num}
use Rattle.sail_types.specs.declared.values.Value.{Value}
use Rattle.sail_types.specs.declared.values.Value.TheVariants as V
use Rattle.model_state.specs.declared.cause.Cause.{Cause}
use Rattle.model_state.specs.declared.cause.Cause.TheVariants.{MatchFailure, WorkLimit}
use Rattle.sail_core.specs.Making.{Making, World}
use Rattle.sail_core.specs.Meaning.{meaning}
use Rattle.sail_core.specs.Numbers.{known}
use Rattle.sail_core.specs.Patterns as P
use Rattle.sail_core.specs.Patterns.{steps_meaning}
use Rattle.sail_core.specs.Run as R
use Rattle.sail_core.specs.Run.{Ended, Now, goes_on, held_in, needs}
use Rattle.sail_core.specs.Start as S
use Rattle.sail_core.specs.Start.{opening_world}
use Rattle.sail_core.specs.declared.model.CoreModel.{CoreModel}
use Rattle.sail_core.specs.declared.patterns.Arm.TheVariants as A
use Rattle.sail_core.specs.declared.patterns.Step.{Step}
use Rattle.sail_core.specs.declared.tree.Core.{Core}
use Rattle.size_values.specs.declared.sized.Sized.{Sized}
use Rattle.checked_meaning.specs.Checked.{Cases, checked}
use Rattle.checked_meaning.specs.Fits.{has_sizes}
use Rattle.checked_meaning.specs.Items.{Item, item}
use Rattle.sized_nodes.specs.declared.trees.NodeSizes.{NodeSizes}
use Rattle.sized_nodes.specs.declared.trees.SizedCore.{SizedCore}
use Rattle.sized_meanings.specs.Sized.{noted_cases_of}
use Rattle.jib.specs.Jib.{Gives, Outcome, Stops, code_of, entry, jib_run, slots_of}
use Rattle.jib.specs.Jib as J
use Rattle.jib.specs.Valid.{valid}
use Rattle.jib.specs.declared.code.Module.{Module}
use Rattle.jib.proofs.Determined.{determined}
use Rattle.jib.proofs.ValidLaws.{valid_once}
use Rattle.lowered_types.specs.Table.{is_known, type_in}
use Rattle.lowered_types.proofs.Standing.{types_have}
use Rattle.lowered_slots.specs.Slots.{name_in}
use Rattle.lowered_laws.specs.Standing.{HasAt}
use Rattle.lowered_laws.proofs.Pieces.{has_whole}
use Rattle.lowered_pieces.specs.declared.coding.Coding.{Coding}
use Rattle.lowered_pieces.specs.Arms.{steps_fit}
use Rattle.lowered_pieces.specs.Emitted.{Begins, UsesBelow}
use Rattle.lowered_pieces.specs.Forms.{Callees}
use Rattle.lowered_pieces.specs.Functions.{body_depths, event_code}
use Rattle.lowered_pieces.specs.Lowering.{Node}
use Rattle.lowered_pieces.specs.Mapped.{ends_with, fixed_end}
use Rattle.lowered_pieces.specs.Openings.{named_piece}
use Rattle.lowered_pieces.specs.Places.{HasSlots, Names}
use Rattle.lowered_laws.specs.TablesTelling.{EachAlone}
use Rattle.lowered_laws.specs.TablesTelling as C
use Rattle.lowered_laws.proofs.TablesTelling.{noted_tell}
use Rattle.lowered_steps.specs.Setting.{reads_at}
use Rattle.lowered_steps.specs.declared.setting.Reads.{Reads}
use Rattle.lowered_steps.specs.declared.setting.Setting.{Setting}
use Rattle.lowered_functions.specs.Made.{first_slots}
use Rattle.lowered_laws.specs.Opened.{held_typ, name_hand, name_run}
use Rattle.lowered_laws.specs.Simulation.{Around, AtWork, CallsOk, Same, Sits, Followed, bare}
use Rattle.lowered_laws.proofs.Called.{begins_so}
use Rattle.lowered_laws.proofs.ClauseEnds.{ended_typed}
use Rattle.lowered_laws.proofs.Ends.{Gives_}
use Rattle.lowered_laws.proofs.Nodes.{node_good, node_right}
use Rattle.lowered_laws.proofs.Valued.{names_answer, values_answer}
use Rattle.lowered_laws.proofs.KnownSizes.{sizes_known}
use Rattle.lowered_laws.proofs.KnownTruths.{truths_known}
use Rattle.jib_lower.specs.Lowered.{FlatFrom}
use Rattle.jib_lower.proofs.Basics.{basic_of, index_there}
use Rattle.jib_lower.proofs.Placing.{basics}
use Rattle.module_meanings.proofs.Around.{callees_by, kit_by, no_directions, node_by, size_by, tables_by, tells_read, ways_by}
use Rattle.module_meanings.proofs.Known.{knows, stands}
use Rattle.module_meanings.proofs.Slots.{has_slots, names_apart, typs_of}

no : {X : Type 0} → false ≡ true → X
no e = cc

none : {A X : Type 0} (x : A) → None ≡ Some x → X
none x e = cc

-- ---- the openings that give names their values

abbrev pub Standing : List ℕ → List Value → List Value → Type 0
Standing [] [] ls = Unit {0}
Standing (k ∷ ks) (v ∷ vs) ls = (slice_get ls k ≡ Some v) × Standing ks vs ls
Standing ks vs ls = ⊥

get_before : (xs ys : List Value) (i : ℕ) (x : Value) → slice_get xs i ≡ Some x → slice_get (xs ++ ys) i ≡ Some x
get_before [] ys i x e = none x e
get_before (z ∷ xs) ys zero x e = e
get_before (z ∷ xs) ys (suc i) x e = get_before xs ys i x e

pub standing_more : (ks : List ℕ) (vs ls more : List Value) → Standing ks vs ls → Standing ks vs (ls ++ more)
standing_more [] [] ls more h = tt
standing_more [] (v ∷ vs) ls more h = absurd h
standing_more (k ∷ ks) [] ls more h = absurd h
standing_more (k ∷ ks) (v ∷ vs) ls more h = (get_before ls more k v h.0, standing_more ks vs ls more h.1)

pub standing_behind : (ks : List ℕ) (vs : List Value) (k : ℕ) (v : Value) (ls : List Value) → Standing ks vs ls → slice_get ls k ≡ Some v
    → Standing (ks ++ k ∷ []) (vs ++ v ∷ []) ls
standing_behind [] [] k v ls h e = (e, tt)
standing_behind [] (u ∷ vs) k v ls h e = absurd h
standing_behind (j ∷ ks) [] k v ls h e = absurd h
standing_behind (j ∷ ks) (u ∷ vs) k v ls h e = (h.0, standing_behind ks vs k v ls h.1 e)

pub standing_at : (ks : List ℕ) (vs ls : List Value) (i : ℕ) (v : Value) → Standing ks vs ls → slice_get vs i ≡ Some v
    → slice_index_or ls (slice_index_or ks i 0) V.Unit ≡ v
standing_at [] [] ls i v h e = none v e
standing_at [] (u ∷ vs) ls i v h e = absurd h
standing_at (k ∷ ks) [] ls i v h e = absurd h
standing_at (k ∷ ks) (u ∷ vs) ls zero v h e = index_there ls k V.Unit v (h.0 ∙ e)
standing_at (k ∷ ks) (u ∷ vs) ls (suc i) v h e = standing_at ks vs ls i v h.1 e

-- ---- the moment in which an opening begins

abbrev pub first_moment : Now Item
first_moment = S.begun 0 S.blank

differ : (v : Value) (s t : J.Store) → Gives v s ≡ Stops WorkLimit t → ⊥
differ v s t e = cc

module _ (core : CoreModel) (sized : SizedCore) (m : Module) (low : FlatFrom core sized m) (is_valid : valid m ≡ true) where
  abbrev ss : List Sized
  ss = low.table.numbered

  pub in_one_way : (ls : List Value) (q : ℕ) (s : J.Store) (r r' : Outcome) → jib_run m ls 0 q [] s r → jib_run m ls 0 q [] s r' → r ≡ r'
  in_one_way ls q s r r' x y = determined m ls 0 (valid_once m is_valid) x y

  -- ---- the function of an opening at work, with the tables of its opening

  module _ (told : List Reads) (nodes : List NodeSizes) (alone : EachAlone nodes) (in_nodes : C.all_known (is_known ss) nodes ≡ true) where
    abbrev cases : Cases
    cases = noted_cases_of core.types sized.instances nodes

    abbrev z : Making Item
    z = checked core.types cases

    module _ (setting : Setting) (coding : Coding) (first : Begins (first_slots setting []) coding.slots) (raised : setting.exception ≡ m.exception) (q : ℕ)
        (slots_is : slots_of m q ≡ typs_of coding.slots) (code_is : code_of m q ≡ coding.code) (room : UsesBelow (length coding.slots) coding.code)
        (ls : List Value) (names : List ℕ) (vs : List Value) (standing : Standing names vs ls) where
      abbrev at_work : Outcome → AtWork
      at_work r = record {
        m = m;
        lets = ls;
        hart = 0;
        here = J.alone q;
        ending = r;
        name = name_in coding.slots;
        table = core.types;
        number = type_in ss;
        exception = m.exception;
        size = size_by core sized m low [];
        ways = ways_by core sized m low no_directions;
        tables = tables_by core sized m low told nodes;
        knows = knows core sized m low;
        had = λ v t h k. types_have core.types ss m.types (stands core sized m low) v t h k;
        cases = cases;
        tells = tells_read core sized m low told nodes cases (noted_tell core.types (is_known ss) sized.instances nodes alone in_nodes);
        types = basic_of core.types ss m.types (stands core sized m low) (name_in coding.slots) m.exception (size_by core sized m low [])
            (ways_by core sized m low no_directions) (basics core sized m low).0 (basics core sized m low).1 (basics core sized m low).2;
        names = subst (Names (kit_by core sized m low [] (name_in coding.slots))) (sym slots_is)
            (names_apart setting [] coding first (kit_by core sized m low [] (name_in coding.slots)) refl raised);
        slots = subst (λ ts. HasSlots ts (code_of m q)) (sym slots_is)
            (subst (HasSlots (typs_of coding.slots)) (sym code_is) (has_slots coding room));
        arguments = [];
        depth = 1;
      }

      abbrev w : World Item
      w = opening_world vs

      abbrev callees : Callees
      callees = callees_by core sized m low [] [] names

      sizes : (t : Num) (n : ℤ) → size_by core sized m low [] t ≡ Some n → known [] t ≡ Some n
      sizes t n h = sizes_known [] [] refl t n h

      calls_ok : (r : Outcome) → CallsOk (at_work r) callees w
      calls_ok r = record {
        tells = λ place f a us now leads less. tt;
        crosses = λ place d v now c has less. no c;
        sees = λ place d x now c less. no c;
      }

      around : (r : Outcome) → Around (at_work r) callees w
      around r = record {
        hart = refl;
        sized = refl;
        widths = sizes;
        sizes = sizes;
        truths = λ c b h. truths_known [] [] refl c b h;
        arguments = refl;
        given = refl;
        had = tt;
        lets = λ i v e. standing_at names vs ls i v standing e;
      }

      begins : (r : Outcome) → Same (at_work r) body_depths [] 0 (entry m q []) first_moment
      begins r = begins_so (at_work r) (entry m q []) first_moment tt

      few : 0 < 1
      few = omega arith

      -- ---- a value

      module _ (place : TextPlace) (c : Core) (able : (node_by core sized m low [] [] names told nodes (name_in coding.slots) c).ok ≡ true)
          (is_code : coding.code ≡ event_code (kit_by core sized m low [] (name_in coding.slots)) place
          (node_by core sized m low [] [] names told nodes (name_in coding.slots) c).piece) where
        abbrev there : Node
        there = node_by core sized m low [] [] names told nodes (name_in coding.slots) c

        -- what may follow its run
        abbrev Next : Outcome → Ended Item Item → Type 0
        Next r o = Followed r o (λ y u. Sits (at_work r) y.val y.typ → r ≡ Gives y.val (bare u)) (λ v u. ⊥) (λ u. ⊥)

        follows : (r : Outcome) → Next r (meaning z w c first_moment) → jib_run m ls 0 q [] (bare first_moment) r
        follows r h =
            values_answer (at_work r) place (meaning z w c) there.piece (node_good (at_work r) callees w (calls_ok r) (around r) c able) (entry m q [])
            first_moment few (subst (λ code. HasAt (code_of m q) 0 code) (code_is ∙ is_code) (has_whole (code_of m q))) (begins r) h

        pub value_stopped : (cause : Cause) (t : Now Item) → meaning z w c first_moment ≡ R.Stops cause t
            → jib_run m ls 0 q [] (bare first_moment) (Stops cause (bare t))
        value_stopped cause t stops_ = follows (Stops cause (bare t)) (subst (Next (Stops cause (bare t))) (sym stops_) refl)

        module _ (x : Item) (t : Now Item) (gives_ : meaning z w c first_moment ≡ R.Gives x t) where
          runs_to : (r : Outcome) → (Sits (at_work r) x.val x.typ → r ≡ Gives x.val (bare t)) → jib_run m ls 0 q [] (bare first_moment) r
          runs_to r h = follows r (subst (Next r) (sym gives_) h)

          -- a value that didn't have its sizes could end anyhow
          had_so : (P : Bool) → ((r : Outcome) → P ≡ false → jib_run m ls 0 q [] (bare first_moment) r) → P ≡ true
          had_so true any = refl
          had_so false any =
              absurd (differ V.Unit (bare t) (bare t) (in_one_way ls q (bare first_moment) (Gives V.Unit (bare t)) (Stops WorkLimit (bare t))
              (any (Gives V.Unit (bare t)) refl) (any (Stops WorkLimit (bare t)) refl)))

          pub value_sits : (has_sizes core.types x.val x.typ ≡ true) × (is_known ss x.typ ≡ true)
          value_sits = (
            had_so (has_sizes core.types x.val x.typ) (λ r e. runs_to r (λ s. no (sym e ∙ s.0))),
            had_so (is_known ss x.typ) (λ r e. runs_to r (λ s. no (sym e ∙ s.1))),
          )

          pub value_came : jib_run m ls 0 q [] (bare first_moment) (Gives x.val (bare t))
          value_came = runs_to (Gives x.val (bare t)) (λ s. refl)

          pub value_typed : (whole : Sized) → ends_with whole (fixed_end there.piece.ends) ≡ true → whole ≡ x.typ
          value_typed whole h =
              let r : Outcome = Gives x.val (bare t) in
              subst (λ (o : Ended Item Item). Gives_ o (λ y u. whole ≡ y.typ)) gives_
              (ended_typed (at_work r) w 0 [] whole there.piece.ends (meaning z w c) h
              (node_right (at_work r) callees w (calls_ok r) (around r) c able) first_moment)

      -- ---- a name of a let

      module _ (place : TextPlace) (k : ℕ) (whole typ : Sized) (steps : List Step) (text : List ℕ) (v : Value)
          (is_code : coding.code ≡ event_code (kit_by core sized m low [] (name_in coding.slots)) place
          (named_piece core.types (kit_by core sized m low [] (name_in coding.slots)) [] place k whole (A.Flat 0 steps) text typ))
          (lowered : steps_fit (size_by core sized m low []) (λ d. false) (reads_at told) steps ≡ true)
          (is_typ : held_typ (name_hand (at_work (Gives v (bare first_moment))) steps whole).names
          (name_hand (at_work (Gives v (bare first_moment))) steps whole).named text ≡ Some typ)
          (given : slice_index_or ls k V.Unit ≡ v) (had : (has_sizes core.types v whole ≡ true) × (is_known ss whole ≡ true)) where
        abbrev start : P.Hand Item
        start = record { values = item whole v ∷ []; found = [] }

        abbrev find : P.Hand Item → Now Item → Ended Item Item
        find h = needs (held_in text h.found)

        -- what may follow its run
        abbrev NameNext : Outcome → Ended Item Item → Type 0
        NameNext r o = Followed r o (λ x t. r ≡ Gives x.val (bare t)) (λ u t. ⊥) (λ t. r ≡ Stops (MatchFailure place) (bare t))

        name_follows : (r : Outcome) → NameNext r (name_run (at_work r) w steps text whole v first_moment) → jib_run m ls 0 q [] (bare first_moment) r
        name_follows r h =
            names_answer (at_work r) w place k whole typ steps text v lowered sizes is_typ given had (entry m q []) first_moment
            (subst (λ code. HasAt (code_of m q) 0 code) (code_is ∙ is_code) (has_whole (code_of m q))) (begins r) h

        pub name_came : (hr : P.Hand Item) (y : Item) → steps_meaning z w steps start first_moment ≡ R.Gives hr first_moment
            → held_in text hr.found ≡ Some y → jib_run m ls 0 q [] (bare first_moment) (Gives y.val (bare first_moment))
        name_came hr y looked held =
            let r : Outcome = Gives y.val (bare first_moment) in
            let came : name_run (at_work r) w steps text whole v first_moment ≡ R.Gives y first_moment =
            ap (λ (o : Ended Item (P.Hand Item)). goes_on o find) looked ∙ ap (λ (o : Option Item). needs o first_moment) held in
            name_follows r (subst (NameNext r) (sym came) refl)

        -- where the pattern doesn't match
        pub name_stopped : (t : Now Item) → steps_meaning z w steps start first_moment ≡ R.No t
            → jib_run m ls 0 q [] (bare first_moment) (Stops (MatchFailure place) (bare t))
        name_stopped t looked =
            let r : Outcome = Stops (MatchFailure place) (bare t) in
            let came : name_run (at_work r) w steps text whole v first_moment ≡ R.No t = ap (λ (o : Ended Item (P.Hand Item)). goes_on o find) looked in
            name_follows r (subst (NameNext r) (sym came) refl)
