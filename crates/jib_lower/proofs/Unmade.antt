-- How the reason of a part that isn't made is that of the whole.
use Rattle.std.proofs.Common.{◌≡◌, ◌∙◌, ℕ, suc, ◌+◌, Bool, true, false, List, [], ◌∷◌, ◌++◌, Option, Some, None, Result, Ok, Err, IfErr, length, refl}
use Rattle.std.proofs.Common.{sym, ap, subst}
use Rattle.jib_lower.specs.Types.{word_types}
use Rattle.std.specs.Prelude.{pos, IfNone, IfSome, IsErrAnd, ◌&&◌, nat_lt, slice_get}
use Rattle.std.specs.Option.{option_and_then}
use Rattle.sail_base.specs.declared.place.Place.{Place}
use Rattle.sail_types.specs.declared.table.Types.{Types}
use Rattle.sail_core.specs.declared.patterns.Arm.{Arm}
use Rattle.sail_core.specs.declared.patterns.Step.{Step}
use Rattle.sail_core.specs.declared.model.CoreModel.{CoreModel}
use Rattle.sail_core.specs.declared.model.Opening.{Opening}
use Rattle.size_values.specs.declared.sized.Sized.{Sized}
use Rattle.size_values.specs.declared.sized.Sized.TheVariants as S
use Rattle.size_values.specs.Sized.{sized_eq}
use Rattle.exact_sizes.proofs.Equal.{all_itself}
use Rattle.lowered_pieces.specs.Places.{Naming}
use Rattle.lowered_typed.specs.declared.signs.Judge.{Judge}
use Rattle.lowered_typed.specs.Here as here
use Rattle.jib_lower.proofs.Basics.{and_left}
use Rattle.jib_lower.specs.Left.{HeldBy, NotHeldBy}
use Rattle.sized_nodes.specs.declared.trees.NodeSizes.{NodeSizes}
use Rattle.sized_nodes.specs.declared.trees.SizedInstance.{SizedInstance}
use Rattle.jib.specs.declared.code.Function.{Function as Made}
use Rattle.lowered_pieces.specs.Arms.{steps_in}
use Rattle.lowered_tables.specs.declared.tables.TableError.{TableError}
use Rattle.lowered_tables.specs.declared.tables.TableError.TheVariants as E
use Rattle.lowered_tables.specs.Built.{OrMemory as OrMemoryOf, with_number, with_numbers}
use Rattle.lowered_tables.proofs.Growing.{one_none, one_then}
use Rattle.jib_lower.specs.declared.error.LowerError.{LowerError}
use Rattle.jib_lower.specs.declared.error.LowerError.TheVariants as L
use Rattle.jib_lower.specs.declared.instances.Model.{Model}
use Rattle.jib_lower.specs.declared.openings.Opened.{Opened}
use Rattle.jib_lower.specs.Cycles.{all_there}
use Rattle.jib_lower.specs.Errors.{OrMemory, of_table}
use Rattle.jib_lower.specs.Lowered.{names_in, opens_none}
use Rattle.jib_lower.specs.Openings.{LetMade, NameAdded, OpeningAdded, Pushed}
use Rattle.jib_lower.specs.Left.{EntryLeft, InstanceLeft, InstancesLeft, KindLeft, LetLeft, NamesLeft, OpeningLeft, OpeningsLeft, SomeEntryLeft, ValueTyped}
use Rattle.jib_lower.specs.Left.{instance_behind, instance_here, kind_left, let_names_left, name_behind, no_function, opening_behind}
use Rattle.lowered_steps.proofs.Lists.{lt_false}
use Rattle.jib_lower.proofs.Falling.{past_none}

-- a reason leads to another
pub or_more : {R Q : Type 0} → (R → Q) → (e : LowerError) → OrMemory R e → OrMemory Q e
or_more f L.Memory h = tt
or_more f (L.Table t) h = f h
or_more f L.NotTabled h = f h
or_more f L.NotResolved h = f h
or_more f (L.NotLowered p) h = f h
or_more f (L.NotSized p) h = f h
or_more f L.NotThere h = f h

-- so where it is that of the last call, or of one that a `?` hands on
pub last_more : {T R Q : Type 0} (r : Result T LowerError) → (R → Q) → IfErr r (OrMemory R) → IfErr r (OrMemory Q)
last_more (Ok x) f h = tt
last_more (Err e) f h = or_more f e h

pub exit_more : {T R Q : Type 0} (r : Result T LowerError) (e : LowerError) → IsErrAnd r (λ y. y ≡ e) → (R → Q) → OrMemory R e → IfErr r (OrMemory Q)
exit_more (Ok x) e is f h = tt
exit_more {Q = Q} (Err y) e is f h = subst (λ z. OrMemory Q z) (sym is) (or_more f e h)

-- a truth is one of two
pub not_both : {X : Type 0} (b : Bool) → b ≡ true → b ≡ false → X
not_both true t f = cc
not_both false t f = cc

pub itself : (t : Sized) → sized_eq t t ≡ true
itself t = and_left (sized_eq t t) true (all_itself (t ∷ []))

pub only_same : (s t : Sized) → s ∷ [] ≡ t ∷ [] → s ≡ t
only_same s t e = cc

pub first_naming : Naming
first_naming = λ place k. 0

-- what is said of an option where it is one of two
pub some_at : {A : Type 0} (P : A → Type 0) (o : Option A) (x : A) → o ≡ Some x → IfSome o P → P x
some_at P o x is h = subst (λ p. IfSome p P) is h

pub none_at : {A : Type 0} (P : Type 0) (o : Option A) → o ≡ None → IfNone o P → P
none_at P o is h = subst (λ p. IfNone p P) is h

pub held_some : (judge : Judge) (whole : Sized) (steps : List Step) (text : List ℕ) (o : Option Sized) → o ≡ here.name_typ judge steps (whole ∷ []) text
    → IfSome o (HeldBy judge whole steps text)
held_some judge whole steps text None is = tt
held_some judge whole steps text (Some t) is = record { is = sym is }

pub held_none : (judge : Judge) (whole : Sized) (steps : List Step) (text : List ℕ) (o : Option Sized) → o ≡ here.name_typ judge steps (whole ∷ []) text
    → IfNone o (NotHeldBy judge whole steps text)
held_none judge whole steps text None is = record { is = sym is }
held_none judge whole steps text (Some t) is = tt

-- ---- instances

pub entry_first : (core : CoreModel) (x : SizedInstance) (xs all : List SizedInstance) → all ≡ x ∷ xs → EntryLeft core x → SomeEntryLeft core all
entry_first core x xs all is why =
    subst (λ ys. SomeEntryLeft core ys) (sym is) (record { place = 0; instance = x; there = refl; why = why })

pub entry_later : (core : CoreModel) (x : SizedInstance) (xs all : List SizedInstance) → all ≡ x ∷ xs → SomeEntryLeft core xs → SomeEntryLeft core all
entry_later core x xs all is h =
    subst (λ ys. SomeEntryLeft core ys) (sym is) (record { place = suc h.place; instance = h.instance; there = h.there; why = h.why })

pub entry_nowhere : (core : CoreModel) (xs : List SizedInstance) → all_there (length core.functions) xs ≡ false → SomeEntryLeft core xs
entry_nowhere core [] h = absurd (no h)
  where
    no : true ≡ false → ⊥
    no e = cc
entry_nowhere core (x ∷ xs) h = by (nat_lt x.instance.function (length core.functions)) (entry_nowhere core xs) refl h
  where
    by : (b : Bool) → (all_there (length core.functions) xs ≡ false → SomeEntryLeft core xs) → nat_lt x.instance.function (length core.functions) ≡ b
        → (b && all_there (length core.functions) xs) ≡ false → SomeEntryLeft core (x ∷ xs)
    by true f is e = entry_later core x xs (x ∷ xs) refl (f e)
    by false f is e =
        entry_first core x xs (x ∷ xs) refl
        (no_function (past_none core.functions x.instance.function (lt_false x.instance.function (length core.functions) (sym is))))

pub instance_first : (model : Model) (i : ℕ) (x : SizedInstance) (xs all : List SizedInstance) → all ≡ x ∷ xs → InstanceLeft model i x
    → InstancesLeft model i all
instance_first model i x xs all is why = subst (λ ys. InstancesLeft model i ys) (sym is) (instance_here why)

pub instance_later : (model : Model) (i j : ℕ) (x : SizedInstance) (xs all : List SizedInstance) → all ≡ x ∷ xs → j ≡ i + 1 → InstancesLeft model j xs
    → InstancesLeft model i all
instance_later model i j x xs all is next h =
    subst (λ ys. InstancesLeft model i ys) (sym is) (instance_behind (subst (λ k. InstancesLeft model k xs) next h))

-- ---- openings

pub name_later : (model : Model) (place : Place) (k : ℕ) (whole : Sized) (arm : Arm) (text : List ℕ) (texts : List (List ℕ)) (a b : Opened)
    → NameAdded model place k whole (steps_in arm) text a b → NamesLeft model place k whole arm texts b.types b.names
    → NamesLeft model place k whole arm (text ∷ texts) a.types a.names
name_later model place k whole arm text texts a b one h =
    name_behind one.is (subst (λ ts. NamesLeft model place k whole arm texts ts (a.names ++ length a.types ∷ [])) one.types
    (subst (λ ns. NamesLeft model place k whole arm texts b.types ns) one.names h))

pub let_names : (model : Model) (o : Opening) (bodies : List (List NodeSizes)) (arm : Arm) (whole : Sized) (made : Made) (k : ℕ) (a b : Opened)
    → ValueTyped model o bodies a.types a.names whole → LetMade model o bodies a.types a.names arm whole made → Pushed None made a b → k ≡ length a.types
    → NamesLeft model o.place k whole arm (names_in (steps_in arm)) b.types b.names → LetLeft model o bodies a.types a.names arm
let_names model o bodies arm whole made k a b typed is p e h =
    let_names_left typed is.value
    (subst (λ n. NamesLeft model o.place n whole arm (names_in (steps_in arm)) (a.types ++ made.result ∷ []) a.names) e
    (subst (λ ts. NamesLeft model o.place k whole arm (names_in (steps_in arm)) ts a.names) p.types
    (subst (λ ns. NamesLeft model o.place k whole arm (names_in (steps_in arm)) b.types ns) p.names h)))

pub opening_kind : (model : Model) (i : ℕ) (o : Opening) (nodes : List NodeSizes) (bodies : List (List NodeSizes)) (before names : List ℕ)
    → bodies ≡ nodes ∷ [] → slice_get model.sized.now.openings i ≡ Some nodes → KindLeft model o bodies before names → OpeningLeft model i o before names
opening_kind model i o nodes bodies before names e there h = kind_left there (subst (λ bs. KindLeft model o bs before names) e h)

pub opening_later : (model : Model) (i j : ℕ) (o : Opening) (os : List Opening) (a b : Opened) → OpeningAdded model i o a b → j ≡ i + 1
    → OpeningsLeft model j os b.types b.names → OpeningsLeft model i (o ∷ os) a.types a.names
opening_later model i j o os a b one next h =
    opening_behind (one.joins [] [] [] b.types b.names opens_none) (subst (λ k. OpeningsLeft model k os b.types b.names) next h)

-- ---- types, one after another

pub exit_table : {T R Q : Type 0} (r : Result T LowerError) (e : TableError) → IsErrAnd r (λ y. y ≡ of_table e) → (R → Q) → OrMemoryOf R e
    → IfErr r (OrMemory Q)
exit_table (Ok x) e is f h = tt
exit_table {Q = Q} (Err y) E.Memory is f h = subst (λ z. OrMemory Q z) (sym is) tt
exit_table {Q = Q} (Err y) E.TooDeep is f h = subst (λ z. OrMemory Q z) (sym is) (f h)
exit_table {Q = Q} (Err y) E.TooWide is f h = subst (λ z. OrMemory Q z) (sym is) (f h)

pub word_none : word_types 0 ≡ []
unfolding word_types
word_none = refl

pub word_more : (n : ℕ) → word_types (suc n) ≡ S.Bits (pos n) ∷ word_types n
unfolding word_types
word_more n = refl

module _ (types : Types) (ss : List Sized) where
  -- some types and those behind them
  pub both_listed : (rs xs ys given all : List Sized) (o : Option (List Sized)) → all ≡ xs ++ ys → given ≡ xs → with_numbers types ss given ≡ Some rs
      → with_numbers types rs ys ≡ o → with_numbers types ss all ≡ o
  both_listed rs xs ys given all o is same h k =
      ap (with_numbers types ss) is
      ∙ one_then (with_number types) ss xs ys rs o (ap (with_numbers types ss) (sym same) ∙ h) k

  pub first_none : (xs ys given all : List Sized) → all ≡ xs ++ ys → given ≡ xs → with_numbers types ss given ≡ None → with_numbers types ss all ≡ None
  first_none xs ys given all is same h =
      ap (with_numbers types ss) is ∙ one_none (with_number types) ss xs ys (ap (with_numbers types ss) (sym same) ∙ h)

  -- a type and those behind it
  pub type_listed : (rs ys all : List Sized) (t s : Sized) (o : Option (List Sized)) → all ≡ t ∷ ys → s ≡ t → with_number types ss s ≡ Some rs
      → with_numbers types rs ys ≡ o → with_numbers types ss all ≡ o
  type_listed rs ys all t s o is same h k =
      ap (with_numbers types ss) is
      ∙ ap (option_and_then (λ us. with_numbers types us ys)) (ap (with_number types ss) (sym same) ∙ h) ∙ k

  pub type_none : (ys all : List Sized) (t s : Sized) → all ≡ t ∷ ys → s ≡ t → with_number types ss s ≡ None → with_numbers types ss all ≡ None
  type_none ys all t s is same h =
      ap (with_numbers types ss) is ∙ ap (option_and_then (λ us. with_numbers types us ys)) (ap (with_number types ss) (sym same) ∙ h)
