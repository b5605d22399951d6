-- What is found stays where it is: whatever is read puts more behind it. So the functions that a hart enters are the first instances of a list.
use Rattle.std.proofs.Common.{◌≡◌, ◌∙◌, ap, sym, refl, ℕ, nat_eq, nat_lt, Bool, true, false, ◌&&◌, List, [], ◌∷◌, ◌++◌, length}
use Rattle.std.proofs.Common.{Some, None, if◌then◌else◌, append_assoc, append-nil}
use Rattle.std.specs.Prelude.{Ok, Err, is_some}
use Rattle.std.specs.List.{list_any}
use Rattle.std.proofs.lemmas.Bool.Decides.{Decides-eqb}
use Rattle.sail_base.specs.declared.place.Place.{Place}
use Rattle.sail_types.specs.Places.{only}
use Rattle.sail_types.specs.Sums.{and_then as then_if}
use Rattle.sail_types.specs.declared.numbers.Index.{Index}
use Rattle.model_state.specs.declared.state.Register.{Register}
use Rattle.sail_core.specs.declared.model.Opening.{Opening}
use Rattle.sail_core.specs.declared.model.RegisterText.{RegisterText}
use Rattle.sail_core.specs.declared.tree.Callee.{Callee}
use Rattle.value_indices.specs.Steps.{Note}
use Rattle.value_indices.specs.declared.indices.Indices.{Indices}
use Rattle.value_indices.specs.declared.indices.Reading.{Reading}
use Rattle.size_values.specs.declared.constants.Picked.{Picked}
use Rattle.size_values.specs.Sized.{all_eq}
use Rattle.size_splits.specs.Bodies.{Body}
use Rattle.monomorph.specs.declared.found.Found.{Found}
use Rattle.monomorph.specs.declared.found.Found.TheVariants as F
use Rattle.sized_nodes.specs.declared.trees.Instance.{Instance}
use Rattle.monomorph.specs.Found.{Answer, add_mapping, found_eq, instances_in, most_instances, outcome, over}
use Rattle.monomorph.specs.Instances.{entry, found_from, grow, instances_of, listed, read_found}
use Rattle.monomorph.specs.Lasts.{Model, last_from}
use Rattle.monomorph.specs.Reading.{Inside, read_call, read_notes, read_sizes}
use Rattle.sized_nodes.specs.declared.trees.SizedInstance.{SizedInstance}
use Rattle.sized_trees.specs.Trees.{sized_instance, sized_instances, sized_list}
use Rattle.soundness_calls.specs.Events.{entered_by}
use Rattle.covering_laws.proofs.Readings as Readings
use Rattle.covering_laws.specs.Covered.{at_first, first_of, function_covered, if_at, same_numbers}

-- ---- what is found by then, with more behind it

abbrev pub Extends : List Found → List Found → Type 0
Extends found all = (more : List Found) × (all ≡ found ++ more)

-- a reading that refuses nothing keeps what is there
abbrev pub Keeps : (List Found → Answer) → Type 0
Keeps read = (found all : List Found) → read found ≡ Ok all → Extends found all

nothing_more : (found : List Found) → Extends found found
nothing_more found = ([], sym (append-nil found))

pub as_found : (found all : List Found) → outcome None found ≡ Ok all → found ≡ all
as_found found all e = cc e

pub further : (found some all : List Found) → Extends found some → Extends some all → Extends found all
further found some all first next =
    (first.0 ++ next.0, next.1 ∙ ap (λ (l : List Found). l ++ next.0) first.1 ∙ append_assoc found first.0 next.0)

function_more : (x : Instance) (found : List Found) → nat_lt (length (instances_in found)) most_instances ≡ true → Extends found (found ++ F.Function x ∷ [])
function_more x found e = (F.Function x ∷ [], refl)

-- whichever it is
abbrev any : ℕ → Type 0
any i = Unit {0}

mapping_more : (i : ℕ) → any i → (found : List Found) → list_any (found_eq (F.Mapping i)) found ≡ false → Extends found (found ++ F.Mapping i ∷ [])
mapping_more i may found e = (F.Mapping i ∷ [], refl)

-- ---- so readings keep it

pub over_keeps : {A : Type 0} (read : A → List Found → Answer) → ((x : A) → Keeps (read x)) → (xs : List A) → Keeps (over read xs)
over_keeps read k xs = Readings.over_goes any Extends nothing_more further function_more mapping_more read k xs

pub mapping_keeps : (i : ℕ) → Keeps (λ found. Ok (add_mapping i found))
mapping_keeps i = Readings.mapping_goes any Extends nothing_more further function_more mapping_more i tt

pub call_keeps : (r : Inside) (place : Place) (operands : List Indices) (callee : Callee) (js : List Index) (qs : List Reading) (ps : List Picked)
    → Keeps (read_call r place operands callee js qs ps)
call_keeps r place operands callee js qs ps =
    Readings.call_goes any Extends nothing_more further function_more mapping_more r place operands callee (Readings.callee_any any (λ i. tt) callee) js qs ps

pub sizes_keep : (r : Inside) (place : Place) (i : Indices) (ps : List Picked) → Keeps (read_sizes r place i ps)
sizes_keep r place i ps = Readings.sizes_go any Extends nothing_more further function_more mapping_more r place i ps

pub notes_keep : (r : Inside) (ns : List Note) → Keeps (read_notes r ns)
notes_keep r ns = Readings.notes_go any Extends nothing_more further function_more mapping_more r ns (Readings.notes_any any (λ i. tt) ns)

pub found_keeps : (m : Model) (x : Found) → Keeps (read_found m x)
found_keeps m x = Readings.found_goes any Extends nothing_more further function_more mapping_more m (Readings.model_any any (λ i. tt) m) x

pub grow_keeps : (m : Model) (times i : ℕ) → Keeps (grow times m i)
grow_keeps m times i = Readings.grow_goes any Extends nothing_more further function_more mapping_more m (Readings.model_any any (λ i. tt) m) times i

pub last_keeps : (m : Model) (rs : List Register) (texts : List RegisterText) (os : List Opening) (bs : List Body) → Keeps (last_from m rs texts os bs)
last_keeps m rs texts os bs =
    Readings.last_goes any Extends nothing_more further function_more mapping_more m rs texts os bs (Readings.bodies_any any (λ i. tt) bs)

pub found_from_keeps : (m : Model) → Keeps (found_from m)
found_from_keeps m = Readings.found_from_goes any Extends nothing_more further function_more mapping_more m (Readings.model_any any (λ i. tt) m)

-- ---- a model

module _ (m : Model) where
  -- ---- the first two

  -- a function without variables
  abbrev pub plain : ℕ → Instance
  plain f = record { function = f; numbers = []; types = [] }

  abbrev pub starts : List Instance → Type 0
  starts list = (more : List Instance) × (list ≡ plain m.core.reset ∷ plain m.core.step ∷ more)

  pub all_start : (list : List Instance) (all : List Found) → Extends (entry m.core.reset ∷ entry m.core.step ∷ []) all → listed (Ok all) ≡ Ok list
      → starts list
  all_start list all more e =
      let is : instances_in all ≡ list = cc e in
      (instances_in more.0, sym is ∙ ap instances_in more.1)

  pub list_starts : (list : List Instance) → instances_of m ≡ Ok list → starts list
  list_starts list h = by (found_from m (entry m.core.reset ∷ entry m.core.step ∷ [])) refl h
    where
      by : (a : Answer) → found_from m (entry m.core.reset ∷ entry m.core.step ∷ []) ≡ a → listed a ≡ Ok list → starts list
      by (Ok all) e g = all_start list all (found_from_keeps m (entry m.core.reset ∷ entry m.core.step ∷ []) all e) g
      by (Err why) e g = absurd (cc)

  -- ---- so they are covered

  module _ (more : List Instance) (a b : ℕ) where
    abbrev all_of : List Instance
    all_of = plain a ∷ plain b ∷ more

    abbrev front : SizedInstance
    front = sized_instance m all_of (plain a)

    abbrev second : SizedInstance
    second = sized_instance m all_of (plain b)

    abbrev others : List SizedInstance
    others = sized_instances m all_of more

    -- the test of numbers and types of one without any
    abbrev bare : Bool
    bare = same_numbers [] [] && all_eq [] []

    itself : (i : ℕ) → nat_eq i i ≡ true
    itself i = (Decides-eqb i i).1 refl

    pub first_covered : function_covered (sized_list m all_of) (entered_by a) ≡ true
    first_covered =
        ap (λ (q : Bool). is_some (if q then only (q && bare) front else at_first (entered_by a) (front ∷ second ∷ others))) (itself a)

    pub second_covered : function_covered (sized_list m all_of) (entered_by b) ≡ true
    second_covered = by (nat_eq a b)
      where
        by : (q : Bool)
            → is_some (if q then only (q && bare) front
            else then_if (if q then Some front else first_of b (second ∷ others)) (if_at (entered_by b))) ≡ true
        by true = refl
        by false =
            ap (λ (q : Bool). is_some (then_if (if q then Some second else first_of b others) (if_at (entered_by b)))) (itself b)
            ∙ ap (λ (q : Bool). is_some (only (q && bare) second)) (itself b)
