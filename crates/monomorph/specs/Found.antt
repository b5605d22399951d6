-- What is found: functions for numbers and types, and mappings, which are no instances.
use Rattle.std.specs.Prelude.{ℕ, suc, nat_eq, nat_lt, Bool, false, ◌&&◌, List, [], ◌∷◌, ◌++◌, length, Option, Some, None}
use Rattle.std.specs.Prelude.{Result, Ok, Err, if◌then◌else◌}
use Rattle.std.specs.List.{list_any}
use Rattle.sail_base.specs.declared.place.Place.{Place}
use Rattle.size_values.specs.Sized.{all_eq, numbers_eq}
use Rattle.monomorph.specs.declared.error.MonoError.{MonoError}
use Rattle.monomorph.specs.declared.error.MonoError.TheVariants.{InstanceLimit}
use Rattle.monomorph.specs.declared.found.Found.{Found}
use Rattle.monomorph.specs.declared.found.Found.TheVariants as F
use Rattle.sized_nodes.specs.declared.trees.Instance.{Instance}

-- ---- what is found by then, or the first refusal

abbrev pub Answer : Type 0
Answer = Result (List Found) MonoError

abbrev pub unless : Option MonoError → Answer → Answer
unless None answer = answer
unless (Some e) answer = Err e

abbrev pub and_then : Answer → (List Found → Answer) → Answer
and_then (Ok found) next = next found
and_then (Err e) next = Err e

-- as code has it: what is refused, and what is found by then
abbrev pub outcome : Option MonoError → List Found → Answer
outcome refused found = unless refused (Ok found)

-- one after another, up to the first refusal
abbrev pub over : {A : Type 0} → (A → List Found → Answer) → List A → List Found → Answer
over f [] found = Ok found
over f (x ∷ xs) found = and_then (f x found) (over f xs)

-- ---- which are the same

abbrev pub instance_eq : Instance → Instance → Bool
instance_eq x y = nat_eq x.function y.function && (numbers_eq x.numbers y.numbers && all_eq x.types y.types)

abbrev pub found_eq : Found → Found → Bool
found_eq (F.Function x) (F.Function y) = instance_eq x y
found_eq (F.Mapping i) (F.Mapping j) = nat_eq i j
found_eq x y = false

-- ---- the instances among them

abbrev pub into_instance : Found → Option Instance
into_instance (F.Function x) = Some x
into_instance (F.Mapping i) = None

abbrev pub one_or_none : Option Instance → List Instance
one_or_none None = []
one_or_none (Some x) = x ∷ []

abbrev pub instance_in : Found → List Instance
instance_in x = one_or_none (into_instance x)

abbrev pub instances_in : List Found → List Instance
instances_in [] = []
instances_in (x ∷ found) = instance_in x ++ instances_in found

abbrev pub most_instances : ℕ
most_instances = 4096

-- ---- one more: behind all others, where it isn't there

abbrev pub unless_full : Place → Found → List Found → Answer
unless_full place x found =
    if nat_lt (length (instances_in found)) most_instances then Ok (found ++ x ∷ []) else Err (InstanceLimit place (suc most_instances))

abbrev pub add : Place → Instance → List Found → Answer
add place x found = if list_any (found_eq (F.Function x)) found then Ok found else unless_full place (F.Function x) found

abbrev pub add_mapping : ℕ → List Found → List Found
add_mapping i found = if list_any (found_eq (F.Mapping i)) found then found else found ++ F.Mapping i ∷ []
