-- Parts that are read one behind the other.
use Rattle.std.proofs.Common.{◌≡◌, Bool, true, false, ◌&&◌, List, [], ◌∷◌, ◌++◌, refl, ap, ◌∙◌, append_assoc, Option, Some, None, is_some, filter_map}
use Rattle.std.specs.Option.{option_to_list}
use Rattle.std.specs.List.{cons_option}
use Rattle.sail_types.specs.Sums.{and_then}
use Rattle.sail_types.specs.Readings.{more, behind}
use Rattle.sail_types.specs.declared.numbers.Index.{Index}
use Rattle.sail_types.specs.declared.types.Typ.{Typ}
use Rattle.type_arguments.specs.Taken.{typ_of}
use Rattle.type_arguments.specs.declared.normal.Normal.{Normal}
use Rattle.sail_kinds.specs.Normal.{index_of}

-- items behind those that were made, where none was wanting
abbrev pub kept_behind : {A : Type 0} → Bool → List A → Option (List A) → Option (List A)
kept_behind true made rest = behind made rest
kept_behind false made rest = None

pub kept_more : {A : Type 0} (whole : Bool) (made : List A) (part : Option A) (rest : Option (List A))
    → kept_behind (is_some part && whole) (made ++ option_to_list part) rest ≡ kept_behind whole made (more part rest)
kept_more true made None rest = refl
kept_more true made (Some x) None = refl
kept_more true made (Some x) (Some rest) = ap Some (append_assoc made (x ∷ []) rest)
kept_more false made None rest = refl
kept_more false made (Some x) rest = refl

-- the arguments of one sort and of the other
abbrev pub split : List Normal → List Index × List Typ
split ns = (filter_map index_of ns, filter_map typ_of ns)

abbrev pub split_behind : Bool → List Index → List Typ → Option (List Normal) → Option (List Index × List Typ)
split_behind true is ts None = None
split_behind true is ts (Some ns) = Some (is ++ filter_map index_of ns, ts ++ filter_map typ_of ns)
split_behind false is ts rest = None

cons_as : {B : Type 0} (x : Option B) (ys : List B) → option_to_list x ++ ys ≡ cons_option x ys
cons_as None ys = refl
cons_as (Some x) ys = refl

joined : {A B : Type 0} (f : A → Option B) (bs : List B) (x : A) (xs : List A)
    → (bs ++ option_to_list (f x)) ++ filter_map f xs ≡ bs ++ filter_map f (x ∷ xs)
joined f bs x xs = append_assoc bs (option_to_list (f x)) (filter_map f xs) ∙ ap (λ rest. bs ++ rest) (cons_as (f x) (filter_map f xs))

pub split_more : (whole : Bool) (is : List Index) (ts : List Typ) (part : Option Normal) (rest : Option (List Normal))
    → split_behind (is_some part && whole) (is ++ option_to_list (and_then part index_of)) (ts ++ option_to_list (and_then part typ_of)) rest
    ≡ split_behind whole is ts (more part rest)
split_more true is ts None rest = refl
split_more true is ts (Some n) None = refl
split_more true is ts (Some n) (Some rest) = λ i. Some (joined index_of is n rest i, joined typ_of ts n rest i)
split_more false is ts None rest = refl
split_more false is ts (Some n) rest = refl
