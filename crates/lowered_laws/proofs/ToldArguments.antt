-- Arguments come in at types that pick no numbers.
use Rattle.std.proofs.Common.{◌≡◌, ◌∙◌, ap, sym, refl, subst, Bool, true, false, List, [], ◌∷◌, map}
use Rattle.std.specs.Prelude.{Option, Some, None, option_map}
use Rattle.std.proofs.lemmas.Bool.{and_parts}
use Rattle.sail_types.specs.Places.{only}
use Rattle.sail_types.specs.Sums.{and_then}
use Rattle.sail_types.specs.declared.table.Types.{Types}
use Rattle.sail_types.specs.declared.values.Value.{Value}
use Rattle.sail_types.proofs.SumNumbers.{then_parts}
use Rattle.size_values.specs.declared.constants.Picked.{Picked}
use Rattle.size_values.specs.declared.sized.Sized.{Sized}
use Rattle.value_laws.proofs.Basics.{no}
use Rattle.split_laws.proofs.Basics.{none}
use Rattle.checked_meaning.specs.Fits.{has_sizes}
use Rattle.checked_meaning.specs.Items.{Item, item, items_of, typs, vals}
use Rattle.sized_nodes.specs.declared.trees.Case.{Case}
use Rattle.sized_nodes.specs.declared.trees.Told.{Told}
use Rattle.sized_meanings.specs.Present.{present_case}
use Rattle.sized_meanings.specs.Sized.{all_told, if_told, nothing_noted, told_type}
use Rattle.lowered_pieces.specs.Nodes.{all_plain, is_empty, only_type, plain_cases, plain_told, told_as}
use Rattle.lowered_laws.proofs.KnownTruths.{mapped}
use Rattle.lowered_laws.specs.KnownLaws.{AllHave, AreTold, ArgumentsTold}

some_alike : {A : Type 0} (x y : A) → Some x ≡ Some y → x ≡ y
some_alike x y h = cc h

-- a case that picks nothing is present
empty_present : (c : Case) (ps : List Picked) → is_empty ps ≡ true → c.picked ≡ ps → present_case nothing_noted (c ∷ []) ≡ Some c
empty_present c [] h e =
    ap (λ (qs : List Picked). present_case nothing_noted (record c { picked = qs } ∷ [])) e
    ∙ ap (λ (qs : List Picked). Some (record c { picked = qs })) (sym e)
empty_present c (p ∷ ps) h e = no h

told_if : (b : Bool) (s t : Sized) → only b s ≡ Some t → (b ≡ true) × (s ≡ t)
told_if true s t h = (refl, some_alike s t h)
told_if false s t h = none h

case_told : (types : Types) (cs : List Case) → plain_cases cs ≡ true → (v : Value) (s : Sized)
    → and_then (present_case nothing_noted cs) (if_told types v) ≡ Some s → (has_sizes types v s ≡ true) × (s ≡ only_type cs)
case_told types [] plain v s h = no plain
case_told types (c ∷ []) plain v s h =
    let there = empty_present c c.picked plain refl in
    let k = told_if (has_sizes types v c.gives) c.gives s (ap (λ (o : Option Case). and_then o (if_told types v)) (sym there) ∙ h) in
    (subst (λ (t : Sized). has_sizes types v t ≡ true) k.1 k.0, sym k.1)
case_told types (c ∷ d ∷ cs) plain v s h = no plain

nothing_more : (xs : List Item) → Some [] ≡ Some xs → xs ≡ []
nothing_more xs h = cc h

pub arguments_told : ArgumentsTold
arguments_told types [] plain [] xs h =
    let e = nothing_more xs h in
    record { values = ap vals e; types_are = ap typs e; had = subst (AllHave types) (sym e) tt }
arguments_told types [] plain (v ∷ vs) xs h = none h
arguments_told types (t ∷ ts) plain [] xs h = none h
arguments_told types (t ∷ ts) plain (v ∷ vs) xs h =
    let two = and_parts (plain_told t) (all_plain ts) plain in
    let p = then_parts (all_told false types (t ∷ ts) (v ∷ vs)) (λ ss. items_of ss (v ∷ vs)) xs h in
    let q = then_parts (told_type false types t v) (λ s. option_map (λ ss. s ∷ ss) (all_told false types ts vs)) p.0 p.1 in
    let r = mapped (λ (ss : List Sized). q.0 ∷ ss) (all_told false types ts vs) p.0 q.2 in
    let here = case_told types t.cases two.0 v q.0 q.1 in
    let i = mapped (λ (ys : List Item). item q.0 v ∷ ys) (items_of r.0 vs) xs
    (ap (λ (ss : List Sized). items_of ss (v ∷ vs)) r.2 ∙ p.2) in
    let rest = arguments_told types ts two.1 vs i.0 (ap (λ (o : Option (List Sized)). and_then o (λ ss. items_of ss vs)) r.1 ∙ i.1) in
    record {
      values = ap vals (sym i.2) ∙ ap (λ (us : List Value). v ∷ us) rest.values;
      types_are = ap typs (sym i.2) ∙ (λ j. here.1 j ∷ rest.types_are j);
      had = subst (AllHave types) i.2 (here.0, rest.had);
    }
