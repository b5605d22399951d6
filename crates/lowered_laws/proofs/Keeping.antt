-- Behind a value of a type that keeps them, the numbers by which its case was chosen are noted as before.
use Rattle.std.proofs.Common.{◌≡◌, ◌∙◌, ℕ, ℤ, pos, Bool, true, false, List, [], ◌∷◌, length, map, Option, Some, None, refl, sym, ap, subst}
use Rattle.std.proofs.Common.{eqb-true, if◌then◌else◌}
use Rattle.std.specs.Prelude.{◌&&◌, ◌||◌, is_some, nat_eq, not}
use Rattle.std.specs.Ordering.{int_eq}
use Rattle.std.proofs.lemmas.List.{length-map}
use Rattle.std.proofs.lemmas.Bool.{and_parts}
use Rattle.std.proofs.lemmas.Bool.Decides.{Decides-int_eq}
use Rattle.sail_types.specs.declared.table.Types.{Types}
use Rattle.sail_types.specs.declared.values.Value.{Value, Value-F, out-Value}
use Rattle.sail_types.specs.declared.values.Value.TheFolds.{fold-roll-Value, map-Value}
use Rattle.sail_types.specs.declared.values.Value.TheOpen as V
use Rattle.sail_types.specs.declared.values.Value.TheViews.{roll-out-Value}
use Rattle.value_indices.specs.declared.indices.Indices.{Indices, roll-Indices}
use Rattle.value_indices.specs.declared.indices.Indices.TheFolds.{fold-roll-Indices, ind-Indices, map-Indices}
use Rattle.value_indices.specs.declared.indices.Indices.TheOpen as W
use Rattle.value_indices.specs.declared.indices.Indices.TheOpen.{Indices-F, Reading-F}
use Rattle.value_indices.specs.declared.indices.Reading.{Reading, fold-Reading}
use Rattle.call_arguments.specs.Placing.{variable_in}
use Rattle.size_values.specs.declared.constants.Picked.{Picked}
use Rattle.size_values.specs.declared.sized.Sized.{Sized, Sized-F, out-Sized}
use Rattle.size_values.specs.declared.sized.Sized.TheOpen as Z
use Rattle.size_values.specs.Sized.{sized_eq}
use Rattle.exact_sizes.proofs.Equal.{sized_same}
use Rattle.checked_meaning.specs.Checked.{Noted}
use Rattle.checked_meaning.specs.Fits.{Fits, all_fit, each_fits, fits_step, form_fits, has_sizes}
use Rattle.sized_nodes.specs.declared.trees.Case.{Case}
use Rattle.sized_meanings.specs.Noting.{Noting, each_noted, form_noted, noted_by, noted_by_each, noted_for, reading_noted, value_noted}
use Rattle.sized_meanings.specs.Present.{is_noted, is_present, is_same, present, present_case}
use Rattle.lowered_pieces.specs.Keeping.{Keeps, all_give, all_keep, all_kept, asks_alike, cases_kept, each_keeps, form_keeps, give_one, is_again, is_other}
use Rattle.lowered_pieces.specs.Keeping.{keeps, picked_kept}
use Rattle.lowered_pieces.specs.Forms.{End, cases_ends, first_end, one_end}
use Rattle.lowered_laws.proofs.Chosen.{some_is}
use Rattle.lowered_laws.proofs.Follows.{no}

-- ---- one number

number_kept : (o : Option ℕ) (y z : ℤ) (noted : Noted) (x : ℕ) → is_other o x ≡ true → noted x ≡ Some z → noted_for o y noted x ≡ Some z
number_kept None y z noted x h m = m
number_kept (Some w) y z noted x h m = by (nat_eq w x) h
  where
    by : (b : Bool) → not b ≡ true → (if b then Some y else noted x) ≡ Some z
    by true f = no f
    by false f = m

again_kept : (o : Option ℕ) (n y z : ℤ) (noted : Noted) (x : ℕ) → is_again o n x z ≡ true → y ≡ n → noted x ≡ Some z → noted_for o y noted x ≡ Some z
again_kept None n y z noted x h e m = m
again_kept (Some w) n y z noted x h e m = by (nat_eq w x) h
  where
    by : (b : Bool) → (not b || int_eq n z) ≡ true → (if b then Some y else noted x) ≡ Some z
    by true f = ap (λ (i : ℤ). Some i) (e ∙ (Decides-int_eq n z).0 f)
    by false f = m

-- ---- a value

fits_form : (types : Types) (v : Value) (s : Sized) → has_sizes types v s ≡ form_fits types (map-Value Value Fits (has_sizes types) (out-Value v)) (out-Sized s)
fits_form types v s =
    ap (λ w. has_sizes types w s) (sym (roll-out-Value v)) ∙ ap (λ (f : Fits). f s) (fold-roll-Value Fits (fits_step types) (out-Value v))

Kept : Types → Indices → Type 0
Kept types i = (v : Value) (s : Sized) (noted : Noted) (x : ℕ) (z : ℤ) → has_sizes types v s ≡ true → keeps i s x z ≡ true → noted x ≡ Some z
    → noted_by i v noted x ≡ Some z

module _ (types : Types) where
  abbrev SuchI : Type 0
  SuchI = (i : Indices) × Kept types i

  abbrev SuchR : Type 0
  SuchR = (r : Reading) × Unit {0}

  abbrev indices_in : List SuchI → List Indices
  indices_in ys = map (λ p. p.0) ys

  abbrev form_of : Indices-F SuchI SuchR → Indices-F Indices Reading
  form_of y = map-Indices SuchI SuchR Indices Reading (λ p. p.0) (λ p. p.0) y

  abbrev fitting : Value-F Value → Value-F Fits
  fitting x = map-Value Value Fits (has_sizes types) x

  abbrev value_keeps : Indices-F Keeps Keeps → Keeps
  value_keeps i s = form_keeps i (out-Sized s)

  abbrev type_keeps : Reading-F Keeps Keeps → Keeps
  type_keeps r s x z = true

  abbrev keeping : Indices-F Indices Reading → Indices-F Keeps Keeps
  keeping y = map-Indices Indices Reading Keeps Keeps keeps (fold-Reading Keeps Keeps value_keeps type_keeps) y

  abbrev noting : Indices-F Indices Reading → Value-F Value → Noted → Noted
  noting y w noted = value_noted (map-Indices Indices Reading Noting Noting noted_by (fold-Reading Noting Noting form_noted reading_noted) y) w noted

  as_many : (vs : List Value) (n : ℤ) → int_eq (pos (length (map (has_sizes types) vs))) n ≡ true → pos (length vs) ≡ n
  as_many vs n h = ap pos (sym (length-map vs (has_sizes types))) ∙ (Decides-int_eq (pos (length (map (has_sizes types) vs))) n).0 h

  parts_kept : (ys : List SuchI) (vs : List Value) (ss : List Sized) (noted : Noted) (x : ℕ) (z : ℤ) → each_fits (map (has_sizes types) vs) ss ≡ true
      → each_keeps (map keeps (indices_in ys)) ss x z ≡ true → noted x ≡ Some z → each_noted (map noted_by (indices_in ys)) vs noted x ≡ Some z
  unfolding Kept
  parts_kept [] vs ss noted x z f h m = m
  parts_kept (y ∷ ys) [] ss noted x z f h m = m
  parts_kept (y ∷ ys) (v ∷ vs) [] noted x z f h m = no f
  parts_kept (y ∷ ys) (v ∷ vs) (s ∷ ss) noted x z f h m =
      let fit = and_parts (has_sizes types v s) (each_fits (map (has_sizes types) vs) ss) f in
      let both = and_parts (keeps y.0 s x z) (each_keeps (map keeps (indices_in ys)) ss x z) h in
      parts_kept ys vs ss (noted_by y.0 v noted) x z fit.1 both.1 (y.1 v s noted x z fit.0 both.0 m)

  form_kept : (y : Indices-F SuchI SuchR) (w : Value-F Value) (k : Sized-F Sized) (noted : Noted) (x : ℕ) (z : ℤ) → form_fits types (fitting w) k ≡ true
      → form_keeps (keeping (form_of y)) k x z ≡ true → noted x ≡ Some z → noting (form_of y) w noted x ≡ Some z
  form_kept (W.Integer t) (V.Integer a) Z.Int noted x z f h m = number_kept (variable_in t) a z noted x h m
  form_kept (W.Integer t) (V.Integer a) k noted x z f h m = no f
  form_kept (W.Integer t) w k noted x z f h m = m
  form_kept (W.Bits t) (V.Bits bits) (Z.Bits n) noted x z f h m =
      again_kept (variable_in t) n (pos (length bits)) z noted x h ((Decides-int_eq (pos (length bits)) n).0 f) m
  form_kept (W.Bits t) (V.Bits bits) k noted x z f h m = no f
  form_kept (W.Bits t) w k noted x z f h m = m
  form_kept (W.Vector t r) (V.Vector vs) (Z.Vector n s) noted x z f h m =
      let both = and_parts (int_eq (pos (length (map (has_sizes types) vs))) n) (all_fit (map (has_sizes types) vs) s) f in
      again_kept (variable_in t) n (pos (length vs)) z noted x h (as_many vs n both.0) m
  form_kept (W.Vector t r) (V.Vector vs) k noted x z f h m = no f
  form_kept (W.Vector t r) w k noted x z f h m = m
  form_kept (W.Tuple ys) (V.Tuple vs) (Z.Tuple ss) noted x z f h m = parts_kept ys vs ss noted x z f h m
  form_kept (W.Tuple ys) (V.Tuple vs) k noted x z f h m = no f
  form_kept (W.Tuple ys) w k noted x z f h m = m
  form_kept y w k noted x z f h m = m

  rolled : (y : Indices-F SuchI SuchR) → Kept types (roll-Indices (form_of y))
  unfolding Kept
  rolled y v s noted x z f h m =
      let e : Indices-F Indices Reading = form_of y in
      let fit : form_fits types (fitting (out-Value v)) (out-Sized s) ≡ true = sym (fits_form types v s) ∙ f in
      let kept : form_keeps (keeping e) (out-Sized s) x z ≡ true =
      sym (ap (λ (g : Keeps). g s x z) (fold-roll-Indices Keeps Keeps value_keeps type_keeps e)) ∙ h in
      ap (λ (g : Noting). g v noted x) (fold-roll-Indices Noting Noting form_noted reading_noted e)
      ∙ form_kept y (out-Value v) (out-Sized s) noted x z fit kept m

  all_kept_by : (i : Indices) → Kept types i
  all_kept_by = ind-Indices (Kept types) (λ r. Unit {0}) (λ e y is. subst (λ d. Kept types (roll-Indices d)) is (rolled y)) (λ e y is. tt)

  each_kept : (is : List Indices) (v : Value) (s : Sized) (noted : Noted) (x : ℕ) (z : ℤ) → has_sizes types v s ≡ true → all_keep is s x z ≡ true
      → noted x ≡ Some z → noted_by_each is v noted x ≡ Some z
  unfolding Kept
  each_kept [] v s noted x z f h m = m
  each_kept (i ∷ is) v s noted x z f h m =
      let both = and_parts (keeps i s x z) (all_keep is s x z) h in
      each_kept is v s (noted_by i v noted) x z f both.1 (all_kept_by i v s noted x z f both.0 m)

-- ---- the numbers of these variables are the same

abbrev pub SameAt : Noted → Noted → List Picked → Type 0
SameAt more noted [] = Unit {0}
SameAt more noted (p ∷ ps) = (more p.variable ≡ noted p.variable) × SameAt more noted ps

is_there : (o : Option ℤ) (z : ℤ) → is_same o z ≡ true → o ≡ Some z
is_there None z h = no h
is_there (Some y) z h = ap (λ (i : ℤ). Some i) ((Decides-int_eq y z).0 h)

picked_same : (types : Types) (is : List Indices) (v : Value) (s : Sized) (noted more : Noted) → more ≡ noted_by_each is v noted → has_sizes types v s ≡ true
    → (ps : List Picked) → is_present noted ps ≡ true → picked_kept is s ps ≡ true → SameAt more noted ps
picked_same types is v s noted more e f [] h k = tt
picked_same types is v s noted more e f (p ∷ ps) h k =
    let now = and_parts (is_same (noted p.variable) p.number) (is_present noted ps) h in
    let both = and_parts (all_keep is s p.variable p.number) (picked_kept is s ps) k in
    let there : noted p.variable ≡ Some p.number = is_there (noted p.variable) p.number now.0 in (
      ap (λ (o : Noted). o p.variable) e ∙ each_kept types is v s noted p.variable p.number f both.0 there ∙ sym there,
      picked_same types is v s noted more e f ps now.1 both.1,
    )

same_first : (more noted : Noted) (ps qs : List Picked) → asks_alike ps qs ≡ true → SameAt more noted qs → SameAt more noted ps
same_first more noted [] [] h s = tt
same_first more noted [] (q ∷ qs) h s = tt
same_first more noted (p ∷ ps) [] h s = no h
same_first more noted (p ∷ ps) (q ∷ qs) h s =
    let both = and_parts (nat_eq p.variable q.variable) (asks_alike ps qs) h in
    (subst (λ y. more y ≡ noted y) (sym (eqb-true p.variable q.variable both.0)) s.0, same_first more noted ps qs both.1 s.1)

same_other : (more noted : Noted) (ps qs : List Picked) → asks_alike ps qs ≡ true → SameAt more noted ps → SameAt more noted qs
same_other more noted [] [] h s = tt
same_other more noted (p ∷ ps) [] h s = tt
same_other more noted [] (q ∷ qs) h s = no h
same_other more noted (p ∷ ps) (q ∷ qs) h s =
    let both = and_parts (nat_eq p.variable q.variable) (asks_alike ps qs) h in
    (subst (λ y. more y ≡ noted y) (eqb-true p.variable q.variable both.0) s.0, same_other more noted ps qs both.1 s.1)

still_noted : (more noted : Noted) (ps : List Picked) → SameAt more noted ps
    → (is_noted more ps ≡ is_noted noted ps) × (is_present more ps ≡ is_present noted ps)
still_noted more noted [] s = (refl, refl)
still_noted more noted (p ∷ ps) s =
    let rest = still_noted more noted ps s.1 in (λ j. is_some (s.0 j) && rest.0 j, λ j. is_same (s.0 j) p.number && rest.1 j)

-- ---- so the case that was present is present still

abbrev pub end_of : Case → End
end_of c = record { picked = c.picked; typ = c.gives }

abbrev pub present_end : Noted → List End → Option End
present_end noted es = present (λ (e : End). e.picked) noted es

ends_same : (gives : List Indices) (first : List Picked) (more noted : Noted) → SameAt more noted first → (cs : List Case) → cases_kept gives first cs ≡ true
    → (c : Case) → present_case noted cs ≡ Some c → present_end more (cases_ends cs) ≡ Some (end_of c)
ends_same gives first more noted same [] h c e = cc
ends_same gives first more noted same (d ∷ cs) h c e =
    let both = and_parts (asks_alike first d.picked) (picked_kept gives d.gives d.picked && cases_kept gives first cs) h in
    let rest = and_parts (picked_kept gives d.gives d.picked) (cases_kept gives first cs) both.1 in
    let still = still_noted more noted d.picked (same_other more noted first d.picked both.0 same) in
    ap (λ a. if a then (if is_present more d.picked then Some (end_of d) else present_end more (cases_ends cs)) else None) still.0
    ∙ ap (λ b. if is_noted noted d.picked then (if b then Some (end_of d) else present_end more (cases_ends cs)) else None) still.1
    ∙ by (is_noted noted d.picked) (is_present noted d.picked) (λ f. ends_same gives first more noted same cs rest.1 c f) e
  where
    by : (a b : Bool) → (present_case noted cs ≡ Some c → present_end more (cases_ends cs) ≡ Some (end_of c))
        → (if a then (if b then Some d else present_case noted cs) else None) ≡ Some c
        → (if a then (if b then Some (end_of d) else present_end more (cases_ends cs)) else None) ≡ Some (end_of c)
    by true true rest f = ap (λ z. Some (end_of z)) (some_is d c f)
    by true false rest f = rest f
    by false b rest f = cc

-- it asks for numbers that are noted, and keeps them
abbrev Chosen : List Indices → List Picked → Noted → Case → Type 0
Chosen gives first noted c = (asks_alike first c.picked ≡ true) × (picked_kept gives c.gives c.picked ≡ true) × (is_present noted c.picked ≡ true)

chosen : (gives : List Indices) (first : List Picked) (noted : Noted) (cs : List Case) → cases_kept gives first cs ≡ true → (c : Case)
    → present_case noted cs ≡ Some c → Chosen gives first noted c
chosen gives first noted [] h c e = cc
chosen gives first noted (d ∷ cs) h c e =
    let both = and_parts (asks_alike first d.picked) (picked_kept gives d.gives d.picked && cases_kept gives first cs) h in
    let rest = and_parts (picked_kept gives d.gives d.picked) (cases_kept gives first cs) both.1 in
    by (is_noted noted d.picked) (is_present noted d.picked) refl (both.0, rest.0) (λ f. chosen gives first noted cs rest.1 c f) e
  where
    by : (a b : Bool) → is_present noted d.picked ≡ b → (asks_alike first d.picked ≡ true) × (picked_kept gives d.gives d.picked ≡ true)
        → (present_case noted cs ≡ Some c → Chosen gives first noted c)
        → (if a then (if b then Some d else present_case noted cs) else None) ≡ Some c → Chosen gives first noted c
    by true true p k rest f = subst (λ (x : Case). Chosen gives first noted x) (some_is d c f) (k.0, k.1, p)
    by true false p k rest f = rest f
    by false b p k rest f = cc

pub kept_behind : (types : Types) (gives : List Indices) (cs : List Case) → all_kept gives cs ≡ true → (v : Value) (noted more : Noted) (c : Case)
    → present_case noted cs ≡ Some c → has_sizes types v c.gives ≡ true → more ≡ noted_by_each gives v noted
    → present_end more (cases_ends cs) ≡ Some (end_of c)
kept_behind types gives [] h v noted more c e f n = cc
kept_behind types gives (d ∷ cs) h v noted more c e f n =
    let it = chosen gives d.picked noted (d ∷ cs) h c e in
    ends_same gives d.picked more noted (same_first more noted d.picked c.picked it.0 (picked_same types gives v c.gives noted more n f c.picked it.2 it.1))
    (d ∷ cs) h c e

-- the end that is present is that of the present case
pub present_now : (noted : Noted) (cs : List Case) (c : Case) → present_case noted cs ≡ Some c → present_end noted (cases_ends cs) ≡ Some (end_of c)
present_now noted [] c e = cc
present_now noted (d ∷ cs) c e = by (is_noted noted d.picked) (is_present noted d.picked) (λ f. present_now noted cs c f) e
  where
    by : (a b : Bool) → (present_case noted cs ≡ Some c → present_end noted (cases_ends cs) ≡ Some (end_of c))
        → (if a then (if b then Some d else present_case noted cs) else None) ≡ Some c
        → (if a then (if b then Some (end_of d) else present_end noted (cases_ends cs)) else None) ≡ Some (end_of c)
    by true true rest f = ap (λ z. Some (end_of z)) (some_is d c f)
    by true false rest f = rest f
    by false b rest f = cc

-- ---- cases that all give one type

all_given : (t : Sized) (noted : Noted) (cs : List Case) → all_give t cs ≡ true → (c : Case) → present_case noted cs ≡ Some c → t ≡ c.gives
all_given t noted [] h c e = cc
all_given t noted (d ∷ cs) h c e =
    let both = and_parts (sized_eq t d.gives) (all_give t cs) h in
    by (is_noted noted d.picked) (is_present noted d.picked) (sized_same t d.gives both.0) (λ f. all_given t noted cs both.1 c f) e
  where
    by : (a b : Bool) → t ≡ d.gives → (present_case noted cs ≡ Some c → t ≡ c.gives)
        → (if a then (if b then Some d else present_case noted cs) else None) ≡ Some c → t ≡ c.gives
    by true true is rest f = is ∙ ap (λ (x : Case). x.gives) (some_is d c f)
    by true false is rest f = rest f
    by false b is rest f = cc

pub one_given : (noted : Noted) (cs : List Case) → give_one cs ≡ true → (c : Case) → present_case noted cs ≡ Some c → first_end cs ≡ one_end c.gives
one_given noted [] h c e = cc
one_given noted (d ∷ cs) h c e = by (is_noted noted d.picked) (is_present noted d.picked) (λ f. ap one_end (all_given d.gives noted cs h c f)) e
  where
    by : (a b : Bool) → (present_case noted cs ≡ Some c → one_end d.gives ≡ one_end c.gives)
        → (if a then (if b then Some d else present_case noted cs) else None) ≡ Some c → one_end d.gives ≡ one_end c.gives
    by true true rest f = ap (λ (x : Case). one_end x.gives) (some_is d c f)
    by true false rest f = rest f
    by false b rest f = cc
