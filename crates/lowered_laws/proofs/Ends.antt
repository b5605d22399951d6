-- The types that a value may have, where they go by numbers that are noted behind it: of forms that end with a node that makes a value.
use Rattle.std.proofs.Common.{◌≡◌, ◌∙◌, ℕ, suc, ℤ, Bool, true, false, List, [], ◌∷◌, ◌++◌, length, map, Option, Some, None, refl, sym, ap, subst}
use Rattle.std.proofs.Common.{eqb-true, eq-eqb, if◌then◌else◌}
use Rattle.std.specs.Prelude.{◌&&◌, ◌||◌, is_some, nat_eq, not}
use Rattle.std.proofs.lemmas.List.{length-map}
use Rattle.std.proofs.lemmas.Bool.{and_parts}
use Rattle.sail_types.specs.declared.values.Value.{Value, Value-F, out-Value}
use Rattle.sail_types.specs.declared.values.Value.TheOpen as V
use Rattle.sail_core.specs.declared.tree.Giver.TheVariants as Gives
use Rattle.sail_core.specs.Run as R
use Rattle.sail_core.specs.Run.{Ended, Now, Run, falls, gives, goes_on, if_so, in_turn, needs, ◌then◌}
use Rattle.sail_core.specs.Making.{made}
use Rattle.value_indices.specs.declared.indices.Indices.{Indices, roll-Indices}
use Rattle.value_indices.specs.declared.indices.Indices.TheFolds.{fold-roll-Indices, ind-Indices, map-Indices}
use Rattle.value_indices.specs.declared.indices.Indices.TheOpen as W
use Rattle.value_indices.specs.declared.indices.Indices.TheOpen.{Indices-F, Reading-F}
use Rattle.value_indices.specs.declared.indices.Reading.{Reading, fold-Reading}
use Rattle.call_arguments.specs.Placing.{variable_in}
use Rattle.size_values.specs.declared.constants.Picked.{Picked}
use Rattle.size_values.specs.declared.sized.Sized.{Sized}
use Rattle.checked_meaning.specs.Checked.{Noted, noting}
use Rattle.checked_meaning.specs.Fits.{has_sizes}
use Rattle.checked_meaning.specs.Items.{Item, item, typs}
use Rattle.sized_nodes.specs.declared.trees.Case.{Case}
use Rattle.sized_meanings.specs.Noting.{Noting, each_noted, form_noted, noted_by, noted_by_each, noted_for, reading_noted, value_noted}
use Rattle.sized_meanings.specs.Present.{is_noted, is_present, is_same, present, present_case}
use Rattle.lowered_pieces.specs.Forms.{End, cases_ends, ends_of, first_end, form_notes, has_ends, is_in, joined, notes_of, one_end, one_or_none, picked_apart}
use Rattle.lowered_pieces.specs.Forms.{Piece}
use Rattle.lowered_pieces.specs.Keeping.{all_kept, give_one}
use Rattle.lowered_pieces.specs.Gathered.{all_one, is_one, only_end}
use Rattle.jib.specs.Jib.{Outcome}
use Rattle.lowered_laws.proofs.Chosen.{some_is}
use Rattle.lowered_laws.specs.Simulation.{Followed, AtWork, reading}
use Rattle.lowered_laws.proofs.Follows.{no}
use Rattle.lowered_laws.proofs.Keeping.{end_of, kept_behind, one_given, present_now}

-- ---- what a value doesn't give stays as it was noted

in_front : (x : ℕ) (xs ys : List ℕ) → is_in x (xs ++ ys) ≡ false → is_in x xs ≡ false
in_front x [] ys h = refl
in_front x (y ∷ xs) ys h = by (nat_eq x y) (in_front x xs ys) h
  where
    by : (b : Bool) → (is_in x (xs ++ ys) ≡ false → is_in x xs ≡ false) → (b || is_in x (xs ++ ys)) ≡ false → (b || is_in x xs) ≡ false
    by true rest h = no (sym h)
    by false rest h = rest h

in_back : (x : ℕ) (xs ys : List ℕ) → is_in x (xs ++ ys) ≡ false → is_in x ys ≡ false
in_back x [] ys h = h
in_back x (y ∷ xs) ys h = by (nat_eq x y) (in_back x xs ys) h
  where
    by : (b : Bool) → (is_in x (xs ++ ys) ≡ false → is_in x ys ≡ false) → (b || is_in x (xs ++ ys)) ≡ false → is_in x ys ≡ false
    by true rest h = no (sym h)
    by false rest h = rest h

flipped : (x y : ℕ) (b : Bool) → nat_eq y x ≡ b → nat_eq x y ≡ false → b ≡ false
flipped x y true e h = no (sym h ∙ eq-eqb x y (sym (eqb-true y x e)))
flipped x y false e h = refl

alone : (b : Bool) → (b || false) ≡ false → b ≡ false
alone true h = no (sym h)
alone false h = refl

number_apart : (o : Option ℕ) (z : ℤ) (noted : Noted) (x : ℕ) → is_in x (one_or_none o) ≡ false → noted_for o z noted x ≡ noted x
number_apart None z noted x h = refl
number_apart (Some y) z noted x h = by (nat_eq y x) refl
  where
    by : (b : Bool) → nat_eq y x ≡ b → (if b then Some z else noted x) ≡ noted x
    by true e = no (sym (flipped x y true e (alone (nat_eq x y) h)))
    by false e = refl

Still : Indices → Type 0
Still i = (v : Value) (noted : Noted) (x : ℕ) → is_in x (notes_of i) ≡ false → noted_by i v noted x ≡ noted x

abbrev SuchI : Type 0
SuchI = (i : Indices) × Still i

abbrev SuchR : Type 0
SuchR = (r : Reading) × Unit {0}

abbrev indices_in : List SuchI → List Indices
indices_in ys = map (λ p. p.0) ys

abbrev form_of : Indices-F SuchI SuchR → Indices-F Indices Reading
form_of y = map-Indices SuchI SuchR Indices Reading (λ p. p.0) (λ p. p.0) y

abbrev types_notes : Reading → List ℕ
types_notes = fold-Reading (List ℕ) (List ℕ) form_notes (λ (r : Reading-F (List ℕ) (List ℕ)). [])

abbrev types_noted : Reading → Noting
types_noted = fold-Reading Noting Noting form_noted reading_noted

abbrev notes_in : Indices-F Indices Reading → List ℕ
notes_in y = form_notes (map-Indices Indices Reading (List ℕ) (List ℕ) notes_of types_notes y)

abbrev noting_in : Indices-F Indices Reading → Value-F Value → Noted → Noted
noting_in y w noted = value_noted (map-Indices Indices Reading Noting Noting noted_by types_noted y) w noted

each_still : (ys : List SuchI) (vs : List Value) (noted : Noted) (x : ℕ) → is_in x (joined (map notes_of (indices_in ys))) ≡ false
    → each_noted (map noted_by (indices_in ys)) vs noted x ≡ noted x
unfolding Still
each_still [] vs noted x h = refl
each_still (y ∷ ys) [] noted x h = refl
each_still (y ∷ ys) (v ∷ vs) noted x h =
    each_still ys vs (noted_by y.0 v noted) x (in_back x (notes_of y.0) (joined (map notes_of (indices_in ys))) h)
    ∙ y.1 v noted x (in_front x (notes_of y.0) (joined (map notes_of (indices_in ys))) h)

form_still : (y : Indices-F SuchI SuchR) (w : Value-F Value) (noted : Noted) (x : ℕ) → is_in x (notes_in (form_of y)) ≡ false
    → noting_in (form_of y) w noted x ≡ noted x
form_still (W.Integer t) (V.Integer z) noted x h = number_apart (variable_in t) z noted x h
form_still (W.Integer t) w noted x h = refl
form_still (W.Bits t) (V.Bits bits) noted x h = number_apart (variable_in t) _ noted x h
form_still (W.Bits t) w noted x h = refl
form_still (W.Vector t f) (V.Vector vs) noted x h = number_apart (variable_in t) _ noted x h
form_still (W.Vector t f) w noted x h = refl
form_still (W.Tuple ys) (V.Tuple vs) noted x h = each_still ys vs noted x h
form_still (W.Tuple ys) w noted x h = refl
form_still y w noted x h = refl

rolled : (y : Indices-F SuchI SuchR) → Still (roll-Indices (form_of y))
unfolding Still
rolled y v noted x h =
    let z : Indices-F Indices Reading = form_of y in
    let given : notes_of (roll-Indices z) ≡ notes_in z =
    fold-roll-Indices (List ℕ) (List ℕ) form_notes (λ (r : Reading-F (List ℕ) (List ℕ)). []) z in
    ap (λ (f : Noting). f v noted x) (fold-roll-Indices Noting Noting form_noted reading_noted z)
    ∙ form_still y (out-Value v) noted x (ap (is_in x) (sym given) ∙ h)

all_still : (i : Indices) → Still i
all_still = ind-Indices Still (λ r. Unit {0}) (λ e y is. subst (λ d. Still (roll-Indices d)) is (rolled y)) (λ e y is. tt)

pub note_apart : (i : Indices) (v : Value) (noted : Noted) (x : ℕ) → is_in x (notes_of i) ≡ false → noted_by i v noted x ≡ noted x
unfolding Still
note_apart i v noted x h = all_still i v noted x h

-- ---- so what a case asks for is noted still, if it asks for no such number

not_in : (b : Bool) → not b ≡ true → b ≡ false
not_in true h = no h
not_in false h = refl

pub noted_still : (xs : List ℕ) (noted more : Noted) → ((x : ℕ) → is_in x xs ≡ false → more x ≡ noted x) → (ps : List Picked) → picked_apart xs ps ≡ true
    → (is_noted more ps ≡ is_noted noted ps) × (is_present more ps ≡ is_present noted ps)
noted_still xs noted more same [] h = (refl, refl)
noted_still xs noted more same (p ∷ ps) h =
    let both = and_parts (not (is_in p.variable xs)) (picked_apart xs ps) h in
    let here_ : more p.variable ≡ noted p.variable = same p.variable (not_in (is_in p.variable xs) both.0) in
    let rest = noted_still xs noted more same ps both.1 in (
      λ j. is_some (here_ j) && rest.0 j,
      λ j. is_same (here_ j) p.number && rest.1 j,
    )

-- of one case alone, it
pub one_present : (noted : Noted) (c a : Case) → present_case noted (c ∷ []) ≡ Some a → c ≡ a
one_present noted c a e = by (is_noted noted c.picked) (is_present noted c.picked) e
  where
    by : (b d : Bool) → (if b then (if d then Some c else None) else None) ≡ Some a → c ≡ a
    by true true f = some_is c a f
    by true false f = cc
    by false d f = cc

some_end : (x y : End) → Some x ≡ Some y → x ≡ y
some_end x y e = cc

-- ---- runs whose values are so

-- the types that a value may have are those that are said of it
pub record EndsIn (es : List End) (x : Item) (opened : Noted) : Type 0 where
  pub it : End
  pub there : present (λ (e : End). e.picked) opened es ≡ Some it
  pub typ : it.typ ≡ x.typ

-- what a run gives
abbrev pub Gives_ : {A : Type 0} → Ended Item A → (A → Now Item → Type 0) → Type 0
Gives_ (R.Gives x t) P = P x t
Gives_ o P = Unit {0}

pub goes_gives : {A B : Type 0} (o : Ended Item A) (f : A → Run Item B) (Q : A → Now Item → Type 0) (P : B → Now Item → Type 0) → Gives_ o Q
    → ((x : A) (t : Now Item) → Q x t → Gives_ (f x t) P) → Gives_ (goes_on o f) P
goes_gives (R.Gives x t) f Q P h k = k x t h
goes_gives (R.No t) f Q P h k = tt
goes_gives (R.Returns v t) f Q P h k = tt
goes_gives (R.Throws v t) f Q P h k = tt
goes_gives (R.Stops cause t) f Q P h k = tt
goes_gives R.Stuck f Q P h k = tt

abbrev pub Any : {A : Type 0} → A → Now Item → Type 0
Any x t = Unit {0}

pub gives_any : {A : Type 0} (o : Ended Item A) → Gives_ o Any
gives_any (R.Gives x t) = tt
gives_any (R.No t) = tt
gives_any (R.Returns v t) = tt
gives_any (R.Throws v t) = tt
gives_any (R.Stops cause t) = tt
gives_any R.Stuck = tt

pub gives_so : {A : Type 0} (o : Ended Item A) (Q P : A → Now Item → Type 0) → Gives_ o Q → ((x : A) (t : Now Item) → Q x t → P x t) → Gives_ o P
gives_so (R.Gives x t) Q P h k = k x t h
gives_so (R.No t) Q P h k = tt
gives_so (R.Returns v t) Q P h k = tt
gives_so (R.Throws v t) Q P h k = tt
gives_so (R.Stops cause t) Q P h k = tt
gives_so R.Stuck Q P h k = tt

-- with what may follow
pub then_gives : {A : Type 0} (r : Outcome) (o : Ended Item A) (P K : A → Now Item → Type 0) (H : Value → Now Item → Type 0) (N : Now Item → Type 0)
    → Gives_ o P → Followed r o K H N → Followed r o (λ x t. K x t × P x t) H N
then_gives r (R.Gives x t) P K H N h z = (z, h)
then_gives r (R.No t) P K H N h z = z
then_gives r (R.Returns v t) P K H N h z = z
then_gives r (R.Throws v t) P K H N h z = z
then_gives r (R.Stops cause t) P K H N h z = z
then_gives r R.Stuck P K H N h z = z

abbrev pub EndsRight : List End → Run Item Item → Type 0
EndsRight es me = has_ends es ≡ true → (now : Now Item) → Gives_ (me now) (λ x t. EndsIn es x t.opened)

pub fixed_in : (s : Sized) (x : Item) (opened : Noted) → s ≡ x.typ → EndsIn (one_end s) x opened
fixed_in s x opened e = record { it = record { picked = []; typ = s }; there = refl; typ = e }

pub fixed_right : (s : Sized) (v : Value) → EndsRight (one_end s) (gives (item s v))
fixed_right s v h now = fixed_in s (item s v) now.opened refl

-- where one type alone is said of a value, it has it
pub one_typ : (e : End) (x : Item) (opened : Noted) → EndsIn (e ∷ []) x opened → e.typ ≡ x.typ
one_typ e x opened h = by (is_noted opened e.picked) (is_present opened e.picked) h.there ∙ h.typ
  where
    by : (a b : Bool) → (if a then (if b then Some e else None) else None) ≡ Some h.it → e.typ ≡ h.it.typ
    by true true f = ap (λ (y : End). y.typ) (some_end e h.it f)
    by true false f = cc
    by false b f = cc

-- so it is of the case that is present now
pub now_typed : (said : List Indices) (cs : List Case) (x : Item) (opened : Noted) (c : Case) → has_ends (ends_of said cs) ≡ true
    → EndsIn (ends_of said cs) x opened → present_case opened cs ≡ Some c → c.gives ≡ x.typ
now_typed said cs x opened c h e there = by (give_one cs) (all_kept said cs) refl h e.it e.there e.typ
  where
    by : (a b : Bool) → give_one cs ≡ a → has_ends (if a then first_end cs else if b then cases_ends cs else []) ≡ true → (it : End)
        → present (λ (y : End). y.picked) opened (if a then first_end cs else if b then cases_ends cs else []) ≡ Some it → it.typ ≡ x.typ → c.gives ≡ x.typ
    by true b a h it f q =
        ap (λ (y : End). y.typ)
        (some_end (record { picked = []; typ = c.gives }) it
        (sym (ap (present (λ (y : End). y.picked) opened) (one_given opened cs a c there)) ∙ f)) ∙ q
    by false true a h it f q = ap (λ (y : End). y.typ) (some_end (end_of c) it (sym (present_now opened cs c there) ∙ f)) ∙ q
    by false false a h it f q = no h

-- one behind the other
pub then_right : {A : Type 0} (es : List End) (m : Run Item A) (f : A → Run Item Item) → ((a : A) → EndsRight es (f a)) → EndsRight es (m then f)
then_right es m f r h now = goes_gives (m now) f Any (λ x t. EndsIn es x t.opened) (gives_any (m now)) (λ a t u. r a h t)

pub needs_right : {A : Type 0} (es : List End) (o : Option A) (f : A → Run Item Item) → ((a : A) → EndsRight es (f a)) → EndsRight es (needs o then f)
needs_right es o f r = then_right es (needs o) f r

-- a value behind a test, where the test may say that there is none
pub tested_right : {A : Type 0} (es : List End) (m : Run Item A) (f : A → Run Item Bool) (mb : Run Item Item) → EndsRight es mb
    → EndsRight es (m then λ x. f x then if_so mb falls)
tested_right es m f mb r = then_right es m (λ x. f x then if_so mb falls) (λ x. then_right es (f x) (if_so mb falls) so)
  where
    so : (b : Bool) → EndsRight es (if_so mb falls b)
    so true = r
    so false = λ h now. tt

-- operands in turn are as many as there are forms
turn_many : (ms : List (Run Item Item)) (now : Now Item) → Gives_ (in_turn ms now) (λ xs t. length xs ≡ length ms)
turn_many [] now = refl
turn_many (m ∷ ms) now =
    let last : Item → List Item → Run Item (List Item) = λ x xs. gives (x ∷ xs) in
    let P : List Item → Now Item → Type 0 = λ xs t. length xs ≡ suc (length ms) in
    goes_gives (m now) (λ x. in_turn ms then last x) Any P (gives_any (m now))
    (λ x t u. goes_gives (in_turn ms t) (last x) (λ xs v. length xs ≡ length ms) P (turn_many ms t) (λ xs v e. ap suc e))

pub turn_right : (es : List End) (ms : List (Run Item Item)) (f : List Item → Run Item Item)
    → ((xs : List Item) → length xs ≡ length ms → EndsRight es (f xs)) → EndsRight es (in_turn ms then f)
turn_right es ms f r h now =
    goes_gives (in_turn ms now) f (λ xs t. length xs ≡ length ms) (λ x t. EndsIn es x t.opened) (turn_many ms now) (λ xs t e. r xs e h t)

-- ---- operands that have one type each

abbrev pub RightAll : List (Run Item Item) → List Piece → Type 0
RightAll [] [] = Unit {0}
RightAll (m ∷ ms) (p ∷ ps) = EndsRight p.ends m × RightAll ms ps
RightAll ms ps = ⊥

abbrev pub Typed : List Piece → List Item → Type 0
Typed [] [] = Unit {0}
Typed (p ∷ ps) (x ∷ xs) = (only_end p.ends ≡ Some x.typ) × Typed ps xs
Typed ps xs = ⊥

one_said : (es : List End) (x : Item) (opened : Noted) → is_one es ≡ true → EndsIn es x opened → only_end es ≡ Some x.typ
one_said [] x opened one h = no one
one_said (e ∷ []) x opened one h = ap Some (one_typ e x opened h)
one_said (e ∷ d ∷ es) x opened one h = no one

one_has : (es : List End) → is_one es ≡ true → has_ends es ≡ true
one_has [] one = no one
one_has (e ∷ es) one = refl

pub turn_typed : (ms : List (Run Item Item)) (ps : List Piece) → RightAll ms ps → all_one ps ≡ true → (now : Now Item)
    → Gives_ (in_turn ms now) (λ xs t. Typed ps xs)
turn_typed [] [] right one now = tt
turn_typed [] (p ∷ ps) right one now = absurd right
turn_typed (m ∷ ms) [] right one now = absurd right
turn_typed (m ∷ ms) (p ∷ ps) right one now =
    let both = and_parts (is_one p.ends) (all_one ps) one in
    let last : Item → List Item → Run Item (List Item) = λ x xs. gives (x ∷ xs) in
    let P : List Item → Now Item → Type 0 = λ xs t. Typed (p ∷ ps) xs in
    goes_gives (m now) (λ x. in_turn ms then last x) (λ x t. EndsIn p.ends x t.opened) P (right.0 (one_has p.ends both.0) now)
    (λ x t e.
    goes_gives (in_turn ms t) (last x) (λ xs u. Typed ps xs) P (turn_typed ms ps right.1 both.1 t)
    (λ xs u h. (one_said p.ends x t.opened both.0 e, h)))

-- ---- what a node makes

module _ (g : AtWork) where
  module _ (k n : ℕ) (xs : List Item) (v : Value) (many : length xs ≡ n) where
    abbrev said : List Indices
    said = g.tables.gives k

    abbrev cases_ : List Case
    cases_ = g.tables.cases k n

    -- of each value that is made, what comes of the case that was present
    made_by : (P : Item → Now Item → Type 0) → (now : Now Item)
        → ((s : Sized) (more : Noted) (c : Case) → present_case now.opened cases_ ≡ Some c → has_sizes g.table v c.gives ≡ true → c.gives ≡ s
        → more ≡ noted_by_each said v now.opened → P (item s v) (record now { opened = more }))
        → Gives_ (made (reading g) k xs v now) P
    made_by P now by = at_case (g.cases.makes k (typs xs) v now.opened) refl
      where
        at_notes : (s : Sized) (o : Option Noted) → g.cases.makes k (typs xs) v now.opened ≡ Some s → g.cases.notes (Gives.Node k) v now.opened ≡ o
            → Gives_ (goes_on (noting o now) (λ t. gives (item s v))) P
        at_notes s None e q = tt
        at_notes s (Some more) e q =
            let c = g.tells.makes k (typs xs) v now.opened s e in
            let count : length (typs xs) ≡ n = length-map xs (λ (x : Item). x.typ) ∙ many in
            let there : present_case now.opened cases_ ≡ Some c.it = subst (λ m. present_case now.opened (g.tables.cases k m) ≡ Some c.it) count c.is_there in
            by s more c.it there c.is_had c.is_given (g.tells.notes k v now.opened more q)

        at_case : (o : Option Sized) → g.cases.makes k (typs xs) v now.opened ≡ o
            → Gives_ (goes_on (goes_on (needs o now) (λ s. gives (item s v)))
            (λ x. (λ now2. noting (g.cases.notes (Gives.Node k) v now2.opened) now2) then λ t. gives x)) P
        at_case None e = tt
        at_case (Some s) e = at_notes s (g.cases.notes (Gives.Node k) v now.opened) e refl

    pub made_valued : has_ends (ends_of said cases_) ≡ true → (now : Now Item)
        → Gives_ (made (reading g) k xs v now) (λ x t. (x.val ≡ v) × EndsIn (ends_of said cases_) x t.opened)
    made_valued h now = made_by (λ x t. (x.val ≡ v) × EndsIn (ends_of said cases_) x t.opened) now
        (λ s more c there had given noted. (refl, by (give_one cases_) (all_kept said cases_) refl refl h s more c there had given noted))
      where
        by : (a b : Bool) → give_one cases_ ≡ a → all_kept said cases_ ≡ b
            → has_ends (if a then first_end cases_ else if b then cases_ends cases_ else []) ≡ true → (s : Sized) (more : Noted) (c : Case)
            → present_case now.opened cases_ ≡ Some c → has_sizes g.table v c.gives ≡ true → c.gives ≡ s → more ≡ noted_by_each said v now.opened
            → EndsIn (if a then first_end cases_ else if b then cases_ends cases_ else []) (item s v) more
        by true b a k h s more c there had given noted =
            subst (λ (es : List End). EndsIn es (item s v) more) (sym (one_given now.opened cases_ a c there)) (fixed_in c.gives (item s v) more given)
        by false true a k h s more c there had given noted = record {
          it = end_of c;
          there = kept_behind g.table said cases_ k v now.opened more c there had noted;
          typ = given;
        }
        by false false a k h s more c there had given noted = no h

    pub made_right : EndsRight (ends_of said cases_) (made (reading g) k xs v)
    made_right h now =
        let es : List End = ends_of said cases_ in
        gives_so (made (reading g) k xs v now) (λ x t. (x.val ≡ v) × EndsIn es x t.opened) (λ x t. EndsIn es x t.opened) (made_valued h now) (λ x t y. y.1)

    -- of the only case
    pub made_one : (c : Case) → cases_ ≡ c ∷ [] → EndsRight (one_end c.gives) (made (reading g) k xs v)
    made_one c one h now = made_by (λ x t. EndsIn (one_end c.gives) x t.opened) now (λ s more d there had given noted.
        fixed_in c.gives (item s v) more
        (ap (λ (y : Case). y.gives) (one_present now.opened c d (subst (λ ds. present_case now.opened ds ≡ Some d) one there)) ∙ given))

  -- of operands in turn
  pub built_right : (k n : ℕ) (ms : List (Run Item Item)) (f : List Item → Run Item Value) → length ms ≡ n
      → EndsRight (ends_of (g.tables.gives k) (g.tables.cases k n)) (in_turn ms then λ xs. f xs then λ v. made (reading g) k xs v)
  built_right k n ms f many =
      let es : List End = ends_of (g.tables.gives k) (g.tables.cases k n) in
      turn_right es ms (λ xs. f xs then λ v. made (reading g) k xs v)
      (λ xs e. then_right es (f xs) (λ v. made (reading g) k xs v) (λ v. made_right k n xs v (e ∙ many)))
