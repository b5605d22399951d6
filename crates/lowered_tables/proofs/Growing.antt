-- Types keep their numbers as more get one; and the value types of all.
use Rattle.std.proofs.Common.{◌≡◌, ◌∙◌, ◌⊎◌, inl, inr, ℕ, zero, suc, ◌+◌, ◌<◌, ◌≤◌, Bool, true, false, List, [], ◌∷◌, ◌++◌, get_or, length, map, take}
use Rattle.std.proofs.Common.{Option, Some, None}
use Rattle.std.proofs.Common.{refl, sym, ap, subst, arith, length-append, append-nil, append_assoc, if◌then◌else◌}
use Rattle.std.specs.Prelude.{ℤ, ◌&&◌, ◌||◌, nat_lt, option_map, slice_get, Result, Ok, Err, IfErr, IsErrAnd, OnOk}
use Rattle.std.specs.Option.{option_and_then}
use Rattle.std.proofs.lemmas.Bool.{and_parts}
use Rattle.std.proofs.lemmas.List.{length-map, take_more}
use Rattle.std.proofs.lemmas.Bool.Decides.{nat_tests}
use Rattle.sail_types.specs.declared.table.Types.{Types}
use Rattle.size_values.specs.declared.sized.Sized.{Sized, out-Sized}
use Rattle.size_values.specs.declared.sized.Sized.TheOpen as Z
use Rattle.size_values.specs.declared.sized.Sized.TheVariants as S
use Rattle.size_values.specs.declared.sized.Sized.TheViews.{out-roll-Sized}
use Rattle.size_values.specs.Sized.{sized_eq}
use Rattle.jib.specs.declared.types.ValueType.{ValueType}
use Rattle.exact_sizes.proofs.Equal.{all_itself}
use Rattle.lowered_types.specs.Table.{all_known, form_never, form_parts, is_known, type_in}
use Rattle.lowered_pieces.specs.Emitted.{Begins}
use Rattle.lowered_tables.specs.declared.tables.TypeList.{TypeList}
use Rattle.lowered_tables.specs.declared.tables.TableError.{TableError}
use Rattle.lowered_tables.specs.declared.tables.TableError.TheVariants as E
use Rattle.lowered_tables.specs.Built.{Grown, OrMemory, Stands, all_have, all_inside, has_number, numbered_below, one_by_one, value_at}
use Rattle.lowered_tables.specs.Built.{with_list, with_type}

lt_true : (a b : ℕ) → nat_lt a b ≡ true → a < b
lt_true a b h = grind (arith, nat_tests)

true_lt : (a b : ℕ) → a < b → nat_lt a b ≡ true
true_lt a b h = grind (arith, nat_tests)

-- ---- lists that begin with others

pub begins_here : {A : Type 0} (xs : List A) → Begins xs xs
begins_here xs = record { more = []; is = sym (append-nil xs) }

pub begins_then : {A : Type 0} (xs ys zs : List A) → Begins xs ys → Begins ys zs → Begins xs zs
begins_then xs ys zs a b = record { more = a.more ++ b.more; is = b.is ∙ ap (λ us. us ++ b.more) a.is ∙ append_assoc xs a.more b.more }

some_same : {A : Type 0} (x y : A) → Some x ≡ Some y → x ≡ y
some_same x y e = cc

none_is : {A X : Type 0} (x : A) → None ≡ Some x → X
none_is x e = cc

-- ---- numbers

here : (s : Sized) (ss : List Sized) (t : Sized) → sized_eq s t ≡ true → type_in (s ∷ ss) t ≡ 0
here s ss t h = ap (λ b. if b then 0 else suc (type_in ss t)) h

later : (s : Sized) (ss : List Sized) (t : Sized) → sized_eq s t ≡ false → type_in (s ∷ ss) t ≡ suc (type_in ss t)
later s ss t h = ap (λ b. if b then 0 else suc (type_in ss t)) h

none_below : {A : Type 0} (n : ℕ) → n < 0 → A
none_below n lt = absurd (omega (arith, lt))

lasts : (ss more : List Sized) (t : Sized) → type_in ss t < length ss → type_in (ss ++ more) t ≡ type_in ss t
lasts [] more t lt = none_below 0 lt
lasts (s ∷ ss) more t lt = by (sized_eq s t) refl (λ l. lasts ss more t l)
  where
    by : (b : Bool) → sized_eq s t ≡ b → (type_in ss t < length ss → type_in (ss ++ more) t ≡ type_in ss t)
        → type_in (s ∷ (ss ++ more)) t ≡ type_in (s ∷ ss) t
    by true h rest = here s (ss ++ more) t h ∙ sym (here s ss t h)
    by false h rest = later s (ss ++ more) t h ∙ ap suc (rest (omega (arith, lt, later s ss t h))) ∙ sym (later s ss t h)

itself : (t : Sized) → sized_eq t t ≡ true
itself t = (and_parts (sized_eq t t) true (all_itself (t ∷ []))).0

-- what is put has a number
last : (ss : List Sized) (t : Sized) → type_in (ss ++ t ∷ []) t < length (ss ++ t ∷ [])
last [] t = omega (arith, here t [] t (itself t))
last (s ∷ ss) t = by (sized_eq s t) refl (last ss t)
  where
    by : (b : Bool) → sized_eq s t ≡ b → type_in (ss ++ t ∷ []) t < length (ss ++ t ∷ []) → type_in (s ∷ (ss ++ t ∷ [])) t < suc (length (ss ++ t ∷ []))
    by true h rest = omega (arith, here s (ss ++ t ∷ []) t h)
    by false h rest = omega (arith, later s (ss ++ t ∷ []) t h, rest)

pub known_here : (ss : List Sized) (t : Sized) → type_in ss t < length ss → is_known ss t ≡ true
known_here ss t lt = by (form_never (out-Sized t)) (true_lt (type_in ss t) (length ss) lt)
  where
    by : (b : Bool) → nat_lt (type_in ss t) (length ss) ≡ true → (b || nat_lt (type_in ss t) (length ss)) ≡ true
    by true h = refl
    by false h = h

pub known_at : (ss : List Sized) (t : Sized) → nat_lt (type_in ss t) (length ss) ≡ true → is_known ss t ≡ true
known_at ss t lt = known_here ss t (lt_true (type_in ss t) (length ss) lt)

either : (a b : Bool) → (a || b) ≡ true → (a ≡ true) ⊎ (b ≡ true)
either true b h = inl refl
either false b h = inr h

module _ (ss more : List Sized) where
  abbrev ts : List Sized
  ts = ss ++ more

  known_stays : (t : Sized) → is_known ss t ≡ true → is_known ts t ≡ true
  known_stays t h = by (either (form_never (out-Sized t)) (nat_lt (type_in ss t) (length ss)) h)
    where
      by : (form_never (out-Sized t) ≡ true) ⊎ (nat_lt (type_in ss t) (length ss) ≡ true) → is_known ts t ≡ true
      by (inl e) = ap (λ b. b || nat_lt (type_in ts t) (length ts)) e
      by (inr e) =
          let lt : type_in ss t < length ss = lt_true (type_in ss t) (length ss) e in
          known_here ts t (omega (arith, lt, lasts ss more t lt, length-append ss more))

  pub all_stay : (us : List Sized) → all_known ss us ≡ true → all_known ts us ≡ true
  all_stay [] h = refl
  all_stay (u ∷ us) h =
      let p = and_parts (is_known ss u) (all_known ss us) h in
      ap (λ b. b && all_known ts us) (known_stays u p.0) ∙ all_stay us p.1

-- ---- a type is put

pub grown_put : (old new : TypeList) (t : Sized) → new.numbered ≡ old.numbered ++ t ∷ [] → Grown old new t
grown_put old new t is = record {
  begins = record { more = t ∷ []; is = is };
  known = subst (λ ss. is_known ss t ≡ true) (sym is) (known_here (old.numbered ++ t ∷ []) t (last old.numbered t));
}

pub grown_there : (old : TypeList) (t : Sized) → nat_lt (type_in old.numbered t) (length old.numbered) ≡ true → Grown old old t
grown_there old t lt = record {
  begins = begins_here old.numbered;
  known = known_at old.numbered t lt;
}

pub grown_begins : {T E : Type 0} (r : Result T E) (old new : TypeList) (t : Sized) → OnOk r (Grown old new t) → OnOk r (Begins old.numbered new.numbered)
grown_begins (Ok x) old new t g = g.begins
grown_begins (Err e) old new t g = g

pub grown_behind : {T E : Type 0} (r : Result T E) (a b c : TypeList) (t : Sized) → Begins a.numbered b.numbered → OnOk r (Grown b c t) → OnOk r (Grown a c t)
grown_behind (Ok x) a b c t n g = record { begins = begins_then a.numbered b.numbered c.numbered n g.begins; known = g.known }
grown_behind (Err e) a b c t n g = g

-- ---- types one by one

pub all_more : (ss rs us : List Sized) → Begins ss rs → all_known ss us ≡ true → all_known rs us ≡ true
all_more ss rs us b h = subst (λ xs. all_known xs us ≡ true) (sym b.is) (all_stay ss b.more us h)

pub known_more : (ss rs : List Sized) (t : Sized) → Begins ss rs → is_known ss t ≡ true → is_known rs t ≡ true
known_more ss rs t b h = subst (λ xs. is_known xs t ≡ true) (sym b.is) (known_stays ss b.more t h)

take_past : {A : Type 0} (xs : List A) (k : ℕ) → length xs ≤ k → take k xs ≡ xs
take_past [] zero le = refl
take_past [] (suc k) le = refl
take_past (x ∷ xs) zero le = absurd (omega arith)
take_past (x ∷ xs) (suc k) le = ap (λ ys. x ∷ ys) (take_past xs k (omega (arith, le)))

one_more : {A : Type 0} (all : List A) (k : ℕ) (x : A) → k < length all → x ≡ get_or all k x → take (k + 1) all ≡ take k all ++ x ∷ []
one_more all k x within is = take_more all k x within ∙ ap (λ y. take k all ++ y ∷ []) (sym is)

all_push : (ss us : List Sized) (u : Sized) → all_known ss us ≡ true → is_known ss u ≡ true → all_known ss (us ++ u ∷ []) ≡ true
all_push ss [] u h k = ap (λ b. b && true) k
all_push ss (x ∷ us) u h k =
    let p = and_parts (is_known ss x) (all_known ss us) h in
    ap (λ b. b && all_known ss (us ++ u ∷ [])) p.0 ∙ all_push ss us u p.1 k

pub known_next : (ss all : List Sized) (k : ℕ) (x : Sized) → all_known ss (take k all) ≡ true → is_known ss x ≡ true → k < length all
    → x ≡ get_or all k x → all_known ss (take (k + 1) all) ≡ true
known_next ss all k x h known within is = ap (all_known ss) (one_more all k x within is) ∙ all_push ss (take k all) x h known

pub known_whole : (ts all : List Sized) (k : ℕ) → length all ≤ k → all_known ts (take k all) ≡ true → all_known ts all ≡ true
known_whole ts all k past h = sym (ap (all_known ts) (take_past all k past)) ∙ h

pub map_whole : {A B : Type 0} (f : A → B) (xs : List A) (k : ℕ) (ys : List B) → length xs ≤ k → ys ≡ map f (take k xs) → ys ≡ map f xs
map_whole f xs k ys past is = is ∙ ap (λ us. map f us) (take_past xs k past)

map_push : {A B : Type 0} (f : A → B) (xs : List A) (x : A) → map f (xs ++ x ∷ []) ≡ map f xs ++ f x ∷ []
map_push f [] x = refl
map_push f (y ∷ ys) x = ap (λ zs. f y ∷ zs) (map_push f ys x)

pub map_next : {A B : Type 0} (f : A → B) (all : List A) (k : ℕ) (x : A) (ys zs : List B) (y : B) → ys ≡ map f (take k all) → zs ≡ ys ++ y ∷ [] → y ≡ f x
    → k < length all → x ≡ get_or all k x → zs ≡ map f (take (k + 1) all)
map_next f all k x ys zs y before pushed value within is =
    pushed ∙ ap (λ us. us ++ y ∷ []) before ∙ ap (λ v. map f (take k all) ++ v ∷ []) value ∙ sym (map_push f (take k all) x)
    ∙ sym (ap (map f) (one_more all k x within is))

inside_push : (types : Types) (ss us : List Sized) (u : Sized) → all_inside types ss us ≡ true → all_known ss (form_parts types (out-Sized u)) ≡ true
    → all_inside types ss (us ++ u ∷ []) ≡ true
inside_push types ss [] u h k = ap (λ b. b && true) k
inside_push types ss (x ∷ us) u h k =
    let p = and_parts (all_known ss (form_parts types (out-Sized x))) (all_inside types ss us) h in
    ap (λ b. b && all_inside types ss (us ++ u ∷ [])) p.0 ∙ inside_push types ss us u p.1 k

pub inside_next : (types : Types) (ss all : List Sized) (k : ℕ) (x : Sized) → all_inside types ss (take k all) ≡ true
    → all_known ss (form_parts types (out-Sized x)) ≡ true → k < length all → x ≡ get_or all k x → all_inside types ss (take (k + 1) all) ≡ true
inside_next types ss all k x h known within is =
    ap (all_inside types ss) (one_more all k x within is) ∙ inside_push types ss (take k all) x h known

pub inside_whole : (types : Types) (ss all : List Sized) (k : ℕ) → length all ≤ k → all_inside types ss (take k all) ≡ true
    → all_inside types ss all ≡ true
inside_whole types ss all k past h = sym (ap (all_inside types ss) (take_past all k past)) ∙ h

-- ---- all value types

found_at : {A B : Type 0} (f : A → B) (xs : List A) (i : ℕ) (x : A) → slice_get xs i ≡ Some x → slice_get (map f xs) i ≡ Some (f x)
found_at f [] i x h = none_is x h
found_at f (y ∷ ys) zero x h = ap (λ z. Some (f z)) (some_same y x h)
found_at f (y ∷ ys) (suc i) x h = found_at f ys i x h

inside_at : (types : Types) (ss ts : List Sized) → all_inside types ss ts ≡ true → (i : ℕ) (t : Sized) → slice_get ts i ≡ Some t
    → all_known ss (form_parts types (out-Sized t)) ≡ true
inside_at types ss [] h i t e = none_is t e
inside_at types ss (u ∷ us) h zero t e =
    subst (λ x. all_known ss (form_parts types (out-Sized x)) ≡ true) (some_same u t e)
    (and_parts (all_known ss (form_parts types (out-Sized u))) (all_inside types ss us) h).0
inside_at types ss (u ∷ us) h (suc i) t e =
    inside_at types ss us (and_parts (all_known ss (form_parts types (out-Sized u))) (all_inside types ss us) h).1 i t e

pub all_stand : (types : Types) (ss : List Sized) (vs : List ValueType) → Begins (S.Never ∷ []) ss → vs ≡ map (value_at types ss) ss
    → all_inside types ss ss ≡ true → Stands types (record { numbered = ss; types = vs })
all_stand types ss vs never values inside = record {
  each = record {
    each = λ i s h. ap (λ xs. slice_get xs i) values ∙ found_at (value_at types ss) ss i s h;
    inside = λ i s h. inside_at types ss ss inside i s h;
  };
  same = ap length values ∙ length-map ss (value_at types ss);
  never = subst (λ xs. type_in xs S.Never < length xs) (sym never.is) (omega (arith, here S.Never never.more S.Never (itself S.Never)));
}

-- ---- names of forms

pub out_named : (s : Sized) (u : ℕ) (zs : List (Option ℤ)) (us : List Sized) → s ≡ S.Named u zs us → out-Sized s ≡ Z.Named u zs us
out_named s u zs us e = ap out-Sized (e ∙ sym (S.rolls-Named u zs us)) ∙ out-roll-Sized (Z.Named u zs us)

-- ---- types one by one, each of which may come to nothing

none_some : {A X : Type 0} (x : A) → None ≡ Some x → X
none_some x e = cc

some_none : {A X : Type 0} (x : A) → Some x ≡ None → X
some_none x e = cc

module _ (next : List Sized → Sized → Option (List Sized)) where
  abbrev behind : List Sized → List Sized → Option (List Sized)
  behind ts rs = one_by_one next rs ts

  one_append : (ss xs ys : List Sized) → one_by_one next ss (xs ++ ys) ≡ option_and_then (behind ys) (one_by_one next ss xs)
  one_append ss [] ys = refl
  one_append ss (x ∷ xs) ys = by (next ss x) (λ rs. one_append rs xs ys)
    where
      by : (o : Option (List Sized)) → ((rs : List Sized) → one_by_one next rs (xs ++ ys) ≡ option_and_then (behind ys) (one_by_one next rs xs))
          → option_and_then (behind (xs ++ ys)) o ≡ option_and_then (behind ys) (option_and_then (behind xs) o)
      by None h = refl
      by (Some rs) h = h rs

  one_last : (ss xs rs us : List Sized) (x : Sized) → one_by_one next ss xs ≡ Some rs → next rs x ≡ Some us → one_by_one next ss (xs ++ x ∷ []) ≡ Some us
  one_last ss xs rs us x h e =
      one_append ss xs (x ∷ []) ∙ ap (option_and_then (behind (x ∷ []))) h ∙ ap (option_and_then (behind [])) e

  pub one_next : (ss all : List Sized) (k : ℕ) (x : Sized) (rs us : List Sized) → one_by_one next ss (take k all) ≡ Some rs → next rs x ≡ Some us
      → k < length all → x ≡ get_or all k x → one_by_one next ss (take (k + 1) all) ≡ Some us
  one_next ss all k x rs us h e within is = ap (one_by_one next ss) (one_more all k x within is) ∙ one_last ss (take k all) rs us x h e

  pub one_stuck : (ss all : List Sized) (k : ℕ) (x : Sized) (rs : List Sized) → k < length all → x ≡ get_or all k x
      → one_by_one next ss (take k all) ≡ Some rs → next rs x ≡ None → one_by_one next ss all ≡ None
  one_stuck ss [] k x rs lt is h e = absurd (omega (arith, lt))
  one_stuck ss (y ∷ all) zero x rs lt is h e =
      ap (option_and_then (behind all)) (ap (next ss) (sym is) ∙ ap (λ us. next us x) (some_same ss rs h) ∙ e)
  one_stuck ss (y ∷ all) (suc k) x rs lt is h e = by (next ss y) (λ us g. one_stuck us all k x rs (omega (arith, lt)) is g e) h
    where
      by : (o : Option (List Sized)) → ((us : List Sized) → one_by_one next us (take k all) ≡ Some rs → one_by_one next us all ≡ None)
          → option_and_then (behind (take k all)) o ≡ Some rs → option_and_then (behind all) o ≡ None
      by None f g = refl
      by (Some us) f g = f us g

pub one_then : (next : List Sized → Sized → Option (List Sized)) (ss xs ys rs : List Sized) (o : Option (List Sized)) → one_by_one next ss xs ≡ Some rs
    → one_by_one next rs ys ≡ o → one_by_one next ss (xs ++ ys) ≡ o
one_then next ss xs ys rs o h k = one_append next ss xs ys ∙ ap (option_and_then (behind next ys)) h ∙ k

pub one_none : (next : List Sized → Sized → Option (List Sized)) (ss xs ys : List Sized) → one_by_one next ss xs ≡ None → one_by_one next ss (xs ++ ys) ≡ None
one_none next ss xs ys h = one_append next ss xs ys ∙ ap (option_and_then (behind next ys)) h

pub one_whole : (next : List Sized → Sized → Option (List Sized)) (ss all : List Sized) (k : ℕ) (rs : List Sized) → length all ≤ k
    → one_by_one next ss (take k all) ≡ Some rs → one_by_one next ss all ≡ Some rs
one_whole next ss all k rs past h = sym (ap (one_by_one next ss) (take_past all k past)) ∙ h

module _ (types : Types) (t : Sized) where
  abbrev more_below : ℕ → List Sized → Option (List Sized)
  more_below n ss = option_map (λ rs. with_type rs t) (one_by_one (numbered_below types n) (with_list ss t) (form_parts types (out-Sized t)))

  pub below_more : (d n : ℕ) (ss us parts rs vs : List Sized) → d ≡ suc n → false ≡ has_number ss t → us ≡ with_list ss t
      → parts ≡ form_parts types (out-Sized t) → one_by_one (numbered_below types n) us parts ≡ Some rs → vs ≡ with_type rs t
      → numbered_below types d ss t ≡ Some vs
  below_more d n ss us parts rs vs is h list inside all put =
      ap (λ m. numbered_below types m ss t) is ∙ ap (λ b. if b then Some ss else more_below n ss) (sym h)
      ∙ ap (option_map (λ xs. with_type xs t))
      (ap (one_by_one (numbered_below types n) (with_list ss t)) (sym inside) ∙ ap (λ xs. one_by_one (numbered_below types n) xs parts) (sym list) ∙ all)
      ∙ ap (λ xs. Some xs) (sym put)

  pub below_none : (d n : ℕ) (ss us parts : List Sized) → d ≡ suc n → false ≡ has_number ss t → us ≡ with_list ss t
      → parts ≡ form_parts types (out-Sized t) → one_by_one (numbered_below types n) us parts ≡ None → numbered_below types d ss t ≡ None
  below_none d n ss us parts is h list inside none =
      ap (λ m. numbered_below types m ss t) is ∙ ap (λ b. if b then Some ss else more_below n ss) (sym h)
      ∙ ap (option_map (λ xs. with_type xs t))
      (ap (one_by_one (numbered_below types n) (with_list ss t)) (sym inside) ∙ ap (λ xs. one_by_one (numbered_below types n) xs parts) (sym list) ∙ none)

-- ---- what has no value type

pub lacks : (ss all : List Sized) (k : ℕ) (x : Sized) → false ≡ has_number ss x → k < length all → x ≡ get_or all k x → all_have ss all ≡ false
lacks ss [] k x lack lt is = absurd (omega (arith, lt))
lacks ss (y ∷ all) zero x lack lt is = ap (λ b. b && all_have ss all) (ap (has_number ss) (sym is) ∙ sym lack)
lacks ss (y ∷ all) (suc k) x lack lt is = by (has_number ss y) (lacks ss all k x lack (omega (arith, lt)) is)
  where
    by : (b : Bool) → all_have ss all ≡ false → (b && all_have ss all) ≡ false
    by true h = h
    by false h = refl

pub got_at : (xs : List Sized) (i : ℕ) (x : Sized) → i < length xs → x ≡ get_or xs i x → slice_get xs i ≡ Some x
got_at [] i x lt is = absurd (omega (arith, lt))
got_at (y ∷ xs) zero x lt is = ap (λ z. Some z) (sym is)
got_at (y ∷ xs) (suc i) x lt is = got_at xs i x (omega (arith, lt)) is

-- ---- reasons

pub or_more : {R Q : Type 0} → (R → Q) → (e : TableError) → OrMemory R e → OrMemory Q e
or_more f E.Memory h = tt
or_more f E.TooDeep h = f h
or_more f E.TooWide h = f h

pub last_more : {T R Q : Type 0} (r : Result T TableError) → (R → Q) → IfErr r (OrMemory R) → IfErr r (OrMemory Q)
last_more (Ok x) f h = tt
last_more (Err e) f h = or_more f e h

pub exit_more : {T R Q : Type 0} (r : Result T TableError) (e : TableError) → IsErrAnd r (λ y. y ≡ e) → (R → Q) → OrMemory R e → IfErr r (OrMemory Q)
exit_more (Ok x) e is f h = tt
exit_more {Q = Q} (Err y) e is f h = subst (λ z. OrMemory Q z) (sym is) (or_more f e h)
