-- What a head sees of a value of its shape, where its condition is met: parts of their shapes, or something else than the head.
use Rattle.std.proofs.Common.{◌≡◌, inl, inr, ℕ, zero, suc, List, [], ◌∷◌, map, length, replicate, reverse, ap, sym, ◌∙◌, refl, subst, Bool, true, false}
use Rattle.std.proofs.Common.{◌&&◌, ℤ, nat_lt, Option, Some, None, option_map, nat_eq, if◌then◌else◌, arith}
use Rattle.std.proofs.lemmas.Bool.{and_parts}
use Rattle.std.proofs.lemmas.List.{length-reverse}
use Rattle.std.specs.Bool.{beq}
use Rattle.std.specs.Prelude.{nat_le}
use Rattle.std.specs.List.{list_all}
use Rattle.std.specs.Ordering.{int_eq}
use Rattle.std.specs.Str.{bytes_eq}
use Rattle.sail_base.specs.Bits.{eq_bits}
use Rattle.sail_types.specs.Named.{members, fields, payload}
use Rattle.sail_types.specs.Shapes.{at, fits, each_fits, fields_fit, payload_fits, form_fits, put, shape, Asked}
use Rattle.sail_types.specs.Sums.{and_then}
use Rattle.sail_types.specs.declared.numbers.Num.{Num}
use Rattle.sail_types.specs.declared.shapes.Shape.{Shape, Shape-F, out-Shape, roll-Shape}
use Rattle.sail_types.specs.declared.shapes.Shape.TheOpen as S
use Rattle.sail_types.specs.declared.shapes.Shape.TheVariants as V
use Rattle.sail_types.specs.declared.shapes.Shape.TheViews.{roll-out-Shape}
use Rattle.sail_types.specs.declared.table.Types.{Types}
use Rattle.sail_types.specs.declared.types.Typ.{Typ}
use Rattle.sail_types.specs.declared.values.Value.{Value, Value-F, out-Value}
use Rattle.sail_types.specs.declared.values.Value.TheFolds.{map-Value}
use Rattle.sail_types.specs.declared.values.Value.TheOpen as W
use Rattle.sail_types.specs.declared.values.Value.TheVariants as Val
use Rattle.sail_core.specs.declared.patterns.Head.{Head}
use Rattle.sail_core.specs.declared.patterns.Head.TheVariants as H
use Rattle.sail_core.specs.declared.patterns.Literal.{Literal}
use Rattle.sail_core.specs.declared.patterns.Literal.TheVariants as L
use Rattle.sail_core.specs.Making.{World, plainly}
use Rattle.sail_core.specs.Numbers.{Givens}
use Rattle.sail_core.specs.Values.{form_parts}
use Rattle.sail_core.specs.Patterns.{Seen, Parts, Other, Wrong, tested, parts_if, parts_or_wrong, literal_seen, components, items, payload_parts, constructed}
use Rattle.sail_core.specs.Patterns.{split, widths_of, cut_by, opened, so_many, looked, as_run, parts_of}
use Rattle.shape_joins.proofs.Order.{no, two, equal, same_nat}
use Rattle.shape_meanings.specs.Whole.{Choice}
use Rattle.shape_meanings.specs.Keeping.{Fits, FitAll, Reach}
use Rattle.shape_meanings.proofs.Aims.{same_components}
use Rattle.shape_meanings.proofs.Groups.{AllFit}
use Rattle.shape_meanings.proofs.Matching.{form_given}
use Rattle.shape_meanings.proofs.Opening.{same_count, form_tuple}
use Rattle.shape_meanings.proofs.Arguments.{fit_count}
use Rattle.shape_meanings.proofs.Orders.{put_args}
use Rattle.shape_meanings.proofs.Settling.{form_has}
use Rattle.shape_meanings.proofs.Values.{opened_at, out_put}
use Rattle.shape_meanings.proofs.Vectors.{reversed_fit}
use Rattle.shape_meanings.proofs.Items.{all_fit}
use Rattle.shape_progress.specs.Conditions.{is_there, widths_given, literal_met, head_met}
use Rattle.shape_progress.specs.Going.{GoesOn}
use Rattle.shape_progress.specs.PatternRules.{IsEnum, IsUnion, IsOf, PayloadOpens, HeadOpens}
use Rattle.shape_progress.proofs.Cuts.{parts_fit}
use Rattle.shape_progress.proofs.Forms.{met_of}
use Rattle.shape_progress.proofs.Tables.{no_struct_of_enum, no_struct_of_union, no_union_of_enum, no_member_of_union}

-- what is seen isn't wrong, and parts have their shapes
abbrev pub Sees : Types → Choice → List Shape → Seen Value → Type 0
Sees types c ss (Parts vs) = FitAll types c ss vs
Sees types c ss Other = Unit {0}
Sees types c ss Wrong = ⊥

abbrev asked : Types → Value-F Value → Value-F Asked
asked types x = map-Value Value Asked (fits types) x

is_equal : (n k : ℕ) → n ≡ k → nat_eq n k ≡ true
is_equal n k h = grind (arith, h)

many_see : (types : Types) (c : Choice) (ss : List Shape) (k : ℕ) (seen : Seen Value) → length ss ≡ k → Sees types c ss seen → Sees types c ss (so_many k seen)
many_see types c ss k (Parts vs) many h =
    subst (λ b. Sees types c ss (if b then Parts vs else Wrong)) (sym (is_equal (length vs) k (fit_count types c ss vs h ∙ many))) h
many_see types c ss k Other many h = tt
many_see types c ss k Wrong many h = absurd h

-- ---- literals

test_sees : (types : Types) (c : Choice) (b : Bool) → Sees types c [] (tested b)
test_sees types c true = refl
test_sees types c false = tt

wide_sees : (types : Types) (c : Choice) (a b : Bool) → a ≡ true → Sees types c [] (if a then tested b else Wrong)
wide_sees types c true b h = test_sees types c b
wide_sees types c false b h = no h

unit_sees : (types : Types) (c : Choice) (x : Value-F Value) → form_fits types (asked types x) S.Unit ≡ true → Sees types c [] (literal_seen L.Unit x)
unit_sees types c W.Unit h = refl
unit_sees types c x h = no h

integer_sees : (types : Types) (c : Choice) (z : ℤ) (x : Value-F Value) → form_fits types (asked types x) S.Int ≡ true
    → Sees types c [] (literal_seen (L.Integer z) x)
integer_sees types c z (W.Integer y) h = test_sees types c (int_eq z y)
integer_sees types c z x h = no h

truth_sees : (types : Types) (c : Choice) (a : Bool) (x : Value-F Value) → form_fits types (asked types x) S.Bool ≡ true
    → Sees types c [] (literal_seen (L.Truth a) x)
truth_sees types c a (W.Truth b) h = test_sees types c (beq a b)
truth_sees types c a x h = no h

bit_sees : (types : Types) (c : Choice) (a : Bool) (x : Value-F Value) → form_fits types (asked types x) S.Bit ≡ true
    → Sees types c [] (literal_seen (L.Bit a) x)
bit_sees types c a (W.Bit b) h = test_sees types c (beq a b)
bit_sees types c a x h = no h

string_sees : (types : Types) (c : Choice) (a : List ℕ) (x : Value-F Value) → form_fits types (asked types x) S.String ≡ true
    → Sees types c [] (literal_seen (L.String a) x)
string_sees types c a (W.String b) h = test_sees types c (bytes_eq a b)
string_sees types c a x h = no h

bits_see : (types : Types) (c : Choice) (bs : List Bool) (x : Value-F Value) → form_fits types (asked types x) S.Bits ≡ true
    → literal_met (L.Bits bs) x ≡ true → Sees types c [] (literal_seen (L.Bits bs) x)
bits_see types c bs (W.Bits cs) h met = wide_sees types c (nat_eq (length bs) (length cs)) (eq_bits bs cs) met
bits_see types c bs x h met = no h

member_sees : (types : Types) (c : Choice) (i k : ℕ) (ss : List Shape) (x : Value-F Value) → IsEnum types i
    → form_fits types (asked types x) (S.Named i ss) ≡ true → Sees types c [] (literal_seen (L.Member i k) x)
member_sees types c i k ss (W.Member j l) is h =
    wide_sees types c (nat_eq i j) (nat_eq k l)
    (subst (λ n. nat_eq n j ≡ true) (equal j i (and_parts (nat_eq j i) (nat_lt l (length (members types j))) h).0) (same_nat j))
member_sees types c i k ss (W.Struct j vs) is h =
    let g = and_parts (nat_eq j i) (fields_fit (map (fits types) vs) ss (fields types j)) h in
    no_struct_of_enum types j i (map (fits types) vs) ss is g.0 g.1
member_sees types c i k ss (W.Union j l v) is h =
    let g = and_parts (nat_eq j i) (payload_fits (fits types v) ss (payload types j l)) h in
    no_union_of_enum types j i l (fits types v) ss is g.0 g.1
member_sees types c i k ss x is h = no h

literal_sees : (types : Types) (c : Choice) (literal : Literal) (y : Shape-F Shape) (x : Value-F Value) → IsOf types literal y
    → form_fits types (asked types x) (opened_at c y) ≡ true → literal_met literal x ≡ true → Sees types c [] (literal_seen literal x)
literal_sees types c L.Unit y x is h met = unit_sees types c x (subst (λ z. form_fits types (asked types x) (opened_at c z) ≡ true) is h)
literal_sees types c (L.Integer z) y x is h met = integer_sees types c z x (subst (λ z. form_fits types (asked types x) (opened_at c z) ≡ true) is h)
literal_sees types c (L.Truth b) y x is h met = truth_sees types c b x (subst (λ z. form_fits types (asked types x) (opened_at c z) ≡ true) is h)
literal_sees types c (L.Bit b) y x is h met = bit_sees types c b x (subst (λ z. form_fits types (asked types x) (opened_at c z) ≡ true) is h)
literal_sees types c (L.Bits bs) y x is h met = bits_see types c bs x (subst (λ z. form_fits types (asked types x) (opened_at c z) ≡ true) is h) met
literal_sees types c (L.String text) y x is h met =
    string_sees types c text x (subst (λ z. form_fits types (asked types x) (opened_at c z) ≡ true) is h)
literal_sees types c (L.Member i k) y x is h met =
    member_sees types c i k (map (put c) is.1.0) x is.0 (subst (λ z. form_fits types (asked types x) (opened_at c z) ≡ true) is.1.1 h)

-- ---- tuples, vectors and lists

tuple_sees : (types : Types) (c : Choice) (nu : Givens) (k : ℕ) (v : Value) (ss : List Shape) (x : Value-F Value)
    → form_fits types (asked types x) (S.Tuple (map (put c) ss)) ≡ true → Sees types c ss (opened plainly nu H.Tuple k v x)
tuple_sees types c nu k v ss (W.Tuple vs) h = subst (FitAll types c ss) (sym (same_components v 0 vs)) h
tuple_sees types c nu k v ss x h = no h

same_items : (x : Value) (vs : List Value) → items plainly x vs ≡ vs
same_items x [] = refl
same_items x (v ∷ vs) = ap (λ us. v ∷ us) (same_items x vs)

items_fit : (types : Types) (c : Choice) (t : Shape) (x : Value) (us : List Value) (ss : List Shape) → ss ≡ replicate (length ss) t → length us ≡ length ss
    → AllFit types c t us → FitAll types c ss (items plainly x us)
items_fit types c t x us ss are many h =
    subst (FitAll types c ss) (sym (same_items x us)) (subst (λ ts. FitAll types c ts us) (sym are) (all_fit types c t us (length ss) many h))

vector_sees : (types : Types) (c : Choice) (nu : Givens) (k : ℕ) (v : Value) (t : Shape) (ss : List Shape) (x : Value-F Value)
    → ss ≡ replicate (length ss) t → length ss ≡ k → form_fits types (asked types x) (S.Vector (put c t)) ≡ true → head_met nu H.Vector k x ≡ true
    → Sees types c ss (opened plainly nu H.Vector k v x)
vector_sees types c nu k v t ss (W.Vector vs) are many h met =
    items_fit types c t v (reverse vs) ss are (length-reverse vs ∙ same_count (length vs) k met ∙ sym many) (reversed_fit types c t vs h)
vector_sees types c nu k v t ss x are many h met = no h

list_if : (types : Types) (c : Choice) (t : Shape) (x : Value) (vs : List Value) (ss : List Shape) (k : ℕ) (b : Bool) → nat_eq (length vs) k ≡ b
    → ss ≡ replicate (length ss) t → length ss ≡ k → AllFit types c t vs → Sees types c ss (parts_if b (items plainly x vs))
list_if types c t x vs ss k true same are many h = items_fit types c t x vs ss are (same_count (length vs) k same ∙ sym many) h
list_if types c t x vs ss k false same are many h = tt

list_sees : (types : Types) (c : Choice) (nu : Givens) (k : ℕ) (v : Value) (t : Shape) (ss : List Shape) (x : Value-F Value)
    → ss ≡ replicate (length ss) t → length ss ≡ k → form_fits types (asked types x) (S.List (put c t)) ≡ true
    → Sees types c ss (opened plainly nu H.List k v x)
list_sees types c nu k v t ss (W.List vs) are many h = list_if types c t v vs ss k (nat_eq (length vs) k) refl are many h
list_sees types c nu k v t ss x are many h = no h

split_sees : (types : Types) (c : Choice) (v : Value) (t s : Shape) (vs : List Value) → out-Shape s ≡ S.List t → AllFit types c t vs
    → Sees types c (t ∷ s ∷ []) (split plainly v vs)
split_sees types c v t s [] is h = tt
split_sees types c v t s (u ∷ us) is h =
    let k = and_parts (fits types u (put c t)) (list_all (λ (f : Asked). f (put c t)) (map (fits types) us)) h in
    two (fits types u (put c t)) (each_fits (fits types (Val.List us) ∷ []) (put c s ∷ [])) k.0
    (two (fits types (Val.List us) (put c s)) true
    (subst (λ r. Fits types c r (Val.List us)) (sym (sym (roll-out-Shape s) ∙ ap roll-Shape is))
    (form_has types c (W.List us) (S.List t) (Val.List us) (roll-Shape (S.List t)) (Val.rolls-List us) refl k.1)) refl)

cons_sees : (types : Types) (c : Choice) (nu : Givens) (k : ℕ) (v : Value) (t s : Shape) (x : Value-F Value) → out-Shape s ≡ S.List t
    → form_fits types (asked types x) (S.List (put c t)) ≡ true → Sees types c (t ∷ s ∷ []) (opened plainly nu H.Cons k v x)
cons_sees types c nu k v t s (W.List vs) is h = split_sees types c v t s vs is h
cons_sees types c nu k v t s x is h = no h

-- ---- words

cut_there : (types : Types) (c : Choice) (ss : List Shape) (o : Option (List Value)) → is_there o ≡ true
    → ((vs : List Value) → o ≡ Some vs → FitAll types c ss vs)
    → Sees types c ss (parts_or_wrong o)
cut_there types c ss None h k = no h
cut_there types c ss (Some vs) h k = k vs refl

cut_sees : (types : Types) (c : Choice) (nu : Givens) (k : ℕ) (v : Value) (ws : List (Option Num)) (ss : List Shape) (x : Value-F Value)
    → ss ≡ replicate (length ws) V.Bits → widths_given nu ws ≡ true → form_fits types (asked types x) S.Bits ≡ true → head_met nu (H.Cut ws) k x ≡ true
    → Sees types c ss (opened plainly nu (H.Cut ws) k v x)
cut_sees types c nu k v ws ss (W.Bits bs) are given h met =
    cut_there types c ss (and_then (widths_of nu ws) (cut_by plainly bs))
    (met_of (widths_given nu ws) (is_there (and_then (widths_of nu ws) (cut_by plainly bs))) given met)
    (λ vs e. subst (λ ts. FitAll types c ts vs) (sym are) (parts_fit types c nu ws bs vs e))
cut_sees types c nu k v ws ss x are given h met = no h

-- ---- constructors

payload_tuple : (types : Types) (c : Choice) (v : Value) (s : Shape) (ss : List Shape) (k : ℕ) → out-Shape s ≡ S.Tuple ss → Fits types c s v
    → nat_le 2 k ≡ true → Sees types c ss (constructed true (payload_parts plainly k v))
payload_tuple types c v s ss zero is h many = no many
payload_tuple types c v s ss (suc zero) is h many = no many
payload_tuple types c v s ss (suc (suc k)) is h many =
    let f = form_tuple types (out-Value v) (map (put c) ss) (form_given types c s (S.Tuple (map (put c) ss)) v (out_put c s ∙ ap (opened_at c) is) h) in
    subst (λ x. Sees types c ss (parts_or_wrong (option_map (components plainly v 0) (form_parts x)))) (sym f.1)
    (subst (FitAll types c ss) (sym (same_components v 0 f.0)) f.2)

payload_sees : (types : Types) (c : Choice) (v : Value) (s : Shape) (ss : List Shape) (k : ℕ) → PayloadOpens s ss → length ss ≡ k → Fits types c s v
    → Sees types c ss (constructed true (payload_parts plainly k v))
payload_sees types c v s ss k (inl one) many h =
    subst (λ n. Sees types c ss (constructed true (payload_parts plainly n v))) (sym (ap length one) ∙ many)
    (subst (λ ts. FitAll types c ts (v ∷ [])) (sym one) (two (fits types v (put c s)) true h refl))
payload_sees types c v s ss k (inr several) many h =
    payload_tuple types c v s ss k several.0 h (ap (nat_le 2) (sym many) ∙ several.1)

-- the payload of a constructor has its shape
payload_has : (types : Types) (c : Choice) (args : List Shape) (typ : Typ) (v : Value) (o : Option Typ) → o ≡ Some typ
    → payload_fits (fits types v) (map (put c) args) o ≡ true → Fits types c (put (at args) (shape typ)) v
payload_has types c args typ v o is h =
    subst (λ t. fits types v t ≡ true) (put_args (shape typ) c args) (subst (λ p. payload_fits (fits types v) (map (put c) args) p ≡ true) is h)

union_if : (types : Types) (c : Choice) (i u j k : ℕ) (v : Value) (args ss : List Shape) (typ : Typ) (n : ℕ) (b : Bool) → nat_eq j k ≡ b
    → nat_eq i u ≡ true → payload types u k ≡ Some typ → PayloadOpens (put (at args) (shape typ)) ss → length ss ≡ n
    → payload_fits (fits types v) (map (put c) args) (payload types i j) ≡ true
    → Sees types c ss (constructed b (payload_parts plainly n v))
union_if types c i u j k v args ss typ n true same here there opens many h =
    payload_sees types c v (put (at args) (shape typ)) ss n opens many
    (payload_has types c args typ v (payload types i j) (ap (λ m. payload types m j) (equal i u here) ∙ ap (payload types u) (equal j k same) ∙ there) h)
union_if types c i u j k v args ss typ n false same here there opens many h = tt

constructor_sees : (types : Types) (c : Choice) (nu : Givens) (n : ℕ) (v : Value) (u k : ℕ) (args ss : List Shape) (typ : Typ) (x : Value-F Value)
    → IsUnion types u → payload types u k ≡ Some typ → PayloadOpens (put (at args) (shape typ)) ss → length ss ≡ n
    → form_fits types (asked types x) (S.Named u (map (put c) args)) ≡ true → Sees types c ss (opened plainly nu (H.Constructor u k) n v x)
constructor_sees types c nu n v u k args ss typ (W.Union i j y) is there opens many h =
    let g = and_parts (nat_eq i u) (payload_fits (fits types y) (map (put c) args) (payload types i j)) h in
    subst (λ b. Sees types c ss (constructed (b && nat_eq j k) (payload_parts plainly n y))) (sym g.0)
    (union_if types c i u j k y args ss typ n (nat_eq j k) refl g.0 there opens many g.1)
constructor_sees types c nu n v u k args ss typ (W.Member i j) is there opens many h =
    let g = and_parts (nat_eq i u) (nat_lt j (length (members types i))) h in
    no_member_of_union types i u j is g.0 g.1
constructor_sees types c nu n v u k args ss typ (W.Struct i vs) is there opens many h =
    let g = and_parts (nat_eq i u) (fields_fit (map (fits types) vs) (map (put c) args) (fields types i)) h in
    no_struct_of_union types i u (map (fits types) vs) (map (put c) args) is g.0 g.1
constructor_sees types c nu n v u k args ss typ x is there opens many h = no h

-- ---- all heads

head_sees : (types : Types) (c : Choice) (nu : Givens) (head : Head) (k : ℕ) (v : Value) (s : Shape) (ss : List Shape) (x : Value-F Value)
    → HeadOpens types nu head s ss → length ss ≡ k → form_fits types (asked types x) (opened_at c (out-Shape s)) ≡ true → head_met nu head k x ≡ true
    → Sees types c ss (opened plainly nu head k v x)
head_sees types c nu (H.Is literal) k v s ss x is many h met =
    subst (λ ts. Sees types c ts (literal_seen literal x)) (sym is.1) (literal_sees types c literal (out-Shape s) x is.0 h met)
head_sees types c nu H.Tuple k v s ss x is many h met =
    tuple_sees types c nu k v ss x (subst (λ y. form_fits types (asked types x) (opened_at c y) ≡ true) is h)
head_sees types c nu (H.Constructor u j) k v s ss x is many h met =
    constructor_sees types c nu k v u j is.1.0 ss is.1.1 x is.0 is.1.3 is.1.4 many
    (subst (λ y. form_fits types (asked types x) (opened_at c y) ≡ true) is.1.2 h)
head_sees types c nu H.Vector k v s ss x is many h met =
    vector_sees types c nu k v is.0 ss x is.2 many (subst (λ y. form_fits types (asked types x) (opened_at c y) ≡ true) is.1 h) met
head_sees types c nu H.List k v s ss x is many h met =
    list_sees types c nu k v is.0 ss x is.2 many (subst (λ y. form_fits types (asked types x) (opened_at c y) ≡ true) is.1 h)
head_sees types c nu H.Cons k v s ss x is many h met =
    subst (λ ts. Sees types c ts (opened plainly nu H.Cons k v x)) (sym is.2)
    (cons_sees types c nu k v is.0 s x is.1 (subst (λ y. form_fits types (asked types x) (opened_at c y) ≡ true) is.1 h))
head_sees types c nu (H.Cut ws) k v s ss x is many h met =
    cut_sees types c nu k v ws ss x is.1 is.2 (subst (λ y. form_fits types (asked types x) (opened_at c y) ≡ true) is.0 h) met

-- what is seen goes on
seen_goes : (reach : Reach) (w : World Value) (ss : List Shape) (seen : Seen Value) → Sees reach.types reach.choice ss seen
    → GoesOn reach w (FitAll reach.types reach.choice ss) (as_run seen)
seen_goes reach w ss (Parts vs) h now ready = (h, ready)
seen_goes reach w ss Other h now ready = ready
seen_goes reach w ss Wrong h now ready = absurd h

pub head_goes : (reach : Reach) (w : World Value) (head : Head) (k : ℕ) (v : Value) (s : Shape) (ss : List Shape) → HeadOpens reach.types w.numbers head s ss
    → length ss ≡ k → Fits reach.types reach.choice s v → head_met w.numbers head k (out-Value v) ≡ true
    → GoesOn reach w (FitAll reach.types reach.choice ss) (parts_of plainly w head k v)
head_goes reach w head k v s ss is many h met =
    seen_goes reach w ss (looked plainly w.numbers head k v)
    (many_see reach.types reach.choice ss k (opened plainly w.numbers head k v (out-Value v)) many
    (head_sees reach.types reach.choice w.numbers head k v s ss (out-Value v) is many
    (form_given reach.types reach.choice s (opened_at reach.choice (out-Shape s)) v (out_put reach.choice s) h) met))
