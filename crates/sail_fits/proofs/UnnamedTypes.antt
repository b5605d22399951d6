-- Types are the same but for names exactly where their parts are.
use Rattle.std.proofs.Common.{◌≡◌, ℕ, zero, suc, ◌+◌, ◌<◌, List, [], ◌∷◌, map, length, take, get_or, ap, sym, ◌∙◌, refl, subst, arith, Bool, true, Decides}
use Rattle.sail_types.specs.declared.numbers.Con.{Con}
use Rattle.sail_types.specs.declared.numbers.Index.{Index}
use Rattle.sail_types.specs.declared.numbers.Num.{Num}
use Rattle.sail_types.specs.declared.types.Typ.{Typ, Typ-F, out-Typ, roll-Typ}
use Rattle.sail_types.specs.declared.types.Typ.TheFolds.{fold-roll-Typ, map-Typ}
use Rattle.sail_types.specs.declared.types.Typ.TheOpen as T
use Rattle.sail_types.specs.declared.types.Typ.TheVariants as V
use Rattle.sail_types.specs.declared.types.Typ.TheViews.{out-roll-Typ}
use Rattle.sail_fits.specs.Unnamed.{form_unnamed, unnamed}

-- ---- what a type without names is

unnamed_at : (x : Typ-F Typ) (t : Typ) → roll-Typ x ≡ t → unnamed t ≡ form_unnamed (map-Typ Typ Typ unnamed x)
unnamed_at x t e = ap unnamed (sym e) ∙ fold-roll-Typ Typ form_unnamed x

unnamed_list : (t : Typ) → unnamed (V.List t) ≡ V.List (unnamed t)
unnamed_list t = unnamed_at (T.List t) (V.List t) (V.rolls-List t) ∙ V.rolls-List (unnamed t)

unnamed_vector : (n : Num) (t : Typ) → unnamed (V.Vector n t) ≡ V.Vector n (unnamed t)
unnamed_vector n t = unnamed_at (T.Vector n t) (V.Vector n t) (V.rolls-Vector n t) ∙ V.rolls-Vector n (unnamed t)

unnamed_tuple : (ts : List Typ) → unnamed (V.Tuple ts) ≡ V.Tuple (map unnamed ts)
unnamed_tuple ts = unnamed_at (T.Tuple ts) (V.Tuple ts) (V.rolls-Tuple ts) ∙ V.rolls-Tuple (map unnamed ts)

unnamed_named : (i : ℕ) (indices : List Index) (ts : List Typ) → unnamed (V.Named i indices ts) ≡ V.Named i indices (map unnamed ts)
unnamed_named i indices ts =
    unnamed_at (T.Named i indices ts) (V.Named i indices ts) (V.rolls-Named i indices ts) ∙ V.rolls-Named i indices (map unnamed ts)

unnamed_exists : (name : List ℕ) (c : Con) (t : Typ) → unnamed (V.Exists name c t) ≡ V.Exists [] c (unnamed t)
unnamed_exists name c t = unnamed_at (T.Exists name c t) (V.Exists name c t) (V.rolls-Exists name c t)

-- types that are one are made of the same parts
inside : (x y : Typ-F Typ) (t u : Typ) → roll-Typ x ≡ t → roll-Typ y ≡ u → t ≡ u → x ≡ y
inside x y t u e f h = sym (out-roll-Typ x) ∙ ap out-Typ (e ∙ h ∙ sym f) ∙ out-roll-Typ y

list_parts : (t u : Typ) → V.List t ≡ V.List u → t ≡ u
list_parts t u l =
    let k : T.List t ≡ T.List u = inside (T.List t) (T.List u) (V.List t) (V.List u) (V.rolls-List t) (V.rolls-List u) l in
    cc

vector_parts : (n m : Num) (t u : Typ) → V.Vector n t ≡ V.Vector m u → (n ≡ m) × (t ≡ u)
vector_parts n m t u l =
    let k : T.Vector n t ≡ T.Vector m u = inside (T.Vector n t) (T.Vector m u) (V.Vector n t) (V.Vector m u) (V.rolls-Vector n t) (V.rolls-Vector m u) l in
    (cc, cc)

tuple_parts : (ts us : List Typ) → V.Tuple ts ≡ V.Tuple us → ts ≡ us
tuple_parts ts us l =
    let k : T.Tuple ts ≡ T.Tuple us = inside (T.Tuple ts) (T.Tuple us) (V.Tuple ts) (V.Tuple us) (V.rolls-Tuple ts) (V.rolls-Tuple us) l in
    cc

named_parts : (i j : ℕ) (is js : List Index) (ts us : List Typ) → V.Named i is ts ≡ V.Named j js us → ((i ≡ j) × (is ≡ js)) × (ts ≡ us)
named_parts i j is js ts us l =
    let k : T.Named i is ts ≡ T.Named j js us =
    inside (T.Named i is ts) (T.Named j js us) (V.Named i is ts) (V.Named j js us) (V.rolls-Named i is ts) (V.rolls-Named j js us) l in
    ((cc, cc), cc)

exists_parts : (c d : Con) (t u : Typ) → V.Exists [] c t ≡ V.Exists [] d u → (c ≡ d) × (t ≡ u)
exists_parts c d t u l =
    let k : T.Exists [] c t ≡ T.Exists [] d u =
    inside (T.Exists [] c t) (T.Exists [] d u) (V.Exists [] c t) (V.Exists [] d u) (V.rolls-Exists [] c t) (V.rolls-Exists [] d u) l in
    (cc, cc)

-- ---- tests

joined : {P Q : Type 0} (r p q : Bool) → Decides r ((p ≡ true) × (q ≡ true)) → Decides p P → Decides q Q → Decides r (P × Q)
joined r p q k e f = ((λ h. let l = k.0 h in (e.0 l.0, f.0 l.1)), (λ h. k.1 (e.1 h.0, f.1 h.1)))

-- a test of two things tests what they are equal to
moved : {A B : Type 0} (f : A → B) (r : Bool) (x y t u : A) → x ≡ t → y ≡ u → Decides r (f x ≡ f y) → Decides r (f t ≡ f u)
moved f r x y t u e g k = ((λ h. ap f (sym e) ∙ k.0 h ∙ ap f g), (λ h. k.1 (ap f e ∙ h ∙ ap f (sym g))))

both_ways : {P : Type 0} (r : Bool) (a b x y : Typ) → unnamed a ≡ x → unnamed b ≡ y → (P → x ≡ y) → (x ≡ y → P) → Decides r P
    → Decides r (unnamed a ≡ unnamed b)
both_ways r a b x y e f there back k = ((λ h. e ∙ there (k.0 h) ∙ sym f), (λ h. k.1 (back (sym e ∙ h ∙ f))))

-- ---- one form

pub list_same : (r : Bool) (a b t u t' u' : Typ) → a ≡ V.List t → b ≡ V.List u → t' ≡ t → u' ≡ u → Decides r (unnamed t' ≡ unnamed u')
    → Decides r (unnamed a ≡ unnamed b)
list_same r a b t u t' u' e f g h k =
    both_ways {P = unnamed t ≡ unnamed u} r a b (V.List (unnamed t)) (V.List (unnamed u)) (ap unnamed e ∙ unnamed_list t)
    (ap unnamed f ∙ unnamed_list u) (λ l. ap V.List l)
    (list_parts (unnamed t) (unnamed u)) (moved unnamed r t' u' t u g h k)

pub vector_same : (r p q : Bool) (a b t u t' u' : Typ) (n m : Num) → a ≡ V.Vector n t → b ≡ V.Vector m u → t' ≡ t → u' ≡ u
    → Decides r ((p ≡ true) × (q ≡ true)) → Decides p (n ≡ m) → Decides q (unnamed t' ≡ unnamed u') → Decides r (unnamed a ≡ unnamed b)
vector_same r p q a b t u t' u' n m e f g h k kp kq =
    both_ways {P = (n ≡ m) × (unnamed t ≡ unnamed u)} r a b (V.Vector n (unnamed t)) (V.Vector m (unnamed u)) (ap unnamed e ∙ unnamed_vector n t)
    (ap unnamed f ∙ unnamed_vector m u) (λ l. λ i. V.Vector (l.0 i) (l.1 i))
    (vector_parts n m (unnamed t) (unnamed u))
    (joined r p q k kp (moved unnamed q t' u' t u g h kq))

pub tuple_same : (r : Bool) (a b : Typ) (ts us ts' us' : List Typ) → a ≡ V.Tuple ts → b ≡ V.Tuple us → ts' ≡ ts → us' ≡ us
    → Decides r (map unnamed ts' ≡ map unnamed us') → Decides r (unnamed a ≡ unnamed b)
tuple_same r a b ts us ts' us' e f g h k =
    both_ways {P = map unnamed ts ≡ map unnamed us} r a b (V.Tuple (map unnamed ts)) (V.Tuple (map unnamed us)) (ap unnamed e ∙ unnamed_tuple ts)
    (ap unnamed f ∙ unnamed_tuple us) (λ l. ap V.Tuple l)
    (tuple_parts (map unnamed ts) (map unnamed us)) (moved (map unnamed) r ts' us' ts us g h k)

pub named_same : (r p q s o : Bool) (a b : Typ) (i j : ℕ) (is js is' js' : List Index) (ts us ts' us' : List Typ) → a ≡ V.Named i is ts → b ≡ V.Named j js us
    → is' ≡ is → js' ≡ js → ts' ≡ ts → us' ≡ us → Decides r ((p ≡ true) × (q ≡ true)) → Decides p ((s ≡ true) × (o ≡ true)) → Decides s (i ≡ j)
    → Decides o (is' ≡ js') → Decides q (map unnamed ts' ≡ map unnamed us') → Decides r (unnamed a ≡ unnamed b)
named_same r p q s o a b i j is js is' js' ts us ts' us' e f gi hi g h k kp ks ko kq =
    both_ways {P = ((i ≡ j) × (is ≡ js)) × (map unnamed ts ≡ map unnamed us)} r a b (V.Named i is (map unnamed ts)) (V.Named j js (map unnamed us))
    (ap unnamed e ∙ unnamed_named i is ts) (ap unnamed f ∙ unnamed_named j js us) (λ l. λ n. V.Named (l.0.0 n) (l.0.1 n) (l.1 n))
    (named_parts i j is js (map unnamed ts) (map unnamed us))
    (joined r p q k (joined p s o kp ks (moved (λ x. x) o is' js' is js gi hi ko)) (moved (map unnamed) q ts' us' ts us g h kq))

pub exists_same : (r p q : Bool) (a b t u t' u' : Typ) (x y : List ℕ) (c d : Con) → a ≡ V.Exists x c t → b ≡ V.Exists y d u → t' ≡ t → u' ≡ u
    → Decides r ((p ≡ true) × (q ≡ true)) → Decides p (c ≡ d) → Decides q (unnamed t' ≡ unnamed u') → Decides r (unnamed a ≡ unnamed b)
exists_same r p q a b t u t' u' x y c d e f g h k kp kq =
    both_ways {P = (c ≡ d) × (unnamed t ≡ unnamed u)} r a b (V.Exists [] c (unnamed t)) (V.Exists [] d (unnamed u)) (ap unnamed e ∙ unnamed_exists x c t)
    (ap unnamed f ∙ unnamed_exists y d u) (λ l. λ i. V.Exists [] (l.0 i) (l.1 i))
    (exists_parts c d (unnamed t) (unnamed u))
    (joined r p q k kp (moved unnamed q t' u' t u g h kq))

-- ---- lists, item by item

at_map : (xs : List Typ) (i : ℕ) (d : Typ) → get_or (map unnamed xs) i (unnamed d) ≡ unnamed (get_or xs i d)
at_map [] i d = refl
at_map (x ∷ xs) zero d = refl
at_map (x ∷ xs) (suc i) d = at_map xs i d

any_default : (xs : List Typ) (i : ℕ) (d e : Typ) → i < length xs → get_or xs i d ≡ get_or xs i e
any_default [] i d e h = absurd (omega arith)
any_default (x ∷ xs) zero d e h = refl
any_default (x ∷ xs) (suc i) d e h = any_default xs i d e (omega arith)

-- lists that are the same have the same items
pub same_at : (xs ys : List Typ) (i : ℕ) (x y : Typ) → i < length ys → x ≡ get_or xs i x → y ≡ get_or ys i y → map unnamed xs ≡ map unnamed ys
    → unnamed x ≡ unnamed y
same_at xs ys i x y h e f k =
    ap unnamed e ∙ sym (at_map xs i x) ∙ ap (λ zs. get_or zs i (unnamed x)) k ∙ at_map ys i x ∙ ap unnamed (any_default ys i x y h ∙ sym f)

pub same_more : (xs ys : List Typ) (i : ℕ) (x y : Typ) → i < length xs → i < length ys → x ≡ get_or xs i x → y ≡ get_or ys i y → unnamed x ≡ unnamed y
    → take i (map unnamed xs) ≡ take i (map unnamed ys) → take (i + 1) (map unnamed xs) ≡ take (i + 1) (map unnamed ys)
same_more xs ys i x y h l e f k before =
    let one : suc i ≡ i + 1 = omega arith in
    subst (λ n. take n (map unnamed xs) ≡ take n (map unnamed ys)) one (by xs ys i h l e f before)
  where
    by : (xs ys : List Typ) (i : ℕ) → i < length xs → i < length ys → x ≡ get_or xs i x → y ≡ get_or ys i y
        → take i (map unnamed xs) ≡ take i (map unnamed ys) → take (suc i) (map unnamed xs) ≡ take (suc i) (map unnamed ys)
    by [] ys i h l e f before = absurd (omega arith)
    by (u ∷ xs) [] i h l e f before = absurd (omega arith)
    by (u ∷ xs) (v ∷ ys) zero h l e f before = ap (λ t. t ∷ []) (ap unnamed (sym e) ∙ k ∙ ap unnamed f)
    by (u ∷ xs) (v ∷ ys) (suc i) h l e f before =
        let first : unnamed u ≡ unnamed v = cc in
        let rest : take i (map unnamed xs) ≡ take i (map unnamed ys) = cc in
        λ n. first n ∷ by xs ys i (omega arith) (omega arith) e f rest n
