-- Types under constants that are compared as the same are one.
use Rattle.std.proofs.Common.{◌≡◌, ◌∙◌, ap, sym, refl, subst, ℕ, ℤ, nat_eq, true, ◌&&◌, List, [], ◌∷◌, map}
use Rattle.std.specs.Prelude.{Option, Some, None}
use Rattle.std.specs.Ordering.{int_eq}
use Rattle.std.proofs.lemmas.Bool.{and_parts}
use Rattle.std.proofs.lemmas.Bool.Decides.{Decides-eqb, Decides-int_eq}
use Rattle.value_laws.proofs.Basics.{no, two}
use Rattle.size_values.specs.declared.sized.Sized.{Sized, Sized-F, out-Sized, roll-Sized}
use Rattle.size_values.specs.declared.sized.Sized.TheFolds.{fold-roll-Sized, ind-Sized, map-Sized}
use Rattle.size_values.specs.declared.sized.Sized.TheOpen as Z
use Rattle.size_values.specs.declared.sized.Sized.TheViews.{out-roll-Sized, roll-out-Sized}
use Rattle.size_values.specs.Sized.{Like, all_eq, each_like, eq_step, form_eq, numbers_eq, option_eq, sized_eq}

option_same : (o p : Option ℤ) → option_eq o p ≡ true → o ≡ p
option_same None None h = refl
option_same (Some x) (Some y) h = ap (λ (z : ℤ). Some z) ((Decides-int_eq x y).0 h)
option_same o p h = no h

pub numbers_same : (xs ys : List (Option ℤ)) → numbers_eq xs ys ≡ true → xs ≡ ys
numbers_same [] [] h = refl
numbers_same [] (y ∷ ys) h = no h
numbers_same (x ∷ xs) [] h = no h
numbers_same (x ∷ xs) (y ∷ ys) h =
    let p = and_parts (option_eq x y) (numbers_eq xs ys) h in
    let first = option_same x y p.0 in
    let rest = numbers_same xs ys p.1 in
    λ j. first j ∷ rest j

integer_itself : (z : ℤ) → int_eq z z ≡ true
integer_itself z = (Decides-int_eq z z).1 refl

number_itself : (n : ℕ) → nat_eq n n ≡ true
number_itself n = (Decides-eqb n n).1 refl

option_itself : (o : Option ℤ) → option_eq o o ≡ true
option_itself None = refl
option_itself (Some x) = integer_itself x

pub numbers_itself : (xs : List (Option ℤ)) → numbers_eq xs xs ≡ true
numbers_itself [] = refl
numbers_itself (x ∷ xs) = two (option_eq x x) (numbers_eq xs xs) (option_itself x) (numbers_itself xs)

-- it is itself alone
abbrev Alone : Sized → Type 0
Alone s = ((t : Sized) → sized_eq s t ≡ true → s ≡ t) × (sized_eq s s ≡ true)

abbrev Such : Type 0
Such = (s : Sized) × Alone s

abbrev bare : List Such → List Sized
bare ys = map (λ (p : Such). p.0) ys

abbrev form_of : Sized-F Such → Sized-F Sized
form_of y = map-Sized Such Sized (λ p. p.0) y

abbrev likes : Sized-F Such → Sized-F Like
likes y = map-Sized Sized Like sized_eq (form_of y)

each_same : (ys : List Such) (ts : List Sized) → each_like (map sized_eq (bare ys)) ts ≡ true → bare ys ≡ ts
each_same [] [] h = refl
each_same [] (t ∷ ts) h = no h
each_same (y ∷ ys) [] h = no h
each_same (y ∷ ys) (t ∷ ts) h =
    let p = and_parts (sized_eq y.0 t) (each_like (map sized_eq (bare ys)) ts) h in
    let first = y.1.0 t p.0 in
    let rest = each_same ys ts p.1 in
    λ j. first j ∷ rest j

each_itself : (ys : List Such) → each_like (map sized_eq (bare ys)) (bare ys) ≡ true
each_itself [] = refl
each_itself (y ∷ ys) = two (sized_eq y.0 y.0) (each_like (map sized_eq (bare ys)) (bare ys)) y.1.1 (each_itself ys)

form_same : (y : Sized-F Such) (w : Sized-F Sized) → form_eq (likes y) w ≡ true → form_of y ≡ w
form_same Z.Never Z.Never h = refl
form_same Z.Unit Z.Unit h = refl
form_same Z.Bool Z.Bool h = refl
form_same Z.Bit Z.Bit h = refl
form_same (Z.Bits x) (Z.Bits y) h = ap (λ (z : ℤ). Z.Bits z) ((Decides-int_eq x y).0 h)
form_same Z.Int Z.Int h = refl
form_same Z.String Z.String h = refl
form_same (Z.List s) (Z.List t) h = ap (λ (r : Sized). Z.List r) (s.1.0 t h)
form_same (Z.Vector x s) (Z.Vector y t) h =
    let p = and_parts (int_eq x y) (sized_eq s.0 t) h in
    ap (λ (z : ℤ). Z.Vector z s.0) ((Decides-int_eq x y).0 p.0) ∙ ap (λ (r : Sized). Z.Vector y r) (s.1.0 t p.1)
form_same (Z.Tuple ss) (Z.Tuple ts) h = ap (λ (l : List Sized). Z.Tuple l) (each_same ss ts h)
form_same (Z.Named u xs ss) (Z.Named v ys ts) h =
    let p = and_parts (nat_eq u v && numbers_eq xs ys) (each_like (map sized_eq (bare ss)) ts) h in
    let q = and_parts (nat_eq u v) (numbers_eq xs ys) p.0 in
    ap (λ (n : ℕ). Z.Named n xs (bare ss)) ((Decides-eqb u v).0 q.0)
    ∙ ap (λ (l : List (Option ℤ)). Z.Named v l (bare ss)) (numbers_same xs ys q.1)
    ∙ ap (λ (l : List Sized). Z.Named v ys l) (each_same ss ts p.1)
form_same y w h = no h

form_itself : (y : Sized-F Such) → form_eq (likes y) (form_of y) ≡ true
form_itself Z.Never = refl
form_itself Z.Unit = refl
form_itself Z.Bool = refl
form_itself Z.Bit = refl
form_itself (Z.Bits x) = integer_itself x
form_itself Z.Int = refl
form_itself Z.String = refl
form_itself (Z.List s) = s.1.1
form_itself (Z.Vector x s) = two (int_eq x x) (sized_eq s.0 s.0) (integer_itself x) s.1.1
form_itself (Z.Tuple ss) = each_itself ss
form_itself (Z.Named u xs ss) =
    two (nat_eq u u && numbers_eq xs xs) (each_like (map sized_eq (bare ss)) (bare ss))
    (two (nat_eq u u) (numbers_eq xs xs) (number_itself u) (numbers_itself xs)) (each_itself ss)

eq_is : (y : Sized-F Such) (t : Sized) → sized_eq (roll-Sized (form_of y)) t ≡ form_eq (likes y) (out-Sized t)
eq_is y t = ap (λ (f : Like). f t) (fold-roll-Sized Like eq_step (form_of y))

rolled : (y : Sized-F Such) → Alone (roll-Sized (form_of y))
rolled y = (
  λ t h. ap roll-Sized (form_same y (out-Sized t) (sym (eq_is y t) ∙ h)) ∙ roll-out-Sized t,
  eq_is y (roll-Sized (form_of y)) ∙ ap (form_eq (likes y)) (out-roll-Sized (form_of y)) ∙ form_itself y,
)

alone : (s : Sized) → Alone s
alone = ind-Sized Alone (λ e y is. subst (λ d. Alone (roll-Sized d)) is (rolled y))

pub sized_same : (s t : Sized) → sized_eq s t ≡ true → s ≡ t
sized_same s t h = (alone s).0 t h

pub all_same : (ss ts : List Sized) → all_eq ss ts ≡ true → ss ≡ ts
all_same [] [] h = refl
all_same [] (t ∷ ts) h = no h
all_same (s ∷ ss) [] h = no h
all_same (s ∷ ss) (t ∷ ts) h =
    let p = and_parts (sized_eq s t) (all_eq ss ts) h in
    let first = sized_same s t p.0 in
    let rest = all_same ss ts p.1 in
    λ j. first j ∷ rest j

pub all_itself : (ss : List Sized) → all_eq ss ss ≡ true
all_itself [] = refl
all_itself (s ∷ ss) = two (sized_eq s s) (all_eq ss ss) (alone s).1 (all_itself ss)
