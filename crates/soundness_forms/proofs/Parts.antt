-- Parts from left to right beside their runs, and what is made of them.
use Rattle.std.proofs.Common.{◌≡◌, ℕ, true, false, ◌||◌, List, [], ◌∷◌, map, refl, sym, ap, ◌∙◌}
use Rattle.sail_types.specs.declared.values.Value.{Value, out-Value}
use Rattle.sail_types.specs.declared.values.Value.TheOpen as O
use Rattle.sail_types.specs.declared.values.Value.TheVariants as V
use Rattle.sail_types.specs.declared.values.Value.TheViews.{out-roll-Value}
use Rattle.sail_core.specs.Making.{World}
use Rattle.sail_core.specs.Run.{Run, gives, in_turn, ◌then◌}
use Rattle.value_indices.specs.declared.indices.Indices.{Indices, out-Indices, roll-Indices}
use Rattle.value_indices.specs.declared.indices.Indices.TheOpen as W
use Rattle.value_indices.specs.declared.indices.Indices.TheOpen.{Indices-F}
use Rattle.value_indices.specs.declared.indices.Indices.TheVariants as I
use Rattle.value_indices.specs.declared.indices.Indices.TheViews.{roll-out-Indices}
use Rattle.value_indices.specs.declared.indices.Reading.{Reading}
use Rattle.value_indices.specs.declared.notes.Fact.{Fact}
use Rattle.value_indices.specs.Steps.{bind, give}
use Rattle.pattern_leaves.specs.Settings.{Scope}
use Rattle.call_arguments.specs.declared.aims.Aim.{Aim}
use Rattle.call_arguments.specs.declared.aims.Aim.TheVariants as Aims
use Rattle.call_notes.specs.Ends.{any_never, is_never, is_never_form}
use Rattle.expression_steps.specs.Parts.{Part, each_walk}
use Rattle.checked_meaning.specs.Items.{Item, vals}
use Rattle.value_laws.specs.Belonging.{Integers, Meant, each_holds, form_holds, meant, standing}
use Rattle.value_laws.specs.Known.{Point, Agree}
use Rattle.value_laws.proofs.Basics.{two}
use Rattle.value_laws.proofs.Meanings.{tuples_same}
use Rattle.value_laws.proofs.Steps.{same}
use Rattle.value_laws.proofs.Values.{has_form, meant_is}
use Rattle.soundness_steps.specs.Points.{Later}
use Rattle.soundness_steps.specs.Works.{Scene, Setting, Work, here}
use Rattle.soundness_steps.specs.Steps.{Beside}
use Rattle.soundness_steps.specs.Values.{AimSteady, AllHave, AllTyped, Has, Is, IsMet}
use Rattle.soundness_steps.proofs.Steps.{binds, given_back, rests}
use Rattle.soundness_forms.specs.Forms.{AllFine}
use Rattle.soundness_forms.specs.Worlds.{Surrounds}
use Rattle.soundness_forms.proofs.Basics.{aim_on, has_there, is_on, met_on}
use Rattle.soundness_forms.proofs.Casts.{comes_is, no_guard}
use Rattle.soundness_forms.proofs.Worlds.{surrounds_on}

-- ---- what is wanted of each; of those behind nothing is

abbrev pub first_aim : List Aim → Aim
first_aim [] = Aims.Free
first_aim (a ∷ aims) = a

abbrev pub other_aims : List Aim → List Aim
other_aims [] = []
other_aims (a ∷ aims) = aims

module _ (set : Setting) (work : Work) {n : ℕ} (f : Point n) where
  abbrev pub AllSteady : List Aim → Type 0
  AllSteady [] = Unit {0}
  AllSteady (a ∷ aims) = AimSteady set work f a × AllSteady aims

  -- each comes to what is wanted of it
  abbrev pub EachIs : List Part → List Aim → List Indices → List Item → Type 0
  EachIs [] aims [] [] = Unit {0}
  EachIs (p ∷ ps) aims (i ∷ is) (x ∷ xs) =
      Is set work f i x × IsMet set work f (first_aim aims) p.is_nested x.val × EachIs ps (other_aims aims) is xs
  EachIs ps aims is xs = ⊥

pub steady_all : (set : Setting) (work : Work) {n m : ℕ} {f : Point n} {g : Point m} (aims : List Aim) → Later f g → AllSteady set work f aims
    → AllSteady set work g aims
steady_all set work [] l h = tt
steady_all set work (a ∷ aims) l h = (aim_on set work a l h.0, steady_all set work aims l h.1)

module _ (q : Scene) (w : World Item) (scope : Scope) where
  pub each_fine : (ps : List Part) (rs : List (Run Item Item)) → AllFine q w ps rs → {n : ℕ} {f : Point n} {facts : List Fact} (aims : List Aim)
      → Surrounds q w f scope → AllSteady q.set q.work f aims
      → Beside q n f facts (each_walk ps (here q) scope aims) (in_turn rs) (λ m g is xs. EachIs q.set q.work g ps aims is xs)
  each_fine [] [] h aims there st = rests [] (given_back [] tt)
  each_fine (p ∷ ps) (r ∷ rs) h {n} {f} {facts} [] there st =
      binds (λ i. bind (each_walk ps (here q) scope []) (λ is. give (i ∷ is))) (λ x. in_turn rs then λ xs. gives (x ∷ xs))
      (h.0.walks q.names q.may_fall no_guard n f facts scope Aims.Free there tt) (λ m g fs i x l c.
      binds (λ is. give (i ∷ is)) (λ xs. gives (x ∷ xs)) (each_fine ps rs h.1 [] (surrounds_on q w scope l there) tt) (λ m2 g2 fs2 is xs l2 e.
      rests (x ∷ xs) (given_back (i ∷ is) (is_on l2 (comes_is p.is_nested p.never_ends Aims.Free i x c), tt, e))))
  each_fine (p ∷ ps) (r ∷ rs) h {n} {f} {facts} (aim ∷ aims) there st =
      binds (λ i. bind (each_walk ps (here q) scope aims) (λ is. give (i ∷ is))) (λ x. in_turn rs then λ xs. gives (x ∷ xs))
      (h.0.walks q.names q.may_fall no_guard n f facts scope aim there st.0) (λ m g fs i x l c.
      binds (λ is. give (i ∷ is)) (λ xs. gives (x ∷ xs))
      (each_fine ps rs h.1 aims (surrounds_on q w scope l there) (steady_all q.set q.work aims l st.1)) (λ m2 g2 fs2 is xs l2 e.
      rests (x ∷ xs) (given_back (i ∷ is)
      (is_on l2 (comes_is p.is_nested p.never_ends aim i x c), met_on q.set q.work aim p.is_nested x.val l2 c.met, e))))
  each_fine [] (r ∷ rs) h aims there st = absurd h
  each_fine (p ∷ ps) [] h aims there st = absurd h

-- ---- what never ends has no value

never_has : (set : Setting) (work : Work) {n : ℕ} {f : Point n} (i : Indices) (v : Value) (x : Indices-F Indices Reading) → out-Indices i ≡ x
    → Has set work f i v → is_never_form x ≡ false
never_has set work {n} {f} i v W.Never e h = absurd (nothing (sym
    (has_form set.around.types (standing set.past f.integers) work.types i W.Never v (ap roll-Indices (sym e) ∙ roll-out-Indices i))
    ∙ has_there h f.integers (same f)))
  where
    nothing : false ≡ true → ⊥
    nothing k = absurd (cc)
never_has set work i v W.Unit e h = refl
never_has set work i v (W.Truth c) e h = refl
never_has set work i v W.Bit e h = refl
never_has set work i v (W.Bits t) e h = refl
never_has set work i v (W.Integer t) e h = refl
never_has set work i v W.String e h = refl
never_has set work i v (W.List r) e h = refl
never_has set work i v (W.Vector t r) e h = refl
never_has set work i v (W.Tuple is) e h = refl
never_has set work i v (W.Named u is rs) e h = refl
never_has set work i v (W.Variable j) e h = refl

pub not_never : (set : Setting) (work : Work) {n : ℕ} {f : Point n} (i : Indices) (v : Value) → Has set work f i v → is_never i ≡ false
not_never set work i v h = never_has set work i v (out-Indices i) refl h

pub none_never : (set : Setting) (work : Work) {n : ℕ} (f : Point n) (is : List Indices) (vs : List Value) → AllHave set work f is vs → any_never is ≡ false
none_never set work f [] [] h = refl
none_never set work f (i ∷ is) (v ∷ vs) h =
    (λ j. not_never set work i v h.0 j || none_never set work f is vs h.1 j)
none_never set work f [] (v ∷ vs) h = absurd h
none_never set work f (i ∷ is) [] h = absurd h

-- ---- parts, as operands and as values

module _ (set : Setting) (work : Work) {n : ℕ} (f : Point n) where
  pub are_typed : (ps : List Part) (aims : List Aim) (is : List Indices) (xs : List Item) → EachIs set work f ps aims is xs → AllTyped set work f is xs
  are_typed [] aims [] [] h = tt
  are_typed (p ∷ ps) aims (i ∷ is) (x ∷ xs) h = (h.0.typ, are_typed ps (other_aims aims) is xs h.2)
  are_typed [] aims (i ∷ is) xs h = absurd h
  are_typed [] aims [] (x ∷ xs) h = absurd h
  are_typed (p ∷ ps) aims [] xs h = absurd h
  are_typed (p ∷ ps) aims (i ∷ is) [] h = absurd h

  pub all_have : (ps : List Part) (aims : List Aim) (is : List Indices) (xs : List Item) → EachIs set work f ps aims is xs → AllHave set work f is (vals xs)
  all_have [] aims [] [] h = tt
  all_have (p ∷ ps) aims (i ∷ is) (x ∷ xs) h = (h.0.has, all_have ps (other_aims aims) is xs h.2)
  all_have [] aims (i ∷ is) xs h = absurd h
  all_have [] aims [] (x ∷ xs) h = absurd h
  all_have (p ∷ ps) aims [] xs h = absurd h
  all_have (p ∷ ps) aims (i ∷ is) [] h = absurd h

  -- ---- a tuple has those of its parts

  abbrev meanings_of : (is : List Indices) (vs : List Value) → AllHave set work f is vs → List Meant
  meanings_of [] [] h = []
  meanings_of (i ∷ is) (v ∷ vs) h = h.0.meaning ∷ meanings_of is vs h.1
  meanings_of [] (v ∷ vs) h = absurd h
  meanings_of (i ∷ is) [] h = absurd h

  each_is : (is : List Indices) (vs : List Value) (h : AllHave set work f is vs) (g : Integers) → Agree f g
      → map (meant set.around.types (standing set.past g) work.types) is ≡ meanings_of is vs h
  each_is [] [] h g a = refl
  each_is (i ∷ is) (v ∷ vs) h g a = λ j. h.0.steady g a j ∷ each_is is vs h.1 g a j
  each_is [] (v ∷ vs) h g a = absurd h
  each_is (i ∷ is) [] h g a = absurd h

  all_hold : (is : List Indices) (vs : List Value) (h : AllHave set work f is vs) → each_holds (meanings_of is vs h) vs ≡ true
  all_hold [] [] h = refl
  all_hold (i ∷ is) (v ∷ vs) h = two (h.0.meaning.holds v) (each_holds (meanings_of is vs h.1) vs) h.0.is_so (all_hold is vs h.1)
  all_hold [] (v ∷ vs) h = absurd h
  all_hold (i ∷ is) [] h = absurd h

  pub tuple_has : (is : List Indices) (vs : List Value) → AllHave set work f is vs → Has set work f (I.Tuple is) (V.Tuple vs)
  tuple_has is vs h =
      let types = set.around.types in
      let there = standing set.past f.integers in
      record {
        meaning = meant types there work.types (I.Tuple is);
        is_so = has_form types there work.types (I.Tuple is) (W.Tuple is) (V.Tuple vs) (I.rolls-Tuple is)
            ∙ ap (form_holds types there work.types (W.Tuple (map (meant types there work.types) is))) (ap out-Value (sym
            (V.rolls-Tuple vs)) ∙ out-roll-Value (O.Tuple vs))
            ∙ ap (λ ms. each_holds ms vs) (each_is is vs h f.integers (same f)) ∙ all_hold is vs h;
        steady = λ g a.
            meant_is types (standing set.past g) work.types (I.Tuple is) (W.Tuple is) (I.rolls-Tuple is)
            ∙ tuples_same types set.past work.types g f.integers (map (meant types (standing set.past g) work.types) is)
            (map (meant types there work.types) is) (each_is is vs h g a ∙ sym (each_is is vs h f.integers (same f)))
            ∙ sym (meant_is types there work.types (I.Tuple is) (W.Tuple is) (I.rolls-Tuple is));
      }
