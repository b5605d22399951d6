-- A tuple of targets, written one after another: what those before have left, and what the others do.
use Rattle.std.proofs.Common.{◌≡◌, ◌∙◌, ◌+◌, ◌<◌, ◌≤◌, ap, sym, refl, arith, min, Bool, ℕ, zero, suc, List, [], ◌∷◌, ◌++◌, map, length, drop, get_or}
use Rattle.std.proofs.Common.{append_assoc}
use Rattle.std.proofs.lemmas.List.{map-append}
use Rattle.sail_base.specs.declared.place.Place.{Place}
use Rattle.value_indices.specs.Steps.{Walk, bind, give, scoped}
use Rattle.value_indices.specs.Walking.{Written, got, remembering, restored, run}
use Rattle.value_indices.specs.declared.indices.Indices.{Indices}
use Rattle.value_indices.specs.declared.indices.Indices.TheVariants as I
use Rattle.value_indices.proofs.Walks.{got_scoped, run_scoped}
use Rattle.value_fits.specs.Fitting.{also, joined, says}
use Rattle.value_fits.specs.declared.fitted.Fitted.{Fitted}
use Rattle.wide_types.proofs.Turns.{twice_got, twice_run}
use Rattle.pattern_leaves.specs.Settings.{Around}
use Rattle.expression_forms.specs.Spots.{Wrote, all_wrote, both_left, both_wrote, each_left, each_written, gives, left_form, left_of, spot_of}
use Rattle.expression_forms.specs.Spots.{wrong_write, wrote}
use Rattle.expression_forms.specs.declared.pending.Left as pending
use Rattle.expression_forms.specs.declared.pending.Left.TheOpen as L
use Rattle.expression_forms.specs.declared.pending.Left.TheVariants as V
use Rattle.expression_forms.specs.declared.spots.Spot as code
use Rattle.expression_forms.proofs.Rests.{all_behind, rest_is}

-- ---- what several have left

pub left_each : (around : Around) (fs : List pending.Left) → left_of around (V.Each fs) ≡ each_left (map (left_of around) fs)
left_each around fs = ap (left_of around) (sym (V.rolls-Each fs)) ∙ pending.fold-roll-Left (ℕ → Fitted) (left_form around) (L.Each fs)

-- where there are some
pub some_wrote : (around : Around) (fs : List pending.Left) (i : Indices) → (fs ≡ [] → ⊥)
    → wrote (left_of around (V.Each fs)) I.Unit ≡ all_wrote (map (left_of around) fs) i
some_wrote around [] i some = absurd (some refl)
some_wrote around (f ∷ fs) i some = ap (λ (g : ℕ → Fitted). wrote g I.Unit) (left_each around (f ∷ fs))

-- what one has to fit behind others
fits_behind : (a b c : Fitted) → joined (joined a b) c ≡ joined a (joined b c)
unfolding joined
fits_behind a b c = λ i. record {
  conditions = append_assoc a.conditions b.conditions c.conditions i;
  facts = append_assoc a.facts b.facts c.facts i;
  next = c.next;
}

also_behind : (a b : Fitted) (more : ℕ → Fitted) → also (joined a b) more ≡ joined a (also b more)
unfolding joined
also_behind a b more = fits_behind a b (more b.next)

pub left_more : (around : Around) (made more all : Fitted) (fs : List pending.Left) (k : ℕ) (f : pending.Left) → k < length fs → f ≡ get_or fs k f
    → more ≡ left_of around f made.next → all ≡ joined made more
    → also all (each_left (map (left_of around) (drop (k + 1) fs))) ≡ also made (each_left (map (left_of around) (drop k fs)))
left_more around made more all fs k f within is fits grown =
    let rest = each_left (map (left_of around) (drop (k + 1) fs)) in
    ap (λ (a : Fitted). also a rest) grown
    ∙ also_behind made more rest
    ∙ ap (λ (m : Fitted). joined made (also m rest)) fits
    ∙ sym (λ j. also made (each_left (map (left_of around) (rest_is fs k f within is j))))

pub left_all : (around : Around) (made : Fitted) (fs : List pending.Left) (k : ℕ) → length fs ≤ k
    → also made (each_left (map (left_of around) (drop k fs))) ≡ joined made (says [] made.next)
left_all around made fs k past = λ j. also made (each_left (map (left_of around) (all_behind fs k past j)))

-- ---- what is written behind others, which owe before it

abbrev pub written_behind : List (ℕ → Fitted) → Wrote → Wrote
written_behind [] w = w
written_behind (f ∷ fs) w = wrote (both_left f (written_behind fs w).left) I.Unit

behind_one : (fs : List (ℕ → Fitted)) (f : ℕ → Fitted) (w : Wrote) → written_behind (fs ++ f ∷ []) w ≡ written_behind fs (wrote (both_left f w.left) I.Unit)
behind_one [] f w = refl
behind_one (g ∷ fs) f w = ap (λ (x : Wrote). wrote (both_left g x.left) I.Unit) (behind_one fs f w)

end_left : (fs : List (ℕ → Fitted)) (i : Indices) → Wrote.left (written_behind fs (wrote (says []) i)) ≡ each_left fs
end_left [] i = refl
end_left (f ∷ fs) i = ap (both_left f) (end_left fs i)

end_wrote : (fs : List (ℕ → Fitted)) (i : Indices) → written_behind fs (wrote (says []) i) ≡ all_wrote fs i
end_wrote [] i = refl
end_wrote (f ∷ fs) i = ap (λ (g : ℕ → Fitted). wrote (both_left f g) I.Unit) (end_left fs i)

-- behind the last
pub all_written : (fs : List (ℕ → Fitted)) (i : Indices) (w all : Wrote) → wrote (says []) i ≡ w → written_behind fs w ≡ all → all_wrote fs i ≡ all
all_written fs i w all is total = sym (end_wrote fs i) ∙ ap (written_behind fs) is ∙ total

-- ---- a scope that begins and ends

pub scoped_value : {A : Type 0} (inner : Walk A) (w v : Written) (a : A) → v ≡ remembering w → a ≡ got inner v → a ≡ got (scoped inner) w
scoped_value inner w v a begins is = is ∙ ap (got inner) begins ∙ sym (got_scoped inner w)

pub scoped_walked : {A : Type 0} (inner : Walk A) (w v u x : Written) → v ≡ remembering w → u ≡ run inner v → x ≡ restored u → x ≡ run (scoped inner) w
scoped_walked inner w v u x begins was ends = ends ∙ ap restored (was ∙ ap (run inner) begins) ∙ sym (run_scoped inner w)

module _ (around : Around) (place : Place) (b : Bool) (spots : List code.Spot) (values : List Indices) where
  -- those that are left from an index on
  abbrev pub rest_written : ℕ → Walk Wrote
  rest_written k = each_written place (map (spot_of around) (drop k spots)) b (drop k values)

  module _ (k : ℕ) (s : code.Spot) (i : Indices) (in_spots : k < length spots) (in_values : k < length values) (s_is : s ≡ get_or spots k s)
      (i_is : i ≡ get_or values k i) (w v : Written) (was : v ≡ run (scoped ((spot_of around s).write b i)) w) where
    abbrev one : Walk Wrote
    one = scoped ((spot_of around s).write b i)

    abbrev rest : Walk Wrote
    rest = rest_written (k + 1)

    opened : rest_written k ≡ bind one (λ x. bind rest (λ y. give (both_wrote x y)))
    opened = λ j. each_written place (map (spot_of around) (rest_is spots k s in_spots s_is j)) b (rest_is values k i in_values i_is j)

    pub written_got : (before now : List pending.Left) (f : pending.Left) (a : Wrote) → now ≡ before ++ f ∷ [] → left_of around f ≡ a.left
        → a ≡ got one w
        → written_behind (map (left_of around) now) (got rest v) ≡ written_behind (map (left_of around) before) (got (rest_written k) w)
    written_got before now f a grown owes is =
        let fs = map (left_of around) before in
        let y = got rest v in
        ap (λ (l : List pending.Left). written_behind (map (left_of around) l) y) grown
        ∙ ap (λ (l : List (ℕ → Fitted)). written_behind l y) (map-append (left_of around) before (f ∷ []))
        ∙ behind_one fs (left_of around f) y
        ∙ ap (λ (g : ℕ → Fitted). written_behind fs (wrote (both_left g y.left) I.Unit)) owes
        ∙ ap (written_behind fs) (twice_got one rest both_wrote (rest_written k) w v a y opened is was refl)

    pub written_run : run rest v ≡ run (rest_written k) w
    written_run = twice_run one rest both_wrote (rest_written k) w v (run rest v) opened was refl

  -- as many values as targets
  pub even_end : (k : ℕ) → length spots ≤ k → length values ≤ k → rest_written k ≡ gives I.Unit
  even_end k no_spots no_values = λ j. each_written place (map (spot_of around) (all_behind spots k no_spots j)) b (all_behind values k no_values j)

-- more of either
pub uneven_end : (around : Around) (place : Place) (b : Bool) (ss : List code.Spot) (is : List Indices) (k : ℕ) → k ≡ min (length ss) (length is)
    → (length ss ≡ length is → ⊥) → each_written place (map (spot_of around) (drop k ss)) b (drop k is) ≡ wrong_write place
uneven_end around place b [] [] k ends other = absurd (other refl)
uneven_end around place b [] (i ∷ is) zero ends other = refl
uneven_end around place b [] (i ∷ is) (suc k) ends other = absurd (omega (arith, ends))
uneven_end around place b (s ∷ ss) [] zero ends other = refl
uneven_end around place b (s ∷ ss) [] (suc k) ends other = absurd (omega (arith, ends))
uneven_end around place b (s ∷ ss) (i ∷ is) zero ends other = absurd (omega (arith, ends))
uneven_end around place b (s ∷ ss) (i ∷ is) (suc k) ends other =
    uneven_end around place b ss is k (omega (arith, ends)) (λ same. other (omega (arith, same)))
