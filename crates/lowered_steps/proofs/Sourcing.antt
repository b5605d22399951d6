-- Operands in hand as what an instruction reads, in the order in which it takes them.
use Rattle.std.proofs.Common.{◌≡◌, ◌∙◌, ◌⊎◌, inl, inr, ℕ, zero, suc, ◌+◌, true, List, [], ◌∷◌, ◌++◌, map, refl, sym, ap, subst}
use Rattle.std.proofs.Common.{◌<◌, append_assoc, length}
use Rattle.std.proofs.Common.{append-nil}
use Rattle.std.specs.Prelude.{OnOk, Result, reverse, slice_set}
use Rattle.std.proofs.lemmas.List.{reverse-append}
use Rattle.std.proofs.lemmas.Result.{on_ok_weaker}
use Rattle.size_values.specs.declared.sized.Sized.{Sized}
use Rattle.jib.specs.declared.code.Source.{Source}
use Rattle.jib.specs.declared.code.Source.TheVariants as R
use Rattle.jib.specs.laws.Ways.{In}
use Rattle.lowered_slots.specs.declared.slots.Slot.{Slot}
use Rattle.lowered_slots.specs.Slots.{name_in}
use Rattle.lowered_pieces.specs.declared.coding.Coding.{Coding}
use Rattle.lowered_pieces.specs.Emitted.{Begins, Grows, Sourced}
use Rattle.lowered_pieces.specs.Forms.{numbers_of, set_fields, unit_source}
use Rattle.lowered_pieces.specs.Moves.{sources}
use Rattle.lowered_pieces.specs.Places.{Kit, Naming, Temp}
use Rattle.lowered_pieces.proofs.Emitting.{begins_here, sourced_both, sourced_lasts}
use Rattle.lowered_steps.specs.declared.making.Order.{Order as Ordering}
use Rattle.lowered_steps.specs.declared.making.Order.TheVariants as W
use Rattle.lowered_steps.specs.declared.setting.Setting.{Setting}
use Rattle.lowered_steps.specs.Makers.{all_slots, order_of}
use Rattle.lowered_steps.specs.Setting.{kit_for, number_for}

pub sourced_as : (ss : List Slot) (rs : List Source) (f g : Naming → List Source) → ((name : Naming) → f name ≡ g name) → Sourced ss rs f → Sourced ss rs g
sourced_as ss rs f g same s = record { same = λ ys b. s.same ys b ∙ same (name_in ys); there = s.there }

pub sourced_none : (ss : List Slot) → Sourced ss [] (λ name. [])
sourced_none ss = record { same = λ ys b. refl; there = λ k i. absurd i }

module _ (setting : Setting) where
  abbrev hands : ℕ → List Sized → Naming → List Source
  hands temp ts name = sources (kit_for setting name) temp (numbers_of (kit_for setting name) (number_for setting) ts)

  pub sources_done : (ss : List Slot) (rs : List Source) (by : Naming → List Source) (temp : ℕ) (ts : List Sized) → ts ≡ [] → Sourced ss rs by
      → Sourced ss rs (λ name. by name ++ hands temp ts name)
  sources_done ss rs by temp ts none s =
      sourced_as ss rs by (λ name. by name ++ hands temp ts name)
      (λ name. sym (append-nil (by name)) ∙ ap (λ us. by name ++ hands temp us name) (sym none)) s

  pub sources_more : {T E : Type 0} (r : Result T E) (by : Naming → List Source) (temp next n : ℕ) (t : Sized) (ts us : List Sized) (old a new : Coding)
      (x : Source) (had put made : List Source) → us ≡ t ∷ ts → n ≡ number_for setting t → next ≡ temp + 1 → Sourced old.slots had by → Grows old a
      → Sourced a.slots (x ∷ []) (λ name. R.Slot (name (Temp temp) n) ∷ []) → put ≡ had ++ x ∷ []
      → ((f : Naming → List Source) → Sourced a.slots put f → OnOk r (Sourced new.slots made (λ name. f name ++ hands next ts name)))
      → OnOk r (Sourced new.slots made (λ name. by name ++ hands temp us name))
  sources_more r by temp next n t ts us old a new x had put made all numbered on s g read pushed rest =
      let f : Naming → List Source = λ name. by name ++ R.Slot (name (Temp temp) n) ∷ [] in
      let both : Sourced a.slots (had ++ x ∷ []) f =
      sourced_both a.slots had (x ∷ []) by (λ name. R.Slot (name (Temp temp) n) ∷ []) (sourced_lasts old.slots a.slots had by g.slots s) read in
      let h : OnOk r (Sourced new.slots made (λ name. f name ++ hands next ts name)) = rest f (subst (λ rs. Sourced a.slots rs f) (sym pushed) both) in
      on_ok_weaker r (λ (y : Sourced new.slots made (λ name. f name ++ hands next ts name)).
      sourced_as new.slots made (λ name. f name ++ hands next ts name) (λ name. by name ++ hands temp us name)
      (λ name.
      append_assoc (by name) (R.Slot (name (Temp temp) n) ∷ []) (hands next ts name)
      ∙ ap (λ k. by name ++ R.Slot (name (Temp temp) k) ∷ hands next ts name) numbered
      ∙ ap (λ k. by name ++ R.Slot (name (Temp temp) (number_for setting t)) ∷ hands k ts name) on
      ∙ ap (λ vs. by name ++ hands temp vs name) (sym all)) y) h

-- ---- all are slots

hands_slots : (kit : Kit) (n : ℕ) (ns : List ℕ) → all_slots (sources kit n ns) ≡ true
hands_slots kit n [] = refl
hands_slots kit n (t ∷ ns) = hands_slots kit (n + 1) ns

pub slots_in : (ss : List Slot) (rs : List Source) (kit : Naming → Kit) (n : ℕ) (ns : Naming → List ℕ)
    → Sourced ss rs (λ name. sources (kit name) n (ns name)) → all_slots rs ≡ true
slots_in ss rs kit n ns s = ap all_slots (s.same ss (begins_here ss)) ∙ hands_slots (kit (name_in ss)) n (ns (name_in ss))

-- ---- what is read in another order

in_both : (k : ℕ) (xs ys : List Source) → In k (xs ++ ys) → In k xs ⊎ In k ys
in_both k [] ys i = inr i
in_both k (R.Slot j ∷ xs) ys (inl e) = inl (inl e)
in_both k (R.Slot j ∷ xs) ys (inr i) = by (in_both k xs ys i)
  where
    by : In k xs ⊎ In k ys → ((k ≡ j) ⊎ In k xs) ⊎ In k ys
    by (inl e) = inl (inr e)
    by (inr e) = inr e
in_both k (R.Register r ∷ xs) ys i = in_both k xs ys i
in_both k (R.Let o ∷ xs) ys i = in_both k xs ys i
in_both k (R.Constant t v ∷ xs) ys i = in_both k xs ys i

in_here : (k : ℕ) (x : Source) (xs : List Source) → In k (x ∷ []) → In k (x ∷ xs)
in_here k (R.Slot j) xs (inl e) = inl e
in_here k (R.Slot j) xs (inr i) = absurd i
in_here k (R.Register r) xs i = absurd i
in_here k (R.Let o) xs i = absurd i
in_here k (R.Constant t v) xs i = absurd i

in_later : (k : ℕ) (x : Source) (xs : List Source) → In k xs → In k (x ∷ xs)
in_later k (R.Slot j) xs i = inr i
in_later k (R.Register r) xs i = i
in_later k (R.Let o) xs i = i
in_later k (R.Constant t v) xs i = i

in_front : (k : ℕ) (x : Source) (xs : List Source) → In k (x ∷ xs) → In k (x ∷ []) ⊎ In k xs
in_front k x xs i = in_both k (x ∷ []) xs i

in_reverse : (k : ℕ) (xs : List Source) → In k (reverse xs) → In k xs
in_reverse k [] i = i
in_reverse k (x ∷ xs) i = by (in_both k (reverse xs) (x ∷ []) (subst (λ us. In k us) (reverse-append (x ∷ []) xs) i)) (λ j. in_reverse k xs j)
  where
    by : In k (reverse xs) ⊎ In k (x ∷ []) → (In k (reverse xs) → In k xs) → In k (x ∷ xs)
    by (inl e) rest = in_later k x xs (rest e)
    by (inr e) rest = in_here k x xs e

in_set : (k : ℕ) (xs : List Source) (j : ℕ) (x : Source) → In k (slice_set xs j x) → In k xs ⊎ In k (x ∷ [])
in_set k [] j x i = absurd i
in_set k (y ∷ xs) zero x i = by (in_front k x xs i)
  where
    by : In k (x ∷ []) ⊎ In k xs → In k (y ∷ xs) ⊎ In k (x ∷ [])
    by (inl e) = inr e
    by (inr e) = inl (in_later k y xs e)
in_set k (y ∷ xs) (suc j) x i = by (in_front k y (slice_set xs j x) i) (λ e. in_set k xs j x e)
  where
    by : In k (y ∷ []) ⊎ In k (slice_set xs j x) → (In k (slice_set xs j x) → In k xs ⊎ In k (x ∷ [])) → In k (y ∷ xs) ⊎ In k (x ∷ [])
    by (inl e) rest = inl (in_here k y xs e)
    by (inr e) rest = of (rest e)
      where
        of : In k xs ⊎ In k (x ∷ []) → In k (y ∷ xs) ⊎ In k (x ∷ [])
        of (inl f) = inl (in_later k y xs f)
        of (inr f) = inr f

in_fields_set : (k : ℕ) (is : List ℕ) (xs old : List Source) → In k (set_fields is xs old) → In k old ⊎ In k xs
in_fields_set k [] [] old i = inl i
in_fields_set k [] (x ∷ xs) old i = inl i
in_fields_set k (j ∷ is) [] old i = inl i
in_fields_set k (j ∷ is) (x ∷ xs) old i = by (in_fields_set k is xs (slice_set old j x) i)
  where
    by : In k (slice_set old j x) ⊎ In k xs → In k old ⊎ In k (x ∷ xs)
    by (inl e) = of (in_set k old j x e)
      where
        of : In k old ⊎ In k (x ∷ []) → In k old ⊎ In k (x ∷ xs)
        of (inl f) = inl f
        of (inr f) = inr (in_here k x xs f)
    by (inr e) = inr (in_later k x xs e)

in_units : (k t : ℕ) (setting : Setting) (name : Naming) (is : List ℕ) → In k (map (λ i. unit_source (kit_for setting name)) is) → ⊥
in_units k t setting name [] i = i
in_units k t setting name (j ∷ is) i = in_units k t setting name is i

in_order : (k : ℕ) (setting : Setting) (name : Naming) (order : Ordering) (xs : List Source) → In k (order_of setting name order xs) → In k xs
in_order k setting name W.Forwards xs i = i
in_order k setting name W.Backwards xs i = in_reverse k xs i
in_order k setting name (W.Fields is) xs i = by (in_fields_set k is.now xs (map (λ j. unit_source (kit_for setting name)) is.now) i)
  where
    by : In k (map (λ j. unit_source (kit_for setting name)) is.now) ⊎ In k xs → In k xs
    by (inl e) = absurd (in_units k 0 setting name is.now e)
    by (inr e) = e

pub sourced_ordered : (setting : Setting) (order : Ordering) (ss : List Slot) (rs us : List Source) (by : Naming → List Source) → Sourced ss rs by
    → ((name : Naming) → us ≡ order_of setting name order rs) → Sourced ss us (λ name. order_of setting name order (by name))
sourced_ordered setting order ss rs us by s is = record {
  same = λ ys b. is (name_in ys) ∙ ap (λ xs. order_of setting (name_in ys) order xs) (s.same ys b);
  there = λ k i. s.there k (in_order k setting (name_in ss) order rs (subst (λ xs. In k xs) (is (name_in ss)) i));
}

-- values that come to the places of their fields, among others
pub sourced_set : (is : List ℕ) (ss ts : List Slot) (xs ys zs : List Source) (f g : Naming → List Source) → Begins ss ts → Sourced ss xs f → Sourced ts ys g
    → zs ≡ set_fields is xs ys → Sourced ts zs (λ name. set_fields is (f name) (g name))
sourced_set is ss ts xs ys zs f g b s y set =
    let x : Sourced ts xs f = sourced_lasts ss ts xs f b s in
    record {
      same = λ vs e. set ∙ ap (λ us. set_fields is us ys) (x.same vs e) ∙ ap (λ us. set_fields is (f (name_in vs)) us) (y.same vs e);
      there = λ k i. by x k (in_fields_set k is xs ys (subst (λ us. In k us) set i));
    }
  where
    by : Sourced ts xs f → (k : ℕ) → In k ys ⊎ In k xs → k < length ts
    by x k (inl e) = y.there k e
    by x k (inr e) = x.there k e
