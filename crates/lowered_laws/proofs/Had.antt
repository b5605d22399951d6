-- Values and the sizes that they have.
use Rattle.std.proofs.Common.{◌≡◌, ◌∙◌, ℤ, Bool, true, false, List, [], ◌∷◌, refl, sym, ap, subst, if◌then◌else◌}
use Rattle.std.specs.Prelude.{◌||◌}
use Rattle.sail_types.specs.Limits.{is_small}
use Rattle.sail_types.specs.Sums.{constant}
use Rattle.row_types.specs.Formulas.{least, most}
use Rattle.sail_core.specs.Values.{int_typ}
use Rattle.sail_types.specs.declared.types.Typ.TheFolds.{fold-roll-Typ}
use Rattle.sail_types.specs.declared.types.Typ.TheOpen as T
use Rattle.sail_types.specs.declared.types.Typ.TheVariants as Y
use Rattle.sail_types.specs.declared.values.Value.{Value, Value-F, out-Value, roll-Value}
use Rattle.sail_types.specs.declared.values.Value.TheFolds.{fold-roll-Value, map-Value}
use Rattle.sail_types.specs.declared.values.Value.TheViews.{roll-out-Value}
use Rattle.sail_types.specs.declared.values.Value.TheOpen as E
use Rattle.sail_types.specs.declared.values.Value.TheVariants as V
use Rattle.size_values.specs.declared.sized.Sized.{Sized, Sized-F, out-Sized, roll-Sized}
use Rattle.size_values.specs.declared.sized.Sized.TheOpen as Z
use Rattle.size_values.specs.declared.sized.Sized.TheVariants as S
use Rattle.size_values.specs.declared.sized.Sized.TheViews.{out-roll-Sized, roll-out-Sized}
use Rattle.size_values.specs.Sized.{UnderConstants, form_sized, typ_sized}
use Rattle.checked_meaning.specs.Fits.{Fits, fits_step, form_fits, has_sizes}
use Rattle.checked_meaning.specs.Items.{Item, fixed_typ, typs}
use Rattle.jib.specs.declared.code.Instruction.{Instruction}
use Rattle.jib.specs.Values.{has}
use Rattle.lowered_pieces.specs.Forms.{dead, is_never, live_code, never_form}
use Rattle.lowered_laws.specs.Simulation.{AllHad, AtWork, Sits}
use Rattle.lowered_laws.proofs.Follows.{no}

-- the code over operands that exist
pub live_is : (ts us : List Sized) (code : List Instruction) → ts ≡ us → dead us ≡ false → live_code ts code ≡ code
live_is ts us code is lives = ap (λ b. if b then [] else code) (ap dead is ∙ lives)

module _ (g : AtWork) where
  abbrev pub fits_in : Value-F Value → Value-F Fits
  fits_in x = map-Value Value Fits (has_sizes g.table) x

  pub fits_form : (v : Value) (s : Sized) → has_sizes g.table v s ≡ form_fits g.table (fits_in (out-Value v)) (out-Sized s)
  fits_form v s =
      ap (λ w. has_sizes g.table w s) (sym (roll-out-Value v)) ∙ ap (λ (f : Fits). f s) (fold-roll-Value Fits (fits_step g.table) (out-Value v))

  pub fits_as_form : (v : Value) (x : Value-F Value) (s : Sized) → roll-Value x ≡ v
      → has_sizes g.table v s ≡ form_fits g.table (fits_in x) (out-Sized s)
  fits_as_form v x s e = ap (λ w. has_sizes g.table w s) (sym e) ∙ ap (λ (f : Fits). f s) (fold-roll-Value Fits (fits_step g.table) x)

  nothing_typ : fixed_typ g.table Y.Unit ≡ S.Unit
  nothing_typ =
      ap (λ t. typ_sized g.table [] t []) (sym Y.rolls-Unit)
      ∙ ap (λ (f : UnderConstants). f []) (fold-roll-Typ UnderConstants (form_sized g.table []) T.Unit)

  unit_had : has_sizes g.table V.Unit (fixed_typ g.table Y.Unit) ≡ true
  unit_had =
      fits_as_form V.Unit E.Unit (fixed_typ g.table Y.Unit) V.rolls-Unit ∙ ap (λ s. form_fits g.table E.Unit (out-Sized s)) nothing_typ
      ∙ ap (form_fits g.table E.Unit) (ap out-Sized (sym S.rolls-Unit) ∙ out-roll-Sized Z.Unit)

  truth_typ : fixed_typ g.table Y.Bool ≡ S.Bool
  truth_typ =
      ap (λ t. typ_sized g.table [] t []) (sym Y.rolls-Bool)
      ∙ ap (λ (f : UnderConstants). f []) (fold-roll-Typ UnderConstants (form_sized g.table []) T.Bool)

  truth_had : (b : Bool) → has_sizes g.table (V.Truth b) (fixed_typ g.table Y.Bool) ≡ true
  truth_had b =
      fits_as_form (V.Truth b) (E.Truth b) (fixed_typ g.table Y.Bool) (V.rolls-Truth b) ∙ ap (λ s. form_fits g.table (E.Truth b) (out-Sized s)) truth_typ
      ∙ ap (form_fits g.table (E.Truth b)) (ap out-Sized (sym S.rolls-Bool) ∙ out-roll-Sized Z.Bool)

  -- ---- with numbers

  pub in_types : (v : Value) (t : Sized) → Sits g v t → has g.m.types v (g.number t) ≡ true
  in_types v t h = g.had v t h.0 h.1

  pub unit_sits : Sits g V.Unit (fixed_typ g.table Y.Unit)
  unit_sits = (unit_had, g.knows.unit)

  pub truth_sits : (b : Bool) → Sits g (V.Truth b) (fixed_typ g.table Y.Bool)
  truth_sits b = (truth_had b, g.knows.truth)

  -- ---- what doesn't exist has no values, and nothing is made of operands of which one has its type

  no_value : (x : Value-F Fits) → form_fits g.table x Z.Never ≡ true → ⊥
  no_value E.Unit h = no h
  no_value x h = no h

  lives_form : (x : Value-F Fits) (z : Sized-F Sized) → form_fits g.table x z ≡ true → never_form z ≡ false
  lives_form x Z.Never h = absurd (no_value x h)
  lives_form x z h = refl

  lives : (v : Value) (t : Sized) → Sits g v t → is_never t ≡ false
  lives v t h = lives_form (fits_in (out-Value v)) (out-Sized t) (sym (fits_form v t) ∙ h.0)

  pub all_live : (xs : List Item) → AllHad g.table g.tables.known xs → dead (typs xs) ≡ false
  all_live [] h = refl
  all_live (x ∷ xs) h = ap (λ b. b || dead (typs xs)) (lives x.val x.typ h.0) ∙ all_live xs h.1

  pub one_lives : (x : Item) → Sits g x.val x.typ → dead (x.typ ∷ []) ≡ false
  one_lives x h = all_live (x ∷ []) (h, tt)

  -- ---- a truth has one type alone, and so has an integer

  is_truth : (z : Sized-F Sized) (b : Bool) → form_fits g.table (E.Truth b) z ≡ true → z ≡ Z.Bool
  is_truth Z.Bool b h = refl
  is_truth z b h = no h

  pub truth_typed : (v : Value) (b : Bool) (s : Sized) → v ≡ V.Truth b → Sits g v s → s ≡ fixed_typ g.table Y.Bool
  truth_typed v b s e had =
      let fits : form_fits g.table (E.Truth b) (out-Sized s) ≡ true = sym (fits_as_form v (E.Truth b) s (V.rolls-Truth b ∙ sym e)) ∙ had.0 in
      sym (roll-out-Sized s) ∙ ap roll-Sized (is_truth (out-Sized s) b fits) ∙ S.rolls-Bool ∙ sym truth_typ

  is_int : (z : Sized-F Sized) (i : ℤ) → form_fits g.table (E.Integer i) z ≡ true → z ≡ Z.Int
  is_int Z.Int i h = refl
  is_int z i h = no h

  integer_typ : fixed_typ g.table int_typ ≡ S.Int
  integer_typ =
      ap (λ t. typ_sized g.table [] t []) (sym (Y.rolls-Range (constant least) (constant most)))
      ∙ ap (λ (f : UnderConstants). f []) (fold-roll-Typ UnderConstants (form_sized g.table []) (T.Range (constant least) (constant most)))

  pub integer_typed : (v : Value) (i : ℤ) (s : Sized) → v ≡ V.Integer i → Sits g v s → s ≡ fixed_typ g.table int_typ
  integer_typed v i s e had =
      let fits : form_fits g.table (E.Integer i) (out-Sized s) ≡ true = sym (fits_as_form v (E.Integer i) s (V.rolls-Integer i ∙ sym e)) ∙ had.0 in
      sym (roll-out-Sized s) ∙ ap roll-Sized (is_int (out-Sized s) i fits) ∙ S.rolls-Int ∙ sym integer_typ

  pub integer_sits : (i : ℤ) → is_small i ≡ true → Sits g (V.Integer i) (fixed_typ g.table int_typ)
  integer_sits i small = (
    fits_as_form (V.Integer i) (E.Integer i) (fixed_typ g.table int_typ) (V.rolls-Integer i)
        ∙ ap (λ s. form_fits g.table (E.Integer i) (out-Sized s)) integer_typ
        ∙ ap (form_fits g.table (E.Integer i)) (ap out-Sized (sym S.rolls-Int) ∙ out-roll-Sized Z.Int) ∙ small,
    g.knows.integer,
  )

  pub integer_small : (v : Value) (i : ℤ) (s : Sized) → v ≡ V.Integer i → Sits g v s → is_small i ≡ true
  integer_small v i s e had =
      let fits : form_fits g.table (E.Integer i) (out-Sized s) ≡ true = sym (fits_as_form v (E.Integer i) s (V.rolls-Integer i ∙ sym e)) ∙ had.0 in
      subst (λ z. form_fits g.table (E.Integer i) z ≡ true) (is_int (out-Sized s) i fits) fits
