-- The types of values and of types, all of whose sizes are constants, form by form; and how a type is opened.
use Rattle.std.proofs.Common.{◌≡◌, ℕ, Bool, List, map, sym, ap, ◌∙◌}
use Rattle.value_laws.proofs.Basics.{fronts}
use Rattle.sail_types.specs.declared.numbers.Index.{Index}
use Rattle.sail_types.specs.declared.table.Types.{Types}
use Rattle.sail_types.specs.declared.types.Typ.{Typ, Typ-F, roll-Typ}
use Rattle.sail_types.specs.declared.types.Typ.TheFolds.{fold-roll-Typ, para-roll-Typ, map-Typ}
use Rattle.value_indices.specs.declared.indices.Indices.{Indices, roll-Indices}
use Rattle.value_indices.specs.declared.indices.Indices.TheFolds.{fold-roll-Indices, fold-roll-Reading, map-Indices, map-Reading}
use Rattle.value_indices.specs.declared.indices.Indices.TheOpen as W
use Rattle.value_indices.specs.declared.indices.Indices.TheOpen.{Indices-F, Reading-F}
use Rattle.value_indices.specs.declared.indices.Naming.{Naming}
use Rattle.value_indices.specs.declared.indices.Reading.{Reading, roll-Reading}
use Rattle.value_indices.specs.declared.indices.Reading.TheVariants as R
use Rattle.value_indices.specs.declared.notes.Fact.{Fact}
use Rattle.value_indices.specs.Steps.{Walk}
use Rattle.value_indices.specs.Opening.{form_opened, opening, typ_opened, with_openings, Opening, Inner as Inside}
use Rattle.size_values.specs.declared.constants.Constant.{Constant}
use Rattle.size_values.specs.declared.sized.Sized.{Sized}
use Rattle.size_values.specs.Sized.{UnderConstants, form_sized, form_reading_sized, indices_sized, reading_sized, typ_sized, value_sized}
use Rattle.size_laws.specs.Settled.{constants, stood}

module _ (types : Types) (own : List Sized) (of : ℕ → Constant) where
  abbrev pub in_indices : Indices-F Indices Reading → Indices-F Sized Sized
  in_indices x = map-Indices Indices Reading Sized Sized (value_sized types own of) (reading_sized types own of) x

  pub value_is : (i : Indices) (x : Indices-F Indices Reading) → roll-Indices x ≡ i → value_sized types own of i ≡ indices_sized types own of (in_indices x)
  value_is i x e =
      ap (value_sized types own of) (sym e)
      ∙ fold-roll-Indices Sized Sized (indices_sized types own of) (form_reading_sized types own of) x

  abbrev pub in_reading : Reading-F Indices Reading → Reading-F Sized Sized
  in_reading x = map-Reading Indices Reading Sized Sized (value_sized types own of) (reading_sized types own of) x

  pub reading_is : (r : Reading) (x : Reading-F Indices Reading) → roll-Reading x ≡ r
      → reading_sized types own of r ≡ form_reading_sized types own of (in_reading x)
  reading_is r x e =
      ap (reading_sized types own of) (sym e)
      ∙ fold-roll-Reading Sized Sized (indices_sized types own of) (form_reading_sized types own of) x

  -- a type under what its variables stand for
  pub of_is : (t : Typ) (is : List Index) (rs : List Reading)
      → reading_sized types own of (R.Of t is rs) ≡ typ_sized types (stood types own of rs) t (constants types own of is)
  of_is t is rs = reading_is (R.Of t is rs) (W.Of t is rs) (R.rolls-Of t is rs)

  abbrev pub in_type : List Sized → Typ-F Typ → Typ-F UnderConstants
  in_type ss x = map-Typ Typ UnderConstants (typ_sized types ss) x

  pub typ_is : (ss : List Sized) (t : Typ) (x : Typ-F Typ) (cs : List Constant) → roll-Typ x ≡ t
      → typ_sized types ss t cs ≡ form_sized types ss (in_type ss x) cs
  typ_is ss t x cs e =
      ap (λ u. typ_sized types ss u cs) (sym e) ∙ ap (λ (f : UnderConstants). f cs) (fold-roll-Typ UnderConstants (form_sized types ss) x)

  -- ---- a type, opened

  abbrev pub inside : List Reading → List Typ → List (Typ × Inside)
  inside rs ts = map (λ t. (t, typ_opened (with_openings rs) t)) ts

  abbrev pub opened_form : List Reading → Typ-F Typ → List Index → Bool → Naming → Walk Indices
  opened_form rs x is tells name =
      form_opened (with_openings rs) rs (map-Typ Typ (Typ × Inside) (λ t. (t, typ_opened (with_openings rs) t)) x) is tells name

  pub opens : (rs : List Reading) (x : Typ-F Typ) (is : List Index) (tells : Bool) (name : Naming)
      → typ_opened (with_openings rs) (roll-Typ x) is tells name ≡ opened_form rs x is tells name
  unfolding typ_opened
  opens rs x is tells name =
      ap (λ f. f is tells name) (para-roll-Typ Inside (form_opened (with_openings rs) (map (λ (r : Reading × Opening). r.0) (with_openings rs))) x)
      ∙ ap (λ qs. form_opened (with_openings rs) qs (map-Typ Typ (Typ × Inside) (λ t. (t, typ_opened (with_openings rs) t)) x) is tells name)
      (fronts opening rs)

  -- its indices are of its sized type, where the form's are
  pub by_form : (rs : List Reading) (is : List Index) (cs : List Constant) (t : Typ) (x : Typ-F Typ) → roll-Typ x ≡ t
      → (tells : Bool) (name : Naming) (facts : List Fact) (n : ℕ)
      → value_sized types own of (opened_form rs x is tells name facts n).value
      ≡ form_sized types (stood types own of rs) (in_type (stood types own of rs) x) cs
      → value_sized types own of (typ_opened (with_openings rs) t is tells name facts n).value ≡ typ_sized types (stood types own of rs) t cs
  by_form rs is cs t x e tells name facts n h =
      ap (λ u. value_sized types own of (typ_opened (with_openings rs) u is tells name facts n).value) (sym e)
      ∙ ap (λ (w : Walk Indices). value_sized types own of (w facts n).value) (opens rs x is tells name)
      ∙ h
      ∙ sym (typ_is (stood types own of rs) t x cs e)
