-- The type `option`: what its constructors hold, and that a direction of a mapping may give one for what it gave.
use Rattle.std.proofs.Common.{◌≡◌, ◌∙◌, ℕ, true, List, [], ◌∷◌, refl, ap, sym}
use Rattle.std.specs.Prelude.{◌&&◌, Option, nat_eq, slice_get}
use Rattle.sail_types.specs.Named.{form_constructors, in_form, payload as payload_type, typ_of}
use Rattle.sail_types.specs.declared.table.Types.{Types}
use Rattle.sail_types.specs.declared.types.Typ.{Typ}
use Rattle.sail_types.specs.declared.types.Typ.TheFolds.{fold-roll-Typ}
use Rattle.sail_types.specs.declared.types.Typ.TheOpen as T
use Rattle.sail_types.specs.declared.types.Typ.TheVariants as Y
use Rattle.sail_types.specs.declared.values.Value.{Value}
use Rattle.sail_types.specs.declared.values.Value.TheFolds.{fold-roll-Value}
use Rattle.sail_types.specs.declared.values.Value.TheOpen as W
use Rattle.sail_types.specs.declared.values.Value.TheVariants as V
use Rattle.sail_syntax.specs.declared.definitions.Def.{Def}
use Rattle.sail_core.specs.Making.{payload}
use Rattle.sail_core.specs.Meaning.{option_typ}
use Rattle.size_values.specs.Sized.{UnderConstants, form_sized, typ_sized}
use Rattle.size_values.specs.declared.constants.Constant.{Constant}
use Rattle.size_values.specs.declared.sized.Sized.{Sized, out-Sized}
use Rattle.size_values.specs.declared.sized.Sized.TheOpen as Z
use Rattle.size_values.specs.declared.sized.Sized.TheVariants as S
use Rattle.size_values.specs.declared.sized.Sized.TheViews.{out-roll-Sized}
use Rattle.checked_meaning.specs.Checked.{Cases, Checks, checked, checking}
use Rattle.checked_meaning.specs.Fits.{Fits, fits_step, form_fits, has_sizes}
use Rattle.checked_meaning.specs.Items.{fixed_typ, item, part_typ, payload_of, payload_typ}
use Rattle.known_texts.proofs.Values.{option_first}
use Rattle.text_progress.specs.Laws.{core_of}
use Rattle.mappings.specs.Asked.{KeepsParts, OpensOptions}
use Rattle.safe_models.specs.Options.{OptionFirst}

module _ (types : Types) (first : OptionFirst types) where
  -- an option of a type
  option_is : (t : Typ) → fixed_typ types (option_typ t) ≡ S.Named 0 [] (fixed_typ types t ∷ [])
  option_is t =
      ap (λ u. typ_sized types [] u []) (sym (Y.rolls-Named 0 [] (t ∷ [])))
      ∙ ap (λ (f : UnderConstants). f []) (fold-roll-Typ UnderConstants (form_sized types []) (T.Named 0 [] (t ∷ [])))

  option_out : (t : Typ) → out-Sized (fixed_typ types (option_typ t)) ≡ Z.Named 0 [] (fixed_typ types t ∷ [])
  option_out t =
      ap out-Sized (option_is t ∙ sym (S.rolls-Named 0 [] (fixed_typ types t ∷ []))) ∙ out-roll-Sized (Z.Named 0 [] (fixed_typ types t ∷ []))

  -- its argument stands for itself
  argument : (s : Sized) (cs : List Constant) → typ_sized types (s ∷ []) (Y.Variable 0) cs ≡ s
  argument s cs =
      ap (λ u. typ_sized types (s ∷ []) u cs) (sym (Y.rolls-Variable 0))
      ∙ ap (λ (f : UnderConstants). f cs) (fold-roll-Typ UnderConstants (form_sized types (s ∷ [])) (T.Variable 0))

  some_payload : (s : Sized) → payload_of types [] (s ∷ []) (payload_type types 0 0) ≡ s
  some_payload s = ap (payload_of types [] (s ∷ [])) first.some ∙ argument s []

  nothing : (own : List Sized) (cs : List Constant) → typ_sized types own Y.Unit cs ≡ S.Unit
  nothing own cs =
      ap (λ u. typ_sized types own u cs) (sym Y.rolls-Unit) ∙ ap (λ (f : UnderConstants). f cs) (fold-roll-Typ UnderConstants (form_sized types own) T.Unit)

  none_payload : (s : Sized) → payload_of types [] (s ∷ []) (payload_type types 0 1) ≡ S.Unit
  none_payload s = ap (payload_of types [] (s ∷ [])) first.none ∙ nothing (s ∷ []) []

  part_is : (t : Typ) → part_typ types (payload 0 0) (fixed_typ types (option_typ t)) ≡ fixed_typ types t
  part_is t = ap (payload_typ types 0 0) (option_out t) ∙ some_payload (fixed_typ types t)

  -- ---- values of options

  union_fits : (c : ℕ) (v : Value) (s : Sized) → has_sizes types (V.Union 0 c v) s ≡ form_fits types (W.Union 0 c (has_sizes types v)) (out-Sized s)
  union_fits c v s =
      ap (λ u. has_sizes types u s) (sym (V.rolls-Union 0 c v)) ∙ ap (λ (f : Fits). f s) (fold-roll-Value Fits (fits_step types) (W.Union 0 c v))

  pub somes : (t : Typ) (v : Value) → has_sizes types v (fixed_typ types t) ≡ true → has_sizes types (V.Union 0 0 v) (fixed_typ types (option_typ t)) ≡ true
  somes t v h =
      union_fits 0 v (fixed_typ types (option_typ t)) ∙ ap (form_fits types (W.Union 0 0 (has_sizes types v))) (option_out t)
      ∙ ap (λ s. nat_eq 0 0 && has_sizes types v s) (some_payload (fixed_typ types t)) ∙ h

  unit_fits : has_sizes types V.Unit S.Unit ≡ true
  unit_fits =
      ap (λ u. has_sizes types u S.Unit) (sym V.rolls-Unit) ∙ ap (λ (f : Fits). f S.Unit) (fold-roll-Value Fits (fits_step types) W.Unit)
      ∙ ap (form_fits types W.Unit) (ap out-Sized (sym S.rolls-Unit) ∙ out-roll-Sized Z.Unit)

  pub none_has : (t : Typ) → has_sizes types (V.Union 0 1 V.Unit) (fixed_typ types (option_typ t)) ≡ true
  none_has t =
      union_fits 1 V.Unit (fixed_typ types (option_typ t)) ∙ ap (form_fits types (W.Union 0 1 (has_sizes types V.Unit))) (option_out t)
      ∙ ap (λ s. nat_eq 0 0 && has_sizes types V.Unit s) (none_payload (fixed_typ types t)) ∙ unit_fits

  -- ---- the reading in which values carry their types opens them

  opens : (cases more : Cases) → OpensOptions (checked types cases) (checked types more)
  opens cases more = record { shows = λ t v. refl; part = λ t v. ap (λ s. item s v) (part_is t) }

pub keeps_parts : (k : Checks) → OptionFirst k.types → KeepsParts (checking k)
keeps_parts k first = record {
  functions = λ i place nu d. opens k.types first (k.function i place nu) (k.direction d);
  directions = λ e d. opens k.types first (k.direction e) (k.direction d);
  back = λ d before after. refl;
}

-- ---- of texts

pub options_first : (text : List Def) (cycle : List ℕ → Option ℕ) → OptionFirst (core_of text cycle).types
options_first text cycle = record {
  some = ap (λ o. typ_of (slice_get (in_form [] form_constructors o) 0)) (option_first text);
  none = ap (λ o. typ_of (slice_get (in_form [] form_constructors o) 1)) (option_first text);
}
