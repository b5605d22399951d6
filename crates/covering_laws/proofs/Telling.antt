-- A value of a type that tells its sizes is opened at the type that it tells.
use Rattle.std.proofs.Common.{◌≡◌, ◌∙◌, ap, sym, refl, subst, ℕ, true, length}
use Rattle.sail_types.specs.Numbers.{Positive}
use Rattle.sail_types.specs.declared.table.Types.{Types}
use Rattle.sail_types.specs.declared.values.Value.{Value}
use Rattle.value_indices.specs.declared.indices.Indices.{Indices}
use Rattle.value_indices.specs.declared.indices.Indices.TheOpen as W
use Rattle.value_indices.specs.declared.indices.Indices.TheOpen.{Reading-F}
use Rattle.value_indices.specs.declared.indices.Indices.TheViews.{roll-out-Reading}
use Rattle.value_indices.specs.declared.indices.Reading.{Reading, out-Reading, roll-Reading}
use Rattle.value_indices.specs.declared.indices.Reading.TheVariants as R
use Rattle.value_laws.specs.Belonging.{Integers, standing, is_of}
use Rattle.size_values.specs.declared.constants.Constant.{Constant}
use Rattle.size_laws.specs.Told.{form_reading_told, reading_told}
use Rattle.size_laws.proofs.Opening.{opening_keeps_sizes}
use Rattle.size_laws.proofs.Telling.{opening_tells_sizes}
use Rattle.soundness_steps.specs.Works.{Work}
use Rattle.soundness_steps.specs.Noted.{known, OpensAs}
use Rattle.told_sizes.specs.Exact.{form_reading_tells, reading_tells}
use Rattle.exact_sizes.specs.Laws.{Stands}
use Rattle.exact_sizes.proofs.Settling.{types_settle}
use Rattle.exact_sizes.proofs.Telling.{form_of_tells}

module _ (types : Types) (past : Positive) (work : Work) (f : Integers) (of : ℕ → Constant) (stands : Stands of f) where
  abbrev Fits : Reading → Type 0
  Fits q = (v : Value) → is_of types (standing past f) work.types q v ≡ true → OpensAs types past work f q v (reading_told types work.own (known f) q v)

  form_fits : (x : Reading-F Indices Reading) (q : Reading) → out-Reading q ≡ x → roll-Reading x ≡ q
      → form_reading_tells types (length work.own) of q x ≡ true → Fits q
  form_fits (W.Of t is rs) q o e h =
      subst Fits (sym (R.rolls-Of t is rs) ∙ e) (λ v belongs. record {
        each = λ tells name facts n had.
            opening_tells_sizes types past f work.types work.own t is rs (form_of_tells types work.own (length work.own) f of stands t is rs h) v belongs
            tells name facts n had;
      })
  form_fits x q o e h = λ v belongs. record {
    each = λ tells name facts n had. ap (λ (y : Reading-F Indices Reading). form_reading_told types work.own (known f) y q v) o
        ∙ sym (opening_keeps_sizes types work.own (known f) q (types_settle types work.own (length work.own) f of stands q h) tells name facts n);
  }

  pub told_fits : (q : Reading) → reading_tells types (length work.own) of q ≡ true → Fits q
  told_fits q h = form_fits (out-Reading q) q refl (roll-out-Reading q) h
