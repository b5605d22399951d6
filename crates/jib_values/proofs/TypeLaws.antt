-- Which values belong to types.
use Rattle.std.proofs.Common.{◌≡◌, ◌≢◌, ℕ, zero, suc, ◌-◌, ◌+◌, ◌<◌, ◌≤◌, Option, Some, Bor, sym, arith, List, [], ◌∷◌, map, length, refl, ap, ◌∙◌, Bool}
use Rattle.std.proofs.Common.{true, false}
use Rattle.std.specs.Prelude.{◌&&◌, nat_le, slice_get}
use Rattle.std.proofs.lemmas.Bool.Decides.{nat_tests}
use Rattle.std.specs.Option.{option_copied}
use Rattle.sail_types.specs.declared.values.Value.{Value}
use Rattle.jib.specs.declared.types.ValueType.{ValueType}
use Rattle.jib.specs.declared.types.ValueType.TheVariants as T
use Rattle.jib.specs.Values.{has, each_has, form_zero, zero_form, zero_within}
use Rattle.jib.proofs.ValidLaws.{left_of, right_of}
use Rattle.jib_values.specs.Widths.{is_narrow, all_narrow}

no_and : (b : Bool) → (b && false) ≡ false
no_and true = refl
no_and false = refl

pub unlike : (types : List ValueType) (vs : List Value) (ts : List ℕ) → length vs ≢ length ts → each_has (map (has types) vs) ts ≡ false
unlike types [] [] h = absurd (h refl)
unlike types [] (t ∷ ts) h = refl
unlike types (v ∷ vs) [] h = refl
unlike types (v ∷ vs) (t ∷ ts) h = ap (λ b. has types v t && b) (unlike types vs ts (λ e. h (ap suc e))) ∙ no_and (has types v t)

pub zero_found : (ts : List ValueType) (d k : ℕ) (o : Option (Bor ValueType)) (r : Bor ValueType) → 0 < d → option_copied o ≡ slice_get ts k → o ≡ Some r
    → form_zero (zero_within ts (d - 1)) r.now ≡ zero_within ts d k
zero_found ts zero k o r h e is = absurd (omega (arith, h))
zero_found ts (suc d) k o r h e is =
    let n : suc d - 1 ≡ d = omega arith in
    ap (λ q. form_zero (zero_within ts q) r.now) n ∙ ap (zero_form (zero_within ts d)) (sym (ap option_copied is) ∙ e)

-- ---- no type is wider than a word

narrow_get : (ts : List ValueType) (k : ℕ) (t : ValueType) → all_narrow ts ≡ true → slice_get ts k ≡ Some t → is_narrow t ≡ true
narrow_get [] k t h e = cc
narrow_get (x ∷ ts) zero t h e =
    let is : x ≡ t = cc in
    sym (ap is_narrow is) ∙ left_of (is_narrow x) (all_narrow ts) h
narrow_get (x ∷ ts) (suc k) t h e = narrow_get ts k t (right_of (is_narrow x) (all_narrow ts) h) e

pub narrow_found : (ts : List ValueType) (k : ℕ) (o : Option (Bor ValueType)) (r : Bor ValueType) → all_narrow ts ≡ true
    → option_copied o ≡ slice_get ts k → o ≡ Some r → is_narrow r.now ≡ true
narrow_found ts k o r h e is = narrow_get ts k r.now h (sym e ∙ ap option_copied is)

narrow_bits : (w : ℕ) → nat_le w 128 ≡ true → w ≤ 128
narrow_bits w h = grind (arith, nat_tests)

pub narrow_word : (t : ValueType) (w : ℕ) → t ≡ T.Bits w → is_narrow t ≡ true → w ≤ 128
narrow_word t w e h = narrow_bits w (sym (ap is_narrow e) ∙ h)
