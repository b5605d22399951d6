-- Names that can be called in a plain expression mean the same where no function, mapping or overload is.
use Rattle.std.proofs.Common.{◌≡◌, ℕ, List, ap, sym, ◌∙◌, refl, true, false, Option, Some}
use Rattle.sail_names.specs.declared.around.Allowed.{Allowed}
use Rattle.sail_names.specs.declared.around.Allowed.TheVariants.{Plain}
use Rattle.sail_names.specs.declared.names.Global.{Global}
use Rattle.sail_names.specs.declared.names.Global.TheVariants as G
use Rattle.sail_names.specs.Known as Tables
use Rattle.sail_names.specs.Known.{in_measure, is_any, is_global_callee, is_global_construction}
use Rattle.shape_joins.proofs.Order.{no}
use Rattle.shape_rules.specs.declared.callees.Meant.{Meant}
use Rattle.shape_rules.specs.Scopes.{Setting, plainly}
use Rattle.shape_meanings.specs.Naming.{AreKnown, MeantAs}
use Rattle.opening_meanings.specs.Plain.{callee_if, uncalled_meant}

-- in a plain expression what can be called there is left
pub record IsPlain (setting : Setting) (names : Tables.Setting) : Type 0 where
  pub plain : is_any names.allowed ≡ false
  pub left : (name : List ℕ) → is_global_callee Plain (names.known.value name) ≡ true → uncalled_meant (setting.value name) ≡ setting.value name

-- ---- what can be called

called_plainly : (allowed : Allowed) (o : Option Global) → is_any allowed ≡ false → is_global_callee allowed o ≡ true → is_global_callee Plain o ≡ true
called_plainly allowed (Some G.Constructor) plain h = refl
called_plainly allowed (Some G.Builtin) plain h = refl
called_plainly allowed (Some G.StateBuiltin) plain h = no (sym plain ∙ h)
called_plainly allowed (Some (G.Function n)) plain h = no (sym plain ∙ h)
called_plainly allowed (Some (G.Mapping n)) plain h = no (sym plain ∙ h)
called_plainly allowed (Some (G.Direction n)) plain h = no (sym plain ∙ h)
called_plainly allowed (Some (G.Overload ns)) plain h = no (sym plain ∙ h)
called_plainly allowed o plain h = no h

constructed_plainly : (allowed : Allowed) (o : Option Global) → is_any allowed ≡ false → is_global_construction allowed o ≡ true
    → is_global_callee Plain o ≡ true
constructed_plainly allowed (Some G.Constructor) plain h = refl
constructed_plainly allowed (Some (G.Mapping n)) plain h = no (sym plain ∙ h)
constructed_plainly allowed (Some (G.Direction n)) plain h = no (sym plain ∙ h)
constructed_plainly allowed o plain h = no h

pub callee_left : (setting : Setting) (names : Tables.Setting) → IsPlain setting names → (name : List ℕ)
    → is_global_callee names.allowed (names.known.value name) ≡ true → uncalled_meant (setting.value name) ≡ setting.value name
callee_left setting names is name h = is.left name (called_plainly names.allowed (names.known.value name) is.plain h)

pub construction_left : (setting : Setting) (names : Tables.Setting) → IsPlain setting names → (name : List ℕ)
    → is_global_construction names.allowed (names.known.value name) ≡ true → uncalled_meant (setting.value name) ≡ setting.value name
construction_left setting names is name h = is.left name (constructed_plainly names.allowed (names.known.value name) is.plain h)

-- ---- where names are known

meant_left : (names : Tables.Setting) (o : Option Global) (meant : Option Meant) → MeantAs names o meant → is_global_callee Plain o ≡ true
    → uncalled_meant meant ≡ meant
meant_left names (Some G.Constructor) meant m h = ap uncalled_meant m.1 ∙ ap (λ b. callee_if b m.0) m.2 ∙ sym m.1
meant_left names (Some G.Builtin) meant m h = ap uncalled_meant m.1 ∙ sym m.1
meant_left names o meant m h = no h

pub known_plain : (setting : Setting) (names : Tables.Setting) → AreKnown setting names → is_any names.allowed ≡ false → IsPlain setting names
known_plain setting names known plain = record {
  plain = plain;
  left = λ name h. meant_left names (names.known.value name) (setting.value name) (known.values name) h;
}

-- a loop's measure is a plain expression too
pub measure_plain : (setting : Setting) (names : Tables.Setting) → IsPlain setting names → IsPlain (plainly setting) (in_measure names)
measure_plain setting names is = record { plain = refl; left = is.left }
