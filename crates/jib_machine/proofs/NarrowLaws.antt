-- No type of a valid module is wider than a word.
use Rattle.std.proofs.Common.{◌≡◌, ℕ, List, [], ◌∷◌, ◌+◌, refl, ap, ◌∙◌, true}
use Rattle.std.specs.Prelude.{◌&&◌}
use Rattle.jib.specs.declared.types.ValueType.{ValueType}
use Rattle.jib.specs.declared.types.ValueType.TheVariants as T
use Rattle.jib.specs.declared.code.Module.{Module}
use Rattle.jib.specs.Operands.{each}
use Rattle.jib.specs.Valid.{valid, typ_right, is_typ, all_typs, function_right, opening_right}
use Rattle.jib.proofs.ValidLaws.{left_of, right_of}
use Rattle.jib_values.specs.Widths.{is_narrow, all_narrow}

right_narrow : (n : ℕ) (t : ValueType) → typ_right n t ≡ true → is_narrow t ≡ true
right_narrow n (T.Bits w) h = h
right_narrow n t h = refl

rights_narrow : (n : ℕ) (ts : List ValueType) → each typ_right n ts ≡ true → all_narrow ts ≡ true
rights_narrow n [] h = refl
rights_narrow n (t ∷ ts) h =
    ap (λ b. b && all_narrow ts) (right_narrow n t (left_of (typ_right n t) (each typ_right (n + 1) ts) h))
    ∙ rights_narrow (n + 1) ts (right_of (typ_right n t) (each typ_right (n + 1) ts) h)

pub valid_narrow : (m : Module) → valid m ≡ true → all_narrow m.types ≡ true
valid_narrow m v =
    rights_narrow 0 m.types (left_of (each typ_right 0 m.types) (is_typ m 0 m.exception) (left_of _ (all_typs m m.registers)
    (left_of _ (each (function_right m) 0 m.functions) (left_of _ (each (opening_right m) 0 m.openings) v))))
