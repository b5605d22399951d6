-- A field's place behind others.
use Rattle.std.proofs.Common.{◌≡◌, ℕ, ◌+◌, suc, Option, Some, None, refl, ap, arith}
use Rattle.shape_rules.specs.Targets.{InStruct, one_further}

-- a field behind so many others
abbrev pub further : ℕ → Option InStruct → Option InStruct
further n None = None
further n (Some f) = Some (record { place = n + f.place; typ = f.typ })

pub further_one : (n : ℕ) (o : Option InStruct) → further (n + 1) o ≡ further n (one_further o)
further_one n None = refl
further_one n (Some f) =
    let same : (n + 1) + f.place ≡ n + suc f.place = omega arith in
    ap (λ (k : ℕ). Some (record { place = k; typ = f.typ })) same
