-- Functions and mappings of a text in which the tables find no failure have signatures.
use Rattle.std.specs.Prelude.{◌≡◌, List, [], ◌∷◌, Some}
use Rattle.sail_syntax.specs.declared.definitions.Def.{Def}
use Rattle.sail_syntax.specs.declared.definitions.Def.TheVariants as D
use Rattle.sail_signatures.specs.declared.signature.Signature.{Signature}
use Rattle.sail_tables.specs.Refused.{signature_in}

-- each function and mapping has a signature
abbrev pub IsSigned : List Def → Def → Type 0
IsSigned text (D.Function place extent name clauses) = (s : Signature) × (signature_in text name.text ≡ Some s)
IsSigned text (D.Mapping place name sides clauses) = (s : Signature) × (signature_in text name.text ≡ Some s)
IsSigned text d = Unit {0}

abbrev pub EachSigned : List Def → List Def → Type 0
EachSigned text [] = Unit {0}
EachSigned text (d ∷ more) = IsSigned text d × EachSigned text more
