-- Names that no type is written at.
use Rattle.std.proofs.Common.{◌≡◌, List, [], ◌∷◌, map, refl, ap}
use Rattle.value_indices.specs.declared.indices.Naming.{Naming}
use Rattle.value_indices.specs.declared.indices.Naming.TheOpen as G
use Rattle.value_indices.specs.declared.indices.Reading.{Reading}
use Rattle.pattern_leaves.specs.declared.names.Bound.{Bound}
use Rattle.pattern_leaves.specs.Annotations.{written_at}

pub unnamed_writes : (r : Reading) (found : List Bound) → map (written_at G.Unnamed r) found ≡ found
unnamed_writes r [] = refl
unnamed_writes r (b ∷ found) = ap (λ (l : List Bound). b ∷ l) (unnamed_writes r found)

pub parts_write : (ns : List Naming) (r : Reading) (found : List Bound) → map (written_at (G.Parts ns) r) found ≡ found
parts_write ns r [] = refl
parts_write ns r (b ∷ found) = ap (λ (l : List Bound). b ∷ l) (parts_write ns r found)
