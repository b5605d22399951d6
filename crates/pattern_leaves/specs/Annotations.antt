-- Types that are written at names (Sail language manual, "Pattern matching").
use Rattle.std.specs.Prelude.{Some, if◌then◌else◌}
use Rattle.std.specs.Str.{bytes_eq}
use Rattle.value_indices.specs.declared.indices.Naming.{Naming, Naming-F}
use Rattle.value_indices.specs.declared.indices.Naming.TheOpen as G
use Rattle.value_indices.specs.declared.indices.Reading.{Reading}
use Rattle.pattern_leaves.specs.declared.names.Bound.{Bound}

-- the type that is written at a name
abbrev pub written_at : Naming-F Naming → Reading → Bound → Bound
written_at (G.Named name) r b = if bytes_eq b.name name then record b { written = Some r } else b
written_at form r b = b
