-- Values and types all of whose sizes are constants for certain (Sail language manual, "Bitvectors", "Vectors", "Type variables").
use Rattle.std.specs.Prelude.{ℕ, Bool, true, ◌&&◌, [], length}
use Rattle.sail_types.specs.Zero.{deepest}
use Rattle.sail_types.specs.declared.table.Types.{Types}
use Rattle.value_indices.specs.declared.indices.Indices.{Indices, fold-Indices}
use Rattle.value_indices.specs.declared.indices.Indices.TheOpen as W
use Rattle.value_indices.specs.declared.indices.Indices.TheOpen.{Indices-F, Reading-F}
use Rattle.value_indices.specs.declared.indices.Reading.{Reading, fold-Reading}
use Rattle.size_values.specs.declared.constants.Constant.{Constant}
use Rattle.told_sizes.specs.Exact.{all_of, exact_constants, is_exact, is_one_of, named_passes, or_own, typ_passes}

-- ---- values of some indices, and types of the walk, where the function around them has so many Type variables

abbrev pub indices_pass : Types → ℕ → (ℕ → Constant) → Indices-F Bool Bool → Bool
indices_pass types m of (W.Bits t) = is_exact of t
indices_pass types m of (W.List r) = r
indices_pass types m of (W.Vector t r) = is_exact of t && r
indices_pass types m of (W.Tuple bs) = all_of bs
indices_pass types m of (W.Named u args rs) = all_of rs && named_passes types (typ_passes types deepest) of u args (length rs) []
indices_pass types m of (W.Variable i) = is_one_of i m
indices_pass types m of form = true

abbrev pub readings_pass : Types → ℕ → (ℕ → Constant) → Reading-F Bool Bool → Bool
readings_pass types m of (W.Of t is rs) = all_of rs && typ_passes types deepest t [] (or_own m (length rs)) (exact_constants of is)
readings_pass types m of (W.Widened i) = i
readings_pass types m of (W.Parts rs) = all_of rs
readings_pass types m of W.Hole = true

abbrev pub value_passes : Types → ℕ → (ℕ → Constant) → Indices → Bool
value_passes types m of = fold-Indices Bool Bool (indices_pass types m of) (readings_pass types m of)

abbrev pub reading_passes : Types → ℕ → (ℕ → Constant) → Reading → Bool
reading_passes types m of = fold-Reading Bool Bool (indices_pass types m of) (readings_pass types m of)
