use Rattle.std.proofs.Common.{◌≡◌, ◌+◌, ◌*◌, map}
use Rattle.value_indices.specs.Walking.{got, run, seen}
use Rattle.pattern_leaves.specs.Settings.{around_of}
use Rattle.expression_forms.specs.Spots.{each_written, left_of, spot_of}
use Rattle.expression_forms.proofs.SpotMasses.{spot_mass, spot_masses}
use Rattle.expression_forms.proofs.Tuples.{rest_written, written_behind}
use Rattle.expression_forms.proofs.spots.+spot_write.Given as goal

abbrev pub decreases-Spot::write : goal.decreases-Spot::write
decreases-Spot::write l = 2 * spot_mass l.self.now

abbrev pub decreases-write_tuple : goal.decreases-write_tuple
decreases-write_tuple l = 2 * spot_masses l.spots.now + 5

abbrev pub decreases-write_each : goal.decreases-write_each
decreases-write_each l = 2 * spot_masses l.spots.now + 4

abbrev pub invariant-write_each-loop-index : goal.invariant-write_each-loop-index
invariant-write_each-loop-index l =
    let around = around_of l.around in
    let rest = rest_written around l.place l.is_nested l.spots l.values l.index in
    let all = each_written l.place (map (spot_of around) l.spots) l.is_nested l.values in
    record {
      value : written_behind (map (left_of around) l.lefts) (got rest (seen l.walking)) ≡ got all (seen l.fn.walking);
      walked : run rest (seen l.walking) ≡ run all (seen l.fn.walking);
    }
