-- What is entered where directions of mappings are asked.
use Rattle.std.specs.Prelude.{ℕ, ◌+◌, List, [], ◌∷◌, nat_eq, if◌then◌else◌}
use Rattle.sail_types.specs.declared.table.Types.{Types}
use Rattle.sail_core.specs.declared.model.Direction.{Direction}
use Rattle.sail_core.specs.declared.tree.Core.{out-Core}
use Rattle.sail_core.specs.declared.tree.Kind.{Kind}
use Rattle.sail_core.specs.declared.tree.Kind.TheVariants as K
use Rattle.sail_core.specs.Meaning.{option_typ}
use Rattle.size_values.specs.declared.sized.Sized.{Sized}
use Rattle.size_values.specs.declared.sized.Sized.TheVariants as S
use Rattle.checked_meaning.specs.Items.{fixed_typ}
use Rattle.lowered_steps.specs.declared.setting.Mapped.{Mapped}

-- what an option holds that a body of this kind gives, and the option
abbrev pub payload_in : Types → Kind → Sized
payload_in types (K.Optional t) = fixed_typ types t
payload_in types kind = S.Never

abbrev pub option_in : Types → Kind → Sized
option_in types (K.Optional t) = fixed_typ types (option_typ t)
option_in types kind = S.Never

-- of a direction which is the function of this number
abbrev pub mapped_by : Types → ℕ → Direction → Mapped
mapped_by types number m = record {
  function = number;
  takes = fixed_typ types m.parameter;
  gives = option_in types (out-Core m.body).kind;
  payload = payload_in types (out-Core m.body).kind;
}

-- where a direction stands among these; behind all where it is none of them
abbrev pub place_in : List ℕ → ℕ → ℕ
place_in [] d = 0
place_in (x ∷ xs) d = if nat_eq d x then 0 else place_in xs d + 1

-- of the directions from the d-th on, the functions of which stand in this order
abbrev pub mapped_from : Types → List ℕ → ℕ → List Direction → List Mapped
mapped_from types order d [] = []
mapped_from types order d (m ∷ ms) = mapped_by types (place_in order d) m ∷ mapped_from types order (d + 1) ms
