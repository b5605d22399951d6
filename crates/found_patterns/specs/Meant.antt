-- What the names in a pattern mean, as the test of patterns wants it: members that their enums have, constructors over as many parts as they take, and
-- widths that are numbers over the own variables of what is around.
use Rattle.std.specs.Prelude.{◌≡◌, ℕ, nat_lt, true, List, [], length, Some}
use Rattle.sail_base.specs.declared.kind.Kind.TheVariants as Sort
use Rattle.sail_syntax.specs.declared.types.TyExp.{TyExp}
use Rattle.sail_types.specs.Named.{members}
use Rattle.sail_types.specs.declared.numbers.Index.{Index}
use Rattle.sail_types.specs.declared.numbers.Num.{Num}
use Rattle.sail_types.specs.declared.table.Types.{Types}
use Rattle.sail_types.specs.declared.types.Typ.{Typ}
use Rattle.sail_core.specs.declared.tree.Callee.TheVariants as C
use Rattle.sail_names.specs.Known as Tables
use Rattle.sail_names.specs.Known.{is_construction}
use Rattle.sail_names.specs.Patterns.{type_failures}
use Rattle.shape_rules.specs.declared.callees.Candidate.{Candidate}
use Rattle.shape_rules.specs.declared.callees.Doing.TheVariants as D
use Rattle.shape_rules.specs.declared.callees.Meant.TheVariants as M
use Rattle.shape_rules.specs.Patterns.{Widths, construct_width, width_of}
use Rattle.shape_rules.specs.Scopes.{Setting}
use Rattle.shape_rules.specs.Written.{typ_in}
use Rattle.pattern_laws.specs.Standing.{constructor_stands, number_owns}

-- members and constructors, where a pattern can name them
pub record NamesStand (types : Types) (setting : Setting) (names : Tables.Setting) : Type 0 where
  pub members : (name : List ℕ) (e k : ℕ) → setting.value name ≡ Some (M.Member e k) → nat_lt k (length (members types e)) ≡ true
  pub constructors : (name : List ℕ) (f : Candidate) (u k : ℕ) → is_construction names name ≡ true → setting.value name ≡ Some (M.Callee f)
      → f.doing ≡ D.Calls (C.Constructor u k) → constructor_stands types u k (length f.params) ≡ true

module _ (numbers : List Index) where
  -- widths of what a mapping or a direction matches, and of types that are written
  pub record WidthsOwn (setting : Setting) (names : Tables.Setting) : Type 0 where
    pub heads : (name : List ℕ) (n : Num) → is_construction names name ≡ true → construct_width setting (setting.value name) ≡ Some n
        → number_owns numbers n ≡ true
    pub typs : (typ : TyExp) (t : Typ) (n : Num) → type_failures Sort.Type typ names ≡ [] → typ_in setting.within typ ≡ Some t → width_of t ≡ Some n
        → number_owns numbers n ≡ true

  -- of bare names, where they are known
  abbrev pub WidthsStand : Widths → Type 0
  WidthsStand widths = (name : List ℕ) (n : Num) → widths name ≡ Some n → number_owns numbers n ≡ true
