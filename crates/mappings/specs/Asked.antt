-- What is asked of a reading of the core, so that an option may stand between a direction and what it gives.
use Rattle.std.specs.Prelude.{◌≡◌, ℕ}
use Rattle.sail_types.specs.declared.types.Typ.{Typ}
use Rattle.sail_types.specs.declared.values.Value.{Value}
use Rattle.sail_types.specs.declared.values.Value.TheVariants as V
use Rattle.sail_core.specs.Run.{Now}
use Rattle.sail_core.specs.Numbers.{Givens}
use Rattle.sail_core.specs.Making.{Making, payload}
use Rattle.sail_core.specs.Meaning.{option_typ}
use Rattle.sail_core.specs.Program.{Sizing}

-- `Some(v)` is a value for itself
abbrev pub some_of : Value → Value
some_of v = V.Union 0 0 v

abbrev pub none_of : Value
none_of = V.Union 0 1 V.Unit

-- one reading z of what another one y gives: what is of a type shows its value, and the payload of an option of a type is of
-- that type
pub record OpensOptions {X : Type 0} (z y : Making X) : Type 0 where
  pub shows : (t : Typ) (v : Value) → z.val (y.fixed t v) ≡ v
  pub part : (t : Typ) (v : Value) → z.part (payload 0 0) (y.fixed (option_typ t) (some_of v)) v ≡ y.fixed t v

-- functions and directions open the options that directions give, and going back in a direction changes nothing but what is opened
pub record KeepsParts {X : Type 0} (sizing : Sizing X) : Type 0 where
  pub functions : (i place : ℕ) (nu : Givens) (d : ℕ) → OpensOptions (sizing.function i place nu) (sizing.direction d)
  pub directions : (e d : ℕ) → OpensOptions (sizing.direction e) (sizing.direction d)
  pub back : (d : ℕ) (before after : Now X)
      → (sizing.direction d).back before after ≡ record after { opened = ((sizing.direction d).back before after).opened }
