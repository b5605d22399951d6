-- The state in which a run begins has each register of each hart at the zero of its type, which belongs to the type.
use Rattle.std.proofs.Common.{◌≡◌, sym, refl, subst, ℕ, zero, suc, pos, true, false, List, [], ◌∷◌, map, replicate, length, Some}
use Rattle.std.specs.Prelude.{unwrap_or}
use Rattle.sail_types.specs.Belongs.{assigned, belongs, no_readings, reading}
use Rattle.sail_types.specs.Numbers.{Positive}
use Rattle.sail_types.specs.Sums.{read}
use Rattle.sail_types.specs.declared.types.Typ.{Typ}
use Rattle.sail_types.specs.declared.values.Value.{Value}
use Rattle.sail_types.specs.declared.values.Value.TheVariants as V
use Rattle.sail_types.specs.Zero.{zero_of}
use Rattle.sail_types.proofs.Substituted.{number_constant}
use Rattle.sail_fits.proofs.Zeroed.{zeros_belong}
use Rattle.model_state.specs.RunState.{fresh_hart, zero_value}
use Rattle.model_state.specs.declared.state.Hart.{Hart}
use Rattle.model_state.specs.declared.state.Register.{Register}
use Rattle.sail_core.specs.declared.model.CoreModel.{CoreModel}
use Rattle.value_laws.proofs.Numbers.{beyond_past, truth_is}
use Rattle.soundness_steps.specs.Works.{Setting}
use Rattle.soundness_steps.specs.States.{AllHarts, AreRegisters, nothing_stands}
use Rattle.whole_runs.specs.Initials.{pure_setting}
use Rattle.accepted_models.specs.Starts.{HaveZeros}
use Rattle.whole_runs.specs.Safe.{nothing_covered}
use Rattle.safe_models.specs.Safe.{FreshStatesFit}

-- where no variable stands for anything, none does as a parameter
nothing_assigned : (past : Positive) → assigned (nothing_stands past) [] ≡ nothing_stands past
nothing_assigned past = λ j. record {
  int = λ i. number_constant (nothing_stands past) (pos 0) j;
  bool = λ i. truth_is (nothing_stands past) false j;
  beyond = λ t. beyond_past past (λ i. pos 0) (read [] t) j;
}

module _ (m : CoreModel) (past : Positive) where
  abbrev set : Setting
  set = pure_setting m past nothing_covered m.registers []

  zero_belongs : (t : Typ) (v : Value) → zero_of m.types t ≡ Some v → belongs m.types v (reading t (nothing_stands past) no_readings) ≡ true
  zero_belongs t v e =
      subst (λ mu. belongs m.types v (reading t mu no_readings) ≡ true) (nothing_assigned past)
      (zeros_belong m.types t v (nothing_stands past) (λ n k. refl) e)

  zeros_are : (rs : List Register) → HaveZeros m.types rs → AreRegisters set rs (map (zero_value m.types) rs)
  zeros_are [] have = tt
  zeros_are (r ∷ rs) have =
      let z = have 0 r refl in (
        subst (λ o. belongs m.types (unwrap_or o V.Unit) (reading r.typ (nothing_stands past) no_readings) ≡ true) (sym z.1)
            (zero_belongs r.typ z.0 z.1),
        zeros_are rs (λ i x e. have (suc i) x e),
      )

  harts_are : (n : ℕ) (h : Hart) → AreRegisters set m.registers h.registers → AllHarts set (replicate n h)
  harts_are zero h are = tt
  harts_are (suc n) h are = (are, harts_are n h are)

so_many : (n : ℕ) (h : Hart) → length (replicate n h) ≡ n
so_many zero h = refl
so_many (suc n) h = λ j. suc (so_many n h j)

pub fresh_fits : FreshStatesFit
fresh_fits m past have harts base bytes = record {
  registers = harts_are m past harts (fresh_hart m.types m.registers) (zeros_are m past m.registers have);
  harts = so_many harts (fresh_hart m.types m.registers);
}
