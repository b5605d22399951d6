-- Whether an operation fits goes by the types of its operands, whatever functions the module has.
use Rattle.std.proofs.Common.{◌≡◌, ◌∙◌, ℕ, suc, true, false, List, [], ◌∷◌, Option, Some, None, refl, sym, ap, arith}
use Rattle.std.specs.Prelude.{cond, nat_lt, slice_get}
use Rattle.std.proofs.lemmas.Bool.Decides.{nat_tests}
use Rattle.jib.specs.declared.code.Source.{Source}
use Rattle.jib.specs.declared.code.Source.TheVariants as R
use Rattle.jib.specs.declared.code.Operation.{Operation}
use Rattle.jib.specs.declared.code.Module.{Module}
use Rattle.jib.specs.Operands.{operation_typed}
use Rattle.jib.specs.Typing.{literal_some, opening_typ, source_typ}
use Rattle.size_values.specs.declared.sized.Sized.{Sized}
use Rattle.lowered_validity.specs.Typing.{operands, shell, with_slots}
use Rattle.lowered_validity.proofs.Alike.{Alike, operation_same}
use Rattle.lowered_steps.specs.Makers.{all_slots}
use Rattle.lowered_typed.specs.declared.signs.Judge.{Judge}
use Rattle.lowered_typed.specs.Here as here
use Rattle.lowered_typed.specs.Judging.{number_here, signs_here}

-- no opening is read
not_below : (k : ℕ) → nat_lt k 0 ≡ false
not_below k = grind (arith, nat_tests)

module _ (m m' : Module) (types : m.types ≡ m'.types) (registers : m.registers ≡ m'.registers) (ts : List ℕ) where
  source_same : (a : Source) → source_typ m (with_slots ts) a ≡ source_typ m' (with_slots ts) a
  source_same (R.Slot i) = refl
  source_same (R.Register i) = ap (λ rs. slice_get rs i) registers
  source_same (R.Let k) = none (opening_typ m (slice_get m.openings k)) ∙ sym (none (opening_typ m' (slice_get m'.openings k)))
    where
      none : (o : Option ℕ) → cond (nat_lt k 0) o None ≡ None
      none o = ap (λ b. cond b o None) (not_below k)
  source_same (R.Constant k l) = ap (λ vs. cond (literal_some (slice_get vs k) l) (Some k) None) types

  all_same : (rs : List Source) → Alike m m' (with_slots ts) (with_slots ts) rs rs
  all_same [] = tt
  all_same (a ∷ rs) = (source_same a, all_same rs)

  pub same_operation : (op : Operation) (rs : List Source) (t : Option ℕ)
      → operation_typed m (with_slots ts) op rs t ≡ operation_typed m' (with_slots ts) op rs t
  same_operation op rs t = operation_same m m' (with_slots ts) (with_slots ts) types rs rs (all_same rs) op t

-- an operation is decided of by the module that is around
pub works_here : (j : Judge) (op : Operation) (rs : List Source) (ts : List Sized) (t : Sized)
    → operation_typed j.signs.now.shell.now (with_slots (here.numbers j ts)) op rs (Some (number_here j t)) ≡ here.works j op rs ts t
works_here j op rs ts t =
    same_operation j.signs.now.shell.now (shell (signs_here j)) refl refl (here.numbers j ts) op rs (Some (number_here j t))

-- operands are all in slots
pub operands_slots : (k : ℕ) (ts : List ℕ) → all_slots (operands k ts) ≡ true
operands_slots k [] = refl
operands_slots k (t ∷ ts) = operands_slots (suc k) ts
