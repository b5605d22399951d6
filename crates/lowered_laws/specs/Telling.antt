-- How the checked meaning goes by the tables that code is made by (Sail language manual, "Type variables").
use Rattle.std.specs.Prelude.{◌≡◌, ℕ, Bool, true, List, length, Option, Some}
use Rattle.sail_types.specs.Places.{Given}
use Rattle.sail_types.specs.declared.table.Types.{Types}
use Rattle.sail_types.specs.declared.values.Value.{Value}
use Rattle.sail_core.specs.declared.tree.Giver.TheVariants as G
use Rattle.sail_core.specs.Numbers.{Instance}
use Rattle.size_values.specs.declared.sized.Sized.{Sized}
use Rattle.checked_meaning.specs.Checked.{Cases, Noted}
use Rattle.checked_meaning.specs.Fits.{has_sizes}
use Rattle.sized_nodes.specs.declared.trees.Case.{Case}
use Rattle.sized_nodes.specs.declared.trees.Lead.{Lead}
use Rattle.sized_meanings.specs.Noting.{noted_by_each}
use Rattle.sized_meanings.specs.Present.{present_case, present_lead}
use Rattle.lowered_pieces.specs.Tables.{Tables}

-- the case by which a value is made
pub record MadeBy (types : Types) (known : Sized → Bool) (cases : List Case) (takes : List Sized) (v : Value) (noted : Noted) (s : Sized) : Type 0 where
  pub it : Case
  pub is_there : present_case noted cases ≡ Some it
  pub is_taken : it.takes ≡ takes
  pub is_had : has_sizes types v it.gives ≡ true
  pub is_given : it.gives ≡ s
  pub is_known : known it.gives ≡ true

-- the lead by which a call goes
pub record LedBy (awaits : ℕ → Option (List (Option Given))) (leads : List Lead) (takes : List Sized) (noted : Noted) (x : Instance) : Type 0 where
  pub it : Lead
  pub is_there : present_lead noted leads ≡ Some it
  pub is_taken : it.takes ≡ takes
  pub is_to : it.instance ≡ x.place
  pub is_awaited : awaits x.place ≡ Some x.numbers

-- the meaning goes by the tables
pub record Tells (types : Types) (tables : Tables) (cases : Cases) : Type 0 where
  pub makes : (k : ℕ) (takes : List Sized) (v : Value) (noted : Noted) (s : Sized) → cases.makes k takes v noted ≡ Some s
      → MadeBy types tables.known (tables.cases k (length takes)) takes v noted s
  pub notes : (k : ℕ) (v : Value) (noted more : Noted) → cases.notes (G.Node k) v noted ≡ Some more → more ≡ noted_by_each (tables.gives k) v noted
  pub names : (k n : ℕ) (v : Value) (noted more : Noted) → cases.notes (G.Arm k n) v noted ≡ Some more → more ≡ noted_by_each (tables.named k n) v noted
  pub calls : (k : ℕ) (takes : List Sized) (noted : Noted) (x : Instance) → cases.calls k takes noted ≡ Some x
      → LedBy tables.awaits (tables.leads k) takes noted x
