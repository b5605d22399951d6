-- An instance is read at its place.
use Rattle.std.proofs.Common.{◌≡◌, ◌∙◌, ap, refl, ℕ, nat_eq, true}
use Rattle.std.specs.Prelude.{Option, Some, slice_get}
use Rattle.std.proofs.lemmas.Bool.Decides.{Decides-eqb}
use Rattle.sail_types.specs.Places.{first, only}
use Rattle.sail_types.specs.Sums.{and_then}
use Rattle.sail_core.specs.Numbers.{Givens, all_agree}
use Rattle.sail_core.specs.declared.model.CoreModel.{CoreModel}
use Rattle.value_laws.proofs.Basics.{two}
use Rattle.sized_nodes.specs.declared.trees.SizedCore.{SizedCore}
use Rattle.sized_nodes.specs.declared.trees.SizedInstance.{SizedInstance}
use Rattle.sized_meanings.specs.Sized.{cases_by, entered, entering, first_for, if_for, is_for, nodes_for, numbers_of, signature_for}
use Rattle.lowered_laws.specs.KnownLaws.{InstancesRead}

-- of its function, for its numbers
entered_there : (c : SizedCore) (p : ℕ) (s : SizedInstance) (nu : Givens) → slice_get c.instances p ≡ Some s
    → all_agree (numbers_of s.instance) nu ≡ true → entered c.instances s.instance.function p nu ≡ Some s
entered_there c p s nu e h =
    let i = s.instance.function in
    let is : is_for i nu s ≡ true = two (nat_eq i i) (all_agree (numbers_of s.instance) nu) ((Decides-eqb i i).1 refl) h in
    ap (λ (o : Option SizedInstance). first (if_for i nu o) (first_for i nu c.instances)) e
    ∙ ap (λ b. first (only b s) (first_for i nu c.instances)) is

pub instances_read : InstancesRead
instances_read given m c p s nu e h =
    let there = entered_there c p s nu e h in
    record {
      cases = ap (λ (o : Option SizedInstance). cases_by given m.types c.instances (nodes_for o)) there;
      enters = λ vs. ap (λ (o : Option SizedInstance). and_then (signature_for o) (entering given m.types vs)) there;
    }
