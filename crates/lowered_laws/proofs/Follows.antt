-- What may follow a piece of a run, by how it ends; and what is known where it isn't stuck.
use Rattle.std.proofs.Common.{◌≡◌, ◌∙◌, ℕ, ℤ, pos, negsuc, Bool, true, false, List, Option, Some, None, refl, sym, ap, subst}
use Rattle.std.specs.Prelude.{length}
use Rattle.std.proofs.lemmas.List.{length-map}
use Rattle.sail_types.specs.declared.table.Types.{Types}
use Rattle.sail_types.specs.declared.values.Value.{Value, Value-F, roll-Value, out-Value}
use Rattle.sail_types.specs.declared.values.Value.TheViews.{roll-out-Value}
use Rattle.sail_types.specs.declared.values.Value.TheOpen as W
use Rattle.sail_types.specs.declared.values.Value.TheVariants as V
use Rattle.jib.specs.Jib.{Outcome}
use Rattle.sail_core.specs.Run as R
use Rattle.sail_core.specs.Run.{Now, Ended, Run, goes_on, or_so, gives, needs, leaving, ◌then◌}
use Rattle.sail_core.specs.Values.{form_truth, form_integer, truth_in, integer_in, natural_of}
use Rattle.sail_core.specs.Making.{made, truth, integer, natural}
use Rattle.sail_core.specs.declared.tree.Giver.TheVariants as Gives
use Rattle.sail_core.specs.Numbers.{Awaited, Instance}
use Rattle.size_values.specs.declared.sized.Sized.{Sized}
use Rattle.checked_meaning.specs.Checked.{Cases, Noted, checked, noting}
use Rattle.checked_meaning.specs.Fits.{has_sizes}
use Rattle.checked_meaning.specs.Items.{Item, item, typs}
use Rattle.sized_nodes.specs.declared.trees.Case.{Case}
use Rattle.sized_nodes.specs.declared.trees.Lead.{Lead}
use Rattle.sized_meanings.specs.Present.{present_case, present_lead}
use Rattle.lowered_laws.proofs.Chosen.{some_is}
use Rattle.lowered_pieces.specs.Tables.{Tables}
use Rattle.lowered_laws.specs.Telling.{Tells}
use Rattle.sized_meanings.specs.Noting.{noted_by_each}
use Rattle.lowered_laws.specs.Simulation.{Followed}

pub open_then : {A B : Type 0} (r : Outcome) (o : Ended Item A) (k : A → Run Item B) (K : B → Now Item → Type 0) (H : Value → Now Item → Type 0)
    (N : Now Item → Type 0) → Followed r (goes_on o k) K H N → Followed r o (λ x t. Followed r (k x t) K H N) H N
open_then r (R.Gives x t) k K H N z = z
open_then r (R.No t) k K H N z = z
open_then r (R.Returns v t) k K H N z = z
open_then r (R.Throws v t) k K H N z = z
open_then r (R.Stops cause t) k K H N z = z
open_then r R.Stuck k K H N z = z

pub onward : {A : Type 0} (r : Outcome) (o : Ended Item A) (K : A → Now Item → Type 0) (H : Value → Now Item → Type 0) (N : Now Item → Type 0)
    (K' : A → Now Item → Type 0) (H' : Value → Now Item → Type 0) (N' : Now Item → Type 0) → Followed r o K H N
    → ((x : A) (t : Now Item) → K x t → K' x t) → ((v : Value) (t : Now Item) → H v t → H' v t) → ((t : Now Item) → N t → N' t)
    → Followed r o K' H' N'
onward r (R.Gives x t) K H N K' H' N' z f g h = f x t z
onward r (R.No t) K H N K' H' N' z f g h = h t z
onward r (R.Returns v t) K H N K' H' N' z f g h = z
onward r (R.Throws v t) K H N K' H' N' z f g h = g v t z
onward r (R.Stops cause t) K H N K' H' N' z f g h = z
onward r R.Stuck K H N K' H' N' z f g h = z

pub no : {A : Type 0} → false ≡ true → A
no h = cc

-- ---- values of one form

truth_of : (w : Value-F Value) (b : Bool) → form_truth w ≡ Some b → w ≡ W.Truth b
truth_of (W.Truth c) b e = ap W.Truth (some_is c b e)
truth_of w b e = cc

integer_of : (w : Value-F Value) (z : ℤ) → form_integer w ≡ Some z → w ≡ W.Integer z
integer_of (W.Integer y) z e = ap W.Integer (some_is y z e)
integer_of w z e = cc

pub as_truth : (v : Value) (b : Bool) → truth_in v ≡ Some b → v ≡ V.Truth b
unfolding roll-Value denote.Hole.Carrier.roll
as_truth v b e = sym (roll-out-Value v) ∙ ap roll-Value (truth_of (out-Value v) b e)

pub as_integer : (v : Value) (z : ℤ) → integer_in v ≡ Some z → v ≡ V.Integer z
unfolding roll-Value denote.Hole.Carrier.roll
as_integer v z e = sym (roll-out-Value v) ∙ ap roll-Value (integer_of (out-Value v) z e)

-- what a piece leaves is changed, but nothing of what flat code has
pub open_leaving : {A : Type 0} (r : Outcome) (o : Ended Item A) (opened : Noted) (K : A → Now Item → Type 0) (H : Value → Now Item → Type 0)
    (N : Now Item → Type 0) → Followed r (leaving (λ after. record after { opened = opened }) o) K H N
    → Followed r o (λ x t. K x (record t { opened = opened })) (λ v t. H v (record t { opened = opened })) (λ t. N (record t { opened = opened }))
open_leaving r (R.Gives x t) opened K H N z = z
open_leaving r (R.No t) opened K H N z = z
open_leaving r (R.Returns v t) opened K H N z = z
open_leaving r (R.Throws v t) opened K H N z = z
open_leaving r (R.Stops cause t) opened K H N z = z
open_leaving r R.Stuck opened K H N z = z

pub close_then : {A B : Type 0} (r : Outcome) (o : Ended Item A) (k : A → Run Item B) (K : B → Now Item → Type 0) (H : Value → Now Item → Type 0)
    (N : Now Item → Type 0) → Followed r o (λ x t. Followed r (k x t) K H N) H N → Followed r (goes_on o k) K H N
close_then r (R.Gives x t) k K H N z = z
close_then r (R.No t) k K H N z = z
close_then r (R.Returns v t) k K H N z = z
close_then r (R.Throws v t) k K H N z = z
close_then r (R.Stops cause t) k K H N z = z
close_then r R.Stuck k K H N z = z

pub open_or : {A : Type 0} (r : Outcome) (o : Ended Item A) (k : Run Item A) (K : A → Now Item → Type 0) (H : Value → Now Item → Type 0)
    (N : Now Item → Type 0) → Followed r (or_so o k) K H N → Followed r o K H (λ t. Followed r (k t) K H N)
open_or r (R.Gives x t) k K H N z = z
open_or r (R.No t) k K H N z = z
open_or r (R.Returns v t) k K H N z = z
open_or r (R.Throws v t) k K H N z = z
open_or r (R.Stops cause t) k K H N z = z
open_or r R.Stuck k K H N z = z

pub close_leaving : {A : Type 0} (r : Outcome) (o : Ended Item A) (opened : Noted) (K : A → Now Item → Type 0) (H : Value → Now Item → Type 0)
    (N : Now Item → Type 0) → Followed r o (λ x t. K x (record t { opened = opened })) (λ v t. H v (record t { opened = opened }))
    (λ t. N (record t { opened = opened })) → Followed r (leaving (λ after. record after { opened = opened }) o) K H N
close_leaving r (R.Gives x t) opened K H N z = z
close_leaving r (R.No t) opened K H N z = z
close_leaving r (R.Returns v t) opened K H N z = z
close_leaving r (R.Throws v t) opened K H N z = z
close_leaving r (R.Stops cause t) opened K H N z = z
close_leaving r R.Stuck opened K H N z = z

-- ---- under a reading

module _ (types : Types) (cases : Cases) where
  pub truth_is : {X : Type 0} (r : Outcome) (x : Item) (now : Now Item) (K : Bool → Now Item → Type 0) (H : Value → Now Item → Type 0)
      (N : Now Item → Type 0) → Followed r (truth (checked types cases) x now) K H N → ((b : Bool) → x.val ≡ V.Truth b → K b now → X) → X
  truth_is {X} r x now K H N z f = by (truth_in x.val) refl z
    where
      by : (o : Option Bool) → truth_in x.val ≡ o → Followed r (needs o now) K H N → X
      by None e z = absurd z
      by (Some b) e z = f b (as_truth x.val b e) z

  pub integer_is : {X : Type 0} (r : Outcome) (x : Item) (now : Now Item) (K : ℤ → Now Item → Type 0) (H : Value → Now Item → Type 0)
      (N : Now Item → Type 0) → Followed r (integer (checked types cases) x now) K H N → ((i : ℤ) → x.val ≡ V.Integer i → K i now → X) → X
  integer_is {X} r x now K H N z f = by (integer_in x.val) refl z
    where
      by : (o : Option ℤ) → integer_in x.val ≡ o → Followed r (needs o now) K H N → X
      by None e z = absurd z
      by (Some i) e z = f i (as_integer x.val i e) z

  pub natural_is : {X : Type 0} (r : Outcome) (x : Item) (now : Now Item) (K : ℕ → Now Item → Type 0) (H : Value → Now Item → Type 0)
      (N : Now Item → Type 0) → Followed r (natural (checked types cases) x now) K H N → ((n : ℕ) → x.val ≡ V.Integer (pos n) → K n now → X) → X
  natural_is {X} r x now K H N z f =
      integer_is r x now (λ i t. Followed r (needs (natural_of i) t) K H N) H N
      (open_then r (integer (checked types cases) x now) (λ i. needs (natural_of i)) K H N z) by
    where
      by : (i : ℤ) → x.val ≡ V.Integer i → Followed r (needs (natural_of i) now) K H N → X
      by (pos n) e z = f n e z
      by (negsuc n) e z = absurd z

  -- what a node makes: its case, and then the numbers that are noted
  module _ (tables : Tables) (tells : Tells types tables cases) where
    pub made_is : {X : Type 0} (r : Outcome) (k : ℕ) (xs : List Item) (v : Value) (now : Now Item) (K : Item → Now Item → Type 0)
        (H : Value → Now Item → Type 0) (N : Now Item → Type 0) → Followed r (made (checked types cases) k xs v now) K H N
        → ((a : Case) (more : Noted) → present_case now.opened (tables.cases k (length xs)) ≡ Some a → a.takes ≡ typs xs
        → (has_sizes types v a.gives ≡ true) × (tables.known a.gives ≡ true) → more ≡ noted_by_each (tables.gives k) v now.opened
        → K (item a.gives v) (record now { opened = more }) → X)
        → X
    made_is {X} r k xs v now K H N z f = at_case (cases.makes k (typs xs) v now.opened) refl z
      where
        at_notes : (s : Sized) (o : Option Noted) → cases.makes k (typs xs) v now.opened ≡ Some s → cases.notes (Gives.Node k) v now.opened ≡ o
            → Followed r (goes_on (noting o now) (λ t. gives (item s v))) K H N → X
        at_notes s None e q z = absurd z
        at_notes s (Some more) e q z =
            let c = tells.makes k (typs xs) v now.opened s e in
            let count : length (typs xs) ≡ length xs = length-map xs (λ (x : Item). x.typ) in
            f c.it more (subst (λ n. present_case now.opened (tables.cases k n) ≡ Some c.it) count c.is_there) c.is_taken (c.is_had, c.is_known)
            (tells.notes k v now.opened more q)
            (subst (λ u. K (item u v) (record now { opened = more })) (sym c.is_given) z)

        at_case : (o : Option Sized) → cases.makes k (typs xs) v now.opened ≡ o
            → Followed r (goes_on (goes_on (needs o now) (λ s. gives (item s v)))
            (λ x. (λ now2. noting (cases.notes (Gives.Node k) v now2.opened) now2) then λ t. gives x)) K H N
            → X
        at_case None e z = absurd z
        at_case (Some s) e z = at_notes s (cases.notes (Gives.Node k) v now.opened) e refl z

    -- where a call leads
    pub led_is : {B X : Type 0} (r : Outcome) (k : ℕ) (xs : List Item) (now : Now Item) (next : Awaited → Run Item B) (K : B → Now Item → Type 0)
        (H : Value → Now Item → Type 0) (N : Now Item → Type 0)
        → Followed r (((checked types cases).calls k xs then next) now) K H N
        → ((a : Lead) (x : Instance) → present_lead now.opened (tables.leads k) ≡ Some a → a.takes ≡ typs xs → a.instance ≡ x.place
        → tables.awaits x.place ≡ Some x.numbers
        → Followed r (next (Some x) now) K H N → X) → X
    led_is {B} {X} r k xs now next K H N z f = by (cases.calls k (typs xs) now.opened) refl z
      where
        by : (o : Option Instance) → cases.calls k (typs xs) now.opened ≡ o
            → Followed r (goes_on (goes_on (needs o now) (λ x. gives (Some x))) next) K H N → X
        by None e z = absurd z
        by (Some x) e z =
            let c = tells.calls k (typs xs) now.opened x e in
            f c.it x c.is_there c.is_taken c.is_to c.is_awaited z
