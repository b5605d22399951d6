-- The case by which a value is made, and the lead by which a call goes, are those of the tables.
use Rattle.std.proofs.Common.{◌≡◌, ◌∙◌, ℕ, Bool, true, false, List, [], ◌∷◌, length, Option, Some, None, refl, sym, ap, subst, eq-eqb, eqb-true}
use Rattle.std.proofs.Common.{if◌then◌else◌}
use Rattle.std.specs.Prelude.{◌&&◌, ◌||◌, nat_eq, slice_get, option_map}
use Rattle.std.proofs.lemmas.Bool.{and_parts}
use Rattle.sail_types.specs.Places.{Given, first, only}
use Rattle.sail_types.specs.Sums.{and_then}
use Rattle.sail_types.specs.declared.table.Types.{Types}
use Rattle.sail_types.specs.declared.values.Value.{Value}
use Rattle.sail_core.specs.declared.tree.Giver.TheVariants as G
use Rattle.sail_core.specs.Numbers.{Instance}
use Rattle.size_values.specs.declared.constants.Picked.{Picked}
use Rattle.size_values.specs.declared.sized.Sized.{Sized}
use Rattle.size_values.specs.Sized.{all_eq}
use Rattle.exact_sizes.proofs.Equal.{all_same}
use Rattle.checked_meaning.specs.Checked.{Noted}
use Rattle.checked_meaning.specs.Fits.{has_sizes}
use Rattle.sized_nodes.specs.declared.trees.Case.{Case}
use Rattle.sized_nodes.specs.declared.trees.Lead.{Lead}
use Rattle.sized_nodes.specs.declared.trees.NodeSizes.{NodeSizes}
use Rattle.sized_nodes.specs.declared.trees.NodeSizes.TheVariants as Z
use Rattle.sized_nodes.specs.declared.trees.SizedInstance.{SizedInstance}
use Rattle.value_indices.specs.declared.indices.Indices.{Indices}
use Rattle.sized_meanings.specs.Noting.{noted_by, noted_by_each}
use Rattle.sized_meanings.specs.Present.{present_case, present_lead, is_noted, is_present, first_in, if_at, lead_in, gives_at}
use Rattle.sized_meanings.specs.Sized.{makes_in, made_by as made_with, awaited_at, led_by, led_in, numbers_of, cases_of, noted_cases_of}
use Rattle.lowered_laws.proofs.Chosen.{some_is}
use Rattle.lowered_laws.specs.Telling.{MadeBy, LedBy, Tells}
use Rattle.lowered_laws.proofs.Ends.{note_apart, noted_still}
use Rattle.lowered_laws.proofs.Follows.{no}
use Rattle.lowered_pieces.specs.Nodes.{takes_many, cases_at, leads_at, awaited_in, plain_nodes, tables_of}
use Rattle.lowered_pieces.specs.Forms.{cases_apart, notes_of, picked_apart}
use Rattle.lowered_laws.specs.TablesTelling.{cases_known, all_known, NoOtherCases, NoOtherLeads, EachAlone}

none_is : {A X : Type 0} (x : A) → None ≡ Some x → X
none_is x e = cc

-- ---- cases

-- the case that is present is one of them
present_many : (noted : Noted) (cs : List Case) (c : Case) → present_case noted cs ≡ Some c → takes_many (length c.takes) cs ≡ true
present_many noted [] c e = none_is c e
present_many noted (d ∷ cs) c e = by (λ f. present_many noted cs c f) (is_noted noted d.picked) (is_present noted d.picked) e
  where
    by : (present_case noted cs ≡ Some c → takes_many (length c.takes) cs ≡ true) → (a b : Bool)
        → (if a then (if b then Some d else present_case noted cs) else None) ≡ Some c
        → (nat_eq (length d.takes) (length c.takes) || takes_many (length c.takes) cs) ≡ true
    by rest true true f =
        let is : d ≡ c = some_is d c f in
        let same : length d.takes ≡ length c.takes = ap (λ (x : Case). length x.takes) is in
        ap (λ b. b || takes_many (length c.takes) cs) (eq-eqb (length d.takes) (length c.takes) same)
    by rest true false f = either (nat_eq (length d.takes) (length c.takes)) (rest f)
      where
        either : (b : Bool) → takes_many (length c.takes) cs ≡ true → (b || takes_many (length c.takes) cs) ≡ true
        either true h = refl
        either false h = h
    by rest false b f = none_is c f

-- its type has a number
present_known : (known : Sized → Bool) (noted : Noted) (cs : List Case) (c : Case) → present_case noted cs ≡ Some c → cases_known known cs ≡ true
    → known c.gives ≡ true
present_known known noted [] c e h = none_is c e
present_known known noted (d ∷ cs) c e h =
    let both = and_parts (known d.gives) (cases_known known cs) h in
    by (λ f. present_known known noted cs c f both.1) both.0 (is_noted noted d.picked) (is_present noted d.picked) e
  where
    by : (present_case noted cs ≡ Some c → known c.gives ≡ true) → known d.gives ≡ true → (a b : Bool)
        → (if a then (if b then Some d else present_case noted cs) else None) ≡ Some c → known c.gives ≡ true
    by rest here_ true true f = subst (λ (x : Case). known x.gives ≡ true) (some_is d c f) here_
    by rest here_ true false f = rest f
    by rest here_ false b f = none_is c f

-- with the numbers that the value itself gives, for none of which a case asks, the same is present
plain_same : (i : Indices) (v : Value) (noted : Noted) (cs : List Case) → cases_apart (notes_of i) cs ≡ true
    → present_case (noted_by i v noted) cs ≡ present_case noted cs
plain_same i v noted [] h = refl
plain_same i v noted (c ∷ cs) h =
    let both = and_parts (picked_apart (notes_of i) c.picked) (cases_apart (notes_of i) cs) h in
    let still = noted_still (notes_of i) noted (noted_by i v noted) (λ x e. note_apart i v noted x e) c.picked both.0 in
    let rest = plain_same i v noted cs both.1 in
    λ j. if still.0 j then (if still.1 j then Some c else rest j) else None

module _ (types : Types) (known : Sized → Bool) (k : ℕ) (takes : List Sized) (v : Value) (noted : Noted) where
  abbrev n : ℕ
  n = length takes

  -- what is made by cases of a node is made by one of them
  made_here : (cs : List Case) (s : Sized) → cases_known known cs ≡ true → and_then (present_case noted cs) (makes_in types takes v) ≡ Some s
      → MadeBy types known cs takes v noted s
  made_here cs s all e = by (present_case noted cs) refl e
    where
      by : (o : Option Case) → present_case noted cs ≡ o → and_then o (makes_in types takes v) ≡ Some s → MadeBy types known cs takes v noted s
      by None p f = none_is s f
      by (Some c) p f = given (all_eq c.takes takes && has_sizes types v c.gives) refl f
        where
          given : (b : Bool) → (all_eq c.takes takes && has_sizes types v c.gives) ≡ b → only b c.gives ≡ Some s → MadeBy types known cs takes v noted s
          given true q r =
              let both = and_parts (all_eq c.takes takes) (has_sizes types v c.gives) q in
              record {
                it = c;
                is_there = p;
                is_taken = all_same c.takes takes both.0;
                is_had = both.1;
                is_given = some_is c.gives s r;
                is_known = present_known known noted cs c p all;
              }
          given false q r = none_is s r

  -- so these have as many operands
  made_many : (cs : List Case) (s : Sized) → MadeBy types known cs takes v noted s → takes_many n cs ≡ true
  made_many cs s m =
      subst (λ (ts : List Sized). takes_many (length ts) cs ≡ true) m.is_taken (present_many noted cs m.it m.is_there)

  -- no others are said of the same number and count
  no_others : (j : ℕ) (cs : List Case) (nodes : List NodeSizes) → NoOtherCases j cs nodes → nat_eq k j ≡ true → takes_many n cs ≡ true
      → takes_many n (cases_at k n nodes) ≡ true → cases_at k n nodes ≡ cs
  no_others j cs [] alone e h g = no g
  no_others j cs (Z.Makes i is ds ∷ nodes) alone e h g =
      by (λ r. no_others j cs nodes alone.1 e h r) (nat_eq k i) (takes_many n ds) refl refl g
    where
      by : (takes_many n (cases_at k n nodes) ≡ true → cases_at k n nodes ≡ cs) → (a b : Bool) → nat_eq k i ≡ a → takes_many n ds ≡ b
          → takes_many n (if a && b then ds else cases_at k n nodes) ≡ true
          → (if a && b then ds else cases_at k n nodes) ≡ cs
      by rest true true p q r =
          let ji : nat_eq j i ≡ true = subst (λ x. nat_eq x i ≡ true) (eqb-true k j e) p in
          alone.0 n ji h q
      by rest true false p q r = rest r
      by rest false b p q r = rest r
  no_others j cs (Z.Calls i ls ∷ nodes) alone e h g = no_others j cs nodes alone e h g
  no_others j cs (Z.Gives i is ∷ nodes) alone e h g = no_others j cs nodes alone e h g

  abbrev made_by : List NodeSizes → Option Sized
  made_by nodes = first_in (made_with false types k takes v noted) nodes

  noted_tells : (nodes : List NodeSizes) → EachAlone nodes → all_known known nodes ≡ true → (s : Sized)
      → first_in (made_with false types k takes v noted) nodes ≡ Some s → MadeBy types known (cases_at k n nodes) takes v noted s
  noted_tells [] alone all s e = none_is s e
  noted_tells (Z.Makes j is cs ∷ nodes) alone all s e =
      let both = and_parts (cases_known known cs) (all_known known nodes) all in
      by both.0 (λ f. noted_tells nodes alone.1 both.1 s f) (nat_eq k j) refl (and_then (present_case noted cs) (makes_in types takes v)) refl e
    where
      by : cases_known known cs ≡ true → (made_by nodes ≡ Some s → MadeBy types known (cases_at k n nodes) takes v noted s) → (a : Bool) → nat_eq k j ≡ a
          → (o : Option Sized) → and_then (present_case noted cs) (makes_in types takes v) ≡ o
          → first (and_then (if a then present_case noted cs else None) (makes_in types takes v)) (made_by nodes) ≡ Some s
          → MadeBy types known (if a && takes_many n cs then cs else cases_at k n nodes) takes v noted s
      by sure rest false p o q f = rest f
      by sure rest true p (Some u) q f =
          let here_ : u ≡ s = some_is u s (ap (λ x. first x (made_by nodes)) (sym q) ∙ f) in
          let m : MadeBy types known cs takes v noted s = made_here cs s sure (q ∙ ap Some here_) in
          subst (λ b. MadeBy types known (if b then cs else cases_at k n nodes) takes v noted s) (sym (made_many cs s m)) m
      by sure rest true p None q f =
          let others : MadeBy types known (cases_at k n nodes) takes v noted s = rest (ap (λ x. first x (made_by nodes)) (sym q) ∙ f) in
          late (takes_many n cs) refl others
        where
          late : (b : Bool) → takes_many n cs ≡ b → MadeBy types known (cases_at k n nodes) takes v noted s
              → MadeBy types known (if b then cs else cases_at k n nodes) takes v noted s
          late false h m = m
          late true h m =
              subst (λ ds. MadeBy types known ds takes v noted s) (no_others j cs nodes alone.0 p h (made_many (cases_at k n nodes) s m)) m
  noted_tells (Z.Calls j ls ∷ nodes) alone all s e = noted_tells nodes alone.1 all s e
  noted_tells (Z.Gives j is ∷ nodes) alone all s e = noted_tells nodes alone all s e

  -- where no case asks for what its value gives, nodes make the same
  plain_first : (nodes : List NodeSizes) → plain_nodes nodes ≡ true
      → first_in (made_with true types k takes v noted) nodes ≡ first_in (made_with false types k takes v noted) nodes
  plain_first [] h = refl
  plain_first (Z.Makes j is cs ∷ nodes) h =
      let both = and_parts (cases_apart (notes_of is) cs) (plain_nodes nodes) h in
      let same = plain_same is v noted cs both.0 in
      let rest = plain_first nodes both.1 in
      λ q. first (and_then (if nat_eq k j then same q else None) (makes_in types takes v)) (rest q)
  plain_first (Z.Calls j ls ∷ nodes) h = plain_first nodes h
  plain_first (Z.Gives j is ∷ nodes) h = plain_first nodes h

-- ---- leads

module _ (instances : List SizedInstance) (k : ℕ) (takes : List Sized) (noted : Noted) where
  abbrev awaits : ℕ → Option (List (Option Given))
  awaits i = awaited_in (slice_get instances i)

  led_here : (ls : List Lead) (x : Instance) → and_then (present_lead noted ls) (led_by instances takes) ≡ Some x → LedBy awaits ls takes noted x
  led_here ls x e = by (present_lead noted ls) refl e
    where
      by : (o : Option Lead) → present_lead noted ls ≡ o → and_then o (led_by instances takes) ≡ Some x → LedBy awaits ls takes noted x
      by None p f = none_is x f
      by (Some l) p f = given (all_eq l.takes takes) refl f
        where
          at_numbers : (o : Option SizedInstance) → slice_get instances l.instance ≡ o
              → option_map (λ (y : SizedInstance). record { place = l.instance; numbers = numbers_of y.instance }) o ≡ Some x → awaits x.place ≡ Some x.numbers
          at_numbers None f h = none_is x h
          at_numbers (Some y) f h =
              let is : record { place = l.instance; numbers = numbers_of y.instance } ≡ x =
              some_is (record { place = l.instance; numbers = numbers_of y.instance }) x h in
              subst (λ (z : Instance). awaits z.place ≡ Some z.numbers) is (ap awaited_in f)

          at_place : (o : Option SizedInstance) → option_map (λ (y : SizedInstance). record { place = l.instance; numbers = numbers_of y.instance }) o ≡ Some x
              → l.instance ≡ x.place
          at_place None h = none_is x h
          at_place (Some y) h = ap (λ (z : Instance). z.place) (some_is (record { place = l.instance; numbers = numbers_of y.instance }) x h)

          given : (b : Bool) → all_eq l.takes takes ≡ b → and_then (only b l.instance) (awaited_at instances) ≡ Some x → LedBy awaits ls takes noted x
          given true q r = record {
            it = l;
            is_there = p;
            is_taken = all_same l.takes takes q;
            is_to = at_place
                (slice_get instances l.instance) r;
            is_awaited = at_numbers (slice_get instances l.instance) refl r;
          }
          given false q r = none_is x r

  -- some lead is present, so the list isn't empty
  led_some : (ls : List Lead) (x : Instance) → LedBy awaits ls takes noted x → (ls ≡ []) → ⊥
  led_some ls x m e = none_is m.it (ap (present_lead noted) (sym e) ∙ m.is_there)

  no_other_leads : (j : ℕ) (ls : List Lead) (nodes : List NodeSizes) → NoOtherLeads j ls nodes → nat_eq k j ≡ true → (leads_at k nodes ≡ [] → ⊥)
      → leads_at k nodes ≡ ls
  no_other_leads j ls [] alone e some = absurd (some refl)
  no_other_leads j ls (Z.Calls i ms ∷ nodes) alone e some = by (λ q. no_other_leads j ls nodes alone.1 e q) (nat_eq k i) refl some
    where
      by : ((leads_at k nodes ≡ [] → ⊥) → leads_at k nodes ≡ ls) → (a : Bool) → nat_eq k i ≡ a → ((if a then ms else leads_at k nodes) ≡ [] → ⊥)
          → (if a then ms else leads_at k nodes) ≡ ls
      by rest true p q = alone.0 (subst (λ x. nat_eq x i ≡ true) (eqb-true k j e) p)
      by rest false p q = rest q
  no_other_leads j ls (Z.Makes i is cs ∷ nodes) alone e some = no_other_leads j ls nodes alone e some
  no_other_leads j ls (Z.Gives i is ∷ nodes) alone e some = no_other_leads j ls nodes alone e some

  led_tells : (nodes : List NodeSizes) → EachAlone nodes → (x : Instance) → first_in (led_in instances k takes noted) nodes ≡ Some x
      → LedBy awaits (leads_at k nodes) takes noted x
  led_tells [] alone x e = none_is x e
  led_tells (Z.Calls j ls ∷ nodes) alone x e =
      by (λ f. led_tells nodes alone.1 x f) (nat_eq k j) refl (and_then (present_lead noted ls) (led_by instances takes)) refl e
    where
      by : (first_in (led_in instances k takes noted) nodes ≡ Some x → LedBy awaits (leads_at k nodes) takes noted x) → (a : Bool) → nat_eq k j ≡ a
          → (o : Option Instance) → and_then (present_lead noted ls) (led_by instances takes) ≡ o
          → first (and_then (if a then present_lead noted ls else None) (led_by instances takes)) (first_in (led_in instances k takes noted) nodes) ≡ Some x
          → LedBy awaits (if a then ls else leads_at k nodes) takes noted x
      by rest false p o q f = rest f
      by rest true p (Some u) q f =
          let here_ : u ≡ x = some_is u x (ap (λ y. first y (first_in (led_in instances k takes noted) nodes)) (sym q) ∙ f) in
          led_here ls x (q ∙ ap Some here_)
      by rest true p None q f =
          let more : LedBy awaits (leads_at k nodes) takes noted x =
          rest (ap (λ y. first y (first_in (led_in instances k takes noted) nodes)) (sym q) ∙ f) in
          subst (λ ms. LedBy awaits ms takes noted x) (no_other_leads j ls nodes alone.0 p (led_some (leads_at k nodes) x more)) more
  led_tells (Z.Makes j is cs ∷ nodes) alone x e = led_tells nodes alone.1 x e
  led_tells (Z.Gives j is ∷ nodes) alone x e = led_tells nodes alone x e

pub noted_tell : (types : Types) (known : Sized → Bool) (instances : List SizedInstance) (nodes : List NodeSizes) → EachAlone nodes
    → all_known known nodes ≡ true → Tells types (tables_of known instances nodes) (noted_cases_of types instances nodes)
noted_tell types known instances nodes alone all = record {
  makes = λ k takes v noted s e. noted_tells types known k takes v noted nodes alone all s e;
  notes = λ k v noted more e. sym (some_is (noted_by_each (gives_at nodes (G.Node k)) v noted) more e);
  names = λ k n v noted more e. sym (some_is (noted_by_each (gives_at nodes (G.Arm k n)) v noted) more e);
  calls = λ k takes noted x e. led_tells instances k takes noted nodes alone x e;
}

pub all_tell : (types : Types) (known : Sized → Bool) (instances : List SizedInstance) (nodes : List NodeSizes) → EachAlone nodes
    → all_known known nodes ≡ true → plain_nodes nodes ≡ true → Tells types (tables_of known instances nodes) (cases_of types instances nodes)
all_tell types known instances nodes alone all plain = record {
  makes = λ k takes v noted s e.
      noted_tells types known k takes v noted nodes alone all s (sym (plain_first types known k takes v noted nodes plain) ∙ e);
  notes = λ k v noted more e. sym (some_is (noted_by_each (gives_at nodes (G.Node k)) v noted) more e);
  names = λ k n v noted more e. sym (some_is (noted_by_each (gives_at nodes (G.Arm k n)) v noted) more e);
  calls = λ k takes noted x e. led_tells instances k takes noted nodes alone x e;
}
