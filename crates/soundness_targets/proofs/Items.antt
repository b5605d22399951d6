-- What each part of a tuple of names, parts of names, calls and such tuples is found to be.
use Rattle.std.proofs.Common.{arith, ◌≡◌, ◌∙◌, ◌≤◌, ℕ, zero, suc, true, List, [], ◌∷◌, map, refl, sym, ap, subst}
use Rattle.std.proofs.lemmas.Bool.{and_parts}
use Rattle.std.specs.List.{list_all}
use Rattle.sail_core.specs.Making.{World}
use Rattle.sail_core.specs.Targets as Runs
use Rattle.sail_core.specs.Targets.{target_meaning}
use Rattle.sail_core.specs.declared.targets.Target.{Target, fold-roll-Target, out-Target}
use Rattle.sail_core.specs.declared.targets.TargetKind.TheVariants as T
use Rattle.pattern_leaves.specs.Settings.{Scope}
use Rattle.expression_steps.specs.Targets.{Spotting, kind_spot, spotting}
use Rattle.checked_meaning.specs.Items.{Item}
use Rattle.value_laws.specs.Known.{Point}
use Rattle.soundness_steps.specs.Works.{Scene, here}
use Rattle.soundness_forms.specs.Calls.{CalleeFits}
use Rattle.soundness_forms.specs.Forms.{FitsSuffice}
use Rattle.soundness_forms.specs.Mappings.{MappingsClosed}
use Rattle.soundness_forms.specs.Registers.{RegistersClosed}
use Rattle.soundness_forms.specs.Worlds.{Surrounds}
use Rattle.soundness_parts.proofs.Taken.{z}
use Rattle.soundness_values.specs.Named.{TypesNarrow}
use Rattle.soundness_targets.proofs.Plain.{Shape, a_call, a_late, a_name, a_part, a_parted, a_tuple, a_wrong, is_item, is_member, shape}
use Rattle.soundness_targets.proofs.Findings.{Finding, member_finding, part_finding}
use Rattle.soundness_targets.proofs.FoundTargets.{FindsEach, FindsOne, more_found, none_found, one_found, tuple_found}
use Rattle.soundness_targets.proofs.LateItems.{late_item}
use Rattle.soundness_targets.proofs.Members.{meaning, member_finds}
use Rattle.soundness_targets.proofs.AnyGrowth.{members_grow}
use Rattle.soundness_targets.proofs.Shapes.{LateIs, PartIs, PartedIs, ShapeIs, height, heights, parts_low, shape_is}

module _ (fit : FitsSuffice) (q : Scene) (w : World Item) (narrow : TypesNarrow q.set.around.types) (closed : RegistersClosed q.set)
    (places : (i : ℕ) → CalleeFits q.set i) (mappings : MappingsClosed q.set) (scope : Scope) where
  abbrev runs : Target → Runs.Spotting Item (Runs.Spot Item)
  runs t = meaning fit q w closed places mappings scope t

  module _ {n : ℕ} (f : Point n) (there : Surrounds q w f scope) where
    plain_item : (t : Target) → is_member (shape t) ≡ true → Finding q w scope (spotting t) (runs t) f
    plain_item t e = member_finding q w scope (spotting t) (runs t) f (λ m g fs ps us fine here_too.
        member_finds fit q w closed places mappings scope t e m g fs ps us fine here_too)

    part_item : (t : Target) → PartIs t → Finding q w scope (spotting t) (runs t) f
    part_item t h =
        let b = h.is_name in
        subst (λ (s : Spotting). Finding q w scope s (runs t) f)
        (sym (ap spotting h.same ∙ fold-roll-Target Spotting (λ u. kind_spot u.place u.number u.kind u.parts) _
        ∙ ap (λ (s : Spotting). kind_spot h.place h.number (T.Part h.suffixes) (s ∷ []))
        (ap spotting b.same ∙ fold-roll-Target Spotting (λ u. kind_spot u.place u.number u.kind u.parts) _)))
        (subst (λ (s : Runs.Spotting Item (Runs.Spot Item)).
        Finding q w scope (kind_spot h.place h.number (T.Part h.suffixes) (kind_spot b.place b.number b.kind [] ∷ [])) s f)
        (sym (ap runs h.same
        ∙ fold-roll-Target (Runs.Spotting Item (Runs.Spot Item)) (λ u. target_meaning (z q) w u.place u.number u.kind u.parts) _
        ∙ ap (λ (s : Runs.Spotting Item (Runs.Spot Item)). target_meaning (z q) w h.place h.number (T.Part h.suffixes) (s ∷ []))
        (ap runs b.same
        ∙ fold-roll-Target (Runs.Spotting Item (Runs.Spot Item)) (λ u. target_meaning (z q) w u.place u.number u.kind u.parts) _)))
        (part_finding q w narrow closed scope f there h.place h.number b.place b.number h.suffixes b.kind b.is_name))

    abbrev One : Target → Type 1
    One t = FindsOne q w scope (spotting t) (runs t) f

    abbrev Each : List Target → Type 1
    Each ts = FindsEach q w scope (map spotting ts) (map runs ts) f

    flat_item : (t : Target) → Finding q w scope (spotting t) (runs t) f → One t
    flat_item t one m fs ps = one_found q w scope (out-Target t).place (spotting t) (runs t) f one m fs ps

    -- a tuple of such
    tuple_item : (t : Target) (h : PartedIs t) → Each h.parts → One t
    tuple_item t h each =
        subst (λ (s : Spotting). FindsOne q w scope s (runs t) f)
        (sym (ap spotting h.same ∙ fold-roll-Target Spotting (λ u. kind_spot u.place u.number u.kind u.parts) _))
        (subst (λ (s : Runs.Spotting Item (Runs.Spot Item)). FindsOne q w scope (kind_spot h.place h.number T.Tuple (map spotting h.parts)) s f)
        (sym (ap runs h.same
        ∙ fold-roll-Target (Runs.Spotting Item (Runs.Spot Item)) (λ u. target_meaning (z q) w u.place u.number u.kind u.parts) _))
        (λ m fs ps. tuple_found q w scope f h.place h.number (map spotting h.parts) (map runs h.parts) each m fs ps))

    -- a part of a call
    call_item : (t : Target) → LateIs t → One t
    call_item t h =
        let b = h.is_call in
        subst (λ (s : Spotting). FindsOne q w scope s (runs t) f)
        (sym (ap spotting h.same ∙ fold-roll-Target Spotting (λ u. kind_spot u.place u.number u.kind u.parts) _
        ∙ ap (λ (s : Spotting). kind_spot h.place h.number (T.Part (h.suffix ∷ h.suffixes)) (s ∷ []))
        (ap spotting b.same ∙ fold-roll-Target Spotting (λ u. kind_spot u.place u.number u.kind u.parts) _)))
        (subst (λ (s : Runs.Spotting Item (Runs.Spot Item)).
        FindsOne q w scope
        (kind_spot h.place h.number (T.Part (h.suffix ∷ h.suffixes)) (kind_spot b.place b.number (T.Call b.count b.reader b.writer) [] ∷ [])) s f)
        (sym (ap runs h.same
        ∙ fold-roll-Target (Runs.Spotting Item (Runs.Spot Item)) (λ u. target_meaning (z q) w u.place u.number u.kind u.parts) _
        ∙ ap (λ (s : Runs.Spotting Item (Runs.Spot Item)). target_meaning (z q) w h.place h.number (T.Part (h.suffix ∷ h.suffixes)) (s ∷ []))
        (ap runs b.same
        ∙ fold-roll-Target (Runs.Spotting Item (Runs.Spot Item)) (λ u. target_meaning (z q) w u.place u.number u.kind u.parts) _)))
        (λ m fs ps. late_item fit q w narrow places mappings scope h.place h.number h.suffix h.suffixes b.place b.number b.count b.writer f m fs ps
        b.reader))

    item_by : (d : ℕ) → ((ts : List Target) → suc (heights (map height ts)) ≤ d → list_all is_item (map shape ts) ≡ true → Each ts) → (t : Target)
        (c : Shape) → shape t ≡ c → ShapeIs t c → is_item c ≡ true → height t ≤ d → One t
    item_by d below t a_parted e h is low = tuple_item t h (below h.parts (omega (arith, low, parts_low t h)) h.items)
    item_by d below t a_part e h is low = flat_item t (part_item t h)
    item_by d below t a_name e h is low = flat_item t (plain_item t (ap is_member e))
    item_by d below t a_call e h is low = flat_item t (plain_item t (ap is_member e))
    item_by d below t a_tuple e h is low = flat_item t (plain_item t (ap is_member e))
    item_by d below t a_late e h is low = call_item t h
    item_by d below t a_wrong e h is low = absurd (cc)

    each_of : (d : ℕ) → ((t : Target) → height t ≤ d → is_item (shape t) ≡ true → One t) → (ts : List Target) → heights (map height ts) ≤ d
        → list_all is_item (map shape ts) ≡ true → Each ts
    each_of d one [] low e m fs ps = none_found q w scope f m fs ps
    each_of d one (t ∷ ts) low e m fs ps =
        let both = and_parts (is_item (shape t)) (list_all is_item (map shape ts)) e in
        more_found q w scope f (spotting t) (runs t) (map spotting ts) (map runs ts) (one t (omega (arith, low)) both.0)
        (each_of d one ts (omega (arith, low)) both.1) (λ qs grow. (members_grow (here q) scope ts qs grow).0) m fs ps

    item_found : (d : ℕ) (t : Target) → height t ≤ d → is_item (shape t) ≡ true → One t
    item_found zero t low e = item_by zero (λ ts bad e2. absurd (omega (arith, bad))) t (shape t) refl (shape_is t) e low
    item_found (suc d) t low e =
        item_by (suc d) (λ ts less e2. each_of d (item_found d) ts (omega (arith, less)) e2) t (shape t) refl (shape_is t) e low

    pub items_found : (ts : List Target) → list_all is_item (map shape ts) ≡ true → Each ts
    items_found ts e = each_of (heights (map height ts)) (item_found (heights (map height ts))) ts (omega arith) e
