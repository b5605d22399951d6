-- The numbers of a definition's nodes mean nothing where each value stands for itself.
use Rattle.std.proofs.Common.{◌≡◌, ℕ, suc, List, [], ◌∷◌, map, ap, sym, ◌∙◌, refl, subst, Some, None}
use Rattle.sail_base.specs.declared.place.Place.{Place}
use Rattle.sail_types.specs.declared.values.Value.{Value}
use Rattle.sail_core.specs.declared.targets.Suffix.{Suffix}
use Rattle.sail_core.specs.declared.targets.TargetKind.{TargetKind}
use Rattle.sail_core.specs.declared.targets.TargetKind.TheVariants as T
use Rattle.sail_core.specs.declared.targets.Target.{Target, Target-F, fold-roll-Target, ind-Target, map-Target, roll-Target}
use Rattle.sail_core.specs.declared.tree.Kind.{Kind}
use Rattle.sail_core.specs.declared.tree.Kind.TheVariants as K
use Rattle.sail_core.specs.declared.tree.Core.{Core, Core-F, fold-roll-Core, ind-Core, map-Core, roll-Core}
use Rattle.sail_core.specs.Run.{Run, ◌then◌}
use Rattle.sail_core.specs.Making.{World, plainly}
use Rattle.sail_core.specs.Targets.{Spot, Spotting, assigned, part_spot, spotted, spotting, target_meaning, way_then, ways_of}
use Rattle.sail_core.proofs.Numbering.{same_number}
use Rattle.sail_core.specs.Meaning.{core_meaning, kind_meaning, suffix_then, suffixes_of}
use Rattle.core_numbers.specs.Numbers.{Numbered, Numbering, core_with, each_numbered, kind_numbered, numbered, suffix_numbered, target_kind_numbered}
use Rattle.core_numbers.specs.Numbers.{target_numbered, target_with}
use Rattle.shape_meanings.proofs.Settling.{unrolled}

-- ---- suffixes

suffixes_same : (ss : List Suffix) (n : ℕ) → suffixes_of plainly (each_numbered (map suffix_numbered ss) n).it ≡ suffixes_of plainly ss
suffixes_same [] n = refl
suffixes_same (s ∷ ss) n = λ i parts x. suffix_then plainly s.number s.way parts x (suffixes_same ss (suc n) i)

ways_same : (ss : List Suffix) (n : ℕ) → ways_of plainly (each_numbered (map suffix_numbered ss) n).it ≡ ways_of plainly ss
ways_same [] n = refl
ways_same (s ∷ ss) n = λ i parts. way_then plainly s.way parts (ways_same ss (suc n) i)

-- ---- targets

abbrev Spotter : Type 0
Spotter = Spotting Value (Spot Value)

target_kind_same : (w : World Value) (place : Place) (k l : ℕ) (kind : TargetKind) (n : ℕ) (parts : List Spotter)
    → target_meaning plainly w place k (target_kind_numbered kind n).it parts ≡ target_meaning plainly w place l kind parts
target_kind_same w place k l (T.Call count None writer) n parts = refl
target_kind_same w place k l (T.Call count (Some reader) writer) n parts = refl
target_kind_same w place k l (T.Part ss) n [] = refl
target_kind_same w place k l (T.Part ss) n (b ∷ []) = λ i parts.
    b parts then λ base. ways_same ss n i base.left then λ ways. spotted (part_spot plainly l base.found ways.found) ways.left
target_kind_same w place k l (T.Part ss) n (b ∷ c ∷ more) = refl
target_kind_same w place k l kind n parts = refl

abbrev TargetIs : World Value → Target → Type 0
TargetIs w t = (n : ℕ) → spotting plainly w (target_numbered t n).it ≡ spotting plainly w t

abbrev SuchT : World Value → Type 0
SuchT w = (t : Target) × TargetIs w t

inner_same : (w : World Value) (ys : List (SuchT w)) (n : ℕ)
    → map (spotting plainly w) (each_numbered (map target_numbered (map (λ (y : SuchT w). y.0) ys)) n).it
    ≡ map (spotting plainly w) (map (λ (y : SuchT w). y.0) ys)
inner_same w [] n = refl
inner_same w (y ∷ ys) n = λ i. y.1 n i ∷ inner_same w ys (target_numbered y.0 n).next i

target_step : (w : World Value) (y : Target-F (SuchT w)) → TargetIs w (roll-Target (map-Target (SuchT w) Target (λ q. q.0) y))
target_step w y n =
    let d : Target-F Target = map-Target (SuchT w) Target (λ q. q.0) y in
    let kind : Numbered TargetKind = target_kind_numbered y.kind (suc n) in
    let parts : List Target = (each_numbered (map target_numbered d.parts) kind.next).it in
    let unroll = fold-roll-Target Spotter (λ t. target_meaning plainly w t.place t.number t.kind t.parts) in
    ap (λ (f : Numbering Target). spotting plainly w (f n).it)
    (fold-roll-Target (Numbering Target) (λ t n. target_with t n (target_kind_numbered t.kind (suc n))) d)
    ∙ unroll (record { place = y.place; number = n; kind = kind.it; parts = parts })
    ∙ ap (target_meaning plainly w y.place n kind.it) (inner_same w y.parts kind.next)
    ∙ target_kind_same w y.place n y.number y.kind (suc n) (map (spotting plainly w) d.parts) ∙ sym (unroll d)

target_same : (w : World Value) (t : Target) → TargetIs w t
target_same w = ind-Target (TargetIs w) (λ e y is. subst (λ d. TargetIs w (roll-Target d)) is (target_step w y))

targets_same : (w : World Value) (ts : List Target) (n : ℕ)
    → map (spotting plainly w) (each_numbered (map target_numbered ts) n).it ≡ map (spotting plainly w) ts
targets_same w [] n = refl
targets_same w (t ∷ ts) n = λ i. target_same w t n i ∷ targets_same w ts (target_numbered t n).next i

-- ---- nodes

kind_same : (w : World Value) (place : Place) (k l : ℕ) (kind : Kind) (n : ℕ) (parts : List (Run Value Value))
    → kind_meaning plainly w place k (kind_numbered kind n).it parts ≡ kind_meaning plainly w place l kind parts
kind_same w place k l (K.Part ss) n [] = refl
kind_same w place k l (K.Part ss) n (a ∷ indexes) = λ i. a then suffixes_same ss n i indexes
kind_same w place k l (K.Assign targets) n parts = λ i. assigned (targets_same w targets n i) parts
kind_same w place k l (K.Block statements) n parts = same_number w k l place (K.Block statements) parts
kind_same w place k l (K.Match arms shape) n parts = same_number w k l place (K.Match arms shape) parts
kind_same w place k l (K.Try arms shape) n parts = same_number w k l place (K.Try arms shape) parts
kind_same w place k l (K.Clauses arms) n parts = same_number w k l place (K.Clauses arms) parts
kind_same w place k l kind n parts = refl

abbrev Means : World Value → Core → Type 0
Means w core = (n : ℕ) → core_meaning w (numbered core n).it ≡ core_meaning w core

abbrev SuchC : World Value → Type 0
SuchC w = (core : Core) × Means w core

parts_same : (w : World Value) (ys : List (SuchC w)) (n : ℕ)
    → map (core_meaning w) (each_numbered (map numbered (map (λ (y : SuchC w). y.0) ys)) n).it ≡ map (core_meaning w) (map (λ (y : SuchC w). y.0) ys)
parts_same w [] n = refl
parts_same w (y ∷ ys) n = λ i. y.1 n i ∷ parts_same w ys (numbered y.0 n).next i

core_step : (w : World Value) (y : Core-F (SuchC w)) → Means w (roll-Core (map-Core (SuchC w) Core (λ q. q.0) y))
core_step w y n =
    let d : Core-F Core = map-Core (SuchC w) Core (λ q. q.0) y in
    let kind : Numbered Kind = kind_numbered y.kind (suc n) in
    let parts : List Core = (each_numbered (map numbered d.parts) kind.next).it in
    ap (λ (f : Numbering Core). core_meaning w (f n).it)
    (fold-roll-Core (Numbering Core) (λ c n. core_with c n (kind_numbered c.kind (suc n))) d)
    ∙ unrolled w y.place n kind.it parts
    ∙ ap (kind_meaning plainly w y.place n kind.it) (parts_same w y.parts kind.next)
    ∙ kind_same w y.place n y.number y.kind (suc n) (map (core_meaning w) d.parts) ∙ sym (unrolled w y.place y.number y.kind d.parts)

pub numbers_mean_nothing : (w : World Value) (core : Core) (n : ℕ) → core_meaning w (numbered core n).it ≡ core_meaning w core
numbers_mean_nothing w = ind-Core (Means w) (λ e y is. subst (λ d. Means w (roll-Core d)) is (core_step w y))
