-- A core with numbers ends as the core without them can.
use Rattle.std.proofs.Common.{◌≡◌, ℕ, suc, List, [], ◌∷◌, map, ap, sym, ◌∙◌, refl, subst}
use Rattle.sail_core.specs.declared.tree.Kind.{Kind}
use Rattle.sail_core.specs.declared.tree.Kind.TheVariants as K
use Rattle.sail_core.specs.declared.tree.Core.{Core, Core-F, fold-roll-Core, ind-Core, map-Core, roll-Core}
use Rattle.core_numbers.specs.Numbers.{Numbered, Numbering, core_with, each_numbered, kind_numbered, numbered}
use Rattle.plain_cores.specs.Ends.{Ends, decides, ends, ends_kind}

kind_same : (kind : Kind) (n : ℕ) (es : List Ends) → ends_kind (kind_numbered kind n).it es ≡ ends_kind kind es
kind_same (K.Part ss) n es = refl
kind_same (K.Assign targets) n es = refl
kind_same kind n es = refl

abbrev EndsSame : Core → Type 0
EndsSame core = (n : ℕ) → ends (numbered core n).it ≡ ends core

abbrev Such : Type 0
Such = (core : Core) × EndsSame core

parts_same : (ys : List Such) (n : ℕ)
    → map ends (each_numbered (map numbered (map (λ (y : Such). y.0) ys)) n).it ≡ map ends (map (λ (y : Such). y.0) ys)
parts_same [] n = refl
parts_same (y ∷ ys) n = λ i. y.1 n i ∷ parts_same ys (numbered y.0 n).next i

core_step : (y : Core-F Such) → EndsSame (roll-Core (map-Core Such Core (λ q. q.0) y))
core_step y n =
    let d : Core-F Core = map-Core Such Core (λ q. q.0) y in
    let kind : Numbered Kind = kind_numbered y.kind (suc n) in
    let parts : List Core = (each_numbered (map numbered d.parts) kind.next).it in
    let unroll = fold-roll-Core Ends (λ c. ends_kind c.kind c.parts) in
    ap (λ (f : Numbering Core). ends (f n).it)
    (fold-roll-Core (Numbering Core) (λ c n. core_with c n (kind_numbered c.kind (suc n))) d)
    ∙ unroll (record { place = y.place; number = n; kind = kind.it; parts = parts })
    ∙ ap (ends_kind kind.it) (parts_same y.parts kind.next)
    ∙ kind_same y.kind (suc n) (map ends d.parts) ∙ sym (unroll d)

pub ends_numbered : (core : Core) → EndsSame core
ends_numbered = ind-Core EndsSame (λ e y is. subst (λ d. EndsSame (roll-Core d)) is (core_step y))

pub decides_numbered : (core : Core) (n : ℕ) → decides (numbered core n).it ≡ decides core
decides_numbered core n = ap (λ (e : Ends). e.alone) (ends_numbered core n)
