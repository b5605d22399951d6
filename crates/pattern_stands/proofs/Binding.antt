-- How a pattern binds by its form's rule, over parts that do, whatever the depths of their derivations.
use Rattle.std.proofs.Common.{◌≡◌, ℕ, zero, suc, ◌+◌, zero-add, suc-add, List, [], ◌∷◌, length, sym, refl, subst, true, arith}
use Rattle.sail_base.specs.declared.place.Place.{Place}
use Rattle.sail_types.specs.declared.shapes.Shape.{Shape}
use Rattle.sail_types.specs.declared.values.Value.{Value}
use Rattle.sail_core.specs.declared.patterns.Form.{Form}
use Rattle.sail_core.specs.declared.patterns.Form.TheVariants as F
use Rattle.sail_core.specs.declared.patterns.Head.{Head}
use Rattle.sail_core.specs.declared.patterns.Pattern.{Pattern, Pattern-F}
use Rattle.sail_core.specs.declared.patterns.Pattern.TheViews.{out-roll-Pattern}
use Rattle.sail_core.specs.Making.{World}
use Rattle.shape_joins.specs.Filling.{fills}
use Rattle.shape_rules.specs.declared.error.ShapeError.{ShapeError}
use Rattle.shape_rules.specs.declared.locals.Local.{Local}
use Rattle.shape_rules.specs.Patterns.{Looked, LookedAll, Piece, Widths, each_looked, opened, pattern}
use Rattle.shape_meanings.specs.Keeping.{Reach, reach_of}
use Rattle.shape_meanings.specs.Whole.{Choice}
use Rattle.shape_progress.specs.PatternRules.{FormBinds, HeadOpens, PartsBind, PatternBinds}
use Rattle.shape_stands.specs.Inside.{Inside, Position}
use Rattle.shape_stands.specs.Stands.{AreGiven, LooksShaped, PiecesStand}
use Rattle.shape_stands.proofs.Deeper.{parts_more, pattern_deeper}
use Rattle.shape_stands.proofs.Standing.{both_empty}
use Rattle.shape_stands.proofs.Together.{together}

-- a form by its rule, where its shape is what comes once filled
pub form_binds : (n : ℕ) (reach : Reach) (w : World Value) (s t : Shape) (binds : List Local) (place : Place) (form : Form) (parts : List Pattern)
    → fills s t ≡ true → FormBinds (PatternBinds n reach w) reach w form parts t binds → PatternBinds (suc n) reach w s binds (pattern place form parts)
form_binds n reach w s t binds place form parts above h = (
  t,
  above,
  subst (λ (p : Pattern-F Pattern). FormBinds (PatternBinds n reach w) reach w p.form p.parts t binds)
      (sym (out-roll-Pattern (record { place = place; form = form; parts = parts }))) h,
)

pattern_above : (k n : ℕ) (reach : Reach) (w : World Value) (s : Shape) (binds : List Local) (p : Pattern) → PatternBinds n reach w s binds p
    → PatternBinds (k + n) reach w s binds p
pattern_above zero n reach w s binds p h = subst (λ m. PatternBinds m reach w s binds p) (sym (zero-add n)) h
pattern_above (suc k) n reach w s binds p h =
    subst (λ m. PatternBinds m reach w s binds p) (sym (suc-add k n)) (pattern_deeper (k + n) reach w s binds p (pattern_above k n reach w s binds p h))

not_zero : {A : Type 0} (n : ℕ) → suc n ≡ zero → A
not_zero n h = grind (arith, h)

zero_not : {A : Type 0} (n : ℕ) → zero ≡ suc n → A
zero_not n h = grind (arith, h)

one_less : (n k : ℕ) → suc n ≡ suc k → n ≡ k
one_less n k h = grind (arith, h)

-- parts, each on its shape, under one depth
pub parts_bind : (here : Position) (widths : Widths) (ps : List Piece) (ss : List Shape) → PiecesStand here widths ps → length ps ≡ length ss
    → (each_looked ps here.setting widths ss).faults ≡ [] → (registers : List Shape) (c : Choice) (w : World Value) → Inside here registers c w
    → AreGiven widths w → (slots : List Local)
    → (n : ℕ) × PartsBind (PatternBinds n (reach_of here.setting registers c slots) w) ss (each_looked ps here.setting widths ss).patterns
    (each_looked ps here.setting widths ss).binds
parts_bind here widths [] [] stand many e registers c w inside given slots = (zero, refl)
parts_bind here widths [] (s ∷ ss) stand many e registers c w inside given slots = zero_not (length ss) many
parts_bind here widths (p ∷ ps) [] stand many e registers c w inside given slots = not_zero (length ps) many
parts_bind here widths (p ∷ ps) (s ∷ ss) stand many e registers c w inside given slots =
    let reach : Reach = reach_of here.setting registers c slots in
    let first : Looked = p.look here.setting widths s in
    let more : LookedAll = each_looked ps here.setting widths ss in
    let h = both_empty first.faults more.faults e in
    let one = stand.0 s h.0 registers c w inside given slots in
    let others = parts_bind here widths ps ss stand.1 (one_less (length ps) (length ss) many) h.1 registers c w inside given slots in
    let x = together (λ n. PatternBinds n reach w s first.binds first.pattern) (λ n. PartsBind (PatternBinds n reach w) ss more.patterns more.binds)
    (λ k n d. pattern_above k n reach w s first.binds first.pattern d)
    (λ k n d. parts_more (PatternBinds n reach w) (PatternBinds (k + n) reach w) (λ q bs r f. pattern_above k n reach w q bs r f) ss more.patterns
    more.binds d) one others in
    (x.0, (first.binds, more.binds, x.1.0, x.1.1, refl))

-- a head that opens what comes, of this shape once filled, into parts of these shapes
pub opens : (here : Position) (widths : Widths) (subject t : Shape) (place : Place) (head : Head) (faults : List ShapeError) (ps : List Piece)
    (ss : List Shape)
    → PiecesStand here widths ps → length ps ≡ length ss → (each_looked ps here.setting widths ss).faults ≡ []
    → ((registers : List Shape) (c : Choice) (w : World Value) → Inside here registers c w → AreGiven widths w
    → (fills subject t ≡ true) × HeadOpens here.setting.types w.numbers head t ss)
    → LooksShaped here widths subject (opened place head faults (each_looked ps here.setting widths ss))
opens here widths subject t place head faults ps ss stand many e there registers c w inside given slots =
    let reach : Reach = reach_of here.setting registers c slots in
    let all : LookedAll = each_looked ps here.setting widths ss in
    let is = there registers c w inside given in
    let parts = parts_bind here widths ps ss stand many e registers c w inside given slots in
    (suc parts.0, form_binds parts.0 reach w subject t all.binds place (F.Opens head) all.patterns is.0 (ss, is.1, parts.1))
