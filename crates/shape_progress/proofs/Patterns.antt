-- A pattern by its rule goes on, and binds names of their shapes: by induction on its depth.
use Rattle.std.proofs.Common.{◌≡◌, ℕ, zero, suc, List, [], ◌∷◌, ◌++◌, map, length, ap, sym, ◌∙◌, refl, subst, true, nat_eq, if◌then◌else◌, arith}
use Rattle.std.proofs.lemmas.Bool.{and_parts}
use Rattle.sail_types.specs.Shapes.{fits, each_fits, put}
use Rattle.sail_types.specs.declared.shapes.Shape.{Shape}
use Rattle.sail_types.specs.declared.values.Value.{Value, out-Value}
use Rattle.sail_core.specs.declared.patterns.Arm.TheVariants as A
use Rattle.sail_core.specs.declared.patterns.Form.{Form}
use Rattle.sail_core.specs.declared.patterns.Form.TheVariants as F
use Rattle.sail_core.specs.declared.patterns.Pattern.{Pattern, out-Pattern, fold_out-Pattern}
use Rattle.sail_core.specs.Run as R
use Rattle.sail_core.specs.Run.{Run, gives, stuck, ◌then◌}
use Rattle.sail_core.specs.Making.{World, plainly}
use Rattle.sail_core.specs.Patterns.{Matcher, named, parts_of, parts_match}
use Rattle.shape_joins.proofs.Order.{no}
use Rattle.shape_rules.specs.declared.locals.Local.{Local}
use Rattle.shape_rules.specs.Scopes.{constant}
use Rattle.shape_meanings.specs.Keeping.{Fits, FitAll, Suits, Reach}
use Rattle.shape_meanings.proofs.Opening.{mapped_count}
use Rattle.shape_meanings.proofs.Arguments.{fit_count}
use Rattle.shape_meanings.proofs.Runs.{suits_behind}
use Rattle.shape_meanings.proofs.Values.{widens}
use Rattle.shape_progress.specs.Conditions.{head_met}
use Rattle.shape_progress.specs.Checks.{checked_form, checked_pattern}
use Rattle.shape_progress.specs.Going.{GoesOn, Binds}
use Rattle.shape_progress.specs.PatternRules.{PartsBind, FormBinds, PatternBinds, PatternsGoOn, ArmsGoOn}
use Rattle.shape_progress.proofs.Runs.{then_goes, gives_goes, met_goes}
use Rattle.shape_progress.proofs.Heads.{head_goes}

-- what is asked of each part, and what is known of it
abbrev Rule : Type 1
Rule = Shape → List Local → Pattern → Type 0

abbrev Sound : Reach → World Value → Rule → Type 0
Sound reach w P = (s : Shape) (binds : List Local) (p : Pattern) → P s binds p → Binds reach w s binds (checked_pattern w p)

count_parts : (P : Rule) (ss : List Shape) (ps : List Pattern) (binds : List Local) → PartsBind P ss ps binds → length ss ≡ length ps
count_parts P [] [] binds h = refl
count_parts P [] (p ∷ ps) binds h = absurd h
count_parts P (s ∷ ss) [] binds h = absurd h
count_parts P (s ∷ ss) (p ∷ ps) binds h = ap suc (count_parts P ss ps h.1 h.3)

-- names of a first part, and of those behind it
both_go : (reach : Reach) (w : World Value) (first others binds : List Local) (m : Run Value (List (R.Local Value))) (r : Run Value (List (R.Local Value)))
    → binds ≡ first ++ others → GoesOn reach w (Suits reach.types reach.choice first) m → GoesOn reach w (Suits reach.types reach.choice others) r
    → GoesOn reach w (Suits reach.types reach.choice binds) (m then λ found. r then λ more. gives (found ++ more))
both_go reach w first others binds m r is h k =
    then_goes reach w (Suits reach.types reach.choice first) (Suits reach.types reach.choice binds) m (λ found. r then λ more. gives (found ++ more)) h
    (λ found suits. then_goes reach w (Suits reach.types reach.choice others) (Suits reach.types reach.choice binds) r (λ more. gives (found ++ more)) k
    (λ more suits2. gives_goes reach w (Suits reach.types reach.choice binds) (found ++ more)
    (subst (λ bs. Suits reach.types reach.choice bs (found ++ more)) (sym is)
    (suits_behind reach.types reach.choice first others found more suits suits2))))

parts_go : (reach : Reach) (w : World Value) (P : Rule) → Sound reach w P → (ss : List Shape) (ps : List Pattern) (binds : List Local)
    → PartsBind P ss ps binds → (vs : List Value) → FitAll reach.types reach.choice ss vs
    → GoesOn reach w (Suits reach.types reach.choice binds) (parts_match (map (checked_pattern w) ps) vs)
parts_go reach w P sound [] [] binds h [] fit =
    gives_goes reach w (Suits reach.types reach.choice binds) [] (subst (λ bs. Suits reach.types reach.choice bs []) (sym h) tt)
parts_go reach w P sound [] [] binds h (v ∷ vs) fit = no fit
parts_go reach w P sound [] (p ∷ ps) binds h vs fit = absurd h
parts_go reach w P sound (s ∷ ss) [] binds h vs fit = absurd h
parts_go reach w P sound (s ∷ ss) (p ∷ ps) binds h [] fit = no fit
parts_go reach w P sound (s ∷ ss) (p ∷ ps) binds h (v ∷ vs) fit =
    let k = and_parts (fits reach.types v (put reach.choice s)) (each_fits (map (fits reach.types) vs) (map (put reach.choice) ss)) fit in
    both_go reach w h.0 h.1 binds (checked_pattern w p v) (parts_match (map (checked_pattern w) ps) vs) h.4 (sound s h.0 p h.2 v k.0)
    (parts_go reach w P sound ss ps h.1 h.3 vs k.1)

form_goes : (reach : Reach) (w : World Value) (P : Rule) → Sound reach w P → (form : Form) (ps : List Pattern) (s : Shape) (binds : List Local)
    → FormBinds P reach w form ps s binds → Binds reach w s binds (checked_form w form (map (checked_pattern w) ps))
form_goes reach w P sound F.Any [] s binds h v fit =
    gives_goes reach w (Suits reach.types reach.choice binds) [] (subst (λ bs. Suits reach.types reach.choice bs []) (sym h) tt)
form_goes reach w P sound (F.Binds name) [] s binds h v fit =
    gives_goes reach w (Suits reach.types reach.choice binds) (named name v)
    (subst (λ bs. Suits reach.types reach.choice bs (named name v)) (sym h) (refl, fit, tt))
form_goes reach w P sound (F.As name) (p ∷ []) s binds h v fit =
    then_goes reach w (Suits reach.types reach.choice h.0) (Suits reach.types reach.choice binds) (checked_pattern w p v)
    (λ found. gives (found ++ named name v)) (sound s h.0 p h.1 v fit)
    (λ found suits. gives_goes reach w (Suits reach.types reach.choice binds) (found ++ named name v)
    (subst (λ bs. Suits reach.types reach.choice bs (found ++ named name v)) (sym h.2)
    (suits_behind reach.types reach.choice h.0 (constant name s ∷ []) found (named name v) suits (refl, fit, tt))))
form_goes reach w P sound (F.Typed written) (p ∷ []) s binds h v fit =
    sound h.0 binds p h.2 v (widens reach.types v reach.choice s h.0 h.1 fit)
form_goes reach w P sound (F.Opens head) ps s binds h v fit =
    met_goes reach w (Suits reach.types reach.choice binds) (head_met w.numbers head (length (map (checked_pattern w) ps)) (out-Value v))
    (parts_of plainly w head (length (map (checked_pattern w) ps)) v then parts_match (map (checked_pattern w) ps))
    (λ met. then_goes reach w (FitAll reach.types reach.choice h.0) (Suits reach.types reach.choice binds)
    (parts_of plainly w head (length (map (checked_pattern w) ps)) v) (parts_match (map (checked_pattern w) ps))
    (head_goes reach w head (length (map (checked_pattern w) ps)) v s h.0 h.1
    (count_parts P h.0 ps binds h.2 ∙ sym (mapped_count (checked_pattern w) ps)) fit met)
    (λ vs fit2. parts_go reach w P sound h.0 ps binds h.2 vs fit2))
form_goes reach w P sound (F.Maps d) (p ∷ []) s binds h v fit =
    then_goes reach w (Fits reach.types reach.choice h.0) (Suits reach.types reach.choice binds) (w.way d v) (checked_pattern w p) (h.1 v fit)
    (λ u fit2. sound h.0 binds p h.2 u fit2)
form_goes reach w P sound form ps s binds h v fit = absurd h

pub patterns_go_on : PatternsGoOn
patterns_go_on zero reach w s binds p h = absurd h
patterns_go_on (suc n) reach w s binds p h =
    subst (Binds reach w s binds) (sym (fold_out-Pattern (Matcher Value) (λ q. checked_form w q.form q.parts) p))
    (λ v fit. form_goes reach w (PatternBinds n reach w) (λ t more q k. patterns_go_on n reach w t more q k) (out-Pattern p).form (out-Pattern p).parts
    h.0 binds h.2 v (widens reach.types v reach.choice s h.0 h.1 fit))

is_equal : (n k : ℕ) → n ≡ k → nat_eq n k ≡ true
is_equal n k h = grind (arith, h)

pub arms_go_on : ArmsGoOn
arms_go_on n reach w ss binds (A.Nested ps) h vs fit =
    subst (λ b. GoesOn reach w (Suits reach.types reach.choice binds) (if b then parts_match (map (checked_pattern w) ps) vs else stuck))
    (sym (is_equal (length vs) (length ps) (fit_count reach.types reach.choice ss vs fit ∙ count_parts (PatternBinds n reach w) ss ps binds h)))
    (parts_go reach w (PatternBinds n reach w) (patterns_go_on n reach w) ss ps binds h vs fit)
arms_go_on n reach w ss binds (A.Flat k steps) h vs fit = absurd h
