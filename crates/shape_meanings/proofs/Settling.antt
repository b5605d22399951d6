-- What is settled is right where its core and its meaning agree; nodes; literals and names.
use Rattle.std.proofs.Common.{◌≡◌, ℕ, List, [], ◌∷◌, ◌++◌, map, ap, ◌∙◌, refl, subst, Bool, true, false, Option, Some, None, arith}
use Rattle.std.proofs.Common.{if◌then◌else◌}
use Rattle.std.proofs.lemmas.Slice.Eq.{bytes_eq-Decides}
use Rattle.std.specs.Str.{bytes_eq}
use Rattle.sail_base.specs.declared.place.Place.{Place}
use Rattle.sail_types.specs.Shapes.{fits, form_fits, put, Asked}
use Rattle.sail_types.specs.declared.shapes.Shape.{Shape, Shape-F, roll-Shape}
use Rattle.sail_types.specs.declared.shapes.Shape.TheViews.{out-roll-Shape}
use Rattle.sail_types.specs.declared.shapes.Shape.TheOpen as S
use Rattle.sail_types.specs.declared.shapes.Shape.TheVariants as V
use Rattle.sail_types.specs.declared.table.Types.{Types}
use Rattle.sail_types.specs.declared.values.Value.{Value, Value-F, roll-Value}
use Rattle.sail_types.specs.declared.values.Value.TheFolds.{map-Value}
use Rattle.sail_types.specs.declared.values.Value.TheOpen as W
use Rattle.sail_types.specs.declared.values.Value.TheVariants as Val
use Rattle.sail_syntax.specs.declared.name.Literal.{Literal}
use Rattle.sail_syntax.specs.declared.name.Literal.TheVariants as N
use Rattle.sail_core.specs.declared.tree.Kind.{Kind}
use Rattle.sail_core.specs.declared.tree.Kind.TheVariants as K
use Rattle.sail_core.specs.declared.tree.Core.{Core, fold-roll-Core}
use Rattle.sail_core.specs.Run as R
use Rattle.sail_core.specs.Run.{Now, Run, needs, gives, held_in}
use Rattle.sail_core.specs.Making as Core
use Rattle.sail_core.specs.Making.{plainly, made}
use Rattle.sail_core.specs.Meaning.{core_meaning, kind_meaning}
use Rattle.sail_core.specs.Nodes.{node}
use Rattle.sail_core.specs.Values.{literal_value as core_value}
use Rattle.shape_joins.specs.Joins.{join}
use Rattle.shape_joins.specs.Filling.{fills}
use Rattle.shape_joins.proofs.JoinsLeast.{joins_are_above}
use Rattle.sail_meaning.specs.World as Source
use Rattle.sail_meaning.specs.Expressions.{literal_value}
use Rattle.shape_rules.specs.declared.locals.Local.{Local}
use Rattle.shape_rules.specs.declared.error.ShapeError.{ShapeError}
use Rattle.shape_rules.specs.Findings.{Found, settled, settled_as, leaf, behind}
use Rattle.shape_rules.specs.Scopes.{Setting, Locals}
use Rattle.shape_rules.specs.Patterns.{literal_shape, core_literal}
use Rattle.shape_rules.specs.Values.{constant_found}
use Rattle.shape_meanings.specs.Whole.{Choice}
use Rattle.shape_meanings.specs.Keeping.{Fits, SeenAs, Good, reach_of, Agree}
use Rattle.shape_meanings.specs.Worlds.{Describes}
use Rattle.shape_meanings.specs.Sound.{Right}
use Rattle.shape_meanings.proofs.Values.{widens, fits_form, opened_at, out_put}
use Rattle.shape_meanings.proofs.Runs.{agree_as}

-- ---- what agrees

-- a core and a meaning that agree, and give values of a shape
abbrev pub RunsAs : Setting → Locals → Shape → Core → Source.Meaning → Type 0
RunsAs setting locals s core m =
    (registers : List Shape) (c : Choice) (wc : Core.World Value) (ws : Source.World) → Describes setting registers wc ws
    → (slots : List Local) → SeenAs slots locals → (now : Now Value) → Good (reach_of setting registers c slots) now
    → Agree (reach_of setting registers c slots) (Fits setting.types c s) (core_meaning wc core now) (m ws now)

pub widened : (setting : Setting) (locals : Locals) (s t : Shape) (core : Core) (m : Source.Meaning) → fills s t ≡ true → RunsAs setting locals s core m
    → RunsAs setting locals t core m
widened setting locals s t core m over runs registers c wc ws d slots seen now good =
    agree_as (reach_of setting registers c slots) (Fits setting.types c s) (Fits setting.types c t) (core_meaning wc core now) (m ws now)
    (λ v h. widens setting.types v c s t over h) (runs registers c wc ws d slots seen now good)

no_faults : (e : ShapeError) (es : List ShapeError) → (e ∷ es) ≡ [] → ⊥
no_faults e es h = cc

pub settled_step : (setting : Setting) (locals : Locals) (place : Place) (want s : Shape) (core : Shape → Core) (m : Source.Meaning) (o : Option Shape)
    → join s want ≡ o → (settled_as place want s core o).faults ≡ [] → ((t : Shape) → RunsAs setting locals s (core t) m)
    → Right setting locals want (settled_as place want s core o) m
settled_step setting locals place want s core m None is e runs = absurd (no_faults _ [] e)
settled_step setting locals place want s core m (Some t) is e runs =
    let o = joins_are_above s want t is in
    record { above = o.1; runs = widened setting locals s t (core t) m o.0 (runs t) }

-- what is settled is right
pub settled_right : (setting : Setting) (locals : Locals) (place : Place) (want s : Shape) (core : Shape → Core) (m : Source.Meaning)
    → (settled place want s core).faults ≡ [] → ((t : Shape) → RunsAs setting locals s (core t) m)
    → Right setting locals want (settled place want s core) m
settled_right setting locals place want s core m e runs = settled_step setting locals place want s core m (join s want) refl e runs

-- two lists that are empty together are each empty
pub both_empty : {A : Type 0} (xs ys : List A) → (xs ++ ys) ≡ [] → (xs ≡ []) × (ys ≡ [])
both_empty [] ys h = (refl, h)
both_empty (x ∷ xs) ys h = absurd (not_empty x (xs ++ ys) h)
  where
    not_empty : {A : Type 0} (x : A) (xs : List A) → (x ∷ xs) ≡ [] → ⊥
    not_empty x xs h = cc

-- what is right stays so behind failures that aren't there
pub behind_right : (setting : Setting) (locals : Locals) (want : Shape) (faults : List ShapeError) (found : Found) (m : Source.Meaning)
    → Right setting locals want found m → Right setting locals want (behind faults found) m
behind_right setting locals want faults found m r = record { above = r.above; runs = r.runs }

-- ---- nodes

-- what a node means: its kind, over what its parts mean
pub unrolled : (w : Core.World Value) (place : Place) (k : ℕ) (kind : Kind) (parts : List Core)
    → core_meaning w (node place k kind parts) ≡ kind_meaning plainly w place k kind (map (core_meaning w) parts)
unrolled w place k kind parts =
    fold-roll-Core (Run Value Value) (λ c. kind_meaning plainly w c.place c.number c.kind c.parts)
    (record { place = place; number = k; kind = kind; parts = parts })

-- ---- literals

-- a value and a shape by their forms
pub form_has : (types : Types) (c : Choice) (x : Value-F Value) (y : Shape-F Shape) (v : Value) (s : Shape) → roll-Value x ≡ v → roll-Shape y ≡ s
    → form_fits types (map-Value Value Asked (fits types) x) (opened_at c y) ≡ true → Fits types c s v
form_has types c x y v s e f h =
    subst (λ t. Fits types c t v) f (subst (λ u. Fits types c (roll-Shape y) u) e
    (fits_form types x (put c (roll-Shape y))
    ∙ ap (form_fits types (map-Value Value Asked (fits types) x)) (out_put c (roll-Shape y) ∙ ap (opened_at c) (out-roll-Shape y)) ∙ h))

pub literal_fits : (types : Types) (c : Choice) (literal : Literal) → Fits types c (literal_shape literal) (literal_value literal)
literal_fits types c (N.Number n) = form_has types c (W.Integer n) S.Int (Val.Integer n) V.Int (Val.rolls-Integer n) V.rolls-Int refl
literal_fits types c (N.Bits bits) = form_has types c (W.Bits bits) S.Bits (Val.Bits bits) V.Bits (Val.rolls-Bits bits) V.rolls-Bits refl
literal_fits types c (N.String text) = form_has types c (W.String text) S.String (Val.String text) V.String (Val.rolls-String text) V.rolls-String refl
literal_fits types c (N.Bool b) = form_has types c (W.Truth b) S.Bool (Val.Truth b) V.Bool (Val.rolls-Truth b) V.rolls-Bool refl
literal_fits types c (N.Bit b) = form_has types c (W.Bit b) S.Bit (Val.Bit b) V.Bit (Val.rolls-Bit b) V.rolls-Bit refl

same_literal : (literal : Literal) → core_value (core_literal literal) ≡ literal_value literal
same_literal (N.Number n) = refl
same_literal (N.Bits bits) = refl
same_literal (N.String text) = refl
same_literal (N.Bool b) = refl
same_literal (N.Bit b) = refl

literal_runs : (setting : Setting) (locals : Locals) (place : Place) (literal : Literal)
    → RunsAs setting locals (literal_shape literal) (leaf place (K.Constant (core_literal literal))) (λ w. gives (literal_value literal))
literal_runs setting locals place literal registers c wc ws d slots seen now good = (
  ap (λ (r : Run Value Value). r now) (unrolled wc place 0 (K.Constant (core_literal literal)) []) ∙ ap (λ v. R.Gives v now) (same_literal literal),
  (literal_fits setting.types c literal, good),
)

pub constant_right : (setting : Setting) (locals : Locals) (want : Shape) (place : Place) (literal : Literal)
    → (constant_found place literal want).faults ≡ []
    → Right setting locals want (constant_found place literal want) (λ w. gives (literal_value literal))
constant_right setting locals want place literal e =
    settled_right setting locals place want (literal_shape literal) (λ s. leaf place (K.Constant (core_literal literal))) (λ w. gives (literal_value literal)) e
    (λ t. literal_runs setting locals place literal)

-- ---- local names

pub same_name : (xs ys : List ℕ) → bytes_eq xs ys ≡ true → xs ≡ ys
same_name xs ys h = grind (arith, bytes_eq-Decides xs ys)

pub local_kind_means : (b : Bool) (wc : Core.World Value) (place : Place) (l : Local) (now : Now Value) → l.is_variable ≡ b
    → kind_meaning plainly wc place 0 (if b then K.Variable l.name else K.Local l.name) [] now ≡ needs (held_in l.name now.locals) now
local_kind_means true wc place l now h = after_made (held_in l.name now.locals) now
  where
    after_made : (o : Option Value) (now : Now Value) → R.goes_on (needs o now) (λ x. made plainly 0 [] x) ≡ needs o now
    after_made None now = refl
    after_made (Some v) now = refl
local_kind_means false wc place l now h = after_made (held_in l.name now.locals) now
  where
    after_made : (o : Option Value) (now : Now Value) → R.goes_on (needs o now) (λ x. made plainly 0 (x ∷ []) x) ≡ needs o now
    after_made None now = refl
    after_made (Some v) now = refl
