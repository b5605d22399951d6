-- Types at expressions; `return`, `throw`, `exit` and `assert`.
use Rattle.std.proofs.Common.{◌≡◌, ℕ, List, [], ◌∷◌, ◌++◌, ap, sym, ◌∙◌, refl, subst, Bool, true, Option, Some}
use Rattle.sail_base.specs.declared.place.Place.{Place}
use Rattle.sail_types.specs.Shapes.{fits, put, shape}
use Rattle.sail_types.specs.declared.shapes.Shape.{Shape}
use Rattle.sail_types.specs.declared.shapes.Shape.TheFolds.{fold-roll-Shape}
use Rattle.sail_types.specs.declared.shapes.Shape.TheOpen as S
use Rattle.sail_types.specs.declared.shapes.Shape.TheVariants as V
use Rattle.sail_types.specs.declared.types.Typ.{Typ}
use Rattle.sail_types.specs.declared.values.Value.{Value}
use Rattle.sail_syntax.specs.declared.types.TyExp.{TyExp}
use Rattle.sail_syntax.specs.declared.words.Leaving.TheVariants as Leave
use Rattle.sail_core.specs.declared.tree.Kind.{Kind}
use Rattle.sail_core.specs.declared.tree.Kind.TheVariants as K
use Rattle.sail_core.specs.declared.tree.Core.{Core}
use Rattle.sail_core.specs.declared.written.Written.{Written}
use Rattle.sail_core.specs.Run.{Now, Run, goes_on, ◌then◌}
use Rattle.sail_core.specs.Making as Core
use Rattle.sail_core.specs.Making.{plainly}
use Rattle.sail_core.specs.Meaning.{core_meaning, kind_meaning}
use Rattle.sail_meaning.specs.World as Source
use Rattle.sail_meaning.specs.World.{Piece}
use Rattle.sail_meaning.specs.Expressions.{leave}
use Rattle.shape_rules.specs.declared.locals.Local.{Local}
use Rattle.shape_rules.specs.Findings.{Found, cast, over}
use Rattle.shape_rules.specs.Scopes.{Setting, Locals, thrown_shape, thrown_as}
use Rattle.shape_rules.specs.Targets.{Part}
use Rattle.shape_rules.specs.Written.{shape_in, shape_or_never, typ_in, written, written_faults}
use Rattle.shape_rules.specs.Values.{typed_found, left_found, return_found, leave_found}
use Rattle.shape_meanings.specs.Whole.{Choice, below, below_form}
use Rattle.shape_meanings.specs.Keeping.{Fits, Reach, Good, reach_of, Keeps, Answers}
use Rattle.shape_meanings.specs.Worlds.{Describes}
use Rattle.shape_meanings.specs.Parts.{IsRight}
use Rattle.shape_meanings.specs.Sound.{Right}
use Rattle.shape_meanings.proofs.Orders.{exact}
use Rattle.shape_meanings.proofs.Runs.{then_agree}
use Rattle.shape_meanings.proofs.Settling.{RunsAs, settled_right, behind_right, both_empty, unrolled}
use Rattle.shape_meanings.proofs.Branches.{cast_means, after_gives}
use Rattle.shape_meanings.proofs.Naming.{named_put}

-- ---- `e : T`

typed_runs : (setting : Setting) (locals : Locals) (place : Place) (s : Shape) (w : Option Written) (core : Core) (m : Source.Meaning)
    → RunsAs setting locals s core m → RunsAs setting locals s (over place (K.Cast w) (core ∷ [])) m
typed_runs setting locals place s w core m runs registers c wc ws d slots seen now good =
    let r = runs registers c wc ws d slots seen now good in (
      ap (λ (q : Run Value Value). q now) (unrolled wc place 0 (K.Cast w) (core ∷ [])) ∙ after_gives (core_meaning wc core now) ∙ r.0,
      r.1,
    )

pub typed_right : (setting : Setting) (locals : Locals) (place : Place) (a : Part) (typ : TyExp) (t : Typ) (n : ℕ) (m : Source.Meaning)
    → typ_in setting.within typ ≡ Some t → below n (shape t) ≡ true → IsRight setting locals a.elaborate m
    → IsRight setting locals (typed_found place a typ) m
typed_right setting locals place a typ t n m is whole right want e =
    let s : Shape = shape_in setting.within typ in
    let found : Found = a.elaborate setting locals s in
    let h = both_empty (found.faults ++ written_faults setting.within typ) _ e in
    let h2 = both_empty found.faults (written_faults setting.within typ) h.0 in
    let r = right s h2.0 in
    let same : found.shape ≡ s = exact s found.shape n r.above (ap (below n) (ap shape_or_never is) ∙ whole) in
    behind_right setting locals want (found.faults ++ written_faults setting.within typ) _ m
    (settled_right setting locals place want s (λ x. over place (K.Cast (written setting.within typ)) (found.core ∷ [])) m h.1
    (λ x. typed_runs setting locals place s (written setting.within typ) found.core m (subst (λ u. RunsAs setting locals u found.core m) same r.runs)))

-- ---- what leaves its place

leaves : (setting : Setting) (locals : Locals) (place at_part : Place) (kind : Kind) (s : Shape) (core : Core) (m : Source.Meaning)
    (leave : Value → Piece Value)
    → ((wc : Core.World Value) (x : Run Value Value) → kind_meaning plainly wc place 0 kind (x ∷ []) ≡ (x then leave))
    → RunsAs setting locals s core m
    → ((registers : List Shape) (c : Choice) (wc : Core.World Value) (ws : Source.World) → Describes setting registers wc ws → (slots : List Local)
    → (v : Value) (now : Now Value) → Fits setting.types c s v → Good (reach_of setting registers c slots) now
    → Keeps (reach_of setting registers c slots) (Fits setting.types c V.Never) (leave v now))
    → RunsAs setting locals V.Never (over place kind (cast core at_part ∷ [])) (λ w. m w then leave)
leaves setting locals place at_part kind s core m leave same runs keeps registers c wc ws d slots seen now good =
    let reach : Reach = reach_of setting registers c slots in
    let r = then_agree reach (Fits setting.types c s) (Fits setting.types c V.Never) (core_meaning wc core now) (m ws now) leave leave
    (runs registers c wc ws d slots seen now good) (λ v later h good2. (refl, keeps registers c wc ws d slots v later h good2)) in (
      ap (λ (q : Run Value Value). q now) (unrolled wc place 0 kind (cast core at_part ∷ []) ∙ same wc (core_meaning wc (cast core at_part)))
          ∙ ap (λ (q : Run Value Value). goes_on (q now) leave) (cast_means wc core at_part) ∙ r.0,
      r.1,
    )

pub exit_right : (setting : Setting) (locals : Locals) (place : Place) (a : Part) (m : Source.Meaning) → IsRight setting locals a.elaborate m
    → IsRight setting locals (leave_found place Leave.Exit a) (λ w. m w then leave place Leave.Exit)
exit_right setting locals place a m right want e =
    let found : Found = a.elaborate setting locals V.Unit in
    let h = both_empty found.faults _ e in
    behind_right setting locals want found.faults _ (λ w. m w then leave place Leave.Exit)
    (settled_right setting locals place want V.Never (λ s. over place K.Exit (cast found.core a.place ∷ [])) (λ w. m w then leave place Leave.Exit) h.1
    (λ t. leaves setting locals place a.place K.Exit found.shape found.core m (leave place Leave.Exit) (λ wc x. refl) (right V.Unit h.0).runs
    (λ registers c wc ws d slots v now k good. good)))

pub named_below : (n i : ℕ) → below n (V.Named i []) ≡ true
named_below n i = ap (below n) (sym (V.rolls-Named i [])) ∙ fold-roll-Shape Bool (below_form n) (S.Named i [])

pub throw_right : (setting : Setting) (locals : Locals) (place : Place) (a : Part) (i : ℕ) (m : Source.Meaning) → setting.exception ≡ Some i
    → IsRight setting locals a.elaborate m → IsRight setting locals (leave_found place Leave.Throw a) (λ w. m w then leave place Leave.Throw)
throw_right setting locals place a i m is right want e =
    let s : Shape = thrown_shape setting in
    let named : s ≡ V.Named i [] = ap thrown_as is in
    let found : Found = a.elaborate setting locals s in
    let h = both_empty found.faults _ e in
    let r = right s h.0 in
    let same : found.shape ≡ s = exact s found.shape 0 r.above (ap (below 0) named ∙ named_below 0 i) in
    behind_right setting locals want found.faults _ (λ w. m w then leave place Leave.Throw)
    (settled_right setting locals place want V.Never (λ t. over place K.Throw (cast found.core a.place ∷ [])) (λ w. m w then leave place Leave.Throw) h.1
    (λ t. leaves setting locals place a.place K.Throw found.shape found.core m (leave place Leave.Throw) (λ wc x. refl) r.runs
    (λ registers c wc ws d slots v now k good. (
      subst (λ u. fits setting.types v u ≡ true) (ap (put c) (same ∙ named) ∙ named_put i c ∙ sym named) k,
      good,
    ))))

pub return_right : (setting : Setting) (locals : Locals) (place : Place) (a : Part) (s : Shape) (n : ℕ) (m : Source.Meaning) → setting.answer ≡ Some s
    → below n s ≡ true → IsRight setting locals a.elaborate m
    → IsRight setting locals (leave_found place Leave.Return a) (λ w. m w then leave place Leave.Return)
return_right setting locals place a s n m is whole right want e =
    let n0 : Source.Meaning = λ w. m w then leave place Leave.Return in
    subst (λ o. Right setting locals want (return_found place a o setting locals want) n0) (sym is)
    (returned (subst (λ o. (return_found place a o setting locals want).faults ≡ []) is e))
  where
    returned : (left_found place K.Return want a.place (a.elaborate setting locals s)).faults ≡ []
        → Right setting locals want (left_found place K.Return want a.place (a.elaborate setting locals s)) (λ w. m w then leave place Leave.Return)
    returned e =
        let found : Found = a.elaborate setting locals s in
        let h = both_empty found.faults _ e in
        let r = right s h.0 in
        let same : found.shape ≡ s = exact s found.shape n r.above whole in
        behind_right setting locals want found.faults _ (λ w. m w then leave place Leave.Return)
        (settled_right setting locals place want V.Never (λ t. over place K.Return (cast found.core a.place ∷ [])) (λ w. m w then leave place Leave.Return) h.1
        (λ t. leaves setting locals place a.place K.Return found.shape found.core m (leave place Leave.Return) (λ wc x. refl) r.runs
        (λ registers c wc ws d slots v now k good. (
          subst (λ o. Answers (reach_of setting registers c slots) o v) (sym is) (subst (λ u. Fits setting.types c u v) same k),
          good,
        ))))
