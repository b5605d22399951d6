-- Names that are bound: `let` and `var`.
use Rattle.std.proofs.Common.{◌≡◌, ℕ, List, [], ◌∷◌, ◌++◌, reverse, ap, sym, ◌∙◌, refl, subst, Bool, true, false, Option, Some, None, append-nil}
use Rattle.std.proofs.Common.{if◌then◌else◌}
use Rattle.std.specs.Str.{bytes_eq}
use Rattle.sail_base.specs.declared.place.Place.{Place}
use Rattle.sail_types.specs.declared.shapes.Shape.{Shape}
use Rattle.sail_types.specs.declared.values.Value.{Value}
use Rattle.sail_syntax.specs.declared.patterns.Pat.{Pat}
use Rattle.model_state.specs.declared.cause.Cause.TheVariants as Cause
use Rattle.sail_core.specs.declared.patterns.Arm.TheVariants as A
use Rattle.sail_core.specs.declared.patterns.Pattern.{Pattern}
use Rattle.sail_core.specs.declared.tree.Kind.TheVariants as K
use Rattle.sail_core.specs.declared.tree.Core.{Core}
use Rattle.sail_core.specs.declared.written.Written.{Written}
use Rattle.sail_core.specs.Run as R
use Rattle.sail_core.specs.Run.{Now, Ended, Run, gives, stops, goes_on, within, local, ◌then◌, ◌or_else◌}
use Rattle.sail_core.specs.Making as Core
use Rattle.sail_core.specs.Making.{plainly}
use Rattle.sail_core.specs.Patterns as Steps
use Rattle.sail_core.specs.declared.tree.Giver.TheVariants as Gives
use Rattle.sail_core.specs.Meaning.{core_meaning, arm_taken}
use Rattle.sail_meaning.specs.World as Source
use Rattle.sail_meaning.specs.World.{Piece, Bindings}
use Rattle.sail_meaning.specs.Expressions.{let_in, var_in}
use Rattle.sail_meaning.specs.Patterns.{matching}
use Rattle.shape_rules.specs.declared.locals.Local.{Local}
use Rattle.shape_rules.specs.Findings.{cast, over}
use Rattle.shape_rules.specs.Scopes.{Setting, Locals, local_of, under}
use Rattle.shape_rules.specs.Patterns.{Looked, no_widths}
use Rattle.shape_meanings.specs.Whole.{Choice}
use Rattle.shape_meanings.specs.Keeping.{Fits, Suits, SeenAs, Reach, Good, reach_of, Agree}
use Rattle.shape_meanings.specs.Worlds.{Describes}
use Rattle.shape_meanings.specs.Matching.{Match, with_widths, LooksRight}
use Rattle.shape_meanings.specs.Parts.{EitherWay}
use Rattle.shape_meanings.proofs.Runs.{then_agree, or_agree, within_agrees}
use Rattle.shape_meanings.proofs.Settling.{RunsAs, unrolled}
use Rattle.shape_meanings.proofs.Branches.{cast_means}

-- ---- names in scope behind a pattern

abbrev pub or_outer : Option Local → Option Local → Option Local
or_outer None outer = outer
or_outer (Some l) outer = Some l

outer_if : (b : Bool) (l : Local) (o outer : Option Local) → (if b then Some l else or_outer o outer) ≡ or_outer (if b then Some l else o) outer
outer_if true l o outer = refl
outer_if false l o outer = refl

pub inner_first : (name : List ℕ) (new outer : List Local) → local_of name (new ++ outer) ≡ or_outer (local_of name new) (local_of name outer)
inner_first name [] outer = refl
inner_first name (l ∷ ls) outer =
    ap (λ o. if bytes_eq l.name name then Some l else o) (inner_first name ls outer)
    ∙ outer_if (bytes_eq l.name name) l (local_of name ls) (local_of name outer)

pub seen_under : (new slots : List Local) (locals : Locals) → EitherWay new → SeenAs slots locals → SeenAs (new ++ slots) (under new locals)
seen_under new slots locals either seen name =
    inner_first name new slots ∙ (λ i. or_outer (sym (either name) i) (seen name i)) ∙ sym (inner_first name (reverse new) locals)

pub seen_behind : (l : Local) (slots : List Local) (locals : Locals) → SeenAs slots locals → SeenAs (l ∷ slots) (l ∷ locals)
seen_behind l slots locals seen name = ap (λ o. if bytes_eq l.name name then Some l else o) (seen name)

-- ---- one pattern

after_one : (e : Ended Value Bindings) (body : Bindings → Run Value Value)
    → goes_on (goes_on e (λ found. Steps.parts_match {X = Value} [] [] then λ others. gives (found ++ others))) body ≡ goes_on e body
after_one (R.Gives found now) body = ap (λ f. body f now) (append-nil found)
after_one (R.No now) body = refl
after_one (R.Returns v now) body = refl
after_one (R.Throws v now) body = refl
after_one (R.Stops cause now) body = refl
after_one R.Stuck body = refl

-- an arm of one pattern, and its body under the names that it binds
pub arm_means : (wc : Core.World Value) (p : Pattern) (x : Value) (body : Run Value Value) (now : Now Value)
    → arm_taken plainly wc (Gives.Node 0) (A.Nested (p ∷ [])) body (x ∷ []) now ≡ (Steps.matcher plainly wc p x then λ found. within found body) now
arm_means wc p x body now = after_one (Steps.matcher plainly wc p x now) (λ found. within found body)

pub no_widths_there : (setting : Setting) (registers : List Shape) (wc : Core.World Value) (ws : Source.World) → Describes setting registers wc ws
    → with_widths no_widths ws ≡ ws
no_widths_there setting registers wc ws d = λ i. record ws { bare_width = sym d.bare i }

-- the two runs of a piece under the names that a pattern binds
pub taken_agrees : (setting : Setting) (locals : Locals) (subject t : Shape) (p : Looked) (m : Match) (kc : Core.World Value → Run Value Value)
    (km : Source.Meaning)
    → LooksRight setting no_widths subject p m → EitherWay p.binds
    → (registers : List Shape) (c : Choice) (wc : Core.World Value) (ws : Source.World) → Describes setting registers wc ws
    → (slots : List Local) → SeenAs slots locals
    → ((more : List Local) → SeenAs more (under p.binds locals) → (here : Now Value) → Good (reach_of setting registers c more) here
    → Agree (reach_of setting registers c more) (Fits setting.types c t) (kc wc here) (km ws here))
    → (v : Value) → Fits setting.types c subject v → (now : Now Value) → Good (reach_of setting registers c slots) now
    → Agree (reach_of setting registers c slots) (Fits setting.types c t) (arm_taken plainly wc (Gives.Node 0) (A.Nested (p.pattern ∷ [])) (kc wc) (v ∷ []) now)
    ((m ws v then λ found. within found (km ws)) now)
taken_agrees setting locals subject t p m kc km looks either registers c wc ws d slots seen body v h now good =
    let reach : Reach = reach_of setting registers c slots in
    let Q : Value → Type 0 = Fits setting.types c t in
    let r = then_agree reach (Suits setting.types c p.binds) Q (Steps.matcher plainly wc p.pattern v now) (m ws v now)
    (λ found. within found (kc wc)) (λ found. within found (km ws))
    (subst (λ u. Agree reach (Suits setting.types c p.binds) (Steps.matcher plainly wc p.pattern v now) (m u v now)) (no_widths_there setting registers wc ws d)
    (looks.runs registers c wc ws d slots v h now good))
    (λ found later suits good2. within_agrees reach Q p.binds found (kc wc) (km ws) later good2 suits
    (λ here good3. body (p.binds ++ slots) (seen_under p.binds slots locals either seen) here good3)) in
    (arm_means wc p.pattern v (kc wc) now ∙ r.0, r.1)

-- ---- `let`

pub let_runs : (setting : Setting) (locals : Locals) (place at_value : Place) (subject t : Shape) (a body : Core) (p : Looked) (pattern : Pat)
    (ma mb : Source.Meaning)
    → RunsAs setting locals subject a ma → LooksRight setting no_widths subject p (λ w. matching w pattern) → EitherWay p.binds
    → RunsAs setting (under p.binds locals) t body mb
    → RunsAs setting locals t (over place (K.Let (A.Nested (p.pattern ∷ []))) (cast a at_value ∷ body ∷ [])) (λ w. let_in w place pattern (ma w) (mb w))
let_runs setting locals place at_value subject t a body p pattern ma mb ra looks either rb registers c wc ws d slots seen now good =
    let reach : Reach = reach_of setting registers c slots in
    let Q : Value → Type 0 = Fits setting.types c t in
    let failed : Piece Value = stops (Cause.MatchFailure place) in
    let r = then_agree reach (Fits setting.types c subject) Q (core_meaning wc a now) (ma ws now)
    (λ v. arm_taken plainly wc (Gives.Node 0) (A.Nested (p.pattern ∷ [])) (core_meaning wc body) (v ∷ []) or_else failed)
    (λ v. (matching ws pattern v then λ found. within found (mb ws)) or_else failed)
    (ra registers c wc ws d slots seen now good)
    (λ v later h good2.
    or_agree reach Q (arm_taken plainly wc (Gives.Node 0) (A.Nested (p.pattern ∷ [])) (core_meaning wc body) (v ∷ []) later)
    ((matching ws pattern v then λ found. within found (mb ws)) later) failed failed
    (taken_agrees setting locals subject t p (λ w. matching w pattern) (λ w. core_meaning w body) mb looks either registers c wc ws d slots seen
    (λ more seen2 here good3. rb registers c wc ws d more seen2 here good3) v h later good2)
    (λ last good3. (refl, good3))) in (
      ap (λ (q : Run Value Value). q now) (unrolled wc place 0 (K.Let (A.Nested (p.pattern ∷ []))) (cast a at_value ∷ body ∷ []))
          ∙ ap (λ (q : Run Value Value). goes_on (q now)
          (λ v. arm_taken plainly wc (Gives.Node 0) (A.Nested (p.pattern ∷ [])) (core_meaning wc body) (v ∷ []) or_else failed))
          (cast_means wc a at_value)
          ∙ r.0,
      r.1,
    )

-- ---- `var`

pub var_runs : (setting : Setting) (locals : Locals) (place at_value : Place) (l : Local) (w : Option Written) (t : Shape) (a body : Core)
    (ma mb : Source.Meaning)
    → RunsAs setting locals l.shape a ma → RunsAs setting (l ∷ locals) t body mb
    → RunsAs setting locals t (over place (K.Var l.name w) (cast a at_value ∷ body ∷ [])) (λ w. var_in l.name (ma w) (mb w))
var_runs setting locals place at_value l w t a body ma mb ra rb registers c wc ws d slots seen now good =
    let reach : Reach = reach_of setting registers c slots in
    let Q : Value → Type 0 = Fits setting.types c t in
    let r = then_agree reach (Fits setting.types c l.shape) Q (core_meaning wc a now) (ma ws now)
    (λ v. within (local l.name v ∷ []) (core_meaning wc body)) (λ v. within (local l.name v ∷ []) (mb ws))
    (ra registers c wc ws d slots seen now good)
    (λ v later h good2. within_agrees reach Q (l ∷ []) (local l.name v ∷ []) (core_meaning wc body) (mb ws) later good2 (refl, h, tt)
    (λ here good3. rb registers c wc ws d (l ∷ slots) (seen_behind l slots locals seen) here good3)) in (
      ap (λ (q : Run Value Value). q now) (unrolled wc place 0 (K.Var l.name w) (cast a at_value ∷ body ∷ []))
          ∙ ap (λ (q : Run Value Value). goes_on (q now) (λ v. within (local l.name v ∷ []) (core_meaning wc body))) (cast_means wc a at_value) ∙ r.0,
      r.1,
    )
