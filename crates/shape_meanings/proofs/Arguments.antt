-- Arguments, and calls of the member of an overload that they choose.
use Rattle.std.proofs.Common.{◌≡◌, ℕ, suc, List, [], ◌∷◌, map, length, ap, sym, ◌∙◌}
use Rattle.std.proofs.Common.{refl, subst, true, false, ◌&&◌, ◌||◌, Option, Some, None, if◌then◌else◌}
use Rattle.std.proofs.lemmas.Bool.{and_parts}
use Rattle.sail_base.specs.declared.place.Place.{Place}
use Rattle.sail_types.specs.Shapes.{at, fits, each_fits, put}
use Rattle.sail_types.specs.declared.shapes.Shape.{Shape}
use Rattle.sail_types.specs.declared.shapes.Shape.TheVariants as V
use Rattle.sail_types.specs.declared.table.Types.{Types}
use Rattle.sail_types.specs.declared.values.Value.{Value}
use Rattle.sail_core.specs.declared.tree.Core.{Core}
use Rattle.sail_core.specs.Run as R
use Rattle.sail_core.specs.Run.{Now, Ended, Run, needs, gives, in_turn, ◌then◌}
use Rattle.sail_core.specs.Making as Core
use Rattle.sail_core.specs.Meaning.{core_meaning}
use Rattle.shape_joins.proofs.Order.{no, two}
use Rattle.sail_meaning.specs.Text.{Callee}
use Rattle.sail_meaning.specs.Choice.{first_fitting}
use Rattle.sail_meaning.specs.World as Source
use Rattle.sail_meaning.specs.World.{Piece}
use Rattle.sail_meaning.specs.Expressions.{each}
use Rattle.shape_rules.specs.declared.callees.Candidate.{Candidate}
use Rattle.shape_rules.specs.declared.callees.Doing.{Doing}
use Rattle.shape_rules.specs.declared.callees.Doing.TheVariants as D
use Rattle.shape_rules.specs.declared.locals.Local.{Local}
use Rattle.shape_rules.specs.Findings.{Found, over, unknown}
use Rattle.shape_rules.specs.Scopes.{Setting, Locals, thrown_shape}
use Rattle.shape_rules.specs.Calls.{Elaborate, Args, args_found, is_unsure_of, has_some, has_never, Chosen, chosen, member_found, several_called}
use Rattle.shape_rules.specs.Calls.{call_found, doing_kind}
use Rattle.shape_meanings.specs.Whole.{Choice}
use Rattle.shape_meanings.specs.Keeping.{Fits, FitAll, SeenAs, Reach, Good, reach_of, Agree, KeepsApart}
use Rattle.shape_meanings.specs.Worlds.{Describes, StandsFor, StandForEach, Distinct, doing_run}
use Rattle.shape_meanings.specs.Parts.{AreRight}
use Rattle.shape_meanings.specs.Sound.{Right}
use Rattle.shape_meanings.proofs.Orders.{put_put}
use Rattle.shape_meanings.proofs.Choosing.{same_choice, is_taken, solved_fit}
use Rattle.shape_meanings.proofs.Runs.{then_agree, call_agrees}
use Rattle.shape_meanings.proofs.Settling.{RunsAs, settled_right, behind_right, both_empty, unrolled}

-- ---- several parts, one after the other

abbrev pub RunAll : Setting → Locals → List Shape → List Core → List Source.Meaning → Type 0
RunAll setting locals ss cores ms =
    (registers : List Shape) (c : Choice) (wc : Core.World Value) (ws : Source.World) → Describes setting registers wc ws
    → (slots : List Local) → SeenAs slots locals → (now : Now Value) → Good (reach_of setting registers c slots) now
    → Agree (reach_of setting registers c slots) (FitAll setting.types c ss) (in_turn (map (core_meaning wc) cores) now) (in_turn (each ms ws) now)

pub none_run : (setting : Setting) (locals : Locals) → RunAll setting locals [] [] []
none_run setting locals registers c wc ws d slots seen now good = (refl, (refl, good))

pub more_run : (setting : Setting) (locals : Locals) (s : Shape) (ss : List Shape) (core : Core) (cores : List Core) (m : Source.Meaning)
    (ms : List Source.Meaning) → RunsAs setting locals s core m → RunAll setting locals ss cores ms → RunAll setting locals (s ∷ ss) (core ∷ cores) (m ∷ ms)
more_run setting locals s ss core cores m ms one others registers c wc ws d slots seen now good =
    let reach : Reach = reach_of setting registers c slots in
    then_agree reach (Fits setting.types c s) (FitAll setting.types c (s ∷ ss)) (core_meaning wc core now) (m ws now)
    (λ x. in_turn (map (core_meaning wc) cores) then λ xs. gives (x ∷ xs)) (λ x. in_turn (each ms ws) then λ xs. gives (x ∷ xs))
    (one registers c wc ws d slots seen now good)
    (λ v later h good2.
    then_agree reach (FitAll setting.types c ss) (FitAll setting.types c (s ∷ ss)) (in_turn (map (core_meaning wc) cores) later) (in_turn (each ms ws) later)
    (λ xs. gives (v ∷ xs)) (λ xs. gives (v ∷ xs))
    (others registers c wc ws d slots seen later good2)
    (λ vs last hs good3. (refl, (two (fits setting.types v (put c s)) (each_fits (map (fits setting.types) vs) (map (put c) ss)) h hs, good3))))

pub args_right : (es : List Elaborate) (ms : List Source.Meaning) (setting : Setting) (locals : Locals) → AreRight setting locals es ms
    → (args_found es setting locals).faults ≡ []
    → RunAll setting locals (args_found es setting locals).shapes (args_found es setting locals).cores ms
args_right [] [] setting locals right e = none_run setting locals
args_right [] (m ∷ ms) setting locals right e = absurd right
args_right (x ∷ es) [] setting locals right e = absurd right
args_right (x ∷ es) (m ∷ ms) setting locals right e =
    let a : Found = x setting locals V.Never in
    let more : Args = args_found es setting locals in
    let h = both_empty a.faults more.faults e in
    more_run setting locals a.shape more.shapes a.core more.cores m ms (right.0 V.Never h.0).runs (args_right es ms setting locals right.1 h.1)

-- arguments that fail in nothing leave nothing unsure
sure_of : (a : Found) → a.faults ≡ [] → is_unsure_of a ≡ false
sure_of a h = ap (λ fs. has_some fs && has_never a.shape) h

pub args_sure : (es : List Elaborate) (setting : Setting) (locals : Locals) → (args_found es setting locals).faults ≡ []
    → (args_found es setting locals).is_unsure ≡ false
args_sure [] setting locals e = refl
args_sure (x ∷ es) setting locals e =
    let a : Found = x setting locals V.Never in
    let h = both_empty a.faults (args_found es setting locals).faults e in
    ap (λ b. b || (args_found es setting locals).is_unsure) (sure_of a h.0) ∙ args_sure es setting locals h.1

-- ---- a call

doing_means : (wc : Core.World Value) (place : Place) (doing : Doing) (known : List Shape) (cores : List Core)
    → core_meaning wc (over place (doing_kind doing known) cores) ≡ (in_turn (map (core_meaning wc) cores) then doing_run wc place doing)
doing_means wc place (D.Calls callee) known cores = unrolled wc place 0 (doing_kind (D.Calls callee) known) cores
doing_means wc place D.Conses known cores = unrolled wc place 0 (doing_kind D.Conses known) cores

pub keeps_apart_as : (types : Types) (registers : List Shape) (thrown : Shape) (P Q : Value → Type 0) (before : Now Value) (m : Ended Value Value)
    → ((v : Value) → P v → Q v) → KeepsApart types registers thrown P before m → KeepsApart types registers thrown Q before m
keeps_apart_as types registers thrown P Q before (R.Gives v now) f k = (f v k.0, k.1)
keeps_apart_as types registers thrown P Q before (R.No now) f k = k
keeps_apart_as types registers thrown P Q before (R.Returns v now) f k = k
keeps_apart_as types registers thrown P Q before (R.Throws v now) f k = k
keeps_apart_as types registers thrown P Q before (R.Stops cause now) f k = k
keeps_apart_as types registers thrown P Q before R.Stuck f k = tt

-- a callee that these values come to: the candidate stands for it, and the source applies it
abbrev pub GoesTo : (setting : Setting) (registers : List Shape) (wc : Core.World Value) (ws : Source.World) → Describes setting registers wc ws
    → Place → Candidate → List Value → Piece Value → Type 0
GoesTo setting registers wc ws d place f vs piece =
    (callee : Callee) × StandsFor setting.types registers (thrown_shape setting) wc d.apply f callee
    × ((now : Now Value) → piece now ≡ d.apply place callee vs now)

-- a call whose arguments' values fit the parameters, for what the solution says of the callee's variables
pub call_runs : (setting : Setting) (locals : Locals) (place : Place) (f : Candidate) (known : List Shape) (ss : List Shape) (cores : List Core)
    (ms : List Source.Meaning) (goes : Source.World → List Value → Piece Value)
    → RunAll setting locals ss cores ms
    → ((c : Choice) (vs : List Value) → FitAll setting.types c ss vs → FitAll setting.types (λ i. put c (at known i)) f.params vs)
    → ((registers : List Shape) (c : Choice) (wc : Core.World Value) (ws : Source.World) (d : Describes setting registers wc ws) (vs : List Value)
    → FitAll setting.types c ss vs → GoesTo setting registers wc ws d place f vs (goes ws vs))
    → RunsAs setting locals (put (at known) f.answer) (over place (doing_kind f.doing known) cores) (λ ws. in_turn (each ms ws) then goes ws)
call_runs setting locals place f known ss cores ms goes args fit same registers c wc ws d slots seen now good =
    let reach : Reach = reach_of setting registers c slots in
    let Q : Value → Type 0 = Fits setting.types c (put (at known) f.answer) in
    let r = then_agree reach (FitAll setting.types c ss) Q (in_turn (map (core_meaning wc) cores) now) (in_turn (each ms ws) now)
    (doing_run wc place f.doing) (goes ws) (args registers c wc ws d slots seen now good)
    (λ vs later h good2.
    let g = same registers c wc ws d vs h in
    let k = g.1.keeps (λ i. put c (at known i)) place vs later (fit c vs h) good2.state in
    let kept : KeepsApart setting.types registers (thrown_shape setting) Q later (d.apply place g.0 vs later) =
    keeps_apart_as setting.types registers (thrown_shape setting) (Fits setting.types (λ i. put c (at known i)) f.answer) Q later (d.apply place g.0 vs later)
    (λ v t. subst (λ s. fits setting.types v s ≡ true) (sym (put_put f.answer c (at known))) t) k.1 in
    call_agrees reach Q later (doing_run wc place f.doing vs later) (goes ws vs later) good2
    (k.0 ∙ sym (g.2 later), subst (KeepsApart setting.types registers (thrown_shape setting) Q later) (sym (g.2 later)) kept)) in
    (ap (λ (q : Run Value Value). q now) (doing_means wc place f.doing known cores) ∙ r.0, r.1)

-- ---- the member of an overload

-- what the source does with the values of so many arguments: the first of the callees that they fit
abbrev pub GoesToFirst : (setting : Setting) (registers : List Shape) (wc : Core.World Value) (ws : Source.World) → Describes setting registers wc ws
    → Place → List Candidate → ℕ → (List Value → Piece Value) → Type 0
GoesToFirst setting registers wc ws d place fs count goes =
    (callees : List Callee) × StandForEach setting.types registers (thrown_shape setting) wc d.apply fs callees × Distinct fs
    × ((vs : List Value) (now : Now Value) → length vs ≡ count → goes vs now ≡ (needs
    (first_fitting setting.types callees vs) then λ callee. d.apply place callee vs) now)

pub fit_count : (types : Types) (c : Choice) (ss : List Shape) (vs : List Value) → FitAll types c ss vs → length vs ≡ length ss
fit_count types c [] [] h = refl
fit_count types c [] (v ∷ vs) h = no h
fit_count types c (s ∷ ss) [] h = no h
fit_count types c (s ∷ ss) (v ∷ vs) h =
    ap suc (fit_count types c ss vs (and_parts (fits types v (put c s)) (each_fits (map (fits types) vs) (map (put c) ss)) h).1)

shapes_count : (es : List Elaborate) (setting : Setting) (locals : Locals) → length (args_found es setting locals).shapes ≡ length es
shapes_count [] setting locals = refl
shapes_count (e ∷ es) setting locals = ap suc (shapes_count es setting locals)

chosen_right : (setting : Setting) (locals : Locals) (want : Shape) (place : Place) (name : List ℕ) (fs : List Candidate) (args : Args) (count : ℕ)
    (ms : List Source.Meaning) (goes : Source.World → List Value → Piece Value) (o : Option Chosen)
    → chosen fs args.shapes ≡ o → args.is_unsure ≡ false → length args.shapes ≡ count → RunAll setting locals args.shapes args.cores ms
    → ((registers : List Shape) (wc : Core.World Value) (ws : Source.World) (d : Describes setting registers wc ws)
    → GoesToFirst setting registers wc ws d place fs count (goes ws))
    → (member_found place name want args o).faults ≡ []
    → Right setting locals want (member_found place name want args o) (λ ws. in_turn (each ms ws) then goes ws)
chosen_right setting locals want place name fs args count ms goes None is sure many runs first e = absurd (refused_fails e)
  where
    refused_fails : {A : Type 0} {x : A} → (x ∷ []) ≡ [] → ⊥
    refused_fails h = cc
chosen_right setting locals want place name fs args count ms goes (Some x) is sure many runs first e =
    let taken = is_taken fs args.shapes x is in
    let m : Source.Meaning = λ ws. in_turn (each ms ws) then goes ws in
    subst (λ b. Right setting locals want (if b then unknown place else call_found place want x.candidate x.known args.cores) m) (sym sure)
    (settled_right setting locals place want (put (at x.known) x.candidate.answer) (λ s. over place (doing_kind x.candidate.doing x.known) args.cores) m
    (subst (λ b. (if b then unknown place else call_found place want x.candidate x.known args.cores).faults ≡ []) sure e)
    (λ t. call_runs setting locals place x.candidate x.known args.shapes args.cores ms goes runs
    (λ c vs h. solved_fit setting.types vs c args.shapes x taken h)
    (λ registers c wc ws d vs h.
    let f = first registers wc ws d in
    let k = same_choice setting.types registers (thrown_shape setting) wc d.apply fs f.0 f.1 f.2 vs c args.shapes x h is in
    (k.0, k.2, λ now. f.3 vs now (fit_count setting.types c args.shapes vs h ∙ many) ∙ ap (λ o. (needs o then λ callee. d.apply place callee vs) now) k.1))))

pub several_right : (setting : Setting) (locals : Locals) (want : Shape) (place : Place) (name : List ℕ) (fs : List Candidate) (es : List Elaborate)
    (ms : List Source.Meaning) (goes : Source.World → List Value → Piece Value)
    → AreRight setting locals es ms
    → ((registers : List Shape) (wc : Core.World Value) (ws : Source.World) (d : Describes setting registers wc ws)
    → GoesToFirst setting registers wc ws d place fs (length es) (goes ws))
    → (several_called place name fs es setting locals want).faults ≡ []
    → Right setting locals want (several_called place name fs es setting locals want) (λ ws. in_turn (each ms ws) then goes ws)
several_right setting locals want place name fs es ms goes right first e =
    let args : Args = args_found es setting locals in
    let h = both_empty args.faults (member_found place name want args (chosen fs args.shapes)).faults e in
    behind_right setting locals want args.faults (member_found place name want args (chosen fs args.shapes)) (λ ws. in_turn (each ms ws) then goes ws)
    (chosen_right setting locals want place name fs args (length es) ms goes (chosen fs args.shapes) refl (args_sure es setting locals h.0)
    (shapes_count es setting locals)
    (args_right es ms setting locals right h.0) first h.1)
