-- `f(a)` as a target beside others, and as the base of a part.
use Rattle.std.proofs.Common.{◌≡◌, ℕ, zero, suc, List, [], ◌∷◌, ◌++◌, map, length, ap, sym, ◌∙◌, refl, subst, true, false, Option, Some, None}
use Rattle.std.proofs.Common.{arith}
use Rattle.std.specs.Prelude.{take, drop, option_map}
use Rattle.std.proofs.lemmas.Bool.{and_parts}
use Rattle.sail_base.specs.declared.place.Place.{Place}
use Rattle.sail_types.specs.Shapes.{at, fits, each_fits, put}
use Rattle.sail_types.specs.declared.shapes.Shape.{Shape}
use Rattle.sail_types.specs.declared.shapes.Shape.TheOpen as S
use Rattle.sail_types.specs.declared.shapes.Shape.TheVariants as V
use Rattle.sail_types.specs.declared.table.Types.{Types}
use Rattle.sail_types.specs.declared.values.Value.{Value}
use Rattle.sail_syntax.specs.declared.name.Name.{Name}
use Rattle.sail_core.specs.declared.targets.Caller.{Caller}
use Rattle.sail_core.specs.declared.targets.Target.{Target}
use Rattle.sail_core.specs.declared.targets.TargetKind.TheVariants as T
use Rattle.sail_core.specs.declared.tree.Callee.{Callee as CoreCallee}
use Rattle.sail_core.specs.declared.tree.Core.{Core}
use Rattle.sail_core.specs.Run.{Now, needs, gives, goes_on, in_turn, ◌then◌}
use Rattle.sail_core.specs.Making as Core
use Rattle.sail_core.specs.Making.{plainly}
use Rattle.sail_core.specs.Meaning.{core_meaning}
use Rattle.sail_core.specs.Targets as Spots
use Rattle.shape_joins.specs.Filling.{fills, fill_all}
use Rattle.shape_joins.specs.Learning.{learn, learn_all, holes}
use Rattle.shape_joins.proofs.Order.{no, two, fills_itself, opened}
use Rattle.sail_meaning.specs.Text.{Callee, function, direction, constructor, builtin, cons, alone, overload}
use Rattle.sail_meaning.specs.Choice.{arguments, parameters, first_fitting}
use Rattle.sail_meaning.specs.World as Source
use Rattle.sail_meaning.specs.World.{Piece}
use Rattle.sail_meaning.specs.Expressions.{each}
use Rattle.sail_meaning.specs.Targets as Written
use Rattle.sail_meaning.specs.Targets.{call_spot}
use Rattle.shape_rules.specs.declared.callees.Candidate.{Candidate}
use Rattle.shape_rules.specs.declared.callees.Doing.TheVariants as D
use Rattle.shape_rules.specs.declared.error.ShapeError.{ShapeError}
use Rattle.shape_rules.specs.declared.locals.Local.{Local}
use Rattle.shape_rules.specs.Scopes.{Setting, Locals, thrown_shape}
use Rattle.shape_rules.specs.Calls.{Elaborate, Solved, solved, solved_behind, Args, args_found, Chosen, chosen, chosen_or}
use Rattle.shape_rules.specs.Targets.{Aimed, target, caller_of, doing_callee, last_param, reader_of, call_target, call_aimed, callee_aimed}
use Rattle.shape_meanings.specs.Whole.{Choice, below, all_below}
use Rattle.shape_meanings.specs.Keeping.{Fits, FitAll, Reach, Good, reach_of, Keeps, KeepsApart, Agree}
use Rattle.shape_meanings.specs.Worlds.{Describes, Apply, StandsFor, StandForEach, doing_run}
use Rattle.shape_meanings.specs.Naming.{IsCallee, AreCallees}
use Rattle.shape_meanings.specs.Parts.{AreRight}
use Rattle.shape_meanings.specs.Aims.{WritesAlike, ReadsAs, RenewsAs, SpotRuns, BaseIs}
use Rattle.shape_meanings.proofs.Orders.{put_put}
use Rattle.shape_meanings.proofs.Values.{widens}
use Rattle.shape_meanings.proofs.Sharing.{all_loosened}
use Rattle.shape_meanings.proofs.Learning.{learnt_all}
use Rattle.shape_meanings.proofs.Choosing.{is_taken, solved_fit, same_member}
use Rattle.shape_meanings.proofs.Meeting.{loose, loosens, loose_told, met}
use Rattle.shape_meanings.proofs.Runs.{then_agree, call_agrees}
use Rattle.shape_meanings.proofs.Settling.{both_empty}
use Rattle.shape_meanings.proofs.Arguments.{RunAll, args_right, keeps_apart_as}
use Rattle.shape_meanings.proofs.Solved.{solved_right}
use Rattle.shape_meanings.proofs.Calling.{StandsOver, by_overload, overloaded}
use Rattle.shape_meanings.proofs.Callees.{StandsAlone, by_alone, call_alone, applied_once, stays}
use Rattle.shape_meanings.proofs.Suffixes.{then_then}
use Rattle.shape_meanings.proofs.Aims.{rolled_target}

-- ---- the target behind its arguments

take_all : {A B : Type 0} (f : A → B) (xs : List A) (rest : List B) → take (length xs) (map f xs ++ rest) ≡ map f xs
take_all f [] rest = refl
take_all f (x ∷ xs) rest = ap (λ ys. f x ∷ ys) (take_all f xs rest)

drop_all : {A B : Type 0} (f : A → B) (xs : List A) (rest : List B) → drop (length xs) (map f xs ++ rest) ≡ rest
drop_all f [] rest = refl
drop_all f (x ∷ xs) rest = drop_all f xs rest

call_spots : (setting : Setting) (locals : Locals) (name : Name) (Alike : Reach → Spots.Spot Value → Written.Spot → Type 0) (cores : List Core)
    (ss : List Shape) (reader : Option Caller) (writer : Caller) (ms : List Source.Meaning)
    → RunAll setting locals ss cores ms
    → ((registers : List Shape) (c : Choice) (wc : Core.World Value) (ws : Source.World) (d : Describes setting registers wc ws) (slots : List Local)
    (vs : List Value) → FitAll setting.types c ss vs
    → Alike (reach_of setting registers c slots) (Spots.call_spot plainly wc name.place 0 reader writer vs) (call_spot ws name vs))
    → SpotRuns setting locals Alike (target name.place (T.Call (length cores) reader writer) []) cores
    (λ w. in_turn (each ms w) then λ vs. gives (call_spot w name vs))
call_spots setting locals name Alike cores ss reader writer ms run alike registers c wc ws d slots seen t rest kc km next now good =
    let reach : Reach = reach_of setting registers c slots in
    let Q : Value → Type 0 = Fits setting.types c t in
    let spot : List Value → Spots.Spot Value = λ xs. Spots.call_spot plainly wc name.place 0 reader writer xs in
    let r = then_agree reach (FitAll setting.types c ss) Q (in_turn (map (core_meaning wc) cores) now) (in_turn (each ms ws) now)
    (λ xs. kc (record { found = spot xs; left = rest })) (λ vs. km (call_spot ws name vs)) (run registers c wc ws d slots seen now good)
    (λ vs later fit good2. next (spot vs) (call_spot ws name vs) (alike registers c wc ws d slots vs fit) later good2) in
    let source = then_then (in_turn (each ms ws) now) (λ vs. gives (call_spot ws name vs)) km in (
      ap (λ (x : Spots.Spotting Value (Spots.Spot Value)). goes_on (x (map (core_meaning wc) cores ++ rest) now) kc)
          (rolled_target wc name.place (T.Call (length cores) reader writer) [])
          ∙ (λ j. goes_on (goes_on (in_turn (take_all (core_meaning wc) cores rest j) now)
          (λ xs. Spots.spotted (spot xs) (drop_all (core_meaning wc) cores rest j))) kc)
          ∙ then_then (in_turn (map (core_meaning wc) cores) now) (λ xs. Spots.spotted (spot xs) rest) kc ∙ r.0 ∙ sym source,
      subst (Keeps reach Q) (sym source) r.1,
    )

-- ---- a callee on values

-- on values that fit its parameters for some choice
keep_agrees : (setting : Setting) (registers : List Shape) (c : Choice) (wc : Core.World Value) (ws : Source.World) (d : Describes setting registers wc ws)
    (slots : List Local) (place : Place) (f : Candidate) (callee : Callee) (called : CoreCallee) (e : Choice) (vs : List Value) (P : Value → Type 0)
    (goes : Piece Value) (now : Now Value)
    → StandsFor setting.types registers (thrown_shape setting) wc d.apply f callee → f.doing ≡ D.Calls called → FitAll setting.types e f.params vs
    → ((v : Value) → Fits setting.types e f.answer v → P v) → goes now ≡ d.apply place callee vs now → Good (reach_of setting registers c slots) now
    → Agree (reach_of setting registers c slots) P (Spots.asked plainly wc place (Some (caller_of called)) vs now) (goes now)
keep_agrees setting registers c wc ws d slots place f callee called e vs P goes now stands is fit answers same good =
    let reach : Reach = reach_of setting registers c slots in
    let k = stands.keeps e place vs now fit good.state in
    let kept : KeepsApart setting.types registers (thrown_shape setting) P now (d.apply place callee vs now) =
    keeps_apart_as setting.types registers (thrown_shape setting) (Fits setting.types e f.answer) P now (d.apply place callee vs now) answers k.1 in
    let a = call_agrees reach P now (doing_run wc place f.doing vs now) (goes now) good
    (k.0 ∙ sym same, subst (KeepsApart setting.types registers (thrown_shape setting) P now) (sym same) kept) in
    (sym (ap (λ x. doing_run wc place x vs now) is) ∙ a.0, a.1)

-- what is chosen among members has what each of them has
abbrev pub Each : (Candidate → Type 0) → List Candidate → Type 0
Each Q [] = Unit {0}
Each Q (f ∷ fs) = Q f × Each Q fs

chosen_step : (Q : Candidate → Type 0) (f : Candidate) (o : Option (List Shape)) (next : Option Chosen) (x : Chosen) → Q f
    → (next ≡ Some x → Q x.candidate) → chosen_or f o next ≡ Some x → Q x.candidate
chosen_step Q f None next x here later e = later e
chosen_step Q f (Some known) next x here later e = subst (λ (y : Chosen). Q y.candidate) (same (record { candidate = f; known = known }) x e) here
  where
    same : (x y : Chosen) → Some x ≡ Some y → x ≡ y
    same x y e = cc

pub chosen_has : (Q : Candidate → Type 0) (fs : List Candidate) (ss : List Shape) (x : Chosen) → Each Q fs → chosen fs ss ≡ Some x → Q x.candidate
chosen_has Q [] ss x all e = absurd (none_some e)
  where
    none_some : {A : Type 0} {x : A} → None ≡ Some x → ⊥
    none_some e = cc
chosen_has Q (f ∷ fs) ss x all e =
    chosen_step Q f (learn_all (map learn f.params) ss (holes f.variables)) (chosen fs ss) x all.0 (chosen_has Q fs ss x all.1) e

each_called : (fs : List Candidate) → AreCallees fs → Each IsCallee fs
each_called [] are = tt
each_called (f ∷ fs) are = (are.0, each_called fs are.1)

each_whole : (types : Types) (registers : List Shape) (thrown : Shape) (wc : Core.World Value) (apply : Apply) (fs : List Candidate) (callees : List Callee)
    → StandForEach types registers thrown wc apply fs callees → Each (λ f. all_below f.variables f.params ≡ true) fs
each_whole types registers thrown wc apply [] [] stand = tt
each_whole types registers thrown wc apply [] (callee ∷ callees) stand = absurd stand
each_whole types registers thrown wc apply (f ∷ fs) [] stand = absurd stand
each_whole types registers thrown wc apply (f ∷ fs) (callee ∷ callees) stand =
    (stand.0.whole, each_whole types registers thrown wc apply fs callees stand.1)

pub each_answers : (types : Types) (registers : List Shape) (thrown : Shape) (wc : Core.World Value) (apply : Apply) (fs : List Candidate)
    (callees : List Callee) → StandForEach types registers thrown wc apply fs callees → Each (λ f. below f.variables f.answer ≡ true) fs
each_answers types registers thrown wc apply [] [] stand = tt
each_answers types registers thrown wc apply [] (callee ∷ callees) stand = absurd stand
each_answers types registers thrown wc apply (f ∷ fs) [] stand = absurd stand
each_answers types registers thrown wc apply (f ∷ fs) (callee ∷ callees) stand =
    (stand.0.answer, each_answers types registers thrown wc apply fs callees stand.1)

-- ---- one argument more

fit_more : (types : Types) (c : Choice) (ss : List Shape) (s : Shape) (vs : List Value) (v : Value) → FitAll types c ss vs → Fits types c s v
    → FitAll types c (ss ++ s ∷ []) (vs ++ v ∷ [])
fit_more types c [] s [] v all fit = two (fits types v (put c s)) true fit refl
fit_more types c [] s (u ∷ us) v all fit = no all
fit_more types c (t ∷ ss) s [] v all fit = no all
fit_more types c (t ∷ ss) s (u ∷ us) v all fit =
    let k = and_parts (fits types u (put c t)) (each_fits (map (fits types) us) (map (put c) ss)) all in
    two (fits types u (put c t)) (each_fits (map (fits types) (us ++ v ∷ [])) (map (put c) (ss ++ s ∷ []))) k.0 (fit_more types c ss s us v k.1 fit)

count_more : (vs : List Value) (v : Value) → (n : ℕ) × (length (vs ++ v ∷ []) ≡ suc n)
count_more [] v = (0, refl)
count_more (u ∷ us) v = (length (us ++ v ∷ []), refl)

-- the last value has a shape that fills what is known of the last parameter
fit_last : (types : Types) (n : ℕ) (c e : ℕ → Shape) (m : ℕ) (params ss : List Shape) (vs : List Value) (t : Shape) (v : Value)
    → all_below m params ≡ true → fill_all (ss ++ V.Never ∷ []) (map (put e) params) ≡ true → FitAll types c ss vs
    → fills (put e (last_param params)) t ≡ true → Fits types c t v → FitAll types (loose n c e) params (vs ++ v ∷ [])
fit_last types n c e m [] [] vs t v whole fill all above fit = no fill
fit_last types n c e m [] (s ∷ ss) vs t v whole fill all above fit = no fill
fit_last types n c e m (p ∷ []) [] [] t v whole fill all above fit =
    let b = and_parts (below m p) true whole in
    two (fits types v (put (loose n c e) p)) true (loosens types n c e v p t (met p e m t b.0 above) fit) refl
fit_last types n c e m (p ∷ q ∷ ps) [] vs t v whole fill all above fit = no (and_parts (fills V.Never (put e p)) false fill).1
fit_last types n c e m (p ∷ ps) [] (u ∷ us) t v whole fill all above fit = no all
fit_last types n c e m (p ∷ ps) (s ∷ ss) [] t v whole fill all above fit = no all
fit_last types n c e m (p ∷ []) (s ∷ []) (u ∷ us) t v whole fill all above fit = no (and_parts (fills s (put e p)) false fill).1
fit_last types n c e m (p ∷ []) (s ∷ r ∷ ss) (u ∷ us) t v whole fill all above fit = no (and_parts (fills s (put e p)) false fill).1
fit_last types n c e m (p ∷ q ∷ ps) (s ∷ ss) (u ∷ us) t v whole fill all above fit =
    let b = and_parts (below m p) (all_below m (q ∷ ps)) whole in
    let h = and_parts (fills s (put e p)) (fill_all (ss ++ V.Never ∷ []) (map (put e) (q ∷ ps))) fill in
    let k = and_parts (fits types u (put c s)) (each_fits (map (fits types) us) (map (put c) ss)) all in
    two (fits types u (put (loose n c e) p)) (each_fits (map (fits types) (us ++ v ∷ [])) (map (put (loose n c e)) (q ∷ ps)))
    (loosens types n c e u p (put e p) (met p e m (put e p) b.0 (fills_itself (put e p))) (widens types u c s (put e p) h.0 k.0))
    (fit_last types n c e m (q ∷ ps) ss us t v b.1 h.1 k.1 above fit)

-- what a writer gives is of the shape that is known of it, where that leaves nothing open
abbrev Answered : ℕ → Shape → Reach → Value → Type 0
Answered n answer reach u = below n answer ≡ true → Fits reach.types reach.choice answer u

answer_told : (types : Types) (n : ℕ) (c e : ℕ → Shape) (answer : Shape) (u : Value) → Fits types (loose n c e) answer u → below n (put e answer) ≡ true
    → Fits types c (put e answer) u
answer_told types n c e answer u fit b = subst (λ s. fits types u s ≡ true) (loose_told answer n c e b ∙ sym (put_put answer c e)) fit

-- ---- a member of an overload

source_over : (setting : Setting) (registers : List Shape) (wc : Core.World Value) (ws : Source.World) (d : Describes setting registers wc ws) (name : Name)
    (callees : List Callee) (callee : Callee) (vs : List Value) (now : Now Value) (n : ℕ) → ws.text.called name.text ≡ Some (overload callees)
    → length vs ≡ suc n → first_fitting setting.types callees vs ≡ Some callee
    → ws.call name.place name.text vs now ≡ d.apply name.place callee vs now
source_over setting registers wc ws d name callees callee vs now n is many first =
    (λ i. by_overload setting registers wc ws d name.place name.text callees vs is i now)
    ∙ overloaded setting.types d.apply name.place callees vs now n many
    ∙ ap (λ o. (needs o then λ callee. d.apply name.place callee vs) now) first

-- the arguments' values with a last one, of which nothing was known when the member was chosen
over_writes : (setting : Setting) (name : Name) (fs : List Candidate) (ss : List Shape) (x : Chosen) (called : CoreCallee) (reader : Option Caller) (n : ℕ)
    (registers : List Shape) (c : Choice) (wc : Core.World Value) (ws : Source.World) (slots : List Local) (vs : List Value)
    → StandsOver setting name.text fs → chosen fs (ss ++ V.Never ∷ []) ≡ Some x → x.candidate.doing ≡ D.Calls called
    → Describes setting registers wc ws → FitAll setting.types c ss vs
    → WritesAlike (reach_of setting registers c slots) (put (at x.known) (last_param x.candidate.params))
    (Answered n (put (at x.known) x.candidate.answer) (reach_of setting registers c slots))
    (Spots.call_spot plainly wc name.place 0 reader (caller_of called) vs).write (call_spot ws name vs).write
over_writes setting name fs ss x called reader n registers c wc ws slots vs there is calls d all t above v fit now good =
    let f : Candidate = x.candidate in
    let us : List Value = vs ++ v ∷ [] in
    let o = there registers wc ws d in
    let whole = chosen_has (λ f. all_below f.variables f.params ≡ true) fs (ss ++ V.Never ∷ []) x
    (each_whole setting.types registers (thrown_shape setting) wc d.apply fs o.0 o.2) is in
    let learnt = learnt_all f.params (ss ++ V.Never ∷ []) (holes f.variables) x.known (is_taken fs (ss ++ V.Never ∷ []) x is) in
    let fit_all = fit_last setting.types n c (at x.known) f.variables f.params ss vs t v whole learnt.1 all above fit in
    let k = same_member setting.types registers (thrown_shape setting) wc d.apply fs o.0 o.2 o.3 us (ss ++ V.Never ∷ []) x
    (all_loosened setting.types us (loose n c (at x.known)) f.params fit_all) is in
    let many = count_more vs v in
    keep_agrees setting registers c wc ws d slots name.place f k.0 called (loose n c (at x.known)) us
    (Answered n (put (at x.known) f.answer) (reach_of setting registers c slots)) (ws.call name.place name.text us) now k.2 calls fit_all
    (λ u h b. answer_told setting.types n c (at x.known) f.answer u h b)
    (source_over setting registers wc ws d name o.0 k.0 us now many.0 o.1 many.1 k.1) good

-- values of the shapes by which the member was chosen
over_agrees : (setting : Setting) (name : Name) (fs : List Candidate) (ss : List Shape) (x : Chosen) (called : CoreCallee) (n : ℕ)
    (registers : List Shape) (c : Choice) (wc : Core.World Value) (ws : Source.World) (slots : List Local) (vs : List Value) (now : Now Value)
    → StandsOver setting name.text fs → chosen fs ss ≡ Some x → x.candidate.doing ≡ D.Calls called
    → Describes setting registers wc ws → FitAll setting.types c ss vs → length vs ≡ suc n → Good (reach_of setting registers c slots) now
    → Agree (reach_of setting registers c slots) (Fits setting.types c (put (at x.known) x.candidate.answer))
    (Spots.asked plainly wc name.place (Some (caller_of called)) vs now) (ws.call name.place name.text vs now)
over_agrees setting name fs ss x called n registers c wc ws slots vs now there is calls d all many good =
    let f : Candidate = x.candidate in
    let o = there registers wc ws d in
    let fit_all = solved_fit setting.types vs c ss x (is_taken fs ss x is) all in
    let k = same_member setting.types registers (thrown_shape setting) wc d.apply fs o.0 o.2 o.3 vs ss x
    (all_loosened setting.types vs (λ i. put c (at x.known i)) f.params fit_all) is in
    keep_agrees setting registers c wc ws d slots name.place f k.0 called (λ i. put c (at x.known i)) vs
    (Fits setting.types c (put (at x.known) f.answer)) (ws.call name.place name.text vs) now k.2 calls fit_all
    (λ u h. subst (λ s. fits setting.types u s ≡ true) (sym (put_put f.answer c (at x.known))) h)
    (source_over setting registers wc ws d name o.0 k.0 vs now n o.1 many k.1) good

-- a target that an overload writes
abbrev pub AimsAs : Setting → Locals → ℕ → Aimed → Written.Target → Type 0
AimsAs setting locals n a m = SpotRuns setting locals (λ reach x y. WritesAlike reach a.shape (Answered n a.answer reach) x.write y.write) a.target a.parts m

abbrev pub call_meant : Name → List Source.Meaning → Written.Target
call_meant name ms w = in_turn (each ms w) then λ vs. gives (call_spot w name vs)

pub not_empty : {A B : Type 0} {x : A} {xs : List A} → (x ∷ xs) ≡ [] → B
not_empty e = absurd (empty e)
  where
    empty : {A : Type 0} {x : A} {xs : List A} → (x ∷ xs) ≡ [] → ⊥
    empty e = cc

pub over_aim : (setting : Setting) (locals : Locals) (name : Name) (fs : List Candidate) (es : List Elaborate) (ms : List Source.Meaning) (n : ℕ)
    (reader o : Option Chosen)
    → StandsOver setting name.text fs → AreCallees fs → AreRight setting locals es ms
    → chosen fs ((args_found es setting locals).shapes ++ V.Never ∷ []) ≡ o
    → (call_aimed name (args_found es setting locals).faults (args_found es setting locals) reader o).faults ≡ []
    → AimsAs setting locals n (call_aimed name (args_found es setting locals).faults (args_found es setting locals) reader o) (call_meant name ms)
over_aim setting locals name fs es ms n reader None there are right is e = not_empty (both_empty (args_found es setting locals).faults _ e).1
over_aim setting locals name fs es ms n reader (Some x) there are right is e =
    let args : Args = args_found es setting locals in
    let f : Candidate = x.candidate in
    let calls = (chosen_has IsCallee fs (args.shapes ++ V.Never ∷ []) x (each_called fs are) is).0 in
    subst (λ y. SpotRuns setting locals (λ reach a b. WritesAlike reach (put (at x.known) (last_param f.params))
    (Answered n (put (at x.known) f.answer) reach) a.write b.write)
    (call_target name.place (length args.cores) (reader_of reader) (doing_callee y)) args.cores (call_meant name ms)) (sym calls.1)
    (call_spots setting locals name
    (λ reach a b. WritesAlike reach (put (at x.known) (last_param f.params)) (Answered n (put (at x.known) f.answer) reach) a.write b.write)
    args.cores args.shapes (reader_of reader) (caller_of calls.0) ms (args_right es ms setting locals right e)
    (λ registers c wc ws d slots vs all.
    over_writes setting name fs args.shapes x calls.0 (reader_of reader) n registers c wc ws slots vs there is calls.1 d all))

-- a base that one member of an overload reads, and another one writes
fit_some : (types : Types) (c : Choice) (params : List Shape) (vs : List Value) (p : Shape) (ps : List Shape) → params ≡ (p ∷ ps) → FitAll types c params vs
    → (n : ℕ) × (length vs ≡ suc n)
fit_some types c params [] p ps is all = no (sym (ap (λ ss. each_fits (map (fits types) []) (map (put c) ss)) is) ∙ all)
fit_some types c params (v ∷ vs) p ps is all = (length vs, refl)

abbrev aimed_as : Shape → Target → List Core → List ShapeError → Shape → Aimed
aimed_as s t ps es answer = record { shape = s; target = t; parts = ps; faults = es; answer = answer }

same_aimed : (b : Aimed) (s : Shape) (t : Target) (ps : List Core) (answer : Shape) → b.shape ≡ s → b.target ≡ t → b.parts ≡ ps → b.answer ≡ answer
    → aimed_as s t ps b.faults answer ≡ b
same_aimed b s t ps answer shape_is target_is parts_is answer_is =
    λ j. record { shape = sym shape_is j; target = sym target_is j; parts = sym parts_is j; faults = b.faults; answer = sym answer_is j }

pub over_base : (setting : Setting) (locals : Locals) (name : Name) (fs : List Candidate) (es : List Elaborate) (ms : List Source.Meaning)
    (x w : Chosen) (b : Aimed)
    → StandsOver setting name.text fs → AreCallees fs → AreRight setting locals es ms → (args_found es setting locals).faults ≡ []
    → chosen fs (args_found es setting locals).shapes ≡ Some x
    → chosen fs ((args_found es setting locals).shapes ++ put (at x.known) x.candidate.answer ∷ []) ≡ Some w
    → b.shape ≡ put (at x.known) x.candidate.answer → b.answer ≡ put (at w.known) w.candidate.answer
    → b.target ≡ call_target name.place (length (args_found es setting locals).cores) (option_map caller_of (doing_callee x.candidate.doing))
    (doing_callee w.candidate.doing) → b.parts ≡ (args_found es setting locals).cores
    → BaseIs setting locals b (call_meant name ms)
over_base setting locals name fs es ms x w b there are right e reads writes shape_is answer_is target_is parts_is =
    let args : Args = args_found es setting locals in
    let s : Shape = put (at x.known) x.candidate.answer in
    let t : Shape = put (at w.known) w.candidate.answer in
    let reader = (chosen_has IsCallee fs args.shapes x (each_called fs are) reads) in
    let writer = (chosen_has IsCallee fs (args.shapes ++ s ∷ []) w (each_called fs are) writes) in
    let run = call_spots setting locals name (λ reach a b. ReadsAs reach s a.read b.read × RenewsAs reach s t a.renew b.write)
    args.cores args.shapes (Some (caller_of reader.0.0)) (caller_of writer.0.0) ms (args_right es ms setting locals right e)
    (λ registers c wc ws d slots vs all. (
      λ now good.
          let many = fit_some setting.types (λ i. put c (at x.known i)) x.candidate.params vs reader.1.0 reader.1.1 reader.1.2
          (solved_fit setting.types vs c args.shapes x (is_taken fs args.shapes x reads) all) in
          over_agrees setting name fs args.shapes x reader.0.0 many.0 registers c wc ws slots vs now there reads reader.0.1 d all many.1 good,
      λ v fit now good.
          let many = count_more vs v in
          over_agrees setting name fs (args.shapes ++ s ∷ []) w writer.0.0 many.0 registers c wc ws slots (vs ++ v ∷ []) now there writes writer.0.1 d
          (fit_more setting.types c args.shapes s vs v all fit) many.1 good,
    )) in
    let as_called : b.target ≡ target name.place (T.Call (length args.cores) (Some (caller_of reader.0.0)) (caller_of writer.0.0)) [] =
    target_is ∙ (λ j. call_target name.place (length args.cores) (option_map caller_of (doing_callee (reader.0.1 j))) (doing_callee (writer.0.1 j))) in
    subst (λ (y : Aimed). SpotRuns setting locals (λ reach a b. ReadsAs reach y.shape a.read b.read × RenewsAs reach y.shape y.answer a.renew b.write)
    y.target y.parts (call_meant name ms)) (same_aimed b s _ args.cores t shape_is as_called parts_is answer_is) run

-- ---- one callee

abbrev front : List Shape → List Shape
front [] = []
front (p ∷ []) = []
front (p ∷ q ∷ ps) = p ∷ front (q ∷ ps)

less_one : (n k : ℕ) → suc n ≡ suc k → n ≡ k
less_one n k h = grind (arith, h)

not_more : {A : Type 0} (n : ℕ) → suc zero ≡ suc (suc n) → A
not_more n h = absurd (different n h)
  where
    different : (n : ℕ) → suc zero ≡ suc (suc n) → ⊥
    different n h = grind (arith, h)

not_none : {A : Type 0} (n : ℕ) → zero ≡ suc n → A
not_none n h = absurd (different n h)
  where
    different : (n : ℕ) → zero ≡ suc n → ⊥
    different n h = grind (arith, h)

front_count : (params : List Shape) (n : ℕ) → length params ≡ suc n → length (front params) ≡ n
front_count [] n many = not_none n many
front_count (p ∷ []) n many = less_one zero n many
front_count (p ∷ q ∷ ps) zero many = absurd (different (length ps) many)
  where
    different : (n : ℕ) → suc (suc n) ≡ suc zero → ⊥
    different n h = grind (arith, h)
front_count (p ∷ q ∷ ps) (suc n) many = ap suc (front_count (q ∷ ps) n (less_one (suc (length ps)) (suc n) many))

-- the last parameter is that of the new value
solved_front : (es : List Elaborate) (setting : Setting) (locals : Locals) (params known : List Shape) → length params ≡ suc (length es)
    → solved es setting locals params known ≡ solved es setting locals (front params) known
solved_front [] setting locals params known many = refl
solved_front (e ∷ es) setting locals [] known many = not_none (suc (length es)) many
solved_front (e ∷ es) setting locals (p ∷ []) known many = not_more (length es) many
solved_front (e ∷ es) setting locals (p ∷ q ∷ ps) known many =
    let want : Shape = put (at known) p in
    λ j. solved_behind want (e setting locals want)
    (λ k. solved_front es setting locals (q ∷ ps) k (less_one (suc (length ps)) (suc (length es)) many) j) known
    (learn p (e setting locals want).shape known)

solved_count : (es : List Elaborate) (setting : Setting) (locals : Locals) (params known : List Shape) → length params ≡ suc (length es)
    → length (solved es setting locals params known).cores ≡ length es
solved_count [] setting locals params known many = refl
solved_count (e ∷ es) setting locals [] known many = not_none (suc (length es)) many
solved_count (e ∷ es) setting locals (p ∷ []) known many = not_more (length es) many
solved_count (e ∷ es) setting locals (p ∷ q ∷ ps) known many =
    by_learnt (learn p (e setting locals (put (at known) p)).shape known)
    (λ k. solved_count es setting locals (q ∷ ps) k (less_one (suc (length ps)) (suc (length es)) many))
  where
    by_learnt : (o : Option (List Shape)) → ((k : List Shape) → length (solved es setting locals (q ∷ ps) k).cores ≡ length es)
        → length (solved_behind (put (at known) p) (e setting locals (put (at known) p)) (solved es setting locals (q ∷ ps)) known o).cores ≡ suc (length es)
    by_learnt None others = ap suc (others known)
    by_learnt (Some later) others = ap suc (others later)

never_fills : (s : Shape) → fills V.Never s ≡ true
never_fills s = ap (λ x. fills x s) (sym V.rolls-Never) ∙ opened S.Never s

-- each argument's parameter, and nothing of the last one
front_fills : (e : ℕ → Shape) (params : List Shape) (n : ℕ) → length params ≡ suc n
    → fill_all (map (put e) (front params) ++ V.Never ∷ []) (map (put e) params) ≡ true
front_fills e [] n many = not_none n many
front_fills e (p ∷ []) n many = two (fills V.Never (put e p)) true (never_fills (put e p)) refl
front_fills e (p ∷ q ∷ ps) zero many = absurd (different (length ps) many)
  where
    different : (n : ℕ) → suc (suc n) ≡ suc zero → ⊥
    different n h = grind (arith, h)
front_fills e (p ∷ q ∷ ps) (suc n) many =
    two (fills (put e p) (put e p)) (fill_all (map (put e) (front (q ∷ ps)) ++ V.Never ∷ []) (map (put e) (q ∷ ps))) (fills_itself (put e p))
    (front_fills e (q ∷ ps) n (less_one (suc (length ps)) (suc n) many))

-- on so many values the arguments stay as they are
stays_so : (callee : Callee) (vs : List Value) → length vs ≡ length (parameters callee) → arguments (alone callee) vs ≡ vs
stays_so (direction d) [] many = not_none zero many
stays_so (direction d) (v ∷ []) many = refl
stays_so (direction d) (v ∷ u ∷ vs) many = not_more (length vs) (sym many)
stays_so (function f) vs many = stays (function f) vs refl many
stays_so (constructor u k ss) vs many = stays (constructor u k ss) vs refl many
stays_so (builtin row ss) vs many = stays (builtin row ss) vs refl many
stays_so cons vs many = stays cons vs refl many

pub fit_length : (types : Types) (c : Choice) (ss : List Shape) (vs : List Value) → FitAll types c ss vs → length vs ≡ length ss
fit_length types c [] [] all = refl
fit_length types c [] (v ∷ vs) all = no all
fit_length types c (s ∷ ss) [] all = no all
fit_length types c (s ∷ ss) (v ∷ vs) all =
    ap suc (fit_length types c ss vs (and_parts (fits types v (put c s)) (each_fits (map (fits types) vs) (map (put c) ss)) all).1)

pub callee_aim : (setting : Setting) (locals : Locals) (name : Name) (f : Candidate) (es : List Elaborate) (ms : List Source.Meaning) (n count : ℕ)
    → StandsAlone setting name.text f → IsCallee f → AreRight setting locals es ms → count ≡ length es → length f.params ≡ suc (length es)
    → (solved es setting locals f.params (holes f.variables)).faults ≡ []
    → AimsAs setting locals n (callee_aimed name f count (solved es setting locals f.params (holes f.variables))) (call_meant name ms)
callee_aim setting locals name f es ms n count there is right same many e =
    let args : Solved = solved es setting locals f.params (holes f.variables) in
    let known : List Shape = args.known in
    let cut = solved_front es setting locals f.params (holes f.variables) many in
    let r = solved_right es ms setting locals (front f.params) (holes f.variables) right (front_count f.params (length es) many)
    (ap (λ (x : Solved). x.faults) (sym cut) ∙ e) in
    let run : RunAll setting locals (map (put (at known)) (front f.params)) args.cores ms =
    subst (λ (x : Solved). RunAll setting locals (map (put (at x.known)) (front f.params)) x.cores ms) (sym cut) r.1 in
    let called_is : target name.place (T.Call (length args.cores) None (caller_of is.0.0)) [] ≡ call_target name.place count None (doing_callee f.doing) =
    ap (λ k. target name.place (T.Call k None (caller_of is.0.0)) []) (solved_count es setting locals f.params (holes f.variables) many ∙ sym same)
    ∙ (λ j. call_target name.place count None (doing_callee (sym is.0.1 j))) in
    subst (λ y. SpotRuns setting locals (λ reach a b. WritesAlike reach (put (at known) (last_param f.params)) (Answered n (put (at known) f.answer) reach)
    a.write b.write) y args.cores (call_meant name ms)) called_is
    (call_spots setting locals name
    (λ reach a b. WritesAlike reach (put (at known) (last_param f.params)) (Answered n (put (at known) f.answer) reach) a.write b.write)
    args.cores (map (put (at known)) (front f.params)) None (caller_of is.0.0) ms run
    (λ registers c wc ws d slots vs all t above v fit now good.
    let us : List Value = vs ++ v ∷ [] in
    let o = there registers wc ws d in
    let fit_all = fit_last setting.types n c (at known) f.variables f.params (map (put (at known)) (front f.params)) vs t v o.2.whole
    (front_fills (at known) f.params (length es) many) all above fit in
    let so_many : length us ≡ length (parameters o.0) = fit_length setting.types (loose n c (at known)) f.params us fit_all ∙ ap length (sym o.2.params) in
    keep_agrees setting registers c wc ws d slots name.place f o.0 is.0.0 (loose n c (at known)) us
    (Answered n (put (at known) f.answer) (reach_of setting registers c slots)) (ws.call name.place name.text us) now o.2 is.0.1 fit_all
    (λ u h b. answer_told setting.types n c (at known) f.answer u h b)
    ((λ i. by_alone setting registers wc ws d name.place name.text o.0 us o.1 i now)
    ∙ call_alone setting.types d.apply name.place o.0 us us now (stays_so o.0 us so_many)
    ∙ applied_once setting.types d.apply name.place o.0 us now so_many) good))
