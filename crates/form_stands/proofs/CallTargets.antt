-- `f(a)` as a target beside others, and as the base of a part.
use Rattle.std.proofs.Common.{arith, ◌≡◌, inr, ℕ, zero, suc, Bool, true, false, List, [], ◌∷◌, ◌++◌, map, length, ap, sym, ◌∙◌, refl, subst, nat_eq}
use Rattle.std.proofs.Common.{Option, Some, None, option_map, if◌then◌else◌}
use Rattle.std.proofs.lemmas.Bool.{and_parts}
use Rattle.sail_types.specs.Shapes.{at, each_fits, fits, put}
use Rattle.sail_types.specs.declared.shapes.Shape.{Shape}
use Rattle.sail_types.specs.declared.shapes.Shape.TheOpen as S
use Rattle.sail_types.specs.declared.shapes.Shape.TheVariants as V
use Rattle.sail_types.specs.declared.table.Types.{Types}
use Rattle.sail_types.specs.declared.values.Value.{Value}
use Rattle.sail_syntax.specs.declared.name.Name.{Name}
use Rattle.sail_core.specs.declared.targets.Caller.{Caller}
use Rattle.sail_core.specs.declared.targets.TargetKind.TheVariants as T
use Rattle.sail_core.specs.declared.tree.Callee.{Callee}
use Rattle.sail_core.specs.declared.tree.Core.{Core}
use Rattle.sail_core.specs.Making.{World}
use Rattle.sail_names.specs.Known.{is_callee}
use Rattle.shape_joins.specs.Filling.{fills, fill_all}
use Rattle.shape_joins.specs.Learning.{holes}
use Rattle.shape_joins.proofs.Order.{fills_itself, no, opened, two}
use Rattle.shape_rules.specs.declared.callees.Candidate.{Candidate}
use Rattle.shape_rules.specs.declared.callees.Doing.TheVariants as D
use Rattle.shape_rules.specs.declared.callees.Meant.{Meant}
use Rattle.shape_rules.specs.declared.callees.Meant.TheVariants as M
use Rattle.shape_rules.specs.declared.error.ShapeError.TheVariants as error
use Rattle.shape_rules.specs.declared.locals.Local.{Local}
use Rattle.shape_rules.specs.Calls.{Args, Chosen, Elaborate, Solved, args_found, chosen, solved}
use Rattle.shape_rules.specs.Scopes.{Locals}
use Rattle.shape_rules.specs.Statements.{chained_faults}
use Rattle.shape_rules.specs.Targets.{Aimed, Part, aimed_nowhere, call_aim, call_aimed, call_target, callee_aimed, callee_counted, callees_of, caller_of}
use Rattle.shape_rules.specs.Targets.{doing_callee, elaborations, last_param, meant_aim, one_of, open_faults, read_aimed, read_shape, read_with, reader_of}
use Rattle.shape_rules.specs.Targets.{unread, written_by}
use Rattle.shape_meanings.specs.Keeping.{FitAll, Fits, Reach, reach_of}
use Rattle.shape_meanings.specs.Naming.{AreCallees, IsCallee}
use Rattle.shape_meanings.specs.Whole.{Choice, all_below, below}
use Rattle.shape_meanings.proofs.Bases.{chained_known, not_none}
use Rattle.shape_meanings.proofs.CallAims.{Each, chosen_has}
use Rattle.shape_meanings.proofs.Choosing.{is_taken, solved_fit}
use Rattle.shape_meanings.proofs.Counting.{same_length}
use Rattle.shape_meanings.proofs.Learning.{learnt_all}
use Rattle.shape_meanings.proofs.Meeting.{loose, loose_told, loosens, met}
use Rattle.shape_meanings.proofs.Orders.{put_put}
use Rattle.shape_meanings.proofs.TargetCounts.{only_one}
use Rattle.shape_meanings.proofs.Values.{widens}
use Rattle.shape_progress.specs.TargetRules.{AllHave, GivesAs, Reads, Takes}
use Rattle.shape_stands.specs.Inside.{CanBeCalled, Does, EachCalled, Inside, MeantCalled, Position}
use Rattle.shape_stands.specs.Stands.{AimShaped, AimStands, AllStandAt, BaseStands, HasShape, PartAimStands}
use Rattle.shape_stands.proofs.Standing.{AllShaped, both_empty, target_has}
use Rattle.form_stands.proofs.Arguments.{args_shaped, candidate_takes, chosen_called, firsts, solved_shaped}

-- ---- one argument more

-- arguments, and a last one of which nothing was known, fit the parameters for what is known of their variables, and whatever the others stand for
fit_last : (types : Types) (n : ℕ) (c e : ℕ → Shape) (m : ℕ) (params ss : List Shape) (vs : List Value) (t : Shape) → all_below m params ≡ true
    → fill_all (ss ++ V.Never ∷ []) (map (put e) params) ≡ true → fills (put e (last_param params)) t ≡ true → FitAll types c (ss ++ t ∷ []) vs
    → FitAll types (loose n c e) params vs
fit_last types n c e m [] [] vs t whole fill above fit = no fill
fit_last types n c e m [] (s ∷ ss) vs t whole fill above fit = no fill
fit_last types n c e m (p ∷ ps) [] [] t whole fill above fit = no fit
fit_last types n c e m (p ∷ []) [] (v ∷ []) t whole fill above fit =
    let b = and_parts (below m p) true whole in
    let k = and_parts (fits types v (put c t)) true fit in
    two (fits types v (put (loose n c e) p)) true (loosens types n c e v p t (met p e m t b.0 above) k.0) refl
fit_last types n c e m (p ∷ []) [] (v ∷ u ∷ us) t whole fill above fit = no (and_parts (fits types v (put c t)) false fit).1
fit_last types n c e m (p ∷ q ∷ ps) [] (v ∷ vs) t whole fill above fit = no (and_parts (fills V.Never (put e p)) false fill).1
fit_last types n c e m (p ∷ ps) (s ∷ ss) [] t whole fill above fit = no fit
fit_last types n c e m (p ∷ []) (s ∷ []) (v ∷ vs) t whole fill above fit = no (and_parts (fills s (put e p)) false fill).1
fit_last types n c e m (p ∷ []) (s ∷ r ∷ ss) (v ∷ vs) t whole fill above fit = no (and_parts (fills s (put e p)) false fill).1
fit_last types n c e m (p ∷ q ∷ ps) (s ∷ ss) (v ∷ vs) t whole fill above fit =
    let b = and_parts (below m p) (all_below m (q ∷ ps)) whole in
    let h = and_parts (fills s (put e p)) (fill_all (ss ++ V.Never ∷ []) (map (put e) (q ∷ ps))) fill in
    let k = and_parts (fits types v (put c s)) (each_fits (map (fits types) vs) (map (put c) (ss ++ t ∷ []))) fit in
    two (fits types v (put (loose n c e) p)) (each_fits (map (fits types) vs) (map (put (loose n c e)) (q ∷ ps)))
    (loosens types n c e v p (put e p) (met p e m (put e p) b.0 (fills_itself (put e p))) (widens types v c s (put e p) h.0 k.0))
    (fit_last types n c e m (q ∷ ps) ss vs t b.1 h.1 above k.1)

-- one parameter takes one argument
only_last : (e : ℕ → Shape) (ss : List Shape) (t s : Shape) → fill_all (ss ++ V.Never ∷ []) (map (put e) (t ∷ [])) ≡ true
    → (u : Shape) × ((ss ++ s ∷ []) ≡ u ∷ [])
only_last e [] t s fill = (s, refl)
only_last e (q ∷ []) t s fill = no (and_parts (fills q (put e t)) false fill).1
only_last e (q ∷ r ∷ ss) t s fill = no (and_parts (fills q (put e t)) false fill).1

only_first : (e : ℕ → Shape) (ss : List Shape) (t : Shape) → fill_all ss (map (put e) (t ∷ [])) ≡ true → (u : Shape) × (ss ≡ u ∷ [])
only_first e [] t fill = no fill
only_first e (q ∷ []) t fill = (q, refl)
only_first e (q ∷ r ∷ ss) t fill = no (and_parts (fills q (put e t)) false fill).1

-- ---- a writer

-- what is known of what a writer gives, where that leaves nothing open
abbrev Counts : Option Shape → ℕ → Shape → Type 0
Counts None n s = Unit {0}
Counts (Some answer) n s = (answer ≡ s) × (below n s ≡ true)

gives_told : (reach : Reach) (n : ℕ) (e : ℕ → Shape) (s : Shape) (answer : Option Shape) → Counts answer n (put e s) → (v : Value)
    → Fits reach.types (loose n reach.choice e) s v → GivesAs reach answer v
gives_told reach n e s None counts v fit = tt
gives_told reach n e s (Some answer) counts v fit =
    subst (λ t. Fits reach.types reach.choice t v) (sym counts.0)
    (subst (λ t. fits reach.types v t ≡ true) (loose_told s n reach.choice e counts.1 ∙ sym (put_put s reach.choice e)) fit)

writer_takes : (here : Position) (registers : List Shape) (c : Choice) (w : World Value) (slots : List Local) (f : Candidate) (callee : Callee) (n : ℕ)
    (e : ℕ → Shape) (ss : List Shape) (s : Shape) (answer : Option Shape) → CanBeCalled here registers c w f → f.doing ≡ D.Calls callee
    → fill_all (ss ++ V.Never ∷ []) (map (put e) f.params) ≡ true → fills (put e (last_param f.params)) s ≡ true → Counts answer n (put e f.answer)
    → Takes w (reach_of here.setting registers c slots) (ss ++ s ∷ []) answer callee
writer_takes here registers c w slots f callee n e ss s answer called is fill above counts =
    candidate_takes here registers c w slots f callee (ss ++ s ∷ []) answer (loose n c e) (subst (Does here registers c w f) is called.does)
    (λ t one. only_last e ss t s (subst (λ ps. fill_all (ss ++ V.Never ∷ []) (map (put e) ps) ≡ true) one fill))
    (λ vs fit. fit_last here.setting.types n c e f.variables f.params ss vs s called.whole fill above fit)
    (gives_told (reach_of here.setting registers c slots) n e f.answer answer counts)

-- the member that is chosen by these shapes takes values of them
chosen_takes : (here : Position) (registers : List Shape) (c : Choice) (w : World Value) (slots : List Local) (fs : List Candidate) (ss : List Shape)
    (x : Chosen) (callee : Callee) → EachCalled here registers c w fs → chosen fs ss ≡ Some x → x.candidate.doing ≡ D.Calls callee
    → Takes w (reach_of here.setting registers c slots) ss (Some (put (at x.known) x.candidate.answer)) callee
chosen_takes here registers c w slots fs ss x callee called is calls =
    let f : Candidate = x.candidate in
    let taken = is_taken fs ss x is in
    let learnt = learnt_all f.params ss (holes f.variables) x.known taken in
    candidate_takes here registers c w slots f callee ss (Some (put (at x.known) f.answer)) (λ i. put c (at x.known i))
    (subst (Does here registers c w f) calls (chosen_called here registers c w fs ss x is called).does)
    (λ t one. only_first (at x.known) ss t (subst (λ ps. fill_all ss (map (put (at x.known)) ps) ≡ true) one learnt.1))
    (λ vs fit. solved_fit here.setting.types vs c ss x taken fit)
    (λ v fit. subst (λ t. fits here.setting.types v t ≡ true) (sym (put_put f.answer c (at x.known))) fit)

-- ---- the target

all_count : (P : Shape → Core → Type 0) (ss : List Shape) (cs : List Core) → AllHave P ss cs → length cs ≡ length ss
all_count P [] [] h = refl
all_count P [] (c ∷ cs) h = absurd h
all_count P (s ∷ ss) [] h = absurd h
all_count P (s ∷ ss) (c ∷ cs) h = ap suc (all_count P ss cs h.1)

called_shaped : (here : Position) (locals : Locals) (name : Name) (is_base : Bool) (s : Shape) (answer : Option Shape) (own : Shape) (faults : _)
    (given : Shape) (cores : List Core) (ss : List Shape) (count : ℕ) (reader : Option Caller) (writer : Callee)
    → AllShaped here locals ss cores → count ≡ length ss
    → ((registers : List Shape) (c : Choice) (w : World Value) → Inside here registers c w → (slots : List Local)
    → Takes w (reach_of here.setting registers c slots) (ss ++ s ∷ []) answer writer
    × Reads w (reach_of here.setting registers c slots) ss s is_base reader)
    → AimShaped here locals is_base s answer
    (record { shape = own; target = call_target name.place count reader (Some writer); parts = cores; faults = faults; answer = given })
called_shaped here locals name is_base s answer own faults given cores ss count reader writer args many takes registers c w inside slots seen rest =
    let reach : Reach = reach_of here.setting registers c slots in
    let h = args registers c w inside slots seen in
    let k = takes registers c w inside slots in
    inr (
      suc zero,
      target_has w reach (HasShape w reach) zero name.place (T.Call count reader (caller_of writer)) [] is_base s answer (cores ++ rest) rest
          (cores, ss, refl, many ∙ sym (all_count (HasShape w reach) ss cores h), h, k.0, k.1),
    )

-- ---- one callee

-- each argument's parameter, and nothing of the last one
front_fills : (e : ℕ → Shape) (es : List Elaborate) (params : List Shape) → length params ≡ suc (length es)
    → fill_all (map (put e) (firsts es params) ++ V.Never ∷ []) (map (put e) params) ≡ true
front_fills e es [] many = absurd (zero_not (length es) many)
  where
    zero_not : (n : ℕ) → zero ≡ suc n → ⊥
    zero_not n h = grind (arith, h)
front_fills e [] (p ∷ []) many =
    two (fills V.Never (put e p)) true (ap (λ x. fills x (put e p)) (sym V.rolls-Never) ∙ opened S.Never (put e p)) refl
front_fills e [] (p ∷ q ∷ ps) many = absurd (two_not (length ps) many)
  where
    two_not : (n : ℕ) → suc (suc n) ≡ suc zero → ⊥
    two_not n h = grind (arith, h)
front_fills e (x ∷ es) (p ∷ ps) many =
    two (fills (put e p) (put e p)) (fill_all (map (put e) (firsts es ps) ++ V.Never ∷ []) (map (put e) ps)) (fills_itself (put e p))
    (front_fills e es ps (one_less (length ps) (suc (length es)) many))
  where
    one_less : (n k : ℕ) → suc n ≡ suc k → n ≡ k
    one_less n k h = grind (arith, h)

firsts_count : (e : ℕ → Shape) (es : List Elaborate) (params : List Shape) → length params ≡ suc (length es)
    → length (map (put e) (firsts es params)) ≡ length es
firsts_count e [] params many = refl
firsts_count e (x ∷ es) [] many = absurd (zero_not (length es) many)
  where
    zero_not : (n : ℕ) → zero ≡ suc (suc n) → ⊥
    zero_not n h = grind (arith, h)
firsts_count e (x ∷ es) (p ∷ ps) many = ap suc (firsts_count e es ps (one_less (length ps) (suc (length es)) many))
  where
    one_less : (n k : ℕ) → suc n ≡ suc k → n ≡ k
    one_less n k h = grind (arith, h)

abbrev InEach : Position → List Candidate → Type 0
InEach here fs = (registers : List Shape) (c : Choice) (w : World Value) → Inside here registers c w → EachCalled here registers c w fs

callee_aim : (here : Position) (locals : Locals) (name : Name) (f : Candidate) (es : List Elaborate) (n count : ℕ) (s : Shape) (answer : Option Shape)
    → InEach here (f ∷ []) → IsCallee f → AllStandAt here locals es → count ≡ length es → length f.params ≡ suc (length es)
    → (solved es here.setting locals f.params (holes f.variables)).faults ≡ []
    → fills (callee_aimed name f count (solved es here.setting locals f.params (holes f.variables))).shape s ≡ true
    → Counts answer n (callee_aimed name f count (solved es here.setting locals f.params (holes f.variables))).answer
    → AimShaped here locals false s answer (callee_aimed name f count (solved es here.setting locals f.params (holes f.variables)))
callee_aim here locals name f es n count s answer called is stand same many e above counts =
    let args : Solved = solved es here.setting locals f.params (holes f.variables) in
    let known : ℕ → Shape = at args.known in
    let r = solved_shaped es here locals f.params (holes f.variables) stand e in
    subst (λ y. AimShaped here locals false s answer (record {
      shape = put known (last_param f.params);
      target = call_target name.place count None y;
      parts = args.cores;
      faults = args.faults;
      answer = put known f.answer;
    }))
    (ap doing_callee (sym is.0.1))
    (called_shaped here locals name false s answer (put known (last_param f.params)) args.faults (put known f.answer) args.cores
    (map (put known) (firsts es f.params)) count None is.0.0 r.1 (same ∙ sym (firsts_count known es f.params many))
    (λ registers c w inside slots. (
      writer_takes here registers c w slots f is.0.0 n known (map (put known) (firsts es f.params)) s answer (called registers c w inside).0 is.0.1
          (front_fills known es f.params many) above counts,
      tt,
    )))

-- ---- a member of several

each_called : (fs : List Candidate) → AreCallees fs → Each IsCallee fs
each_called [] are = tt
each_called (f ∷ fs) are = (are.0, each_called fs are.1)

all_shapes : (here : Position) (locals : Locals) (es : List Elaborate)
    → length (args_found es here.setting locals).cores ≡ length (args_found es here.setting locals).shapes
all_shapes here locals [] = refl
all_shapes here locals (e ∷ es) = ap suc (all_shapes here locals es)

member_aim : (here : Position) (locals : Locals) (name : Name) (fs : List Candidate) (es : List Elaborate) (n : ℕ) (s : Shape) (answer : Option Shape)
    (reader o : Option Chosen)
    → InEach here fs → AreCallees fs → AllStandAt here locals es → chosen fs ((args_found es here.setting locals).shapes ++ V.Never ∷ []) ≡ o
    → (call_aimed name (args_found es here.setting locals).faults (args_found es here.setting locals) reader o).faults ≡ []
    → fills (call_aimed name (args_found es here.setting locals).faults (args_found es here.setting locals) reader o).shape s ≡ true
    → Counts answer n (call_aimed name (args_found es here.setting locals).faults (args_found es here.setting locals) reader o).answer
    → AimShaped here locals false s answer (call_aimed name (args_found es here.setting locals).faults (args_found es here.setting locals) reader o)
member_aim here locals name fs es n s answer reader None called are stand is e above counts =
    not_none (both_empty (args_found es here.setting locals).faults _ e).1
member_aim here locals name fs es n s answer reader (Some x) called are stand is e above counts =
    let args : Args = args_found es here.setting locals in
    let f : Candidate = x.candidate in
    let known : ℕ → Shape = at x.known in
    let calls = (chosen_has IsCallee fs (args.shapes ++ V.Never ∷ []) x (each_called fs are) is).0 in
    let learnt = learnt_all f.params (args.shapes ++ V.Never ∷ []) (holes f.variables) x.known (is_taken fs (args.shapes ++ V.Never ∷ []) x is) in
    subst (λ y. AimShaped here locals false s answer (record {
      shape = put known (last_param f.params);
      target = call_target name.place (length args.cores) (reader_of reader) y;
      parts = args.cores;
      faults = args.faults;
      answer = put known f.answer;
    }))
    (ap doing_callee (sym calls.1))
    (called_shaped here locals name false s answer (put known (last_param f.params)) args.faults (put known f.answer) args.cores args.shapes
    (length args.cores) (reader_of reader) calls.0 (args_shaped es here locals stand e) (all_shapes here locals es)
    (λ registers c w inside slots. (
      writer_takes here registers c w slots f calls.0 n known args.shapes s answer
          (chosen_called here registers c w fs (args.shapes ++ V.Never ∷ []) x is (called registers c w inside)) calls.1 learnt.1 above counts,
      tt,
    )))

-- ---- a name, whatever it means

meant_each : (here : Position) (registers : List Shape) (c : Choice) (w : World Value) (meant : Option Meant) → MeantCalled here registers c w meant
    → EachCalled here registers c w (callees_of here.setting.types meant)
meant_each here registers c w (Some (M.Callee f)) h = (h, tt)
meant_each here registers c w (Some (M.Row row)) h = h
meant_each here registers c w (Some (M.Overload fs)) h = h
meant_each here registers c w (Some (M.Register r s)) h = tt
meant_each here registers c w (Some (M.Let i s)) h = tt
meant_each here registers c w (Some (M.Member i k)) h = tt
meant_each here registers c w (Some (M.Mapping m)) h = tt
meant_each here registers c w None h = tt

module _ (here : Position) (locals : Locals) (name : Name) (args : List Part) (stand : AllStandAt here locals (elaborations args))
    (h : is_callee here.names name.text ≡ true) (are : AreCallees (callees_of here.setting.types (here.setting.value name.text))) where
  abbrev fs : List Candidate
  fs = callees_of here.setting.types (here.setting.value name.text)

  abbrev found : Args
  found = args_found (elaborations args) here.setting locals

  pub called : InEach here fs
  called registers c w inside = meant_each here registers c w (here.setting.value name.text) (inside.callees name.text h)

  abbrev Goal : ℕ → Shape → Option Shape → Aimed → Type 0
  Goal n s answer a = a.faults ≡ [] → fills a.shape s ≡ true → Counts answer n a.answer → AimShaped here locals false s answer a

  aim_by : (n : ℕ) (s : Shape) (answer : Option Shape) (o : Option Candidate) → one_of (here.setting.value name.text) fs ≡ o
      → Goal n s answer (meant_aim name args fs o here.setting locals)
  aim_by n s answer (Some f) one e above counts = by_count (nat_eq (length f.params) (suc (length args))) refl e above counts
    where
      by_count : (b : Bool) → nat_eq (length f.params) (suc (length args)) ≡ b
          → Goal n s answer
          (if b then callee_aimed name f (length args) (solved (elaborations args) here.setting locals f.params (holes f.variables))
          else aimed_nowhere name.place (error.Arity name.place (length f.params) (suc (length args)) ∷ []))
      by_count true many e above counts =
          let only : fs ≡ (f ∷ []) = only_one (here.setting.value name.text) fs f one in
          callee_aim here locals name f (elaborations args) n (length args) s answer (subst (InEach here) only called) (subst AreCallees only are).0 stand
          (sym (same_length (λ (a : Part). a.elaborate) args))
          (same_count (length f.params) (length args) many ∙ ap suc (sym (same_length (λ (a : Part). a.elaborate) args))) e above counts
        where
          same_count : (n k : ℕ) → nat_eq n (suc k) ≡ true → n ≡ suc k
          same_count n k h = grind (arith, h)
      by_count false many e above counts = not_none e
  aim_by n s answer None one e above counts =
      member_aim here locals name fs (elaborations args) n s answer (chosen fs found.shapes) (chosen fs (found.shapes ++ V.Never ∷ [])) called are stand refl e
      above counts

  -- beside others, where what it gives is known in each part
  pub call_aim_stands : (at_place : _) → chained_faults at_place (call_aim name args here.setting locals) ≡ []
      → AimStands here locals (call_aim name args here.setting locals)
  call_aim_stands at_place e s above =
      let a : Aimed = call_aim name args here.setting locals in
      let k = chained_known here.setting.types at_place a e in
      aim_by k.1.0 s (Some a.answer) (one_of (here.setting.value name.text) fs) refl k.0 above (refl, k.1.1)

  -- and in a tuple, where it doesn't count
  pub call_part_stands : (call_aim name args here.setting locals).faults ≡ [] → PartAimStands here locals (call_aim name args here.setting locals)
  call_part_stands e s above = aim_by zero s None (one_of (here.setting.value name.text) fs) refl e above tt

  -- ---- as a base

  abbrev base_of : Option Candidate → Option Chosen → Aimed
  base_of o reader =
      read_with name (length args) o reader (written_by name fs found reader o (meant_aim name args fs o here.setting locals))

  -- one callee can't be called with two counts
  pub one_fails : (f : Candidate) (reader : Option Chosen) → one_of (here.setting.value name.text) fs ≡ Some f → chosen fs found.shapes ≡ reader
      → (base_of (Some f) reader).faults ≡ [] → ⊥
  one_fails f reader one is e =
      let first = (callee_counted name f args here.setting locals).faults in
      let h = both_empty (first ++ unread name (length args) (Some f) reader) (open_faults name.place (read_shape reader)) e in
      let k = both_empty first (unread name (length args) (Some f) reader) h.0 in
      by_count (nat_eq (length f.params) (suc (length args))) refl k.0 (by_reader reader is k.1)
    where
      by_reader : (reader : Option Chosen) → chosen fs found.shapes ≡ reader → unread name (length args) (Some f) reader ≡ []
          → length f.params ≡ length args
      by_reader (Some x) is e =
          let only : fs ≡ (f ∷ []) = only_one (here.setting.value name.text) fs f one in
          let same : chosen (f ∷ []) found.shapes ≡ Some x = ap (λ gs. chosen gs found.shapes) (sym only) ∙ is in
          let member = chosen_has (λ g. g ≡ f) (f ∷ []) found.shapes x (refl, tt) same in
          let learnt = learnt_all x.candidate.params found.shapes (holes x.candidate.variables) x.known (is_taken (f ∷ []) found.shapes x same) in
          ap (λ (g : Candidate). length g.params) (sym member) ∙ filled_count (at x.known) found.shapes x.candidate.params learnt.1
          ∙ shapes_length (elaborations args) ∙ same_length (λ (a : Part). a.elaborate) args
        where
          filled_count : (e : ℕ → Shape) (ss ps : List Shape) → fill_all ss (map (put e) ps) ≡ true → length ps ≡ length ss
          filled_count e [] [] h = refl
          filled_count e [] (p ∷ ps) h = no h
          filled_count e (s ∷ ss) [] h = no h
          filled_count e (s ∷ ss) (p ∷ ps) h =
              ap suc (filled_count e ss ps (and_parts (fills s (put e p)) (fill_all ss (map (put e) ps)) h).1)

          shapes_length : (es : List Elaborate) → length (args_found es here.setting locals).shapes ≡ length es
          shapes_length [] = refl
          shapes_length (e ∷ es) = ap suc (shapes_length es)
      by_reader None is e = by_arity (nat_eq (length f.params) (length args)) refl e
        where
          by_arity : (b : Bool) → nat_eq (length f.params) (length args) ≡ b
              → (if b then [] else error.Arity name.place (length f.params) (length args) ∷ []) ≡ [] → length f.params ≡ length args
          by_arity true h e = same_count (length f.params) (length args) h
            where
              same_count : (n k : ℕ) → nat_eq n k ≡ true → n ≡ k
              same_count n k h = grind (arith, h)
          by_arity false h e = not_none e

      by_count : (b : Bool) → nat_eq (length f.params) (suc (length args)) ≡ b
          → (if b then callee_aimed name f (length args) (solved (elaborations args) here.setting locals f.params (holes f.variables))
          else aimed_nowhere name.place (error.Arity name.place (length f.params) (suc (length args)) ∷ [])).faults ≡ []
          → length f.params ≡ length args → ⊥
      by_count true many e same = different (length f.params) (length args) many same
        where
          different : (n k : ℕ) → nat_eq n (suc k) ≡ true → n ≡ k → ⊥
          different n k h e = grind (arith, h, e)
      by_count false many e same = not_none e

  -- a member reads, and another one writes
  both_stand : (x y : Chosen) → found.faults ≡ [] → chosen fs found.shapes ≡ Some x
      → chosen fs (found.shapes ++ put (at x.known) x.candidate.answer ∷ []) ≡ Some y
      → BaseStands here locals (read_with name (length args) None (Some x) (call_aimed name found.faults found (Some x) (Some y)))
  both_stand x y e reads writes =
      let s : Shape = put (at x.known) x.candidate.answer in
      let t : Shape = put (at y.known) y.candidate.answer in
      let a : Aimed = read_with name (length args) None (Some x) (call_aimed name found.faults found (Some x) (Some y)) in
      let reader = (chosen_has IsCallee fs found.shapes x (each_called fs are) reads).0 in
      let writer = (chosen_has IsCallee fs (found.shapes ++ s ∷ []) y (each_called fs are) writes).0 in
      subst (λ z. AimShaped here locals true s (Some t) (record {
        shape = s;
        target = call_target name.place (length found.cores) (option_map caller_of (doing_callee x.candidate.doing)) z;
        parts = found.cores;
        faults = a.faults;
        answer = t;
      })) (ap doing_callee (sym writer.1))
      (subst (λ z. AimShaped here locals true s (Some t) (record {
        shape = s;
        target = call_target name.place (length found.cores) (option_map caller_of z) (Some writer.0);
        parts = found.cores;
        faults = a.faults;
        answer = t;
      })) (ap doing_callee (sym reader.1))
      (called_shaped here locals name true s (Some t) s a.faults t found.cores found.shapes (length found.cores) (Some (caller_of reader.0)) writer.0
      (args_shaped (elaborations args) here locals stand e) (all_shapes here locals (elaborations args))
      (λ registers c w inside slots. (
        chosen_takes here registers c w slots fs (found.shapes ++ s ∷ []) y writer.0 (called registers c w inside) writes writer.1,
        chosen_takes here registers c w slots fs found.shapes x reader.0 (called registers c w inside) reads reader.1,
      ))))

  base_by : (o : Option Candidate) (reader : Option Chosen) → one_of (here.setting.value name.text) fs ≡ o → chosen fs found.shapes ≡ reader
      → (base_of o reader).faults ≡ [] → BaseStands here locals (base_of o reader)
  base_by (Some f) reader one reads e = absurd (one_fails f reader one reads e)
  base_by None None one reads e =
      let first = (written_by name fs found None None (meant_aim name args fs None here.setting locals)).faults in
      let h = both_empty (first ++ unread name (length args) None None) (open_faults name.place (read_shape None)) e in
      not_none (both_empty first (unread name (length args) None None) h.0).1
  base_by None (Some x) one reads e = by_writer (chosen fs (found.shapes ++ put (at x.known) x.candidate.answer ∷ [])) refl e
    where
      by_writer : (y : Option Chosen) → chosen fs (found.shapes ++ put (at x.known) x.candidate.answer ∷ []) ≡ y
          → (read_with name (length args) None (Some x) (call_aimed name found.faults found (Some x) y)).faults ≡ []
          → BaseStands here locals (read_with name (length args) None (Some x) (call_aimed name found.faults found (Some x) y))
      by_writer None writes e =
          let first = found.faults ++ error.NoMember name.place name.text ∷ [] in
          let h = both_empty (first ++ []) (open_faults name.place (read_shape (Some x))) e in
          not_none (both_empty found.faults (error.NoMember name.place name.text ∷ []) (both_empty first [] h.0).0).1
      by_writer (Some y) writes e =
          let h = both_empty (found.faults ++ []) (open_faults name.place (read_shape (Some x))) e in
          both_stand x y (both_empty found.faults [] h.0).0 reads writes

  -- `f(a)[i] = e` reads f(a) by the call itself
  pub call_base_stands : (read_aimed (Some (name, args)) here.setting locals (call_aim name args here.setting locals)).faults ≡ []
      → BaseStands here locals (read_aimed (Some (name, args)) here.setting locals (call_aim name args here.setting locals))
  call_base_stands e = base_by (one_of (here.setting.value name.text) fs) (chosen fs found.shapes) refl refl e
