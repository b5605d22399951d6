-- Where ways meet, one way after the other, and the cases of a `match`.
use Rattle.std.proofs.Common.{◌≡◌, ◌∙◌, ap, sym, refl, ℕ, zero, suc, ◌+◌, ◌<◌, ◌≤◌, min, arith, List, [], ◌∷◌, ◌++◌}
use Rattle.std.proofs.Common.{length, drop, take, get_or, add-one, append_assoc, append-nil, Bool, true, false, Option, None, Some, is_none}
use Rattle.std.proofs.Math.Seq.{take-suc}
use Rattle.std.proofs.lemmas.List.{map-append, take_min}
use Rattle.sail_base.specs.declared.place.Place.{Place}
use Rattle.sail_types.specs.declared.numbers.Con.{Con}
use Rattle.sail_types.specs.declared.numbers.Con.TheVariants as C
use Rattle.sail_types.specs.declared.shapes.Shape.{Shape}
use Rattle.sail_core.specs.declared.patterns.Arm.{Arm}
use Rattle.sail_core.specs.declared.tree.Core.{Core}
use Rattle.sail_core.specs.declared.tree.Giver.TheVariants as Gives
use Rattle.value_indices.specs.Steps.{Walk, assume, bind, give, next_variable, scoped}
use Rattle.value_indices.specs.Walking.{Written, got, remembering, restored, run}
use Rattle.value_indices.specs.declared.indices.Indices.{Indices}
use Rattle.value_indices.specs.declared.indices.Indices.TheVariants as I
use Rattle.value_indices.specs.declared.indices.Reading.{Reading}
use Rattle.value_indices.proofs.Walks.{got_bind, got_give, got_next, run_bind, run_give, run_next}
use Rattle.pattern_leaves.specs.Settings.{Around, Scope}
use Rattle.pattern_leaves.specs.declared.names.Bound.{Bound}
use Rattle.pattern_leaves.proofs.Rests.{rest_is}
use Rattle.pattern_leaves.proofs.Walked.{made_got, made_run, none_got, none_run, then_got, then_run}
use Rattle.call_arguments.specs.Aims.{branch_aim, wanted}
use Rattle.call_arguments.specs.declared.aims.Aim.{Aim}
use Rattle.call_arguments.specs.declared.aims.Aim.TheVariants as Aims
use Rattle.call_notes.specs.Ends.{wrong_value}
use Rattle.expression_forms.specs.Meeting.{thrown}
use Rattle.expression_steps.specs.Coded.{each_part, end_walk, way_core, way_cores, way_opened, way_seen, ways_seen}
use Rattle.expression_steps.specs.Expressions.{part}
use Rattle.expression_steps.specs.Parts.{led, truth_walk, under}
use Rattle.expression_steps.specs.Statements.{branches_forms, case_way, case_ways, cases_walk, caught_at, each_way, either_met, either_walk, first_behind}
use Rattle.expression_steps.specs.Statements.{meeting, meeting_from, met_value, one_way, owed_of_first, then_first, try_over, try_way, two_ways}
use Rattle.expression_steps.specs.Statements.{match_under, match_walk, try_walk, unit_of, unit_under, way_behind, when_met, when_under}
use Rattle.expression_steps.specs.Statements.{Way as Meeting}
use Rattle.expression_steps.specs.declared.ways.Way.{Way}
use Rattle.expression_steps.specs.declared.ways.Way.TheVariants as B
use Rattle.expression_steps.proofs.Conditions.{scoped_got, scoped_run}
use Rattle.expression_steps.proofs.Masses.{first_mass, mass, masses, masses_take, way_masses}
use Rattle.expression_steps.proofs.Walked.{way_ending, way_place, ways_end, ways_more}

-- ---- a way, opened

module _ (around : Around) (scope : Scope) (aim : Aim) where
  abbrev goes_on : Core → List Bound → Walk Indices
  goes_on core found = (part core).walk around (found ++ scope) (branch_aim aim)

  abbrev opened : Way → Walk Indices
  opened w = bind (way_opened around w) (goes_on (way_core w))

  opened_got : (w : Way) (v : Written) → got (opened w) v ≡ got ((way_seen around scope aim w).walk) v
  opened_got (B.Under c a) v =
      got_bind (way_opened around (B.Under c a)) (goes_on a.now) v
      ∙ (λ j. got (goes_on a.now (none_got (assume c.now) v j)) (none_run (assume c.now) v j))
      ∙ sym (got_bind (assume c.now) (λ t. goes_on a.now []) v)
  opened_got (B.Case g place arm body i) v = refl
  opened_got (B.Whole a) v =
      got_bind (give []) (goes_on a.now) v ∙ (λ j. got (goes_on a.now (got_give {A = List Bound} [] v j)) (run_give {A = List Bound} [] v j))

  opened_run : (w : Way) (v : Written) → run (opened w) v ≡ run ((way_seen around scope aim w).walk) v
  opened_run (B.Under c a) v =
      run_bind (way_opened around (B.Under c a)) (goes_on a.now) v
      ∙ (λ j. run (goes_on a.now (none_got (assume c.now) v j)) (none_run (assume c.now) v j))
      ∙ sym (run_bind (assume c.now) (λ t. goes_on a.now []) v)
  opened_run (B.Case g place arm body i) v = refl
  opened_run (B.Whole a) v =
      run_bind (give []) (goes_on a.now) v ∙ (λ j. run (goes_on a.now (got_give {A = List Bound} [] v j)) (run_give {A = List Bound} [] v j))

-- ---- a way behind others

-- a way that was opened, of whose part this is wanted
pub record Opened (around : Around) (scope : Scope) (aim : Aim) (way : Way) (w1 w2 : Written) (core : Core) (inside : Scope) (given : Aim) : Type 0 where
  pub found : List Bound
  pub names : found ≡ got (way_opened around way) w1
  pub opens : w2 ≡ run (way_opened around way) w1
  pub within : inside ≡ found ++ scope
  pub due : given ≡ branch_aim aim
  pub whose : core ≡ way_core way

module _ (is_free : Bool) (m : ℕ) (shape : Shape) (around : Around) (scope : Scope) (aim : Aim) (way : Way) (first : Option Indices) where
  abbrev seen_so : Meeting
  seen_so = way_seen around scope aim way

  abbrev walk_so : Walk Indices
  walk_so = (way_seen around scope aim way).walk

  abbrev never_so : Bool
  never_so = (way_seen around scope aim way).never_ends

  abbrev place_so : Place
  place_so = (way_seen around scope aim way).place

  abbrev ends_so : Indices → Walk (Option Indices)
  ends_so i = then_first around is_free m shape (way_seen around scope aim way) first i

  module _ (w1 w2 : Written) (core : Core) (inside : Scope) (given : Aim) (o : Opened around scope aim way w1 w2 core inside given) where
    value_got : got ((part core).walk around inside given) w2 ≡ got walk_so w1
    value_got =
        (λ j. got ((part (o.whose j)).walk around (o.within j) (o.due j)) w2)
        ∙ then_got (way_opened around way) (goes_on around scope aim (way_core way)) w1 w2 o.found o.names o.opens ∙ opened_got around scope aim way w1

    value_run : run ((part core).walk around inside given) w2 ≡ run walk_so w1
    value_run =
        (λ j. run ((part (o.whose j)).walk around (o.within j) (o.due j)) w2)
        ∙ then_run (way_opened around way) (goes_on around scope aim (way_core way)) w1 w2 o.found o.names o.opens ∙ opened_run around scope aim way w1

    ending : (part core).never_ends ≡ never_so
    ending = ap (λ (c : Core). (part c).never_ends) o.whose ∙ sym (way_ending around scope aim way)

    placed : (part core).place ≡ place_so
    placed = ap (λ (c : Core). (part c).place) o.whose ∙ sym (way_place around scope aim way)

    -- what the code owes and makes at its end
    end_is : (i : Indices) → end_walk around is_free m shape core first i ≡ ends_so i
    end_is i =
        (λ j. bind (owed_of_first around is_free (placed j) (ending j) m first i) (λ t. give (first_behind around is_free m shape (ending j) first i)))

    module _ (i : Indices) (v w3 : Written) (one : w1 ≡ remembering v) (is : i ≡ got ((part core).walk around inside given) w2)
        (was : w3 ≡ run ((part core).walk around inside given) w2) where
      abbrev last : Walk (Option Indices)
      last = end_walk around is_free m shape core first i

      behind_got : got last w3 ≡ got (way_behind around is_free m shape seen_so first) w1
      behind_got =
          ap (λ (a : Walk (Option Indices)). got a w3) (end_is i) ∙ then_got walk_so ends_so w1 w3 i (is ∙ value_got) (was ∙ value_run)

      behind_run : run last w3 ≡ run (way_behind around is_free m shape seen_so first) w1
      behind_run =
          ap (λ (a : Walk (Option Indices)). run a w3) (end_is i) ∙ then_run walk_so ends_so w1 w3 i (is ∙ value_got) (was ∙ value_run)

      pub way_got : got last w3 ≡ got (one_way around is_free m shape seen_so first) v
      way_got = scoped_got (way_behind around is_free m shape seen_so first) v w1 (got last w3) one behind_got

      pub way_run : restored (run last w3) ≡ run (one_way around is_free m shape seen_so first) v
      way_run = scoped_run (way_behind around is_free m shape seen_so first) v w1 (run last w3) (restored (run last w3)) one behind_run refl

-- its end, as the code makes it

module _ (is_free : Bool) (m : ℕ) (shape : Shape) (around : Around) (core : Core) (first shown : Option Indices) (i : Indices) (ends : Bool)
    (v w : Written) (never : ends ≡ (part core).never_ends) (same : shown ≡ first)
    (was : w ≡ run (owed_of_first around is_free (part core).place (part core).never_ends m shown i) v) where
  abbrev owes : Walk (Unit {0})
  owes = owed_of_first around is_free (part core).place (part core).never_ends m first i

  abbrev then_made : Bool → Option Indices
  then_made b = first_behind around is_free m shape b first i

  abbrev then_given : Bool → Walk (Option Indices)
  then_given b = give (then_made b)

  owed : w ≡ run owes v
  owed = was ∙ ap (λ (o : Option Indices). run (owed_of_first around is_free (part core).place (part core).never_ends m o i) v) same

  pub end_got : then_made ends ≡ got (end_walk around is_free m shape core first i) v
  end_got =
      sym (got_give (then_made ends) w) ∙ ap (λ (b : Bool). got (then_given b) w) never
      ∙ then_got owes (λ t. then_given (part core).never_ends) v w (got owes v) refl owed

  pub end_run : w ≡ run (end_walk around is_free m shape core first i) v
  end_run =
      sym (run_give (then_made ends) w) ∙ ap (λ (b : Bool). run (then_given b) w) never
      ∙ then_run owes (λ t. then_given (part core).never_ends) v w (got owes v) refl owed

-- ---- several of them

module _ (is_free : Bool) (m : ℕ) (shape : Shape) (around : Around) (scope : Scope) (aim : Aim) (ws : List Way) where
  abbrev from : ℕ → Option Indices → Walk (Option Indices)
  from k first = each_way around is_free m shape (ways_seen around scope aim (drop k ws)) first

  abbrev one_so : Way → Option Indices → Walk (Option Indices)
  one_so w first = one_way around is_free m shape (way_seen around scope aim w) first

  pub ways_step : (first now : Option Indices) (k : ℕ) (w : Way) (v u : Written) → k < length ws → w ≡ get_or ws k w
      → now ≡ got (one_so w first) v → u ≡ run (one_so w first) v → got (from (k + 1) now) u ≡ got (from k first) v
  ways_step first now k w v u within is found was =
      then_got (one_so w first) (from (k + 1)) v u now found was
      ∙ sym (ap (λ (a : Walk (Option Indices)). got a v) (ways_more is_free m shape around scope aim ws first k w within is))

  pub ways_walked : (first now : Option Indices) (k : ℕ) (w : Way) (v u : Written) → k < length ws → w ≡ get_or ws k w
      → now ≡ got (one_so w first) v → u ≡ run (one_so w first) v → run (from (k + 1) now) u ≡ run (from k first) v
  ways_walked first now k w v u within is found was =
      then_run (one_so w first) (from (k + 1)) v u now found was
      ∙ sym (ap (λ (a : Walk (Option Indices)). run a v) (ways_more is_free m shape around scope aim ws first k w within is))

  pub ways_ended : (first : Option Indices) (k : ℕ) (v : Written) → length ws ≤ k → first ≡ got (from k first) v
  ways_ended first k v past = sym (ap (λ (a : Walk (Option Indices)). got a v) (ways_end is_free m shape around scope aim ws first k past) ∙ got_give first v)

  pub ways_left : (first : Option Indices) (k : ℕ) (v : Written) → length ws ≤ k → v ≡ run (from k first) v
  ways_left first k v past = sym (ap (λ (a : Walk (Option Indices)). run a v) (ways_end is_free m shape around scope aim ws first k past) ∙ run_give first v)

-- ---- the value of ways

module _ (around : Around) (place : Place) (number : ℕ) (shape : Shape) (r : Option Reading) (ws : List Meeting) (is_free : Bool) (free : is_free ≡ is_none r)
    (m : ℕ) (first shown : Option Indices) (v w : Written) (next : m ≡ v.next) (found : first ≡ got (each_way around is_free m shape ws None) v)
    (was : w ≡ run (each_way around is_free m shape ws None) v) (same : shown ≡ first) where
  abbrev all_so : Walk (Option Indices)
  all_so = each_way around (is_none r) m shape ws None

  all_got : shown ≡ got all_so v
  all_got = same ∙ found ∙ ap (λ (b : Bool). got (each_way around b m shape ws None) v) free

  all_run : w ≡ run all_so v
  all_run = was ∙ ap (λ (b : Bool). run (each_way around b m shape ws None) v) free

  pub meeting_got : got (met_value around place number shape r m shown) w ≡ got (meeting around place number shape r ws) v
  meeting_got =
      then_got all_so (met_value around place number shape r m) v w shown all_got all_run
      ∙ then_got next_variable (meeting_from around place number shape r ws) v v m (next ∙ sym (got_next v)) (sym (run_next v))

  pub meeting_run : run (met_value around place number shape r m shown) w ≡ run (meeting around place number shape r ws) v
  meeting_run =
      then_run all_so (met_value around place number shape r m) v w shown all_got all_run
      ∙ then_run next_variable (meeting_from around place number shape r ws) v v m (next ∙ sym (got_next v)) (sym (run_next v))

-- ---- cases

module _ (place : Place) (number : ℕ) (around : Around) (scope : Scope) (aim : Aim) (i : Indices) where
  abbrev cases : List Arm → List Core → List Meeting
  cases arms bodies = case_ways place number arms (each_part bodies) around scope aim i

  no_bodies : (arms : List Arm) → cases arms [] ≡ []
  no_bodies [] = refl
  no_bodies (arm ∷ arms) = refl

  pub cases_end : (arms : List Arm) (bodies : List Core) (k : ℕ) → min (length arms) (length bodies) ≤ k → cases (drop k arms) (drop k bodies) ≡ []
  cases_end [] bodies zero past = refl
  cases_end [] bodies (suc k) past = refl
  cases_end (arm ∷ arms) [] zero past = refl
  cases_end (arm ∷ arms) [] (suc k) past = no_bodies (drop k arms)
  cases_end (arm ∷ arms) (body ∷ bodies) zero past = absurd (omega arith)
  cases_end (arm ∷ arms) (body ∷ bodies) (suc k) past = cases_end arms bodies k (omega arith)

  pub cases_left : (arms : List Arm) (bodies : List Core) (k : ℕ) (ws : List Meeting) → min (length arms) (length bodies) ≤ k
      → ws ≡ ws ++ cases (drop k arms) (drop k bodies)
  cases_left arms bodies k ws past = sym (append-nil ws) ∙ ap (λ (vs : List Meeting). ws ++ vs) (sym (cases_end arms bodies k past))

  -- cases behind other ways, as the code gives them on
  pub cases_seen : (arms : List Arm) (bodies : List Core) (start made ways vs : List Way) → start ≡ vs → ways ≡ made
      → ways_seen around scope aim made ≡ ways_seen around scope aim start ++ cases arms bodies
      → ways_seen around scope aim ways ≡ ways_seen around scope aim vs ++ cases arms bodies
  cases_seen arms bodies start made ways vs begun same added =
      ap (ways_seen around scope aim) same ∙ added ∙ ap (λ (us : List Way). ways_seen around scope aim us ++ cases arms bodies) begun

  pub cases_behind : (arms : List Arm) (bodies : List Core) (start before made ways : List Way) (way : Way) → start ≡ []
      → before ≡ start ++ way ∷ [] → ways ≡ made → ways_seen around scope aim made ≡ ways_seen around scope aim before ++ cases arms bodies
      → ways_seen around scope aim ways ≡ way_seen around scope aim way ∷ cases arms bodies
  cases_behind arms bodies start before made ways way begun pushed same added =
      cases_seen arms bodies before made ways (way ∷ []) (pushed ∙ ap (λ (ws : List Way). ws ++ way ∷ []) begun) same added

  -- a case more among the ways
  pub cases_pushed : (arms : List Arm) (bodies : List Core) (k : ℕ) (arm : Arm) (body : Core) (before now : List Way) (way : Way)
      → k < length arms → arm ≡ get_or arms k arm → k < length bodies → body ≡ get_or bodies k body
      → now ≡ before ++ way ∷ [] → way_seen around scope aim way
      ≡ case_way (Gives.Arm number (length (drop (k + 1) arms))) place arm (part body) around scope aim i
      → ways_seen around scope aim now ++ cases (drop (k + 1) arms) (drop (k + 1) bodies)
      ≡ ways_seen around scope aim before ++ cases (drop k arms) (drop k bodies)
  cases_pushed arms bodies k arm body before now way armed is bodied too grown same =
      let rest = cases (drop (k + 1) arms) (drop (k + 1) bodies) in
      ap (λ (ws : List Way). ways_seen around scope aim ws ++ rest) grown
      ∙ ap (λ (ws : List Meeting). ws ++ rest) (map-append (way_seen around scope aim) before (way ∷ []))
      ∙ append_assoc (ways_seen around scope aim before) (way_seen around scope aim way ∷ []) rest
      ∙ (λ j. ways_seen around scope aim before ++ same j ∷ rest)
      ∙ (λ j. ways_seen around scope aim before ++ cases (sym (rest_is arms k arm armed is) j) (sym (rest_is bodies k body bodied too) j))

-- the parts whose values they give

pub cores_pushed : (bodies : List Core) (k : ℕ) (body : Core) (start : List Core) (before now : List Way) (way : Way)
    → k < length bodies → body ≡ get_or bodies k body → now ≡ before ++ way ∷ [] → way_core way ≡ body
    → way_cores before ≡ start ++ take k bodies → way_cores now ≡ start ++ take (k + 1) bodies
cores_pushed bodies k body start before now way within is grown gives earlier =
    let next : take (k + 1) bodies ≡ take k bodies ++ body ∷ [] =
    ap (λ (n : ℕ). take n bodies) (add-one k) ∙ take-suc bodies k body within ∙ ap (λ (c : Core). take k bodies ++ c ∷ []) (sym is) in
    ap way_cores grown ∙ map-append way_core before (way ∷ []) ∙ (λ j. earlier j ++ gives j ∷ [])
    ∙ append_assoc start (take k bodies) (body ∷ []) ∙ ap (λ (cs : List Core). start ++ cs) (sym next)

pub cores_left : (arms : List Arm) (bodies : List Core) (k : ℕ) (start now : List Core) → k ≤ min (length arms) (length bodies)
    → min (length arms) (length bodies) ≤ k → now ≡ start ++ take k bodies → now ≡ start ++ take (length arms) bodies
cores_left arms bodies k start now within past is =
    let all : k ≡ min (length arms) (length bodies) = omega arith in
    is ∙ ap (λ (cs : List Core). start ++ cs) (ap (λ (n : ℕ). take n bodies) all ∙ take_min (length arms) bodies)

pub cores_behind : (start before : List Way) (way : Way) (rest made : List Core) → start ≡ [] → before ≡ start ++ way ∷ []
    → made ≡ way_cores before ++ rest → made ≡ way_core way ∷ rest
cores_behind start before way rest made begun pushed is =
    is ∙ ap (λ (ws : List Way). way_cores ws ++ rest) (pushed ∙ ap (λ (ws : List Way). ws ++ way ∷ []) begun)

-- how much there is to walk over in them

pub cases_mass : (ws : List Way) (bodies : List Core) (n : ℕ) → way_cores ws ≡ take n bodies → way_masses ws ≤ masses bodies
unfolding way_masses
cases_mass ws bodies n is =
    let e : masses (way_cores ws) ≡ masses (take n bodies) = ap masses is in let h = masses_take bodies n in omega (arith, e, h)

pub behind_mass : (ws : List Way) (c : Core) (bodies : List Core) (n : ℕ) → way_cores ws ≡ c ∷ take n bodies → way_masses ws ≤ mass c + masses bodies
unfolding way_masses
behind_mass ws c bodies n is =
    let e : masses (way_cores ws) ≡ masses (c ∷ take n bodies) = ap masses is in
    let d = first_mass c (take n bodies) in let h = masses_take bodies n in omega (arith, e, d, h)

-- ---- the cases of a `match` and a `try`

module _ (place : Place) (number : ℕ) (is_try : Bool) (shape : Shape) (arms : List Arm) (around : Around) (scope : Scope) (aim : Aim) (cs : List Core) where
  abbrev cases_form : List Core → Walk Indices
  cases_form ds = led place (λ a bodies. cases_walk is_try place number shape arms a bodies around scope aim) (each_part ds)

  abbrev meets : List Meeting → Walk Indices
  meets ws = meeting around place number shape (wanted aim) ws

  pub no_cases : cs ≡ [] → wrong_value place ≡ cases_form cs
  no_cases none = sym (ap cases_form none)

  module _ (c : Core) (rest : List Core) (first : cs ≡ c ∷ rest) where
    module _ (i : Indices) (ws : List Meeting) (v w : Written) (tries : is_try ≡ true) (sent : i ≡ thrown around.exception)
        (was : w ≡ run (caught_at number i) v)
        (same : ws ≡ try_way (part c) around scope aim ∷ case_ways place number arms (each_part rest) around scope aim i) where
      abbrev caught : Walk (Unit {0})
      caught = caught_at number (thrown around.exception)

      abbrev tried : Indices → Walk Indices
      tried = try_over place number shape arms (part c) (each_part rest) around scope aim

      try_is : try_walk place number shape arms (part c) (each_part rest) around scope aim ≡ cases_form cs
      try_is = ap (λ (b : Bool). cases_walk b place number shape arms (part c) (each_part rest) around scope aim) (sym tries) ∙ ap cases_form (sym first)

      went : w ≡ run caught v
      went = was ∙ ap (λ (k : Indices). run (caught_at number k) v) sent

      pub try_got : got (meets ws) w ≡ got (cases_form cs) v
      try_got =
          ap (λ (vs : List Meeting). got (meets vs) w) same ∙ ap (λ (k : Indices). got (tried k) w) sent
          ∙ then_got caught (λ t. tried (thrown around.exception)) v w (got caught v) refl went ∙ ap (λ (a : Walk Indices). got a v) try_is

      pub try_run : run (meets ws) w ≡ run (cases_form cs) v
      try_run =
          ap (λ (vs : List Meeting). run (meets vs) w) same ∙ ap (λ (k : Indices). run (tried k) w) sent
          ∙ then_run caught (λ t. tried (thrown around.exception)) v w (got caught v) refl went ∙ ap (λ (a : Walk Indices). run a v) try_is

    module _ (i : Indices) (ws : List Meeting) (v w : Written) (matches : is_try ≡ false) (is : i ≡ got ((part c).walk around scope Aims.Free) v)
        (was : w ≡ run ((part c).walk around scope Aims.Free) v) (same : ws ≡ case_ways place number arms (each_part rest) around scope aim i) where
      abbrev over : Indices → Walk Indices
      over = match_under place number shape arms (each_part rest) around scope aim

      match_is : match_walk place number shape arms (part c) (each_part rest) around scope aim ≡ cases_form cs
      match_is = ap (λ (b : Bool). cases_walk b place number shape arms (part c) (each_part rest) around scope aim) (sym matches) ∙ ap cases_form (sym first)

      pub match_got : got (meets ws) w ≡ got (cases_form cs) v
      match_got =
          ap (λ (vs : List Meeting). got (meets vs) w) same ∙ then_got ((part c).walk around scope Aims.Free) over v w i is was
          ∙ ap (λ (a : Walk Indices). got a v) match_is

      pub match_run : run (meets ws) w ≡ run (cases_form cs) v
      match_run =
          ap (λ (vs : List Meeting). run (meets vs) w) same ∙ then_run ((part c).walk around scope Aims.Free) over v w i is was
          ∙ ap (λ (a : Walk Indices). run a v) match_is

-- ---- `if`

module _ (around : Around) (scope : Scope) (c : Core) (met : Option Con) (v w : Written) (found : met ≡ got (truth_walk (part c) around scope) v)
    (was : w ≡ run (truth_walk (part c) around scope) v) where
  abbrev nothing : Option (Con × Indices)
  nothing = None

  module _ (next : Option Con → Walk (Option (Con × Indices))) (whole : Walk (Option (Con × Indices)))
      (opens : bind (truth_walk (part c) around scope) next ≡ whole) where
    met_got : (o : Option Con) → met ≡ o → got (next o) w ≡ got whole v
    met_got o is =
        then_got (truth_walk (part c) around scope) next v w o (sym is ∙ found) was ∙ ap (λ (a : Walk (Option (Con × Indices))). got a v) opens

    met_run : (o : Option Con) → met ≡ o → run (next o) w ≡ run whole v
    met_run o is =
        then_run (truth_walk (part c) around scope) next v w o (sym is ∙ found) was ∙ ap (λ (a : Walk (Option (Con × Indices))). run a v) opens

  module _ (place : Place) (number : ℕ) (shape : Shape) (aim : Aim) (cs : List Core) (a : Core) (two_is : cs ≡ c ∷ a ∷ []) where
    abbrev branches : List Core → Walk (Option (Con × Indices))
    branches ds = branches_forms place number shape (each_part ds) around scope aim

    abbrev body : Option Con → Walk (Option (Con × Indices))
    body o = when_met (part a) around scope o

    pub no_when_got : met ≡ None → nothing ≡ got (branches cs) v
    no_when_got none = sym (got_give nothing w) ∙ met_got body (branches cs) (ap branches (sym two_is)) None none

    pub no_when_run : met ≡ None → w ≡ run (branches cs) v
    no_when_run none = sym (run_give nothing w) ∙ met_run body (branches cs) (ap branches (sym two_is)) None none

    module _ (g : Con) (some : met ≡ Some g) where
      abbrev given : Walk Indices
      given = scoped (unit_under g (part a) around scope)

      pub some_when_got : Some (g, I.Unit) ≡ got (branches cs) v
      some_when_got =
          made_got (when_under (part a) around scope g) (λ i. Some (g, i)) w I.Unit (made_got given (λ i. I.Unit) w (got given w) refl)
          ∙ met_got body (branches cs) (ap branches (sym two_is)) (Some g) some

      pub some_when_run : (h : Con) (i : Indices) (w1 w2 w3 w4 w5 : Written) → h ≡ g → w1 ≡ remembering w → w2 ≡ run (assume h) w1
          → i ≡ got ((part a).walk around scope Aims.Free) w2 → w3 ≡ run ((part a).walk around scope Aims.Free) w2
          → w4 ≡ run (unit_of (part a).place i) w3 → w5 ≡ restored w4 → w5 ≡ run (branches cs) v
      some_when_run h i w1 w2 w3 w4 w5 same one two is three four five =
          let inner = under g (part a) around scope Aims.Free in
          let assumed : w2 ≡ run (assume g) w1 = two ∙ ap (λ (d : Con). run (assume d) w1) same in
          let found : i ≡ got inner w1 =
          is ∙ then_got (assume g) (λ t. (part a).walk around scope Aims.Free) w1 w2 (got (assume g) w1) refl assumed in
          let went : w3 ≡ run inner w1 =
          three ∙ then_run (assume g) (λ t. (part a).walk around scope Aims.Free) w1 w2 (got (assume g) w1) refl assumed in
          let last : w4 ≡ run (unit_under g (part a) around scope) w1 =
          four ∙ then_run inner (unit_of (part a).place) w1 w3 i found went in
          made_run (when_under (part a) around scope g) (λ i. Some (g, i)) w w5
          (made_run given (λ i. I.Unit) w w5 (scoped_run (unit_under g (part a) around scope) w w1 w4 w5 one last five))
          ∙ met_run body (branches cs) (ap branches (sym two_is)) (Some g) some

  module _ (place : Place) (number : ℕ) (shape : Shape) (aim : Aim) (a b : Core) where
    abbrev either : Walk (Option (Con × Indices))
    either = either_walk place number shape (part c) (part a) (part b) around scope aim

    abbrev both : Option Con → Walk (Option (Con × Indices))
    both o = either_met place number shape (part a) (part b) around scope aim o

    pub no_either_got : met ≡ None → nothing ≡ got either v
    no_either_got none = sym (got_give nothing w) ∙ met_got both either refl None none

    pub no_either_run : met ≡ None → w ≡ run either v
    no_either_run none = sym (run_give nothing w) ∙ met_run both either refl None none

    module _ (g h : Con) (some : met ≡ Some g) (other : h ≡ C.Not g) where
      abbrev meets_so : Con → Walk Indices
      meets_so d = meeting around place number shape (wanted aim) (two_ways (part a) (part b) around scope aim g d)

      pub some_either_got : (i : Indices) → i ≡ got (meets_so h) w → Some (g, i) ≡ got either v
      some_either_got i is =
          made_got (meets_so (C.Not g)) (λ k. Some (g, k)) w i (is ∙ ap (λ (d : Con). got (meets_so d) w) other) ∙ met_got both either refl (Some g) some

      pub some_either_run : (w2 : Written) → w2 ≡ run (meets_so h) w → w2 ≡ run either v
      some_either_run w2 so =
          made_run (meets_so (C.Not g)) (λ k. Some (g, k)) w w2 (so ∙ ap (λ (d : Con). run (meets_so d) w) other)
          ∙ met_run both either refl (Some g) some
