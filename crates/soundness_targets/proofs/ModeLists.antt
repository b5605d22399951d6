-- Values that are written to the parts of a tuple in order, each at its own moment.
use Rattle.std.proofs.Common.{arith, ◌≡◌, ℕ, Bool, List, [], ◌∷◌, ◌≤◌, refl}
use Rattle.sail_base.specs.declared.place.Place.{Place}
use Rattle.sail_core.specs.Making.{World}
use Rattle.sail_core.specs.Run.{Now}
use Rattle.sail_core.specs.Targets as Runs
use Rattle.value_indices.specs.Steps.{bind, give, scoped}
use Rattle.value_indices.specs.declared.indices.Indices.{Indices}
use Rattle.value_indices.specs.declared.indices.Indices.TheVariants as I
use Rattle.value_indices.specs.declared.notes.Fact.{Fact}
use Rattle.value_fits.specs.Fitting.{says}
use Rattle.value_fits.specs.declared.fitted.Fitted.{Fitted}
use Rattle.call_notes.specs.Ends.{wrong_value}
use Rattle.expression_forms.specs.Spots as Walked
use Rattle.expression_forms.specs.Spots.{Spot, both_left, both_wrote, each_written, wrong_write, wrote}
use Rattle.checked_meaning.specs.Items.{Item}
use Rattle.fitting_laws.specs.Fitting.{Suffices}
use Rattle.fitting_laws.proofs.Joining.{also_suffice, says_so}
use Rattle.value_laws.specs.Belonging.{Integers}
use Rattle.value_laws.specs.Known.{Point}
use Rattle.soundness_steps.specs.Points.{Later}
use Rattle.soundness_steps.proofs.Points.{behind, later_on}
use Rattle.soundness_steps.specs.Works.{Scene}
use Rattle.soundness_steps.specs.States.{Sound}
use Rattle.soundness_steps.specs.Steps.{AllMet, Grows, Walks}
use Rattle.soundness_steps.specs.Values.{Is}
use Rattle.soundness_steps.proofs.Steps.{met_behind, met_front, walks_on}
use Rattle.soundness_forms.proofs.Basics.{wrong_walks}
use Rattle.soundness_forms.proofs.Growth.{grows_bind, grows_give, grows_scoped, grows_wrong}
use Rattle.soundness_parts.proofs.Taken.{z}
use Rattle.soundness_targets.proofs.Modes.{left_of}
use Rattle.soundness_targets.proofs.Moments.{Front}
use Rattle.soundness_targets.proofs.Setters.{unit_is}
use Rattle.soundness_targets.proofs.Trees.{Ends, There, Trees, both_paths, ends_map, ends_then, one_path}
use Rattle.soundness_targets.proofs.TupleTypes.{AllTypes}
use Rattle.soundness_targets.proofs.TupleWrites.{AllMeet, Meets, all_meet_on}
use Rattle.soundness_targets.proofs.Written.{Says, Stays, Written, all_on}

abbrev pub all_left : List Spot → Bool → List Indices → ℕ → Fitted
all_left [] nested is = says []
all_left (s ∷ ss) nested [] = says []
all_left (s ∷ ss) nested (i ∷ is) = both_left (left_of s nested i) (all_left ss nested is)

module _ (q : Scene) (w : World Item) where
  -- what holds where all are written: a tuple of targets gives `()`
  abbrev pub Done : (place : Place) (ss : List Spot) (nested : Bool) (is : List Indices) (gs : List Fact) (d : ℕ) → ((m : ℕ) → Point m → Type 0) → {m : ℕ}
      → Point m → Item → Type 0
  Done place ss nested is gs d Keep {m} g v = Keep m g × ((each_written place ss nested is gs d).value.answer ≡ I.Unit) × Is q.set q.work g I.Unit v

  pub record Modes {n : ℕ} (f : Point n) (ss : List Spot) : Type 1 where
    pub T : Trees
    -- what the run has found, and the spots that they are there
    pub P : Type 0
    pub views : P → List (Runs.Spot Item)
    pub Ready : T.Path → (m : ℕ) → Point m → List Fact → P → Type 0
    pub on : (v : T.Path) (m d : ℕ) (g : Point m) (h : Point d) (fs gs : List Fact) (p : P) → Later g h → Front fs gs → Ready v m g fs p → Ready v d h gs p
    pub types : (v : T.Path) (m : ℕ) (g : Point m) (fs : List Fact) (p : P) → Ready v m g fs p → AllTypes q g ss
    pub grow : (v : T.Path) (m : ℕ) (g : Point m) (fs : List Fact) (p : P) → Ready v m g fs p → (place : Place) (nested : Bool) (is : List Indices)
        → Grows (each_written place ss nested is)
    pub lefts : (v : T.Path) (m : ℕ) (g : Point m) (fs : List Fact) (p : P) → Ready v m g fs p → (place : Place) (nested : Bool) (is : List Indices)
        (facts : List Fact) (k : ℕ) → (each_written place ss nested is facts k).value.left ≡ all_left ss nested is
    pub Due : (v : T.Path) (m : ℕ) (g : Point m) (fs : List Fact) (p : P) → Ready v m g fs p → Bool → List Indices → List Item → Integers → Type 0
    pub due_on : (v : T.Path) (m d : ℕ) (g : Point m) (h : Point d) (fs gs : List Fact) (p : P) (l : Later g h) (e : Front fs gs) (rd : Ready v m g fs p)
        (nested : Bool) (is : List Indices) (us : List Item) (c : Integers) → Due v m g fs p rd nested is us c
        → Due v d h gs p (on v m d g h fs gs p l e rd) nested is us c
    pub suffice : (v : T.Path) (m : ℕ) (g : Point m) (fs : List Fact) (p : P) (rd : Ready v m g fs p) (nested : Bool) (is : List Indices) (us : List Item)
        → AllMeet q g ss nested is us → (k : ℕ) (c : Point k) → Later g c
        → Suffices q.set.past k c (all_left ss nested is k) (λ d. Due v m g fs p rd nested is us d)
    -- all are written
    pub writes : (place : Place) (nested : Bool) (is : List Indices) (gs : List Fact) (d : ℕ) (p : P) (us : List Item) (last : ℕ) (U : Trees)
        (Keep : U.Path → (m : ℕ) → Point m → Type 0) → ((r : U.Path) → Stays (Keep r)) → (each_written place ss nested is gs d).next ≤ last
        → AllMet q (each_written place ss nested is gs d).notes → (now : Now Item) → Sound q now
        → (both_paths T U).Tree (λ v. There q f d gs (λ g. (rd : Ready v.0 d g gs p) × AllMeet q g ss nested is us
        × Says q last gs g (λ k. Due v.0 d g gs p rd nested is us k) × Keep v.1 d g) now)
        → Ends q U (λ r x after. There q f (each_written place ss nested is gs d).next gs (λ g. Done place ss nested is gs d (Keep r) g x) after)
        (Runs.writes (z q) (views p) us now)

  -- too many or too few values are wrong
  pub wrong_there : {n : ℕ} {f : Point n} (place : Place) (gs : List Fact) (d : ℕ) (U : Trees) {Holds : U.Path → Point d → Type 0} (now : Now Item)
      → U.Tree (λ r. There q f d gs (Holds r) now) → AllMet q (wrong_write place gs d).notes → ⊥
  wrong_there place gs d U now tree met =
      let r = (U.pick tree).1 in
      let wrong : Walks q d r.point gs (wrong_write place) (λ m g a. ⊥) = walks_on Walked.gives (wrong_walks place) (λ m g fs a l h. absurd h) in
      (wrong.go now.opened r.stands met).holds

  -- ---- none

  abbrev pub NoSpots : List (Runs.Spot Item) → Type 0
  NoSpots [] = Unit {0}
  NoSpots (sr ∷ srs) = ⊥

  module _ {n : ℕ} (f : Point n) where
    pub none_grow : (place : Place) (nested : Bool) (is : List Indices) → Grows (each_written place [] nested is)
    none_grow place nested [] = grows_give (wrote (says []) I.Unit)
    none_grow place nested (i ∷ is) = grows_bind (wrong_value place) Walked.gives (grows_wrong place) (λ j. grows_give (wrote (says []) j))

    pub none_left : (place : Place) (nested : Bool) (is : List Indices) (facts : List Fact) (k : ℕ)
        → (each_written place [] nested is facts k).value.left ≡ all_left [] nested is
    unfolding bind give
    none_left place nested [] facts k = refl
    none_left place nested (i ∷ is) facts k = refl

    module _ (place : Place) (nested : Bool) (gs : List Fact) (d : ℕ) (last : ℕ) (U : Trees) (Keep : U.Path → (m : ℕ) → Point m → Type 0) (now : Now Item)
        (ok : Sound q now) where
      abbrev pub NoneKnown : List Indices → List (Runs.Spot Item) → List Item → U.Path → Type 0
      NoneKnown is srs us r = There q f d gs (λ g. NoSpots srs × AllMeet q g [] nested is us × Says q last gs g (λ k. Unit {0}) × Keep r d g) now

      pub none_written : (is : List Indices) (srs : List (Runs.Spot Item)) (us : List Item) → AllMet q (each_written place [] nested is gs d).notes
          → U.Tree (NoneKnown is srs us)
          → Ends q U (λ r x after. There q f (each_written place [] nested is gs d).next gs (λ g. Done place [] nested is gs d (Keep r) g x) after)
          (Runs.writes (z q) srs us now)
      unfolding bind give
      none_written [] [] [] met tree =
          (U.map (λ r h. record { point = h.point; later = h.later; stands = h.stands; holds = (h.holds.3, refl, unit_is q w h.point) }) tree, ok)
      none_written (i ∷ is) [] us met tree = absurd (wrong_there place gs d U now tree met)
      none_written [] [] (u ∷ us) met tree = absurd ((U.pick tree).1.holds.1)
      none_written is (sr ∷ srs) us met tree = absurd ((U.pick tree).1.holds.0)

    abbrev pub no_modes : Modes f []
    no_modes = record {
      T = one_path;
      P = List (Runs.Spot Item);
      views = λ srs. srs;
      Ready = λ v m g fs srs. NoSpots srs;
      on = λ v m d g h fs gs srs l e rd. rd;
      types = λ v m g fs srs rd. tt;
      grow = λ v m g fs srs rd place nested is. none_grow place nested is;
      lefts = λ v m g fs srs rd place nested is facts k. none_left place nested is facts k;
      Due = λ v m g fs srs rd nested is us c. Unit {0};
      due_on = λ v m d g h fs gs srs l e rd nested is us c due. tt;
      suffice = λ v m g fs srs rd nested is us meet k p l. says_so [] (λ c a s. tt);
      writes = λ place nested is gs d srs us last U Keep stays le met now ok tree. none_written place nested gs d last U Keep now ok is srs us met tree;
    }

  -- ---- one more

  module _ {n : ℕ} (f : Point n) (s : Spot) (ss : List Spot) (head : Written q f s) (rest : Modes f ss) where
    abbrev pub Both : Type 0
    Both = head.P × rest.P

    abbrev pub all_paths : Trees
    all_paths = both_paths head.T rest.T

    abbrev pub MoreReady : all_paths.Path → (m : ℕ) → Point m → List Fact → Both → Type 0
    MoreReady v m g fs p = head.Ready v.0 m g fs p.0 × rest.Ready v.1 m g fs p.1

    pub more_grow : (v : all_paths.Path) (m : ℕ) (g : Point m) (fs : List Fact) (p : Both) → MoreReady v m g fs p → (place : Place) (nested : Bool)
        (is : List Indices) → Grows (each_written place (s ∷ ss) nested is)
    more_grow v m g fs p rd place nested [] =
        grows_bind (wrong_value place) Walked.gives (grows_wrong place) (λ j. grows_give (wrote (says []) j))
    more_grow v m g fs p rd place nested (i ∷ is) =
        grows_bind (scoped (s.write nested i)) (λ a. bind (each_written place ss nested is) (λ b. give (both_wrote a b)))
        (grows_scoped (s.write nested i) (head.grows v.0 m g fs p.0 rd.0 nested i)) (λ a.
        grows_bind (each_written place ss nested is) (λ b. give (both_wrote a b)) (rest.grow v.1 m g fs p.1 rd.1 place nested is) (λ b.
        grows_give (both_wrote a b)))

    pub more_left : (v : all_paths.Path) (m : ℕ) (g : Point m) (fs : List Fact) (p : Both) → MoreReady v m g fs p → (place : Place) (nested : Bool)
        (is : List Indices) (facts : List Fact) (k : ℕ) → (each_written place (s ∷ ss) nested is facts k).value.left ≡ all_left (s ∷ ss) nested is
    unfolding bind give scoped
    more_left v m g fs p rd place nested [] facts k = refl
    more_left v m g fs p rd place nested (i ∷ is) facts k =
        λ j. both_left (head.left_same v.0 m g fs p.0 rd.0 nested i facts k j)
        (rest.lefts v.1 m g fs p.1 rd.1 place nested is facts (s.write nested i facts k).next j)

    abbrev pub MoreDue : (v : all_paths.Path) (m : ℕ) (g : Point m) (fs : List Fact) (p : Both) → MoreReady v m g fs p → Bool → List Indices → List Item
        → Integers → Type 0
    MoreDue v m g fs p rd nested (i ∷ is) (u ∷ us) c = head.Due v.0 m g fs p.0 rd.0 nested i u c × rest.Due v.1 m g fs p.1 rd.1 nested is us c
    MoreDue v m g fs p rd nested is us c = Unit {0}

    abbrev pub on_later : (v : all_paths.Path) (m d : ℕ) (g : Point m) (h : Point d) (fs gs : List Fact) (p : Both) → Later g h → Front fs gs
        → MoreReady v m g fs p → MoreReady v d h gs p
    on_later v m d g h fs gs p l e rd = (head.on v.0 m d g h fs gs p.0 l e rd.0, rest.on v.1 m d g h fs gs p.1 l e rd.1)

    pub more_due : (v : all_paths.Path) (m d : ℕ) (g : Point m) (h : Point d) (fs gs : List Fact) (p : Both) (l : Later g h) (e : Front fs gs)
        (rd : MoreReady v m g fs p) (nested : Bool) (is : List Indices) (us : List Item) (c : Integers) → MoreDue v m g fs p rd nested is us c
        → MoreDue v d h gs p (on_later v m d g h fs gs p l e rd) nested is us c
    more_due v m d g h fs gs p l e rd nested (i ∷ is) (u ∷ us) c due = (
      head.due_on v.0 m d g h fs gs p.0 l e rd.0 nested i u c due.0,
      rest.due_on v.1 m d g h fs gs p.1 l e rd.1 nested is us c due.1,
    )
    more_due v m d g h fs gs p l e rd nested [] us c due = tt
    more_due v m d g h fs gs p l e rd nested (i ∷ is) [] c due = tt

    pub more_suffice : (v : all_paths.Path) (m : ℕ) (g : Point m) (fs : List Fact) (p : Both) (rd : MoreReady v m g fs p) (nested : Bool) (is : List Indices)
        (us : List Item) → AllMeet q g (s ∷ ss) nested is us → (k : ℕ) (c : Point k) → Later g c
        → Suffices q.set.past k c (all_left (s ∷ ss) nested is k) (λ d. MoreDue v m g fs p rd nested is us d)
    more_suffice v m g fs p rd nested (i ∷ is) (u ∷ us) meet k c l =
        also_suffice (all_left ss nested is) (head.suffice v.0 m g fs p.0 rd.0 nested i u meet.0 k c l) (λ p2 l2.
        rest.suffice v.1 m g fs p.1 rd.1 nested is us meet.1 _ p2 (later_on l (behind l2)))
    more_suffice v m g fs p rd nested [] [] meet k c l = says_so [] (λ d a e. tt)
    more_suffice v m g fs p rd nested (i ∷ is) [] meet k c l = absurd meet
    more_suffice v m g fs p rd nested [] (u ∷ us) meet k c l = absurd meet

    -- ---- they are written

    abbrev pub seen_views : Both → List (Runs.Spot Item)
    seen_views p = head.view p.0 ∷ rest.views p.1

    module _ (place : Place) (nested : Bool) (gs : List Fact) (d : ℕ) (p : Both) (last : ℕ) (U : Trees) (Keep : U.Path → (m : ℕ) → Point m → Type 0)
        (stays : (r : U.Path) → Stays (Keep r)) (now : Now Item) (ok : Sound q now) where
      abbrev pub Known : List Indices → List Item → (both_paths all_paths U).Path → Point d → Type 0
      Known is us v g = (rd : MoreReady v.0 d g gs p) × AllMeet q g (s ∷ ss) nested is us
          × Says q last gs g (λ k. MoreDue v.0 d g gs p rd nested is us k) × Keep v.1 d g

      abbrev pub Goal : List Indices → List Item → Type 0
      Goal is us =
          Ends q U (λ r x after. There q f (each_written place (s ∷ ss) nested is gs d).next gs (λ g. Done place (s ∷ ss) nested is gs d (Keep r) g x) after)
          (Runs.writes (z q) (seen_views p) us now)

      module _ (i : Indices) (is : List Indices) (u : Item) (us : List Item) (le : (each_written place (s ∷ ss) nested (i ∷ is) gs d).next ≤ last)
          (met : AllMet q (each_written place (s ∷ ss) nested (i ∷ is) gs d).notes)
          (tree : (both_paths all_paths U).Tree (λ v. There q f d gs (Known (i ∷ is) (u ∷ us) v) now)) where
        abbrev pub next : ℕ
        next = (s.write nested i gs d).next

        -- what is known of the others
        abbrev pub Others : (both_paths rest.T U).Path → (m : ℕ) → Point m → Type 0
        Others v m g = (rd : rest.Ready v.0 m g gs p.1) × AllMeet q g ss nested is us × Says q last gs g (λ k. rest.Due v.0 m g gs p.1 rd nested is us k)
            × Keep v.1 m g

        pub others_stay : (v : (both_paths rest.T U).Path) → Stays (Others v)
        others_stay v m c g h l k = (
          rest.on v.0 m c g h gs gs p.1 l (all_on gs) k.0,
          all_meet_on q ss nested is us l k.1,
          λ e b l2 before_last noted stands.
              let more = k.2 e b (later_on l l2) before_last noted stands in
              (more.0, more.1, rest.due_on v.0 m c g h gs gs p.1 l (all_on gs) k.0 nested is us more.0 more.2),
          stays v.1 m c g h l k.3,
        )

        -- the first one, and what is known of the others
        abbrev pub First : (both_paths head.T (both_paths rest.T U)).Path → Point d → Type 0
        First v g = (rd : head.Ready v.0 d g gs p.0) × Meets q g s nested i u × Says q last gs g (λ k. head.Due v.0 d g gs p.0 rd nested i u k)
            × Others v.1 d g

        abbrev pub grown : Grows (each_written place ss nested is)
        grown =
            let a = (both_paths all_paths U).pick {P = λ v. There q f d gs (Known (i ∷ is) (u ∷ us) v) now} tree in
            rest.grow a.0.0.1 d a.1.point gs p.1 a.1.holds.0.1 place nested is

        pub firsts : (both_paths head.T (both_paths rest.T U)).Tree (λ v. There q f d gs (First v) now)
        firsts = (both_paths head.T (both_paths rest.T U)).map {P = λ v. There q f d gs (Known (i ∷ is) (u ∷ us) ((v.0, v.1.0), v.1.1)) now}
            {Q = λ v. There q f d gs (First v) now}
            (λ v h. record {
              point = h.point;
              later = h.later;
              stands = h.stands;
              holds = (
                h.holds.0.0,
                h.holds.1.0,
                λ e b l before_last noted stands. let t = h.holds.2 e b l before_last noted stands in (t.0, t.1, t.2.0),
                (
                  h.holds.0.1,
                  h.holds.1.1,
                  λ e b l before_last noted stands. let t = h.holds.2 e b l before_last noted stands in (t.0, t.1, t.2.1),
                  h.holds.3,
                ),
              );
            }) tree

        -- each walk ends before the last variable
        pub first_low : next ≤ last
        unfolding bind give scoped
        first_low =
            let b = grown.onward gs next in
            omega (arith, le, b)

        pub met_first : AllMet q (s.write nested i gs d).notes
        unfolding bind give scoped
        met_first = met_front q (s.write nested i gs d).notes _ met

        pub met_others : AllMet q (each_written place ss nested is gs next).notes
        unfolding bind give scoped
        met_others = met_front q (each_written place ss nested is gs next).notes _ (met_behind q (s.write nested i gs d).notes _ met)

        pub others_low : (each_written place ss nested is gs next).next ≤ last
        unfolding bind give scoped
        others_low = le

        pub one_more : Goal (i ∷ is) (u ∷ us)
        unfolding bind give scoped
        one_more =
            ends_then q (both_paths rest.T U) U (λ v x after. There q f next gs (λ g. Others v next g) after)
            (λ r x after. There q f (each_written place ss nested is gs next).next gs (λ g. Keep r (each_written place ss nested is gs next).next g
            × (I.Unit ≡ I.Unit) × Is q.set q.work g I.Unit x) after)
            ((head.view p.0).write u now) (λ y. Runs.writes (z q) (rest.views p.1) us)
            (head.writes nested i gs d p.0 u last (both_paths rest.T U) Others others_stay first_low met_first now ok firsts) (λ y after tree2 ok2.
            ends_map q U (λ r x late. There q f (each_written place ss nested is gs next).next gs (λ g. Done place ss nested is gs next (Keep r) g x) late)
            (λ r x late. There q f (each_written place ss nested is gs next).next gs (λ g. Keep r (each_written place ss nested is gs next).next g
            × (I.Unit ≡ I.Unit) × Is q.set q.work g I.Unit x) late) (Runs.writes (z q) (rest.views p.1) us after) (λ x late r s2 h.
            record { point = h.point; later = h.later; stands = h.stands; holds = (h.holds.0, refl, h.holds.2) })
            (rest.writes place nested is gs next p.1 us last U Keep stays others_low met_others after ok2 tree2))

      pub all_written : (is : List Indices) (us : List Item) → (each_written place (s ∷ ss) nested is gs d).next ≤ last
          → AllMet q (each_written place (s ∷ ss) nested is gs d).notes → (both_paths all_paths U).Tree (λ v. There q f d gs (Known is us v) now) → Goal is us
      all_written (i ∷ is) (u ∷ us) le met tree = one_more i is u us le met tree
      all_written [] us le met tree = absurd (wrong_there place gs d (both_paths all_paths U) {Holds = λ v. Known [] us v} now tree met)
      all_written (i ∷ is) [] le met tree = absurd (((both_paths all_paths U).pick {P = λ v. There q f d gs (Known (i ∷ is) [] v) now} tree).1.holds.1)

    abbrev pub more_modes : Modes f (s ∷ ss)
    more_modes = record {
      T = all_paths;
      P = Both;
      views = seen_views;
      Ready = MoreReady;
      on = on_later;
      types = λ v m g fs p rd. (head.typed v.0 m g fs p.0 rd.0, rest.types v.1 m g fs p.1 rd.1);
      grow = more_grow;
      lefts = more_left;
      Due = MoreDue;
      due_on = more_due;
      suffice = more_suffice;
      writes = λ place nested is gs d p us last U Keep stays le met now ok tree.
          all_written place nested gs d p last U Keep stays now ok is us le met tree;
    }
