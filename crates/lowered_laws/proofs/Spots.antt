-- What is assigned to, and assignments by calls: `f(a) = e` is `f(a, e)` (Sail language manual, "Assignments").
use Rattle.std.proofs.Common.{◌≡◌, ◌∙◌, ℕ, suc, ◌+◌, true, List, [], ◌∷◌, ◌++◌, length, map, take, drop, Option, Some, None, refl, sym, ap, subst, arith}
use Rattle.std.proofs.Common.{length-append}
use Rattle.std.proofs.lemmas.List.{take_at, drop_at}
use Rattle.sail_base.specs.declared.place.Place.{Place as TextPlace}
use Rattle.sail_core.specs.declared.tree.Callee.{Callee}
use Rattle.sail_core.specs.declared.tree.Callee.TheVariants as F
use Rattle.sail_core.specs.declared.targets.Caller.{Caller}
use Rattle.sail_core.specs.declared.targets.Suffix.{Suffix}
use Rattle.sail_core.specs.declared.targets.TargetKind.{TargetKind}
use Rattle.sail_core.specs.declared.targets.TargetKind.TheVariants as T
use Rattle.sail_core.specs.declared.targets.Target.{Target, Target-F, roll-Target, fold-roll-Target, map-Target, ind-Target}
use Rattle.sail_core.specs.Run.{Now, Run, gives, goes_on, in_turn, ◌then◌}
use Rattle.sail_core.specs.Making.{World, made}
use Rattle.sail_core.specs.Targets.{Spot, Spotted, Spotting, asked, assigned, call_spot, part_spot, register_spot, spots_of, spotted, spotting, target_meaning}
use Rattle.sail_core.specs.Targets.{tuple_spot, variable_spot, ways_of}
use Rattle.checked_meaning.specs.Items.{Item}
use Rattle.lowered_pieces.specs.Tables.{leads_to}
use Rattle.lowered_pieces.specs.Forms.{Callees, Piece, call_piece, cast_piece, nothing_piece}
use Rattle.lowered_pieces.specs.Writes.{Cell, Spot as Aim, before, called, called_spot, cells_in}
use Rattle.lowered_pieces.specs.Writes.{final, kind_spot, one, part_spot as part_of, register, several}
use Rattle.lowered_pieces.specs.Writes.{several_spot, spot_piece, target_spot, variable, whole_cell, with_cell}
use Rattle.lowered_laws.proofs.Chosen.{some_is}
use Rattle.lowered_laws.specs.Simulation.{AtWork, kit, reading, CallsOk, Good}
use Rattle.lowered_laws.proofs.Calls.{GoodAll, call_good}
use Rattle.lowered_laws.proofs.Ended.{cast_good}
use Rattle.lowered_laws.proofs.Paths.{then_then}
use Rattle.lowered_laws.proofs.States.{same_good}
use Rattle.lowered_laws.proofs.Storing.{spot_along}
use Rattle.lowered_laws.proofs.Works.{goes_same, none_is}

-- ---- the last of a list, and those before it

pub before_last : {A : Type 0} (xs : List A) (x : A) → before (xs ++ x ∷ []) ≡ xs
before_last [] x = refl
before_last (y ∷ []) x = refl
before_last (y ∷ z ∷ xs) x = ap (λ us. y ∷ us) (before_last (z ∷ xs) x)

pub final_last : {A : Type 0} (d : A) (xs : List A) (x : A) → final d (xs ++ x ∷ []) ≡ x
final_last d [] x = refl
final_last d (y ∷ []) x = refl
final_last d (y ∷ z ∷ xs) x = final_last d (z ∷ xs) x

-- one after the other, where the last goes on by itself
turn_last : {A B : Type 0} (ms : List (Run Item A)) (m : Run Item A) (next : List A → Run Item B) (now : Now Item)
    → goes_on (in_turn (ms ++ m ∷ []) now) next ≡ goes_on (in_turn ms now) (λ xs t. goes_on (m t) (λ x. next (xs ++ x ∷ [])))
turn_last {A} {B} [] m next now =
    let one : A → Run Item (List A) = λ x. in_turn [] then λ xs. gives (x ∷ xs) in
    then_then (m now) one next
turn_last {A} {B} (k ∷ ms) m next now =
    let f : A → Run Item (List A) = λ x. in_turn (ms ++ m ∷ []) then λ xs. gives (x ∷ xs) in
    let h : A → Run Item (List A) = λ x. in_turn ms then λ xs. gives (x ∷ xs) in
    let last : List A → Run Item B = λ xs t. goes_on (m t) (λ y. next (xs ++ y ∷ [])) in
    then_then (k now) f next
    ∙ goes_same (k now) (λ x t. goes_on (f x t) next) (λ x t. goes_on (h x t) last)
    (λ x t.
    then_then (in_turn (ms ++ m ∷ []) t) (λ xs. gives (x ∷ xs)) next ∙ turn_last ms m (λ xs. next (x ∷ xs)) t
    ∙ sym (then_then (in_turn ms t) (λ xs. gives (x ∷ xs)) last))
    ∙ sym (then_then (k now) h last)

module _ (g : AtWork) where
  -- pieces that do what runs do, the last by itself
  pub record LastGood (ms : List (Run Item Item)) (ps : List Piece) : Type 0 where
    pub runs : List (Run Item Item)
    pub final_run : Run Item Item
    pub pieces : List Piece
    pub final_piece : Piece
    pub runs_are : ms ≡ runs ++ final_run ∷ []
    pub pieces_are : ps ≡ pieces ++ final_piece ∷ []
    pub fronts : GoodAll g runs pieces
    pub last : Good g final_run final_piece
    pub many : length runs ≡ length pieces

  pub last_of : (ms : List (Run Item Item)) (ps : List Piece) → GoodAll g ms ps → (n : ℕ) → length ps ≡ suc n → LastGood ms ps
  last_of [] [] all n e = absurd (nothing n e)
    where
      nothing : (n : ℕ) → 0 ≡ suc n → ⊥
      nothing n e = omega (arith, e)
  last_of [] (p ∷ ps) all n e = absurd all
  last_of (m ∷ ms) [] all n e = absurd all
  last_of (m ∷ []) (p ∷ []) all n e = record {
    runs = [];
    final_run = m;
    pieces = [];
    final_piece = p;
    runs_are = refl;
    pieces_are = refl;
    fronts = tt;
    last = all.0;
    many = refl;
  }
  last_of (m ∷ []) (p ∷ q ∷ ps) all n e = absurd all.1
  last_of (m ∷ k ∷ ms) (p ∷ []) all n e = absurd all.1
  last_of (m ∷ k ∷ ms) (p ∷ q ∷ ps) all n e =
      let r : LastGood (k ∷ ms) (q ∷ ps) = last_of (k ∷ ms) (q ∷ ps) all.1 (length ps) refl in
      record {
        runs = m ∷ r.runs;
        final_run = r.final_run;
        pieces = p ∷ r.pieces;
        final_piece = r.final_piece;
        runs_are = ap (λ xs. m ∷ xs) r.runs_are;
        pieces_are = ap (λ xs. p ∷ xs) r.pieces_are;
        fronts = (all.0, r.fronts);
        last = r.last;
        many = ap suc r.many;
      }

  good_last : (ms : List (Run Item Item)) (ps : List Piece) (m : Run Item Item) (p : Piece) → GoodAll g ms ps → Good g m p
      → GoodAll g (ms ++ m ∷ []) (ps ++ p ∷ [])
  good_last [] [] m p all h = (h, tt)
  good_last [] (q ∷ ps) m p all h = absurd all
  good_last (k ∷ ms) [] m p all h = absurd all
  good_last (k ∷ ms) (q ∷ ps) m p all h = (all.0, good_last ms ps m p all.1 h)

module _ (g : AtWork) (w : World Item) where
  -- ---- what a target is

  abbrev Spots_ : Type 0
  Spots_ = Spotting Item (Spot Item)

  abbrev calling_spot : TextPlace → ℕ → ℕ → Option Caller → Caller → Spots_
  calling_spot place k n reader writer parts =
      in_turn (take n parts) then λ xs. spotted (call_spot (reading g) w place k reader writer xs) (drop n parts)

  -- the ways into a register or a variable, once their indexes are there
  abbrev pub along_spotting : List Suffix → Cell → Spots_
  along_spotting ss c parts = ways_of (reading g) ss parts then λ ways. spotted (spot_along g w ss c ways.found) ways.left

  abbrev writer_of : ℕ → ℕ → Caller
  writer_of j f = record { number = j; callee = F.Function f }

  abbrev pub MeansCell : Cell → Spots_ → Type 0
  MeansCell c s = (parts : List (Run Item Item)) → s parts ≡ along_spotting c.suffixes c parts

  abbrev pub MeanCells : List Cell → List Spots_ → Type 0
  MeanCells [] [] = Unit {0}
  MeanCells (c ∷ cs) (s ∷ fs) = MeansCell c s × MeanCells cs fs
  MeanCells cs fs = ⊥

  abbrev pub Means : Aim → Spots_ → Type 0
  Means (one c) s = MeansCell c s
  Means (several cs) s = (k : ℕ) × (fs : List Spots_) × MeanCells cs fs
      × ((parts : List (Run Item Item)) → s parts ≡ (spots_of fs parts then λ all. spotted (tuple_spot (reading g) k all.found) all.left))
  Means (called k place n j f) s =
      (reader : Option Caller) × ((parts : List (Run Item Item)) → s parts ≡ calling_spot place k n reader (writer_of j f) parts)

  Spots : Target → Type 0
  Spots t = (a : Aim) → target_spot t ≡ Some a → Means a (spotting (reading g) w t)

  abbrev Such : Type 0
  Such = (t : Target) × Spots t

  -- a part of a whole
  at_whole : (k : ℕ) (place : TextPlace) (x : Suffix) (ss : List Suffix) (c : Cell) (s : Spots_) → MeansCell c s → (a : Aim) (qs : List Suffix)
      → c.suffixes ≡ qs → part_of k (x ∷ ss) c qs ≡ Some a → Means a (target_meaning (reading g) w place k (T.Part (x ∷ ss)) (s ∷ []))
  at_whole k place x ss c s means a [] q h =
      let new : Cell = record { number = k; read = c.number; holder = c.holder; suffixes = x ∷ ss } in
      subst (λ b. Means b (target_meaning (reading g) w place k (T.Part (x ∷ ss)) (s ∷ []))) (some_is (one new) a h)
      (λ parts.
      ap (λ (r : Run Item (Spotted Item (Spot Item))). r then λ b. ways_of (reading g) (x ∷ ss) b.left
      then λ ways. spotted (part_spot (reading g) k b.found ways.found) ways.left) (means parts ∙ ap (λ (zs : List Suffix). along_spotting zs c parts) q))
  at_whole k place x ss c s means a (r ∷ rs) q h = none_is a h

  at_base : (k : ℕ) (place : TextPlace) (x : Suffix) (ss : List Suffix) (z : Such) (a : Aim) (o : Option Aim) → target_spot z.0 ≡ o
      → kind_spot place k (T.Part (x ∷ ss)) (o ∷ []) ≡ Some a
      → Means a (target_meaning (reading g) w place k (T.Part (x ∷ ss)) (spotting (reading g) w z.0 ∷ []))
  unfolding Spots
  at_base k place x ss z a (Some (one c)) e h = at_whole k place x ss c (spotting (reading g) w z.0) (z.1 (one c) e) a c.suffixes refl h
  at_base k place x ss z a o e h = none_is a h

  -- the targets of a tuple
  cells_mean : (ys : List Such) (cs : List Cell) → cells_in (map target_spot (map (λ q. q.0) ys)) ≡ Some cs
      → MeanCells cs (map (spotting (reading g) w) (map (λ q. q.0) ys))
  unfolding Spots
  cells_mean [] [] h = tt
  cells_mean [] (c ∷ cs) h = none_such (some_is [] (c ∷ cs) h)
    where
      none_such : {X : Type 0} → [] ≡ c ∷ cs → X
      none_such e = cc
  cells_mean (y ∷ ys) cs h = by (target_spot y.0) refl h (λ ds f. cells_mean ys ds f)
    where
      behind : (c : Cell) → target_spot y.0 ≡ Some (one c) → (o : Option (List Cell)) → cells_in (map target_spot (map (λ (q : Such). q.0) ys)) ≡ o
          → with_cell c o ≡ Some cs
          → ((ds : List Cell) → cells_in (map target_spot (map (λ (q : Such). q.0) ys)) ≡ Some ds
          → MeanCells ds (map (spotting (reading g) w) (map (λ (q : Such). q.0) ys)))
          → MeanCells cs (map (spotting (reading g) w) (map (λ (q : Such). q.0) (y ∷ ys)))
      behind c e None f q more = none_is cs q
      behind c e (Some ds) f q more =
          subst (λ zs. MeanCells zs (map (spotting (reading g) w) (map (λ (p : Such). p.0) (y ∷ ys)))) (some_is (c ∷ ds) cs q) (y.1 (one c) e, more ds f)

      by : (o : Option Aim) → target_spot y.0 ≡ o → cells_in (o ∷ map target_spot (map (λ (q : Such). q.0) ys)) ≡ Some cs
          → ((ds : List Cell) → cells_in (map target_spot (map (λ (q : Such). q.0) ys)) ≡ Some ds
          → MeanCells ds (map (spotting (reading g) w) (map (λ (q : Such). q.0) ys)))
          → MeanCells cs (map (spotting (reading g) w) (map (λ (q : Such). q.0) (y ∷ ys)))
      by (Some (one c)) e f more = behind c e (cells_in (map target_spot (map (λ (q : Such). q.0) ys))) refl f more
      by o e f more = none_is cs f

  at_tuple : (k : ℕ) (place : TextPlace) (ys : List Such) (a : Aim) (o : Option (List Cell)) → cells_in (map target_spot (map (λ q. q.0) ys)) ≡ o
      → several_spot o ≡ Some a → Means a (target_meaning (reading g) w place k T.Tuple (map (spotting (reading g) w) (map (λ q. q.0) ys)))
  at_tuple k place ys a None e h = none_is a h
  at_tuple k place ys a (Some cs) e h =
      subst (λ b. Means b (target_meaning (reading g) w place k T.Tuple (map (spotting (reading g) w) (map (λ (q : Such). q.0) ys))))
      (some_is (several cs) a h) (k, map (spotting (reading g) w) (map (λ (q : Such). q.0) ys), cells_mean ys cs e, λ parts. refl)

  rolled : (y : Target-F Such) → Spots (roll-Target (map-Target Such Target (λ q. q.0) y))
  unfolding Spots
  rolled y a e =
      let d : Target-F Target = map-Target Such Target (λ q. q.0) y in
      let S : Type 0 = Spotting Item (Spot Item) in
      let known = sym (fold-roll-Target (Option Aim) (λ t. kind_spot t.place t.number t.kind t.parts) d) ∙ e in
      subst (λ s. Means a s) (sym (fold-roll-Target S (λ t. target_meaning (reading g) w t.place t.number t.kind t.parts) d)) (by y.kind y.parts known)
    where
      at_callee : (n : ℕ) (reader : Option Caller) (writer : Caller) (c : Callee) → writer.callee ≡ c
          → called_spot y.place y.number n writer.number c ≡ Some a → Means a (calling_spot y.place y.number n reader writer)
      at_callee n reader writer (F.Function f) same h =
          subst (λ b. Means b (calling_spot y.place y.number n reader writer)) (some_is (called y.number y.place n writer.number f) a h) (
            reader,
            λ parts. ap (λ (c : Callee). calling_spot y.place y.number n reader (record { number = writer.number; callee = c }) parts) same,
          )
      at_callee n reader writer c same h = none_is a h

      by : (kind : TargetKind) (ys : List Such) → kind_spot y.place y.number kind (map target_spot (map (λ q. q.0) ys)) ≡ Some a
          → Means a (target_meaning (reading g) w y.place y.number kind (map (spotting (reading g) w) (map (λ q. q.0) ys)))
      by (T.Register r) [] h =
          subst (λ b. Means b (spotted (register_spot (reading g) w y.number r))) (some_is (one (whole_cell y.number (register r))) a h) (λ parts. refl)
      by (T.Register r) (z ∷ zs) h = none_is a h
      by (T.Variable name) [] h =
          subst (λ b. Means b (spotted (variable_spot (reading g) y.number name))) (some_is (one (whole_cell y.number (variable name))) a h) (λ parts. refl)
      by (T.Variable name) (z ∷ zs) h = none_is a h
      by (T.Call n reader writer) [] h = at_callee n reader writer writer.callee refl h
      by (T.Call n reader writer) (z ∷ zs) h = none_is a h
      by T.Tuple zs h = at_tuple y.number y.place zs a (cells_in (map target_spot (map (λ (q : Such). q.0) zs))) refl h
      by (T.Part []) zs h = none_is a h
      by (T.Part (s ∷ ss)) [] h = none_is a h
      by (T.Part (s ∷ ss)) (z ∷ []) h = at_base y.number y.place s ss z a (target_spot z.0) refl h
      by (T.Part (s ∷ ss)) (z ∷ x ∷ zs) h = two_bases (target_spot z.0) h
        where
          two_bases : {X : Type 0} (o : Option Aim)
              → kind_spot y.place y.number (T.Part (s ∷ ss)) (o ∷ target_spot x.0 ∷ map target_spot (map (λ (q : Such). q.0) zs)) ≡ Some a → X
          two_bases None h = none_is a h
          two_bases (Some (one c)) h = none_is a h
          two_bases (Some (several cs)) h = none_is a h
          two_bases (Some (called k place n j f)) h = none_is a h

  all_spots : (t : Target) → Spots t
  all_spots = ind-Target Spots (λ t y same. subst (λ d. Spots (roll-Target d)) same (rolled y))

  pub spots : (t : Target) (a : Aim) → target_spot t ≡ Some a → Means a (spotting (reading g) w t)
  unfolding Spots
  spots t a e = all_spots t a e

  -- ---- a call on the arguments and the new value

  abbrev pub cast_run : ℕ → Run Item Item → Run Item Item
  cast_run k m = m then λ x. made (reading g) k (x ∷ []) x.val

  assigned_call : (place : TextPlace) (k n : ℕ) (reader : Option Caller) (writer : Caller) (ms : List (Run Item Item)) (m : Run Item Item)
      → length ms ≡ n → (s : Spotting Item (Spot Item))
      → ((parts : List (Run Item Item)) → s parts ≡ calling_spot place k n reader writer parts) → (now : Now Item)
      → goes_on (in_turn (ms ++ cast_run k m ∷ []) now) (λ xs. asked (reading g) w place (Some writer) xs) ≡ assigned (s ∷ []) (ms ++ m ∷ []) now
  assigned_call place k n reader writer ms m many s same now =
      let ask : List Item → Run Item Item = λ xs. asked (reading g) w place (Some writer) xs in
      let mk : Item → Run Item Item = λ x. made (reading g) k (x ∷ []) x.val in
      let spot : List Item → Run Item (Spotted Item (Spot Item)) =
      λ xs. spotted (call_spot (reading g) w place k reader writer xs) (m ∷ []) in
      let write : Spotted Item (Spot Item) → Run Item Item = λ found. assigned [] found.left then found.found.write in
      let there : s (ms ++ m ∷ []) ≡ (in_turn ms then spot) =
      same (ms ++ m ∷ [])
      ∙ (λ i. in_turn (take_at ms (m ∷ []) n many i) then λ xs. spotted (call_spot (reading g) w place k reader writer xs) (drop_at ms (m ∷ []) n many i)) in
      turn_last ms (cast_run k m) ask now
      ∙ goes_same (in_turn ms now) (λ xs t. goes_on (cast_run k m t) (λ y. ask (xs ++ y ∷ []))) (λ xs t. goes_on (spot xs t) write)
      (λ xs t. then_then (m t) mk (λ y. ask (xs ++ y ∷ [])))
      ∙ sym (then_then (in_turn ms now) spot write) ∙ sym (ap (λ (r : Run Item (Spotted Item (Spot Item))). goes_on (r now) write) there)

  module _ (callees : Callees) (ok : CallsOk g callees w) where
    pub called_good : (place : TextPlace) (k n j f : ℕ) (s : Spotting Item (Spot Item)) → Means (called k place n j f) s
        → leads_to g.tables.of f (g.tables.leads j) ≡ true → (ms : List (Run Item Item)) (ps : List Piece) → GoodAll g ms ps → length ps ≡ n + 1
        → Good g (assigned (s ∷ []) ms) (spot_piece g.table (kit g) g.number callees g.tables (called k place n j f) ps)
    called_good place k n j f s means right ms ps all e =
        let r : LastGood g ms ps = last_of g ms ps all n (omega (arith, e)) in
        let new : Piece → Piece = λ a. cast_piece (kit g) g.number (g.tables.cases k 1) (g.tables.gives k) a in
        let us : List (Run Item Item) = r.runs ++ cast_run k r.final_run ∷ [] in
        let qs : List Piece = r.pieces ++ new r.final_piece ∷ [] in
        let by_many : List Piece → ℕ → Piece =
        λ xs i. call_piece (kit g) g.number callees place (g.tables.cases j i) (g.tables.leads j) (g.tables.gives j) xs in
        let count : length ps ≡ n + 1 = e in
        let fronts : length r.runs ≡ n =
        omega (arith, e, r.many, ap length r.pieces_are, length-append r.pieces (r.final_piece ∷ [])) in
        let all_ : GoodAll g us qs =
        good_last g r.runs r.pieces (cast_run k r.final_run) (new r.final_piece) r.fronts (cast_good g r.final_run r.final_piece r.last k) in
        let call = λ (now : Now Item). assigned_call place k n means.0 (writer_of j f) r.runs r.final_run fronts s means.1 now in
        let base : Good g (assigned (s ∷ []) (r.runs ++ r.final_run ∷ [])) (by_many qs (length qs)) =
        same_good g (in_turn us then λ xs. asked (reading g) w place (Some (writer_of j f)) xs) (assigned (s ∷ []) (r.runs ++ r.final_run ∷ []))
        (by_many qs (length qs)) call (call_good g callees w ok place j f right us qs all_) in
        let as_many : length ps ≡ length qs =
        omega (
          arith,
          ap length r.pieces_are,
          length-append r.pieces (r.final_piece ∷ []),
          length-append r.pieces (new r.final_piece ∷ []),
        ) in
        let front_ : before ps ≡ r.pieces = ap before r.pieces_are ∙ before_last r.pieces r.final_piece in
        let last_ : final nothing_piece ps ≡ r.final_piece = ap (final nothing_piece) r.pieces_are ∙ final_last nothing_piece r.pieces r.final_piece in
        let is : by_many (before ps ++ new (final nothing_piece ps) ∷ []) (length ps) ≡ by_many qs (length qs) =
        λ i. by_many (front_ i ++ new (last_ i) ∷ []) (as_many i) in
        subst (λ p. Good g (assigned (s ∷ []) ms) p) (sym is)
        (subst (λ xs. Good g (assigned (s ∷ []) xs) (by_many qs (length qs))) (sym r.runs_are) base)
