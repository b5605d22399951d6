-- Variables: one stands in a local of its own, at the type of its value and at those that it is read at (Sail language manual, "Variables").
use Rattle.std.proofs.Common.{◌≡◌, ◌∙◌, ◌<◌, ℕ, suc, ◌+◌, Bool, true, false, cond, List, [], ◌∷◌, ◌++◌, length, Option, Some, None, refl, sym, ap, subst}
use Rattle.std.proofs.Common.{arith, eqb-true, if◌then◌else◌, length-append}
use Rattle.std.specs.Prelude.{nat_eq, ◌||◌}
use Rattle.std.specs.Str.{bytes_eq}
use Rattle.std.proofs.lemmas.Bool.{and_parts}
use Rattle.std.proofs.lemmas.Bool.Decides.{nat_tests}
use Rattle.std.proofs.lemmas.Slice.Eq.{bytes_eq-Decides}
use Rattle.sail_types.specs.declared.values.Value.{Value}
use Rattle.size_values.specs.Sized.{sized_eq}
use Rattle.size_values.specs.declared.sized.Sized.{Sized}
use Rattle.exact_sizes.proofs.Equal.{sized_same}
use Rattle.jib.specs.declared.code.Operation.TheVariants as O
use Rattle.jib.specs.declared.code.Instruction.{Instruction}
use Rattle.jib.specs.declared.code.Instruction.TheVariants as I
use Rattle.jib.specs.Values.{fit}
use Rattle.jib.specs.Jib.{Slots, Store, put, plain, slots_of, Go}
use Rattle.sail_core.specs.Run.{Local as Bound, Now, changed_in, held_in, kept, local, needs, ◌then◌}
use Rattle.sail_core.specs.Making.{made}
use Rattle.sail_core.specs.Targets.{variable_read}
use Rattle.checked_meaning.specs.Checked.{Noted}
use Rattle.checked_meaning.specs.Items.{Item}
use Rattle.sized_nodes.specs.declared.trees.Case.{Case}
use Rattle.sized_meanings.specs.Present.{is_noted, is_present, present_case}
use Rattle.lowered_pieces.specs.Places.{Place, Raised, Given, Local, Number, Temp, same_place, from, to}
use Rattle.lowered_pieces.specs.Moves.{kept_all, kept_as, kept_code}
use Rattle.lowered_pieces.specs.Forms.{Named, Stand, Tail, all_notes, made_code, made_piece, place_of, variable_make}
use Rattle.lowered_pieces.specs.Writes.{is_read}
use Rattle.lowered_pieces.specs.Tables.{cases_among, is_among}
use Rattle.lowered_laws.specs.Standing.{HasAt, Tested}
use Rattle.lowered_laws.specs.Simulation.{bare, lower, Writable, Followed, AtWork, kit, own_code, reading, RunsOn, Low, Holds, ReadAs, Varies, Same}
use Rattle.lowered_laws.specs.Simulation.{Done, Catches, Fails, Good, Sits}
use Rattle.lowered_laws.proofs.Pieces.{has_front, has_back}
use Rattle.lowered_laws.proofs.Facts.{fits_already, put_other, put_same, tested_less, tested_put}
use Rattle.lowered_laws.proofs.Steps.{computed_any, go, moves}
use Rattle.lowered_laws.proofs.Chosen.{some_is}
use Rattle.lowered_laws.proofs.Follows.{no}
use Rattle.lowered_laws.proofs.Had.{in_types}
use Rattle.lowered_laws.proofs.Ended.{made_at}
use Rattle.lowered_laws.proofs.Names.{not_in_hand}
use Rattle.lowered_laws.proofs.Works.{none_is}
use Rattle.lowered_laws.proofs.States.{Is, after_here, holds_by, lower_local, varied_by, varies_by}

apart_from : (j d : ℕ) (p : Place) → j < d → ((i : ℕ) → p ≡ Local i → i ≡ d) → same_place (Local j) p ≡ false
apart_from j d (Local i) lt own = by (own i refl)
  where
    by : i ≡ d → nat_eq j i ≡ false
    by e = grind (arith, nat_tests)
apart_from j d (Temp i) lt own = refl
apart_from j d Raised lt own = refl
apart_from j d (Given i) lt own = refl
apart_from j d (Number x e) lt own = refl

module _ (g : AtWork) where
  -- ---- a value in hand comes to a local, at several types

  abbrev pub Others : ℕ → Slots → Slots → Type 0
  Others j sl sl2 = (q : Place) (u : ℕ) → same_place (Local j) q ≡ false → sl2 (g.name q u) ≡ sl (g.name q u)

  -- where it stands at a type of its own, it does still
  abbrev Stays : ℕ → Value → Slots → Slots → Type 0
  Stays j v sl sl2 = (t : Sized) → Sits g v t → sl (g.name (Local j) (g.number t)) ≡ v → sl2 (g.name (Local j) (g.number t)) ≡ v

  stays_put : (j u : ℕ) (v : Value) (sl : Slots) → Is g (Local j) u → Stays j v sl (put sl (g.name (Local j) u) (fit g.m.types u v))
  stays_put j u v sl is t had e = by (nat_eq (g.name (Local j) u) (g.name (Local j) (g.number t))) refl
    where
      by : (b : Bool) → nat_eq (g.name (Local j) u) (g.name (Local j) (g.number t)) ≡ b
          → cond b (fit g.m.types u v) (sl (g.name (Local j) (g.number t))) ≡ v
      by true q =
          let same : g.name (Local j) u ≡ g.name (Local j) (g.number t) = eqb-true (g.name (Local j) u) (g.name (Local j) (g.number t)) q in
          let typ : g.number t ≡ u = (g.names.apart (Local j) (Local j) u (g.number t) is (sym same)).1 in
          subst (λ k. fit g.m.types k v ≡ v) typ (fits_already g.m.types (g.number t) v (in_types g v t had))
      by false q = e

  kept_one : (j n : ℕ) (t u : Sized) (v : Value) (q : ℕ) (sl : Slots) (s : Store)
      → HasAt (own_code g) q (kept_as (kit g) (Local j) (g.number u) n (g.number t)) → sl (g.name (Temp n) (g.number t)) ≡ v
      → sl (g.name (Local j) (g.number t)) ≡ v
      → ((sl2 : Slots) → Others j sl sl2 → Stays j v sl sl2 → (Sits g v u → sl2 (g.name (Local j) (g.number u)) ≡ v)
      → RunsOn g (q + length (kept_as (kit g) (Local j) (g.number u) n (g.number t))) sl2 s)
      → RunsOn g q sl s
  kept_one j n t u v q sl s at_ hand stands next = by (nat_eq (g.number t) (g.number u)) refl at_ next
    where
      i : Instruction
      i = I.Apply (to (kit g) (Local j) (g.number u)) O.Same (from (kit g) (Temp n) (g.number t) ∷ [])

      w : Value
      w = fit g.m.types (g.number u) v

      by : (b : Bool) → nat_eq (g.number t) (g.number u) ≡ b → HasAt (own_code g) q (cond b [] (i ∷ []))
          → ((sl2 : Slots) → Others j sl sl2 → Stays j v sl sl2 → (Sits g v u → sl2 (g.name (Local j) (g.number u)) ≡ v)
          → RunsOn g (q + length (cond b [] (i ∷ []))) sl2 s)
          → RunsOn g q sl s
      by true e hp more =
          moves g.m g.lets g.hart g.here g.ending (q + 0) q sl s (omega arith)
          (more sl (λ p x ne. refl) (λ x had z. z)
          (λ had. subst (λ x. sl (g.name (Local j) x) ≡ v) (eqb-true (g.number t) (g.number u) e) stands))
      by false e hp more =
          let k : ℕ = g.name (Local j) (g.number u) in
          let is : Is g (Local j) (g.number u) = g.slots q k i hp.0 refl in
          go g.m g.lets g.hart g.here g.ending q sl (put sl k w) s s i hp.0
          (computed_any g.m g.lets g.hart g.here g.ending (kit g) g.names (Local j) (g.number u) O.Same (from (kit g) (Temp n) (g.number t) ∷ []) sl s v is
          (ap (λ x. Some (plain s.state x)) hand))
          (more (put sl k w) (λ p x ne. put_other (kit g) (slots_of g.m g.here.function) g.names sl (Local j) (g.number u) w p x is ne)
          (stays_put j (g.number u) v sl is) (λ had. put_same sl k w ∙ fits_already g.m.types (g.number u) v (in_types g v u had)))

  kept_rest : (j n : ℕ) (t : Sized) (v : Value) (us : List Sized) (q : ℕ) (sl : Slots) (s : Store)
      → HasAt (own_code g) q (kept_all (kit g) (Local j) n (g.number t) us) → sl (g.name (Temp n) (g.number t)) ≡ v
      → sl (g.name (Local j) (g.number t)) ≡ v → Sits g v t
      → ((sl2 : Slots) → Others j sl sl2 → Stays j v sl sl2 → ReadAs g sl2 (Local j) v us
      → RunsOn g (q + length (kept_all (kit g) (Local j) n (g.number t) us)) sl2 s)
      → RunsOn g q sl s
  kept_rest j n t v [] q sl s at_ hand stands had next =
      moves g.m g.lets g.hart g.here g.ending (q + 0) q sl s (omega arith) (next sl (λ p x ne. refl) (λ x h z. z) tt)
  kept_rest j n t v (u ∷ us) q sl s at_ hand stands had next =
      let c1 : List Instruction = kept_as (kit g) (Local j) (g.number u) n (g.number t) in
      let c2 : List Instruction = kept_all (kit g) (Local j) n (g.number t) us in
      kept_one j n t u v q sl s (has_front (own_code g) q c1 c2 at_) hand stands
      (λ sl1 other1 stays1 read1.
      kept_rest j n t v us (q + length c1) sl1 s (has_back (own_code g) q c1 c2 (q + length c1) refl at_) (other1 (Temp n) (g.number t) refl ∙ hand)
      (stays1 t had stands) had
      (λ sl2 other2 stays2 reads2.
      moves g.m g.lets g.hart g.here g.ending (q + length (c1 ++ c2)) (q + length c1 + length c2) sl2 s (omega (arith, length-append c1 c2))
      (next sl2 (λ p x ne. other2 p x ne ∙ other1 p x ne) (λ x h z. stays2 x h (stays1 x h z)) ((λ h. stays2 u h (read1 h)), reads2))))

  pub kept_runs : (j n : ℕ) (t : Sized) (v : Value) (us : List Sized) (q : ℕ) (sl : Slots) (s : Store)
      → HasAt (own_code g) q (kept_code (kit g) (Local j) n us t) → sl (g.name (Temp n) (g.number t)) ≡ v → Sits g v t
      → ((sl2 : Slots) → Others j sl sl2 → sl2 (g.name (Local j) (g.number t)) ≡ v → ReadAs g sl2 (Local j) v us
      → RunsOn g (q + length (kept_code (kit g) (Local j) n us t)) sl2 s)
      → RunsOn g q sl s
  kept_runs j n t v us q sl s at_ hand had next =
      let k : ℕ = g.name (Local j) (g.number t) in
      let i : Instruction = I.Copy (to (kit g) (Local j) (g.number t)) (from (kit g) (Temp n) (g.number t)) in
      let rest : List Instruction = kept_all (kit g) (Local j) n (g.number t) us in
      let is : Is g (Local j) (g.number t) = g.slots q k i at_.0 refl in
      let sl1 : Slots = put sl k v in
      let other : Others j sl sl1 = λ p x ne. put_other (kit g) (slots_of g.m g.here.function) g.names sl (Local j) (g.number t) v p x is ne in
      go g.m g.lets g.hart g.here g.ending q sl sl1 s s i at_.0 (ap (λ w. Go (put sl k w) s) hand)
      (kept_rest j n t v us (q + 1) sl1 s at_.1 (other (Temp n) (g.number t) refl ∙ hand) (put_same sl k v) had
      (λ sl2 other2 stays2 reads2.
      moves g.m g.lets g.hart g.here g.ending (q + suc (length rest)) (q + 1 + length rest) sl2 s (omega arith)
      (next sl2 (λ p x ne. other2 p x ne ∙ other p x ne) (stays2 t had (put_same sl k v)) reads2)))

  -- ---- a variable is read at a type that is known

  among_read : (sl : Slots) (p : Place) (v : Value) (t : Sized) (us : List Sized) → ReadAs g sl p v us → is_among t us ≡ true → Sits g v t
      → sl (g.name p (g.number t)) ≡ v
  among_read sl p v t [] r h had = no h
  among_read sl p v t (u ∷ us) r h had = by (sized_eq t u) refl h (λ q. among_read sl p v t us r.1 q had)
    where
      by : (b : Bool) → sized_eq t u ≡ b → (b || is_among t us) ≡ true → (is_among t us ≡ true → sl (g.name p (g.number t)) ≡ v)
          → sl (g.name p (g.number t)) ≡ v
      by true e h more =
          let is : t ≡ u = sized_same t u e in
          subst (λ x. sl (g.name p (g.number x)) ≡ v) (sym is) (r.0 (subst (λ x. Sits g v x) is had))
      by false e h more = more h

  among_case : (us : List Sized) (cs : List Case) (noted : Noted) (c : Case) → cases_among us cs ≡ true → present_case noted cs ≡ Some c
      → is_among c.gives us ≡ true
  among_case us [] noted c h e = none_is c e
  among_case us (d ∷ cs) noted c h e =
      let both = and_parts (is_among d.gives us) (cases_among us cs) h in
      by (is_noted noted d.picked) (is_present noted d.picked) both.0 (λ q. among_case us cs noted c both.1 q) e
    where
      by : (a b : Bool) → is_among d.gives us ≡ true → (present_case noted cs ≡ Some c → is_among c.gives us ≡ true)
          → (if a then (if b then Some d else present_case noted cs) else None) ≡ Some c → is_among c.gives us ≡ true
      by true true here_ more q = subst (λ (y : Case). is_among y.gives us ≡ true) (some_is d c q) here_
      by true false here_ more q = more q
      by false b here_ more q = none_is c q

  -- of the newest name
  here_at : (y : Named) (ys : List Named) (l : Bound Item) (name : List ℕ) → l.name ≡ y.name → bytes_eq l.name name ≡ true
      → place_of (y ∷ ys) name ≡ y.place
  here_at y ys l name h q = ap (λ b. if b then y.place else place_of ys name) (ap (λ u. bytes_eq u name) (sym h) ∙ q)

  behind_at : (y : Named) (ys : List Named) (l : Bound Item) (name : List ℕ) → l.name ≡ y.name → bytes_eq l.name name ≡ false
      → place_of (y ∷ ys) name ≡ place_of ys name
  behind_at y ys l name h q = ap (λ b. if b then y.place else place_of ys name) (ap (λ u. bytes_eq u name) (sym h) ∙ q)

  name_is : (y : Named) (l : Bound Item) (name : List ℕ) → l.name ≡ y.name → bytes_eq l.name name ≡ true → y.name ≡ name
  name_is y l name h q = sym h ∙ (bytes_eq-Decides l.name name).0 q

  read_held : (sl : Slots) (ys : List Named) (ls : List (Bound Item)) (name : List ℕ) (x : Item) (t : Sized) → Holds g sl ys ls → Varies g sl ys ls
      → held_in name ls ≡ Some x → is_among t (g.tables.reads name) ≡ true → Sits g x.val t → sl (g.name (place_of ys name) (g.number t)) ≡ x.val
  read_held sl [] [] name x t h v e among had = none_is x e
  read_held sl [] (l ∷ ls) name x t h v e among had = absurd h
  read_held sl (y ∷ ys) [] name x t h v e among had = absurd h
  read_held sl (y ∷ ys) (l ∷ ls) name x t h v e among had =
      by (bytes_eq l.name name) refl e (λ w. read_held sl ys ls name x t h.2 v.1 w among had)
    where
      by : (b : Bool) → bytes_eq l.name name ≡ b → (if b then Some l.held else held_in name ls) ≡ Some x
          → (held_in name ls ≡ Some x → sl (g.name (place_of ys name) (g.number t)) ≡ x.val)
          → sl (g.name (place_of (y ∷ ys) name) (g.number t)) ≡ x.val
      by true q w more =
          let named : y.name ≡ name = name_is y l name h.0 q in
          let is : l.held ≡ x = some_is l.held x w in
          let read : ReadAs g sl y.place l.held.val (g.tables.reads name) =
          subst (λ s. ReadAs g sl y.place l.held.val (g.tables.reads s)) named v.0.read in
          let stands : sl (g.name y.place (g.number t)) ≡ l.held.val =
          among_read sl y.place l.held.val t (g.tables.reads name) read among (subst (λ (z : Item). Sits g z.val t) (sym is) had) in
          subst (λ p. sl (g.name p (g.number t)) ≡ x.val) (sym (here_at y ys l name h.0 q))
          (subst (λ (z : Item). sl (g.name y.place (g.number t)) ≡ z.val) is stands)
      by false q w more = subst (λ p. sl (g.name p (g.number t)) ≡ x.val) (sym (behind_at y ys l name h.0 q)) (more w)

  pub read_good : (k : ℕ) (name : List ℕ) → cases_among (g.tables.reads name) (g.tables.cases k 0) ≡ true
      → Good g (variable_read (reading g) k name)
      (made_piece (kit g) g.number (variable_make (kit g) g.number name) (g.tables.cases k 0) (g.tables.gives k))
  read_good k name among = record {
    run = λ tail s l pc pe ph pf sl now tk end at_ set same wr th.
        by tail s l pc pe ph pf sl now end at_ same wr (held_in name now.locals) refl th;
  }
    where
      by : (tail : Tail) (s : Stand) (l pc pe ph pf : ℕ) (sl : Slots) (now : Now Item)
          → pe ≡ pc + length (made_code (kit g) g.number 0 (variable_make (kit g) g.number name) (g.tables.cases k 0) (g.tables.gives k) tail s l)
          → HasAt (own_code g) pc (made_code (kit g) g.number 0 (variable_make (kit g) g.number name) (g.tables.cases k 0) (g.tables.gives k) tail s l)
          → Same g s.depths s.scope s.temp sl now → Writable s.depths (all_notes (g.tables.gives k)) → (o : Option Item) → held_in name now.locals ≡ o
          → Followed g.ending ((needs o then λ x. made (reading g) k [] x.val) now) (Done g tail s pe sl now)
          (Catches g s.depths s.scope ph s.temp sl now)
          (Fails g s.depths s.scope pf s.temp sl now)
          → RunsOn g pc sl (bare now)
      by tail s l pc pe ph pf sl now end at_ same wr None e th = absurd th
      by tail s l pc pe ph pf sl now end at_ same wr (Some x) e th =
          let n : ℕ = s.temp in
          let place : Place = place_of s.scope name in
          made_at g 0 0 k [] x.val (variable_make (kit g) g.number name) tail s l pc pe sl sl now now (Catches g s.depths s.scope ph n sl now)
          (Fails g s.depths s.scope pf n sl now) wr refl end at_ (after_here g s.depths s.scope n sl now same) th
          (λ c q sl2 there taken had hp td next.
          let td0 : Tested (kit g) n sl sl2 = tested_less (kit g) n (n + 0) sl sl2 (omega arith) td in
          let is_in : is_among c.gives (g.tables.reads name) ≡ true = among_case (g.tables.reads name) (g.tables.cases k 0) now.opened c among there in
          let held : sl2 (g.name place (g.number c.gives)) ≡ x.val =
          td0.others place (g.number c.gives) (not_in_hand g s.scope name n same.low)
          ∙ read_held sl s.scope now.locals name x c.gives same.locals same.varied e is_in had in
          let at : ℕ = g.name (Temp n) (g.number c.gives) in
          let i : Instruction = I.Copy (to (kit g) (Temp n) (g.number c.gives)) (from (kit g) place (g.number c.gives)) in
          let is : Is g (Temp n) (g.number c.gives) = g.slots q at i hp.0 refl in
          go g.m g.lets g.hart g.here g.ending q sl2 (put sl2 at x.val) (bare now) (bare now) i hp.0 (ap (λ w. Go (put sl2 at w) (bare now)) held)
          (next (put sl2 at x.val) (tested_put (kit g) (slots_of g.m g.here.function) g.names n n (g.number c.gives) sl2 x.val (omega arith) is)
          (put_same sl2 at x.val)))

  -- ---- a variable gets another value

  -- where the newest of a name stands; and names as they are once it stands there
  pub record Changed (sl : Slots) (ys : List Named) (name : List ℕ) (x : Item) (ls : List (Bound Item)) : Type 0 where
    pub local_at : ℕ
    pub is : place_of ys name ≡ Local local_at
    pub below_all : local_at < length ys
    pub by : (sl2 : Slots) → Others local_at sl sl2 → sl2 (g.name (Local local_at) (g.number x.typ)) ≡ x.val
        → ReadAs g sl2 (Local local_at) x.val (g.tables.reads name) → Holds g sl2 ys ls × Varies g sl2 ys ls

  pub changed : (n : ℕ) (sl : Slots) (ys : List Named) (ls : List (Bound Item)) (name : List ℕ) (x : Item) (ms : List (Bound Item)) → Low n ys
      → Holds g sl ys ls → Varies g sl ys ls → is_read (g.tables.reads name) ≡ true → changed_in name x ls ≡ Some ms → Changed sl ys name x ms
  changed n sl [] [] name x ms low h v r e = none_is ms e
  changed n sl [] (l ∷ ls) name x ms low h v r e = absurd h
  changed n sl (y ∷ ys) [] name x ms low h v r e = absurd h
  changed n sl (y ∷ ys) (l ∷ ls) name x ms low h v r e =
      at_first (bytes_eq l.name name) refl e (λ ns f. changed n sl ys ls name x ns low.1 h.2 v.1 r f)
    where
      behind : (o : Option (List (Bound Item))) → changed_in name x ls ≡ o → bytes_eq l.name name ≡ false → kept l o ≡ Some ms
          → ((ns : List (Bound Item)) → changed_in name x ls ≡ Some ns → Changed sl ys name x ns)
          → Changed sl (y ∷ ys) name x ms
      behind None f q w more = none_is ms w
      behind (Some ns) f q w more =
          let c : Changed sl ys name x ns = more ns f in
          let is : l ∷ ns ≡ ms = some_is (l ∷ ns) ms w in
          let apart : same_place (Local c.local_at) y.place ≡ false = apart_from c.local_at (length ys) y.place c.below_all v.0.own in
          record {
            local_at = c.local_at;
            is = behind_at y ys l name h.0 q ∙ c.is;
            below_all = omega (arith, c.below_all);
            by = λ sl2 other stands read.
                let both = c.by sl2 other stands read in
                subst (λ zs. Holds g sl2 (y ∷ ys) zs × Varies g sl2 (y ∷ ys) zs) is (
                  (h.0, other y.place (g.number l.held.typ) apart ∙ h.1, both.0),
                  (varied_by g sl sl2 y (length ys) l.held.val (λ u. other y.place u apart) v.0, both.1),
                );
          }

      at_first : (b : Bool) → bytes_eq l.name name ≡ b → (if b then Some (local l.name x ∷ ls) else kept l (changed_in name x ls)) ≡ Some ms
          → ((ns : List (Bound Item)) → changed_in name x ls ≡ Some ns → Changed sl ys name x ns) → Changed sl (y ∷ ys) name x ms
      at_first false q w more = behind (changed_in name x ls) refl q w more
      at_first true q w more =
          let d : ℕ = length ys in
          let named : y.name ≡ name = name_is y l name h.0 q in
          let own : y.place ≡ Local d = v.0.local (subst (λ s. is_read (g.tables.reads s) ≡ true) (sym named) r) in
          let is : local l.name x ∷ ls ≡ ms = some_is (local l.name x ∷ ls) ms w in
          record {
            local_at = d;
            is = here_at y ys l name h.0 q ∙ own;
            below_all = omega arith;
            by = λ sl2 other stands read.
                let still : (p : Place) (u : ℕ) → lower n d p ≡ true → sl2 (g.name p u) ≡ sl (g.name p u) = λ p u f. other p u (lower_local n d p f) in
                subst (λ zs. Holds g sl2 (y ∷ ys) zs × Varies g sl2 (y ∷ ys) zs) is (
                  (h.0, subst (λ p. sl2 (g.name p (g.number x.typ)) ≡ x.val) (sym own) stands, holds_by g n d sl sl2 ys ls (omega arith) still low.1 h.2),
                  (
                    record {
                      own = v.0.own;
                      local = v.0.local;
                      read = subst (λ p. ReadAs g sl2 p x.val (g.tables.reads y.name)) (sym own)
                          (subst (λ s. ReadAs g sl2 (Local d) x.val (g.tables.reads s)) (sym named) read);
                    },
                    varies_by g n d sl sl2 ys ls (omega arith) still low.1 v.1,
                  ),
                );
          }
