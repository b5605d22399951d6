-- Parts of values: suffixes one by one, each with its indexes, behind a value that is in hand.
use Rattle.std.proofs.Common.{◌≡◌, ◌∙◌, ◌≤◌, ℕ, zero, suc, ◌+◌, Bool, true, ◌&&◌, List, [], ◌∷◌, ◌++◌, length, map, take, drop, refl, sym, ap, subst, arith}
use Rattle.std.proofs.lemmas.Bool.{and_from, and_parts, false≢true}
use Rattle.std.specs.Prelude.{OnOk, Result}
use Rattle.sail_core.specs.declared.targets.Suffix.{Suffix}
use Rattle.sail_core.specs.declared.targets.Way.{Way}
use Rattle.sail_core.specs.declared.targets.Way.TheVariants as Y
use Rattle.sail_core.specs.declared.tree.Core.{Core}
use Rattle.sail_core.specs.declared.tree.Giver.TheVariants as G
use Rattle.sized_meanings.specs.Present.{gives_at}
use Rattle.size_values.specs.declared.sized.Sized.{Sized}
use Rattle.jib.specs.declared.code.Operation.{Operation}
use Rattle.lowered_pieces.specs.declared.coding.Coding.{Coding}
use Rattle.lowered_pieces.specs.Chains.{many}
use Rattle.lowered_pieces.specs.Emitted.{Emits}
use Rattle.lowered_pieces.specs.Forms.{Piece, all_code, all_labels, in_order, made_code, work_piece}
use Rattle.lowered_pieces.specs.Lowering.{Node, all_lowered, path_lowered, pieces_of, way_lowered}
use Rattle.lowered_pieces.specs.Nodes.{cases_at}
use Rattle.lowered_pieces.specs.Paths.{path_piece, way_piece}
use Rattle.lowered_pieces.specs.Places.{Kit, Naming}
use Rattle.lowered_pieces.specs.Tables.{Tables}
use Rattle.lowered_pieces.specs.Writes.{take_op, takes_of}
use Rattle.lowered_steps.specs.declared.making.Making.TheVariants as M
use Rattle.lowered_steps.specs.declared.making.Order.TheVariants as W
use Rattle.lowered_steps.specs.declared.stands.Stand.{Stand as Standing}
use Rattle.lowered_steps.specs.declared.tails.Tail.{Tail}
use Rattle.lowered_steps.specs.Makers.{maker_of}
use Rattle.lowered_steps.specs.Setting.{kit_for, nodes_in, number_for, tables_for}
use Rattle.lowered_steps.specs.Stands.{stand_of}
use Rattle.lowered_steps.specs.Tails.{tail_of}
use Rattle.lowered_ends.specs.Around.{node_for}
use Rattle.lowered_nodes.specs.declared.walk.Walk.{Walk}
use Rattle.lowered_nodes.specs.Walk.{Held, Puts, all_lowered_for, pieces_for, way_for, ways_for, ways_ok}
use Rattle.lowered_nodes.proofs.Counting.{many_pieces}
use Rattle.lowered_pieces.proofs.Emitting.{emits_then}
use Rattle.lowered_nodes.proofs.Made.{made_put}
use Rattle.lowered_ends.proofs.Opened.{many_nodes}

-- ---- lists that fall into two

taken_apart : {A : Type 0} (n : ℕ) (xs : List A) → n ≤ length xs → take n xs ++ drop n xs ≡ xs
taken_apart zero xs few = refl
taken_apart (suc n) [] few = absurd (omega arith)
taken_apart (suc n) (x ∷ xs) few = ap (λ us. x ∷ us) (taken_apart n xs (omega arith))

as_many : {A : Type 0} (n : ℕ) (xs : List A) → n ≤ length xs → length (take n xs) ≡ n
as_many zero xs few = refl
as_many (suc n) [] few = absurd (omega arith)
as_many (suc n) (x ∷ xs) few = ap (λ k. suc k) (as_many n xs (omega arith))

map_apart : {A B : Type 0} (f : A → B) (xs ys : List A) → map f (xs ++ ys) ≡ map f xs ++ map f ys
map_apart f [] ys = refl
map_apart f (x ∷ xs) ys = ap (λ us. f x ∷ us) (map_apart f xs ys)

-- ---- a suffix with its indexes

module _ (kit : Kit) (number : Sized → ℕ) (tables : Tables) where
  way_form : (way : Way) (k : ℕ) (js is : List Piece) (p : Piece) (more : List Piece → Piece → Piece) → length js ≡ takes_of way
      → way_piece kit number tables way k (js ++ is) p more
      ≡ more is (work_piece kit number (take_op way) in_order (tables.cases k (takes_of way + 1)) (tables.gives k) (p ∷ js))
  way_form (Y.Field struct i) k [] is p more none = refl
  way_form (Y.Field struct i) k (j ∷ js) is p more none = absurd (omega (arith, none))
  way_form Y.Item k [] is p more one = absurd (omega (arith, one))
  way_form Y.Item k (j ∷ []) is p more one = refl
  way_form Y.Item k (j ∷ h ∷ js) is p more one = absurd (omega (arith, one))
  way_form Y.Slice k [] is p more two = absurd (omega (arith, two))
  way_form Y.Slice k (j ∷ []) is p more two = absurd (omega (arith, two))
  way_form Y.Slice k (j ∷ h ∷ []) is p more two = refl
  way_form Y.Slice k (j ∷ h ∷ g ∷ js) is p more two = absurd (omega (arith, two))

way_all : (way : Way) (js is : List Node) (more : List Node → Bool) → length js ≡ takes_of way → way_lowered way (js ++ is) more ≡ true
    → (all_lowered js ≡ true) × (more is ≡ true)
way_all (Y.Field struct i) [] is more none h = (refl, h)
way_all (Y.Field struct i) (j ∷ js) is more none h = absurd (omega (arith, none))
way_all Y.Item [] is more one h = absurd (omega (arith, one))
way_all Y.Item (j ∷ []) is more one h =
    let two = and_parts j.ok (more is) h in (and_from j.ok true two.0 refl, two.1)
way_all Y.Item (j ∷ g ∷ js) is more one h = absurd (omega (arith, one))
way_all Y.Slice [] is more two h = absurd (omega (arith, two))
way_all Y.Slice (j ∷ []) is more two h = absurd (omega (arith, two))
way_all Y.Slice (j ∷ g ∷ []) is more two h =
    let a = and_parts j.ok (g.ok && more is) h in
    let b = and_parts g.ok (more is) a.1 in
    (and_from j.ok (g.ok && true) a.0 (and_from g.ok true b.0 refl), b.1)
way_all Y.Slice (j ∷ g ∷ f ∷ js) is more two h = absurd (omega (arith, two))

-- there are as many
way_enough : (way : Way) (ns : List Node) (more : List Node → Bool) → way_lowered way ns more ≡ true → takes_of way ≤ length ns
way_enough (Y.Field struct i) ns more h = omega arith
way_enough Y.Item [] more h = absurd (false≢true h)
way_enough Y.Item (n ∷ ns) more h = omega arith
way_enough Y.Slice [] more h = absurd (false≢true h)
way_enough Y.Slice (n ∷ []) more h = absurd (false≢true h)
way_enough Y.Slice (n ∷ m ∷ ns) more h = omega arith

module _ (walk : Walk) (name : Naming) where
  pub enough : (s : Suffix) (ss : List Suffix) (cs : List Core) → ways_ok walk name (s ∷ ss) cs ≡ true → takes_of s.way ≤ length cs
  enough s ss cs h =
      let e = way_enough s.way (map (node_for walk.setting.now walk.around.now name) cs) (path_lowered ss) h in
      let n = many_nodes (node_for walk.setting.now walk.around.now name) cs in omega (arith, e, n)

  -- the indexes of the first suffix, and those of the others
  module _ (s : Suffix) (ss : List Suffix) (cs js is : List Core) (apart : js ++ is ≡ cs) (count : length js ≡ takes_of s.way)
      (h : ways_ok walk name (s ∷ ss) cs ≡ true) where
    both : (all_lowered_for walk name js ≡ true) × (ways_ok walk name ss is ≡ true)
    both =
        way_all s.way (map (node_for walk.setting.now walk.around.now name) js) (map (node_for walk.setting.now walk.around.now name) is) (path_lowered ss)
        (many_nodes (node_for walk.setting.now walk.around.now name) js ∙ count)
        (ap (λ (ns : List Node). way_lowered s.way ns (path_lowered ss))
        (sym (map_apart (node_for walk.setting.now walk.around.now name) js is) ∙ ap (λ (ds : List Core). map
        (node_for walk.setting.now walk.around.now name) ds) apart)
        ∙ h)

    own_lowered : all_lowered_for walk name js ≡ true
    own_lowered = both.0

    others_lowered : ways_ok walk name ss is ≡ true
    others_lowered = both.1

  way_is : (s : Suffix) (ss : List Suffix) (cs js is : List Core) → js ++ is ≡ cs → length js ≡ takes_of s.way → (whole : Piece)
      → ways_for walk name ss (way_for walk name s whole js) is ≡ ways_for walk name (s ∷ ss) whole cs
  way_is s ss cs js is apart count whole =
      sym (way_form (kit_for walk.setting.now name) (number_for walk.setting.now) (tables_for walk.setting.now walk.around.now.instances.now) s.way s.number
      (pieces_for walk name js) (pieces_for walk name is) whole
      (path_piece (kit_for walk.setting.now name) (number_for walk.setting.now) (tables_for walk.setting.now walk.around.now.instances.now) ss)
      (sym (many_pieces walk name js) ∙ count))
      ∙ ap (λ (ps : List Piece). path_piece (kit_for walk.setting.now name) (number_for walk.setting.now)
      (tables_for walk.setting.now walk.around.now.instances.now) (s ∷ ss) ps whole) pieces_apart
    where
      pieces_apart : pieces_for walk name js ++ pieces_for walk name is ≡ pieces_for walk name cs
      pieces_apart =
          sym (map_apart (λ (n : Node). n.piece) (map (node_for walk.setting.now walk.around.now name) js) (map
          (node_for walk.setting.now walk.around.now name) is))
          ∙ ap (λ (ns : List Node). pieces_of ns) (sym (map_apart (node_for walk.setting.now walk.around.now name) js is))
          ∙ ap (λ (ds : List Core). pieces_for walk name ds) apart

  -- no suffix is left, and so no index
  none_left : (is : List Core) → ways_ok walk name [] is ≡ true → (whole : Piece) → whole ≡ ways_for walk name [] whole is
  none_left [] h whole = refl
  none_left (i ∷ is) h whole = absurd (false≢true h)

  -- the indexes as the code parts them
  module _ (s : Suffix) (ss : List Suffix) (cs js is : List Core) (t : ℕ) (first : js ≡ take t cs) (second : is ≡ drop t cs) (count : t ≡ takes_of s.way)
      (h : ways_ok walk name (s ∷ ss) cs ≡ true) where
    few : t ≤ length cs
    few = let e = enough s ss cs h in omega (arith, e, count)

    parted : js ++ is ≡ cs
    parted = (λ i. first i ++ second i) ∙ taken_apart t cs few

    pub own_many : length js ≡ takes_of s.way
    own_many = ap (λ (ds : List Core). length ds) first ∙ as_many t cs few ∙ count

    pub own_ok : all_lowered_for walk name js ≡ true
    own_ok = own_lowered s ss cs js is parted own_many h

    pub others_ok : ways_ok walk name ss is ≡ true
    others_ok = others_lowered s ss cs js is parted own_many h

    pub way_alone : ss ≡ [] → (whole : Piece) → way_for walk name s whole js ≡ ways_for walk name (s ∷ ss) whole cs
    way_alone none whole =
        none_left is (ap (λ (us : List Suffix). ways_ok walk name us is) (sym none) ∙ others_ok) (way_for walk name s whole js)
        ∙ ap (λ (us : List Suffix). ways_for walk name us (way_for walk name s whole js) is) (sym none)
        ∙ way_is s ss cs js is parted own_many whole

    pub way_before : (us : List Suffix) → ss ≡ us → (whole : Piece)
        → ways_for walk name us (way_for walk name s whole js) is ≡ ways_for walk name (s ∷ ss) whole cs
    way_before us same whole =
        ap (λ (vs : List Suffix). ways_for walk name vs (way_for walk name s whole js) is) (sym same) ∙ way_is s ss cs js is parted own_many whole

    pub before_ok : (us : List Suffix) → ss ≡ us → ways_ok walk name us is ≡ true
    before_ok us same = ap (λ (vs : List Suffix). ways_ok walk name vs is) (sym same) ∙ others_ok

-- ---- as they are put

module _ {T E : Type 0} (r : Result T E) (walk : Walk) (stand : Standing) (tail : Tail) where
  pub way_put : (suffix : Suffix) (cs : List Core) (whole : Naming → Piece) (takes : ℕ) (op : Operation) → takes ≡ takes_of suffix.way
      → op ≡ take_op suffix.way → length cs ≡ takes_of suffix.way → (m : ℕ) → m ≡ stand.temp + 1 → (old mid b c : Coding) → Held old mid stand whole
      → Emits mid b (λ name x. all_code (kit_for walk.setting.now name) (number_for walk.setting.now) (pieces_for walk name cs)
      (record (stand_of stand) { temp = m }) x) (λ name. all_labels (kit_for walk.setting.now name) (number_for walk.setting.now) (pieces_for walk name cs))
      → OnOk r (Emits b c (λ name x. made_code (kit_for walk.setting.now name) (number_for walk.setting.now) (takes + 1)
      (maker_of walk.setting.now name (M.Works op W.Forwards)) (cases_at suffix.number (takes + 1) (nodes_in walk.setting.now))
      (gives_at (nodes_in walk.setting.now) (G.Node suffix.number)) (tail_of walk.setting.now name tail) (stand_of stand) x)
      (λ name. many (tail_of walk.setting.now name tail).labels (cases_at suffix.number (takes + 1) (nodes_in walk.setting.now))))
      → OnOk r (Puts old c walk stand tail (λ name. way_for walk name suffix (whole name) cs))
  way_put suffix cs whole takes op count same enough_there m is old mid b c held x h =
      made_put r (λ name. kit_for walk.setting.now name) (number_for walk.setting.now) (stand_of stand) (λ name. tail_of walk.setting.now name tail)
      (λ name. maker_of walk.setting.now name (M.Works (take_op suffix.way) W.Forwards))
      (cases_at suffix.number (takes_of suffix.way + 1) (nodes_in walk.setting.now)) (gives_at (nodes_in walk.setting.now) (G.Node suffix.number))
      (takes_of suffix.way + 1) (λ name. whole name ∷ pieces_for walk name cs) (λ name. so_many_operands name) old b c
      operands
      made
    where
      many_labels : Naming → ℕ → ℕ
      many_labels name n = many (tail_of walk.setting.now name tail).labels (cases_at suffix.number (n + 1) (nodes_in walk.setting.now))

      so_many_operands : (name : Naming) → takes_of suffix.way + 1 ≡ length (whole name ∷ pieces_for walk name cs)
      so_many_operands name = let e = many_pieces walk name cs in omega (arith, e, enough_there)

      operands : Emits old b (λ name l. all_code (kit_for walk.setting.now name) (number_for walk.setting.now) (whole name ∷ pieces_for walk name cs)
          (stand_of stand) l)
          (λ name. all_labels (kit_for walk.setting.now name) (number_for walk.setting.now) (whole name ∷ pieces_for walk name cs))
      operands =
          emits_then old mid b _ _ _ _ held
          (subst (λ k. Emits mid b (λ name l. all_code (kit_for walk.setting.now name) (number_for walk.setting.now) (pieces_for walk name cs)
          (record (stand_of stand) { temp = k }) l)
          (λ name. all_labels (kit_for walk.setting.now name) (number_for walk.setting.now) (pieces_for walk name cs))) is x)

      made : OnOk r (Emits b c (λ name l. made_code (kit_for walk.setting.now name) (number_for walk.setting.now) (takes_of suffix.way + 1)
          (maker_of walk.setting.now name (M.Works (take_op suffix.way) W.Forwards)) (cases_at suffix.number (takes_of suffix.way + 1)
          (nodes_in walk.setting.now))
          (gives_at (nodes_in walk.setting.now) (G.Node suffix.number)) (tail_of walk.setting.now name tail) (stand_of stand) l)
          (λ name. many_labels name (takes_of suffix.way)))
      made =
          subst (λ (u : ℕ × Operation). OnOk r (Emits b c (λ name l. made_code (kit_for walk.setting.now name) (number_for walk.setting.now) (u.0 + 1)
          (maker_of walk.setting.now name (M.Works u.1 W.Forwards)) (cases_at suffix.number (u.0 + 1) (nodes_in walk.setting.now))
          (gives_at (nodes_in walk.setting.now) (G.Node suffix.number)) (tail_of walk.setting.now name tail) (stand_of stand) l)
          (λ name. many_labels name u.0))) (λ i. (count i, same i)) h
