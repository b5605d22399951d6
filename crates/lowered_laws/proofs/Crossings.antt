-- The directions that a body calls or asks decide whether it is lowered, and nothing else of it.
use Rattle.std.proofs.Common.{◌≡◌, ◌∙◌, ℕ, ℤ, Bool, true, List, [], ◌∷◌, map, Option, refl, sym, ap, subst}
use Rattle.std.specs.Prelude.{◌&&◌}
use Rattle.std.proofs.lemmas.Bool.{and_parts}
use Rattle.sail_base.specs.declared.place.Place.{Place as TextPlace}
use Rattle.sail_types.specs.declared.numbers.Num.{Num}
use Rattle.sail_types.specs.declared.table.Types.{Types}
use Rattle.size_values.specs.declared.sized.Sized.{Sized}
use Rattle.sail_core.specs.declared.patterns.Step.{Step}
use Rattle.sail_core.specs.declared.patterns.Step.TheVariants as P
use Rattle.sail_core.specs.declared.patterns.Arm.{Arm}
use Rattle.sail_core.specs.declared.patterns.Arm.TheVariants as A
use Rattle.sail_core.specs.declared.tree.Callee.TheVariants as F
use Rattle.sail_core.specs.declared.tree.Statement.{Statement}
use Rattle.sail_core.specs.declared.tree.Statement.TheVariants as S
use Rattle.sail_core.specs.declared.tree.Kind.{Kind}
use Rattle.sail_core.specs.declared.tree.Kind.TheVariants as K
use Rattle.sail_core.specs.declared.tree.Core.{Core, Core-F, roll-Core, fold-roll-Core, map-Core, ind-Core}
use Rattle.lowered_pieces.specs.Places.{Kit}
use Rattle.lowered_pieces.specs.Tables.{Tables}
use Rattle.lowered_pieces.specs.Arms.{arm_fits, arms_fit, step_fits, steps_fit}
use Rattle.lowered_pieces.specs.Forms.{Callees, Piece, ends_of, has_ends}
use Rattle.lowered_pieces.specs.Mapped.{ends_with, fixed_end}
use Rattle.lowered_pieces.specs.Lowering.{Node, all_lowered, block_lowered, is_matched, kind_lowered, kind_piece, node, pieces_of}
use Rattle.lowered_laws.specs.Returning.{all_so}
use Rattle.lowered_laws.specs.Crossings.{arm_within, arms_within, crosses_here, crosses_within, statements_within, step_within, steps_within}

module _ (types : Types) (kit : Kit) (number : Sized → ℕ) (callees : Callees) (tables : Tables) (crosses : ℕ → Bool) where
  abbrev every : Callees
  every = record callees { crosses = λ d. true }

  abbrev some : Callees
  some = record callees { crosses = crosses }

  piece_same : (place : TextPlace) (k : ℕ) (kind : Kind) (ps : List Piece)
      → kind_piece types kit number every tables place k kind ps ≡ kind_piece types kit number some tables place k kind ps
  piece_same place k kind ps = refl

  -- ---- arms

  step_same : (size : Num → Option ℤ) (reads : List ℕ → List Sized) (s : Step) → step_within crosses s ≡ true
      → step_fits size (λ d. true) reads s ≡ step_fits size crosses reads s
  step_same size reads (P.Opens i head n) h = refl
  step_same size reads (P.Names i name) h = refl
  step_same size reads (P.Sees i d) h = sym h

  steps_same : (size : Num → Option ℤ) (reads : List ℕ → List Sized) (ss : List Step) → steps_within crosses ss ≡ true
      → steps_fit size (λ d. true) reads ss ≡ steps_fit size crosses reads ss
  steps_same size reads [] h = refl
  steps_same size reads (s ∷ ss) h =
      let q = and_parts (step_within crosses s) (steps_within crosses ss) h in
      λ i. step_same size reads s q.0 i && steps_same size reads ss q.1 i

  arm_same : (size : Num → Option ℤ) (reads : List ℕ → List Sized) (arm : Arm) → arm_within crosses arm ≡ true
      → arm_fits size (λ d. true) reads arm ≡ arm_fits size crosses reads arm
  arm_same size reads (A.Nested ps) h = refl
  arm_same size reads (A.Flat n ss) h = steps_same size reads ss h

  arms_same : (size : Num → Option ℤ) (reads : List ℕ → List Sized) (arms : List Arm) → arms_within crosses arms ≡ true
      → arms_fit size (λ d. true) reads arms ≡ arms_fit size crosses reads arms
  arms_same size reads [] h = refl
  arms_same size reads (arm ∷ arms) h =
      let q = and_parts (arm_within crosses arm) (arms_within crosses arms) h in
      λ i. arm_same size reads arm q.0 i && arms_same size reads arms q.1 i

  block_same : (ss : List Statement) (ns : List Node) → statements_within crosses ss ≡ true
      → block_lowered every tables ss ns ≡ block_lowered some tables ss ns
  block_same [] [] h = refl
  block_same [] (n ∷ []) h = refl
  block_same [] (n ∷ p ∷ ns) h = refl
  block_same (S.Evaluate ∷ ss) [] h = refl
  block_same (S.Evaluate ∷ ss) (n ∷ ns) h = ap (λ b. n.ok && b) (block_same ss ns h)
  block_same (S.Define place arm ∷ ss) [] h = refl
  block_same (S.Define place arm ∷ ss) (n ∷ ns) h =
      let q = and_parts (arm_within crosses arm) (statements_within crosses ss) h in
      λ i. arm_same callees.size tables.reads arm q.0 i && (is_matched n && block_same ss ns q.1 i)
  block_same (S.Declare name written ∷ ss) [] h = refl
  block_same (S.Declare name written ∷ ss) (n ∷ ns) h = ap (λ b. n.ok && b) (block_same ss ns h)

  -- ---- nodes

  ok_same : (k : ℕ) (kind : Kind) (ns : List Node) → crosses_here crosses kind ≡ true
      → kind_lowered types every tables k kind ns ≡ kind_lowered types some tables k kind ns
  ok_same k (K.Call (F.Applies d)) (n ∷ []) h = ap (λ b. (b && ends_with (callees.direction d).takes (fixed_end n.piece.ends)) && n.ok) (sym h)
  ok_same k (K.Block statements) ns h = block_same statements ns h
  ok_same k (K.Let arm) (a ∷ b ∷ []) h = ap (λ c. c && (is_matched a && b.ok)) (arm_same callees.size tables.reads arm h)
  ok_same k (K.Match arms shape) (a ∷ bodies) h =
      ap (λ c. is_matched a && (c && all_lowered bodies)) (arms_same callees.size tables.reads arms h)
  ok_same k (K.Try arms shape) (a ∷ bodies) h =
      ap (λ c. a.ok && (has_ends (ends_of (tables.gives k) (tables.cases k 0)) && (c && all_lowered bodies))) (arms_same callees.size tables.reads arms h)
  ok_same k (K.Clauses arms) ns h = ap (λ c. c && all_lowered ns) (arms_same callees.size tables.reads arms h)
  ok_same k kind ns h = refl

  abbrev made : Callees → TextPlace → ℕ → Kind → List Node → Node
  made cs place k kind ns = record {
    piece = kind_piece types kit number cs tables place k kind (pieces_of ns);
    ok = kind_lowered types cs tables k kind ns;
  }

  node_same : (place : TextPlace) (k : ℕ) (kind : Kind) (ns : List Node) → crosses_here crosses kind ≡ true
      → made every place k kind ns ≡ made some place k kind ns
  node_same place k kind ns h = λ i. record { piece = piece_same place k kind (pieces_of ns) i; ok = ok_same k kind ns h i }

  abbrev at_every : Core → Node
  at_every = node types kit number every tables

  abbrev at_some : Core → Node
  at_some = node types kit number some tables

  Same : Core → Type 0
  Same c = crosses_within crosses c ≡ true → at_every c ≡ at_some c

  abbrev Known : Type 0
  Known = (c : Core) × Same c

  all_same : (ys : List Known) → all_so (map (crosses_within crosses) (map (λ y. y.0) ys)) ≡ true
      → map at_every (map (λ y. y.0) ys) ≡ map at_some (map (λ y. y.0) ys)
  unfolding Same
  all_same [] h = refl
  all_same (y ∷ ys) h =
      let q = and_parts (crosses_within crosses y.0) (all_so (map (crosses_within crosses) (map (λ y. y.0) ys))) h in
      let first = y.1 q.0 in
      let rest = all_same ys q.1 in
      λ i. first i ∷ rest i

  step : (y : Core-F Known) → Same (roll-Core (map-Core Known Core (λ q. q.0) y))
  unfolding Same
  step y h =
      let d : Core-F Core = map-Core Known Core (λ q. q.0) y in
      let cs : List Core = map (λ q. q.0) y.parts in
      let h1 : (crosses_here crosses y.kind && all_so (map (crosses_within crosses) cs)) ≡ true =
      sym (fold-roll-Core Bool (λ c. crosses_here crosses c.kind && all_so c.parts) d) ∙ h in
      let q = and_parts (crosses_here crosses y.kind) (all_so (map (crosses_within crosses) cs)) h1 in
      fold-roll-Core Node (λ c. made every c.place c.number c.kind c.parts) d
      ∙ node_same y.place y.number y.kind (map at_every cs) q.0
      ∙ ap (made some y.place y.number y.kind) (all_same y.parts q.1)
      ∙ sym (fold-roll-Core Node (λ c. made some c.place c.number c.kind c.parts) d)

  all_nodes : (c : Core) → Same c
  all_nodes = ind-Core Same (λ c y same. subst (λ d. Same (roll-Core d)) same (step y))

  pub crossings_known : (c : Core) → crosses_within crosses c ≡ true → at_every c ≡ at_some c
  unfolding Same
  crossings_known c = all_nodes c
