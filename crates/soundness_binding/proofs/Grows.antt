-- How the walks of names that are bound and of blocks count on.
use Rattle.std.proofs.Common.{ℕ, suc, Bool, false, ◌&&◌, List, [], ◌∷◌, ◌++◌, length, drop, Option, Some, None, refl}
use Rattle.sail_base.specs.declared.place.Place.{Place}
use Rattle.sail_types.specs.declared.numbers.Con.{Con}
use Rattle.sail_core.specs.Making.{World}
use Rattle.sail_core.specs.Run.{Run}
use Rattle.sail_core.specs.declared.patterns.Arm.{Arm}
use Rattle.sail_core.specs.declared.tree.Giver.{Giver}
use Rattle.sail_core.specs.declared.tree.Giver.TheVariants as By
use Rattle.sail_core.specs.declared.tree.Statement.{Statement}
use Rattle.sail_core.specs.declared.tree.Statement.TheVariants as S
use Rattle.sail_core.specs.declared.written.Written.{Written}
use Rattle.sail_core.specs.declared.written.WrittenNumber.{WrittenNumber}
use Rattle.value_indices.specs.declared.indices.Indices.{Indices}
use Rattle.value_indices.specs.declared.indices.Indices.TheVariants as I
use Rattle.value_indices.specs.declared.notes.Fact.TheVariants as Y
use Rattle.value_indices.specs.Steps.{Walk, bind, claimed, give, owe}
use Rattle.fitting_laws.proofs.Counting as Counting
use Rattle.pattern_leaves.specs.Settings.{Around, Scope, declared, exponents_owed, number_owed, written_in}
use Rattle.pattern_notes.specs.Patterns.{arm_written, looks, one_match}
use Rattle.pattern_notes.specs.declared.matching.Matching.{Matching}
use Rattle.pattern_laws.proofs.Growing as Growing
use Rattle.wide_types.specs.Widening.{widened}
use Rattle.call_arguments.specs.Aims.{aimed, inner_aim}
use Rattle.call_arguments.specs.Holes.{without_holes}
use Rattle.call_arguments.specs.declared.aims.Aim.{Aim}
use Rattle.call_arguments.specs.declared.aims.Aim.TheVariants as Aims
use Rattle.call_notes.specs.Noted.{names_given}
use Rattle.expression_steps.specs.Parts.{Part}
use Rattle.expression_steps.specs.Statements.{bind_given, bind_names, block_walk, is_written, let_given, under_claim, var_name, written_aim}
use Rattle.checked_meaning.specs.Items.{Item}
use Rattle.soundness_steps.specs.Works.{Scene}
use Rattle.soundness_steps.specs.Steps.{Grows}
use Rattle.soundness_forms.specs.Forms.{Fine}
use Rattle.soundness_forms.proofs.Growth.{grows_bind, grows_give, grows_owe, grows_settled}
use Rattle.soundness_forms.proofs.NamesGiven.{names_grow as found_grow}

exponents_grow : (around : Around) (ns : List WrittenNumber) → Grows (exponents_owed around ns)
exponents_grow around [] = grows_give tt
exponents_grow around (t ∷ ns) = grows_bind (owe t.place (number_owed around t t.role)) (λ u. exponents_owed around ns)
    (grows_owe t.place (number_owed around t t.role)) (λ u. exponents_grow around ns)

lets_grow : (around : Around) (place : Place) (arm : Arm) (how : Matching) (i : Indices) → Grows (one_match place (looks arm) around how i)
lets_grow around place arm how i =
    let h : Counting.Grows (one_match place (looks arm) around how i) = Growing.let_grows around place arm how i in
    record { onward = h.onward; more = h.more; extends = h.extends }

claimed_grows : (c : Con) (walk : Walk Indices) → Grows walk → Grows (claimed c walk)
unfolding claimed
claimed_grows c walk h = record {
  onward = λ facts n. h.onward (facts ++ Y.Holds c ∷ []) n;
  more = λ facts n. drop (suc (length facts)) (walk (facts ++ Y.Holds c ∷ []) n).facts;
  extends = λ facts n. refl;
}

claim_grows : (rest : Walk Indices) (o : Option Con) → Grows rest → Grows (under_claim rest o)
claim_grows rest None h = h
claim_grows rest (Some c) h = claimed_grows c rest h

module _ (q : Scene) (w : World Item) where
  -- parts of a block beside its statements: what they evaluate or bind, and its value, where it has one
  abbrev pub Statements : List Statement → List Part → List (Run Item Item) → Type 0
  Statements [] [] [] = Unit {0}
  Statements [] (p ∷ []) (r ∷ []) = Fine q w false false p r
  Statements (s ∷ ss) (p ∷ ps) (r ∷ rs) = ((cast : Bool) × Fine q w cast false p r) × Statements ss ps rs
  Statements ss ps rs = ⊥

  pub names_grow : (around : Around) (giver : Giver) (place : Place) (arm : Arm) (a : Part) (ra : Run Item Item) (cast : Bool) → Fine q w cast false a ra
      → (scope : Scope) → Grows (let_given giver place arm a around scope)
  names_grow around giver place arm a ra cast ha scope =
      let o = arm_written arm in
      let how = is_written o && a.is_nested in
      grows_bind (a.walk around scope (written_aim around o)) (bind_given giver place arm around how) (ha.grows around scope (written_aim around o)) (λ i.
      grows_bind (bind_names place arm around how i) (names_given giver (i ∷ [])) (lets_grow around place arm (record { in_case = false; is_owed = how }) i)
      (found_grow giver (i ∷ [])))

  pub var_grows : (around : Around) (name : List ℕ) (written : Option Written) (a : Part) (ra : Run Item Item) (cast : Bool) → Fine q w cast false a ra
      → (scope : Scope) → Grows (var_name name written a around scope)
  var_grows around name None a ra cast ha scope =
      grows_bind (a.walk around scope Aims.Free) (λ i. give (declared name (without_holes (widened i)) ∷ [])) (ha.grows around scope Aims.Free)
      (λ i. grows_give (declared name (without_holes (widened i)) ∷ []))
  var_grows around name (Some wr) a ra cast ha scope =
      let r = written_in around wr in
      grows_bind (exponents_owed around wr.numbers) (λ t. bind (a.walk around scope (aimed Aims.Due r)) (λ i. give (declared name r ∷ [])))
      (exponents_grow around wr.numbers) (λ t.
      grows_bind (a.walk around scope (aimed Aims.Due r)) (λ i. give (declared name r ∷ [])) (ha.grows around scope (aimed Aims.Due r))
      (λ i. grows_give (declared name r ∷ [])))

  pub block_grows : (around : Around) (place : Place) (k : ℕ) (ss : List Statement) (ps : List Part) (rs : List (Run Item Item)) → Statements ss ps rs
      → (scope : Scope) (aim : Aim) → Grows (block_walk place k ss ps around scope aim)
  block_grows around place k [] [] [] h scope aim = grows_settled around place (inner_aim aim) I.Unit
  block_grows around place k [] (p ∷ []) (r ∷ []) h scope aim = h.grows around scope (inner_aim aim)
  block_grows around place k (S.Evaluate ∷ ss) (p ∷ ps) (r ∷ rs) h scope aim =
      grows_bind (p.state around scope) (under_claim (block_walk place k ss ps around scope aim)) (h.0.1.state_grows around scope)
      (λ c. claim_grows (block_walk place k ss ps around scope aim) c (block_grows around place k ss ps rs h.1 scope aim))
  block_grows around place k (S.Define here_at arm ∷ ss) (p ∷ ps) (r ∷ rs) h scope aim =
      grows_bind (let_given (By.Arm k (length ss)) here_at arm p around scope) (λ found. block_walk place k ss ps around (found ++ scope) aim)
      (names_grow around (By.Arm k (length ss)) here_at arm p r h.0.0 h.0.1 scope) (λ found. block_grows around place k ss ps rs h.1 (found ++ scope) aim)
  block_grows around place k (S.Declare name written ∷ ss) (p ∷ ps) (r ∷ rs) h scope aim =
      grows_bind (var_name name written p around scope) (λ found. block_walk place k ss ps around (found ++ scope) aim)
      (var_grows around name written p r h.0.0 h.0.1 scope) (λ found. block_grows around place k ss ps rs h.1 (found ++ scope) aim)
  block_grows around place k [] [] (r ∷ rs) h scope aim = absurd h
  block_grows around place k [] (p ∷ []) (r ∷ r2 ∷ rs) h scope aim = absurd h
  block_grows around place k [] (p ∷ p2 ∷ ps) (r ∷ rs) h scope aim = absurd h
  block_grows around place k [] (p ∷ []) [] h scope aim = absurd h
  block_grows around place k [] (p ∷ p2 ∷ ps) [] h scope aim = absurd h
  block_grows around place k (s ∷ ss) [] rs h scope aim = absurd h
  block_grows around place k (s ∷ ss) (p ∷ ps) [] h scope aim = absurd h
