-- `let`, `var` and blocks, as kinds of nodes.
use Rattle.std.proofs.Common.{◌≡◌, ℕ, true, false, List, [], ◌∷◌, ◌++◌, Option, refl}
use Rattle.std.proofs.lemmas.Bool.{and_parts}
use Rattle.sail_core.specs.Making.{World}
use Rattle.sail_core.specs.Run.{Run}
use Rattle.sail_core.specs.declared.patterns.Arm.{Arm}
use Rattle.sail_core.specs.declared.tree.Giver.TheVariants as By
use Rattle.sail_core.specs.declared.tree.Kind.TheVariants as K
use Rattle.sail_core.specs.declared.tree.Statement.{Statement}
use Rattle.sail_core.specs.declared.written.Written.{Written}
use Rattle.call_arguments.specs.Aims.{inner_aim}
use Rattle.expression_steps.specs.Expressions.{node_end}
use Rattle.expression_steps.specs.Parts.{Part}
use Rattle.expression_steps.specs.Statements.{block_walk, let_given, let_walk, var_name, var_walk}
use Rattle.checked_meaning.specs.Items.{Item}
use Rattle.value_laws.proofs.Basics.{no}
use Rattle.soundness_steps.specs.Works.{Scene}
use Rattle.soundness_forms.specs.EachKind.{KindFine, PartsFine, node}
use Rattle.soundness_forms.specs.Forms.{FitsSuffice}
use Rattle.soundness_forms.specs.Standing.{Standing, block_right, is_bound, is_value}
use Rattle.soundness_forms.proofs.Growth.{grows_bind, grows_end}
use Rattle.soundness_forms.proofs.LeavingKinds.{bound_fine}
use Rattle.soundness_forms.proofs.PlainKinds.{fine_by, value_fine, wrong_inward}
use Rattle.soundness_binding.specs.Matches.{AllLetsMatch, LetsMatch}
use Rattle.soundness_binding.proofs.Bound.{block_fine, let_fine, var_fine}
use Rattle.soundness_binding.proofs.Grows.{Statements, block_grows, names_grow, var_grows}

module _ (q : Scene) (w : World Item) where
  module _ (arm : Arm) (matches : LetsMatch q w arm) where
    pub let_kind : KindFine q w (K.Let arm)
    let_kind place k (s1 ∷ s2 ∷ []) (a ∷ b ∷ []) (ra ∷ rb ∷ []) h right =
        let both = and_parts (is_bound s1) (is_value s2) right in
        let fa = bound_fine q w s1 a ra both.0 h.0 in
        let fb = value_fine q w s2 b rb both.1 h.1.0 in
        fine_by q w false false (node q w place k (K.Let arm) (a ∷ b ∷ [])) _ (λ around scope. refl)
        (λ names falls g n f facts scope aim there st. let_fine q w arm matches names falls scope place k aim a b ra rb s1.cast fa fb there st)
        (λ around scope aim. grows_bind (let_walk (By.Arm k 0) place arm a b around scope aim) (node_end k false)
        (grows_bind (let_given (By.Arm k 0) place arm a around scope) (λ found. b.walk around (found ++ scope) (inner_aim aim))
        (names_grow q w around (By.Arm k 0) place arm a ra s1.cast fa scope) (λ found. fb.grows around (found ++ scope) (inner_aim aim)))
        (grows_end k false))
    let_kind place k [] [] [] h right =
        wrong_inward q w false false false place k (node q w place k (K.Let arm) []) _ (λ around scope. refl) (λ around scope aim. refl)
    let_kind place k (s ∷ []) (p ∷ []) (r ∷ []) h right =
        wrong_inward q w false false false place k (node q w place k (K.Let arm) (p ∷ [])) _ (λ around scope. refl) (λ around scope aim. refl)
    let_kind place k (s ∷ s2 ∷ s3 ∷ ss) (p ∷ p2 ∷ p3 ∷ ps) (r ∷ r2 ∷ r3 ∷ rs) h right =
        wrong_inward q w false false false place k (node q w place k (K.Let arm) (p ∷ p2 ∷ p3 ∷ ps)) _ (λ around scope. refl) (λ around scope aim. refl)
    let_kind place k [] [] (r ∷ rs) h right = absurd h
    let_kind place k [] (p ∷ ps) rs h right = absurd h
    let_kind place k (s ∷ ss) [] rs h right = absurd h
    let_kind place k (s ∷ ss) (p ∷ ps) [] h right = absurd h
    let_kind place k (s ∷ []) (p ∷ []) (r ∷ r2 ∷ rs) h right = absurd h.1
    let_kind place k (s ∷ []) (p ∷ p2 ∷ ps) (r ∷ rs) h right = absurd h.1
    let_kind place k (s ∷ s2 ∷ ss) (p ∷ []) (r ∷ rs) h right = absurd h.1
    let_kind place k (s ∷ s2 ∷ ss) (p ∷ p2 ∷ ps) (r ∷ []) h right = absurd h.1
    let_kind place k (s ∷ s2 ∷ []) (p ∷ p2 ∷ []) (r ∷ r2 ∷ r3 ∷ rs) h right = absurd h.1.1
    let_kind place k (s ∷ s2 ∷ []) (p ∷ p2 ∷ p3 ∷ ps) (r ∷ r2 ∷ rs) h right = absurd h.1.1
    let_kind place k (s ∷ s2 ∷ s3 ∷ ss) (p ∷ p2 ∷ []) (r ∷ r2 ∷ rs) h right = absurd h.1.1
    let_kind place k (s ∷ s2 ∷ s3 ∷ ss) (p ∷ p2 ∷ p3 ∷ ps) (r ∷ r2 ∷ []) h right = absurd h.1.1

  pub var_kind : (name : List ℕ) (written : Option Written) → KindFine q w (K.Var name written)
  var_kind name written place k (s1 ∷ s2 ∷ []) (a ∷ b ∷ []) (ra ∷ rb ∷ []) h right =
      let both = and_parts (is_bound s1) (is_value s2) right in
      let fa = bound_fine q w s1 a ra both.0 h.0 in
      let fb = value_fine q w s2 b rb both.1 h.1.0 in
      fine_by q w false false (node q w place k (K.Var name written) (a ∷ b ∷ [])) _ (λ around scope. refl)
      (λ names falls g n f facts scope aim there st. var_fine q w names falls scope place k name written aim a b ra rb s1.cast fa fb there st)
      (λ around scope aim. grows_bind (var_walk name written a b around scope aim) (node_end k false)
      (grows_bind (var_name name written a around scope) (λ found. b.walk around (found ++ scope) (inner_aim aim))
      (var_grows q w around name written a ra s1.cast fa scope) (λ found. fb.grows around (found ++ scope) (inner_aim aim)))
      (grows_end k false))
  var_kind name written place k [] [] [] h right =
      wrong_inward q w false false false place k (node q w place k (K.Var name written) []) _ (λ around scope. refl) (λ around scope aim. refl)
  var_kind name written place k (s ∷ []) (p ∷ []) (r ∷ []) h right =
      wrong_inward q w false false false place k (node q w place k (K.Var name written) (p ∷ [])) _ (λ around scope. refl) (λ around scope aim. refl)
  var_kind name written place k (s ∷ s2 ∷ s3 ∷ ss) (p ∷ p2 ∷ p3 ∷ ps) (r ∷ r2 ∷ r3 ∷ rs) h right =
      wrong_inward q w false false false place k (node q w place k (K.Var name written) (p ∷ p2 ∷ p3 ∷ ps)) _ (λ around scope. refl)
      (λ around scope aim. refl)
  var_kind name written place k [] [] (r ∷ rs) h right = absurd h
  var_kind name written place k [] (p ∷ ps) rs h right = absurd h
  var_kind name written place k (s ∷ ss) [] rs h right = absurd h
  var_kind name written place k (s ∷ ss) (p ∷ ps) [] h right = absurd h
  var_kind name written place k (s ∷ []) (p ∷ []) (r ∷ r2 ∷ rs) h right = absurd h.1
  var_kind name written place k (s ∷ []) (p ∷ p2 ∷ ps) (r ∷ rs) h right = absurd h.1
  var_kind name written place k (s ∷ s2 ∷ ss) (p ∷ []) (r ∷ rs) h right = absurd h.1
  var_kind name written place k (s ∷ s2 ∷ ss) (p ∷ p2 ∷ ps) (r ∷ []) h right = absurd h.1
  var_kind name written place k (s ∷ s2 ∷ []) (p ∷ p2 ∷ []) (r ∷ r2 ∷ r3 ∷ rs) h right = absurd h.1.1
  var_kind name written place k (s ∷ s2 ∷ []) (p ∷ p2 ∷ p3 ∷ ps) (r ∷ r2 ∷ rs) h right = absurd h.1.1
  var_kind name written place k (s ∷ s2 ∷ s3 ∷ ss) (p ∷ p2 ∷ []) (r ∷ r2 ∷ rs) h right = absurd h.1.1
  var_kind name written place k (s ∷ s2 ∷ s3 ∷ ss) (p ∷ p2 ∷ p3 ∷ ps) (r ∷ r2 ∷ []) h right = absurd h.1.1

  -- the parts of a block: what is evaluated or bound comes first, its value last
  each_statement : (ts : List Statement) (ss : List Standing) (ps : List Part) (rs : List (Run Item Item)) → PartsFine q w ss ps rs
      → block_right ts ss ≡ true → Statements q w ts ps rs
  each_statement [] [] [] [] h right = tt
  each_statement [] (s ∷ []) (p ∷ []) (r ∷ []) h right = value_fine q w s p r right h.0
  each_statement [] (s ∷ s2 ∷ ss) ps rs h right = no right
  each_statement (t ∷ ts) [] ps rs h right = no right
  each_statement (t ∷ ts) (s ∷ ss) (p ∷ ps) (r ∷ rs) h right =
      let both = and_parts (is_bound s) (block_right ts ss) right in
      ((s.cast, bound_fine q w s p r both.0 h.0), each_statement ts ss ps rs h.1 both.1)
  each_statement [] [] [] (r ∷ rs) h right = absurd h
  each_statement [] [] (p ∷ ps) rs h right = absurd h
  each_statement [] (s ∷ []) [] rs h right = absurd h
  each_statement [] (s ∷ []) (p ∷ ps) [] h right = absurd h
  each_statement [] (s ∷ []) (p ∷ []) (r ∷ r2 ∷ rs) h right = absurd h.1
  each_statement [] (s ∷ []) (p ∷ p2 ∷ ps) (r ∷ rs) h right = absurd h.1
  each_statement (t ∷ ts) (s ∷ ss) [] rs h right = absurd h
  each_statement (t ∷ ts) (s ∷ ss) (p ∷ ps) [] h right = absurd h

  pub block_kind : FitsSuffice → (statements : List Statement) → AllLetsMatch q w statements → KindFine q w (K.Block statements)
  block_kind fit statements matches place k ss ps rs h right =
      let all = each_statement statements ss ps rs h right in
      fine_by q w false false (node q w place k (K.Block statements) ps) _ (λ around scope. refl)
      (λ names falls g n f facts scope aim there st. block_fine q w fit place k statements ps rs all matches names falls scope aim there st)
      (λ around scope aim. grows_bind (block_walk place k statements ps around scope aim) (node_end k false)
      (block_grows q w around place k statements ps rs all scope aim) (grows_end k false))
