-- What is decided of a node is whether its kind has as many parts as it takes, what is asked of the kind, and what of its parts.
use Rattle.std.proofs.Common.{◌≡◌, ◌∙◌, ℕ, suc, ◌+◌, Bool, true, false, List, [], ◌∷◌, length, Option, Some, None, refl, sym, ap}
use Rattle.std.specs.Prelude.{◌&&◌, ◌||◌, ◌++◌, nat_eq, nat_le, not}
use Rattle.sail_types.specs.declared.rows.Row.{Row}
use Rattle.sail_core.specs.declared.patterns.Arm.{Arm}
use Rattle.sail_core.specs.declared.targets.Suffix.{Suffix}
use Rattle.sail_core.specs.declared.targets.Way.{Way}
use Rattle.sail_core.specs.declared.targets.Way.TheVariants as Y
use Rattle.sail_core.specs.declared.tree.Callee.{Callee}
use Rattle.sail_core.specs.declared.tree.Callee.TheVariants as F
use Rattle.sail_core.specs.declared.tree.Core.{Core, Core-F, fold_out-Core, out-Core}
use Rattle.sail_core.specs.declared.tree.Kind.{Kind}
use Rattle.sail_core.specs.declared.tree.Kind.TheVariants as K
use Rattle.row_types.specs.Calls.{has_state}
use Rattle.sail_types.specs.declared.shapes.Shape.{Shape}
use Rattle.size_values.specs.declared.sized.Sized.{Sized}
use Rattle.sized_nodes.specs.declared.trees.Case.{Case}
use Rattle.lowered_pieces.specs.Arms.{arguments, in_hand}
use Rattle.lowered_pieces.specs.Forms.{End, in_order}
use Rattle.lowered_pieces.specs.Writes.{Spot, called, one, several, target_spot}
use Rattle.lowered_ends.specs.Able.{suffixes_fit, way_fits}
use Rattle.lowered_validity.specs.Typing as typing
use Rattle.lowered_validity.specs.Typing.{Typing, all_right}
use Rattle.jib.specs.declared.code.Operation.TheVariants as O
use Rattle.lowered_typed.specs.declared.signs.Judge.{Judge}
use Rattle.lowered_typed.specs.Counts.{count_fits}
use Rattle.lowered_typed.specs.Here as here
use Rattle.lowered_typed.specs.Judging.{callees_here, cases_typed, number_here, signs_here, tables_here, typed}
use Rattle.lowered_typed.specs.Judged.{all_end_right, all_given_right, all_here, behind, cases_at, caught_ends}
use Rattle.lowered_typed.specs.Judged.{kind_asked, kind_judged, kind_parts, literal_asked, may_turn, others, row_asked, several_asked, spot_asked}
use Rattle.lowered_typed.specs.Judged.{spot_types, turned_asked, types_by, way_asked, ways_asked, written_asked}
use Rattle.lowered_typed.proofs.Bools.{applied, arm_more, both_branches, bound, caught, fielded, freed, grouped, itemed, leaf, matched, one_part, only_part}
use Rattle.lowered_typed.proofs.Bools.{sliced, swapped, three_free, two_parts}
use Rattle.lowered_typed.proofs.Counting.{behind_none, less_one, more_0, more_1, more_2, more_3, more_4, right, same_suc, some, wrong, zero_suc}

module _ (j : Judge) where
  abbrev g-pure : Bool
  g-pure = (signs_here j).is_pure

  abbrev kind_of : ℕ → Kind → List Typing → Bool
  kind_of k kind ps = here.kind_right j k kind ps

  abbrev Same : Kind → ℕ → List Typing → Type 0
  Same kind k ps = here.kind_right j k kind ps ≡ kind_judged j kind k ps

  -- what is neither asked of the kind nor counted
  abbrev rest_of : Kind → ℕ → List Typing → Bool
  rest_of kind k ps = kind_asked j kind k ps && kind_parts j kind ps

  -- ---- parts of values

  path_way : (w : Way) (k : ℕ) (ss : List Suffix) → ((qs : List Typing)
      → typing.path_right j.setting.now.types.now (number_here j) (callees_here j) (tables_here j) (signs_here j) ss qs
      ≡ ((suffixes_fit ss (length qs) && ways_asked j ss) && all_right qs)) → (ps : List Typing)
      → typing.way_right j.setting.now.types.now (number_here j) (callees_here j) (tables_here j) (signs_here j) w k ps
      (typing.path_right j.setting.now.types.now (number_here j) (callees_here j) (tables_here j) (signs_here j) ss)
      ≡ ((way_fits w (length ps) (suffixes_fit ss) && (way_asked j w k && ways_asked j ss)) && all_right ps)
  path_way (Y.Field struct i) k ss ih ps =
      ap (λ b. way_asked j (Y.Field struct i) k && b) (ih ps)
      ∙ fielded (way_asked j (Y.Field struct i) k) (suffixes_fit ss (length ps)) (ways_asked j ss) (all_right ps)
  path_way Y.Item k ss ih [] = refl
  path_way Y.Item k ss ih (a ∷ ps) =
      ap (λ b. a.right && (way_asked j Y.Item k && b)) (ih ps)
      ∙ itemed a.right (way_asked j Y.Item k) (suffixes_fit ss (length ps)) (ways_asked j ss) (all_right ps)
  path_way Y.Slice k ss ih [] = refl
  path_way Y.Slice k ss ih (a ∷ []) = refl
  path_way Y.Slice k ss ih (a ∷ b ∷ ps) =
      ap (λ c. a.right && (b.right && (way_asked j Y.Slice k && c))) (ih ps)
      ∙ sliced a.right b.right (way_asked j Y.Slice k) (suffixes_fit ss (length ps)) (ways_asked j ss) (all_right ps)

  path_is : (ss : List Suffix) (ps : List Typing)
      → typing.path_right j.setting.now.types.now (number_here j) (callees_here j) (tables_here j) (signs_here j) ss ps
      ≡ ((suffixes_fit ss (length ps) && ways_asked j ss) && all_right ps)
  path_is [] [] = refl
  path_is [] (a ∷ ps) = refl
  path_is (s ∷ ss) ps = path_way s.way s.number ss (path_is ss) ps

  part_is : (ss : List Suffix) (k : ℕ) (a : Typing) (ps : List Typing) → Same (K.Part ss) k (a ∷ ps)
  part_is ss k a ps =
      ap (λ b. a.right && b) (path_is ss ps)
      ∙ swap
      ∙ ap (λ n. (suffixes_fit ss n && ways_asked j ss) && (a.right && all_right ps)) (sym (less_one (length ps)))
      ∙ right (nat_le 1 (suc (length ps))) (rest_of (K.Part ss) k (a ∷ ps)) (some (length ps))
    where
      swap : (a.right && ((suffixes_fit ss (length ps) && ways_asked j ss) && all_right ps))
          ≡ ((suffixes_fit ss (length ps) && ways_asked j ss) && (a.right && all_right ps))
      swap = by a.right (suffixes_fit ss (length ps) && ways_asked j ss) (all_right ps)
        where
          by : (x y z : Bool) → (x && (y && z)) ≡ (y && (x && z))
          by true y z = refl
          by false true z = refl
          by false false z = refl

  -- ---- assignments

  given : (b : Bool) (a : Typing) (ps : List Typing) → (all_right (a ∷ ps) && b) ≡ ((nat_le 1 (length (a ∷ ps)) && b) && all_right (a ∷ ps))
  given b a ps =
      swapped (all_right (a ∷ ps)) b ∙ ap (λ c. c && all_right (a ∷ ps)) (right (nat_le 1 (suc (length ps))) b (some (length ps)))

  write_is : (o : Option Spot) (ps : List Typing)
      → typing.write_right j.setting.now.types.now (number_here j) (callees_here j) (tables_here j) (signs_here j) o ps
      ≡ (spot_asked j o ps && all_right ps)
  write_is None [] = refl
  write_is None (a ∷ ps) = sym (ap (λ c. (c && false) && all_right (a ∷ ps)) (some (length ps)))
  write_is (Some (one c)) [] = refl
  write_is (Some (one c)) (a ∷ ps) = given (here.cell_right j c) a ps
  write_is (Some (several cs)) [] = refl
  write_is (Some (several cs)) (a ∷ ps) = given (several_asked j cs (a ∷ ps)) a ps
  write_is (Some (called k place m i f)) [] = refl
  write_is (Some (called k place m i f)) (a ∷ ps) = given (written_asked j k i (length (a ∷ ps))) a ps

  -- ---- arms

  ends_arms : (es : List End) (arms : List Arm) (bodies : List Typing)
      → typing.arms_right j.setting.now.types.now (number_here j) (callees_here j) (tables_here j) (signs_here j) (in_hand es) arms bodies
      ≡ ((nat_eq (length arms) (length bodies) && all_end_right j arms es) && all_right bodies)
  ends_arms es [] [] = refl
  ends_arms es [] (b ∷ bodies) = none (length bodies) (all_right (b ∷ bodies))
    where
      none : (n : ℕ) (x : Bool) → false ≡ ((nat_eq 0 (suc n) && true) && x)
      none n x = sym (ap (λ c. (c && true) && x) (zero_suc n))
  ends_arms es (arm ∷ arms) [] = none (length arms) (all_end_right j (arm ∷ arms) es)
    where
      none : (n : ℕ) (x : Bool) → false ≡ ((nat_eq (suc n) 0 && x) && true)
      none n x = sym (ap (λ c. (c && x) && true) (more_0 n))
  ends_arms es (arm ∷ arms) (b ∷ bodies) =
      ap (λ x. here.ends_right j arm es && (b.right && x)) (ends_arms es arms bodies)
      ∙ arm_more (here.ends_right j arm es) b.right (nat_eq (length arms) (length bodies)) (all_end_right j arms es) (all_right bodies)
      ∙ ap (λ c. (c && all_end_right j (arm ∷ arms) es) && all_right (b ∷ bodies)) (sym (same_suc (length arms) (length bodies)))

  given_arms : (ts : List Sized) (arms : List Arm) (bodies : List Typing)
      → typing.arms_right j.setting.now.types.now (number_here j) (callees_here j) (tables_here j) (signs_here j) (arguments ts) arms bodies
      ≡ ((nat_eq (length arms) (length bodies) && all_given_right j arms ts) && all_right bodies)
  given_arms ts [] [] = refl
  given_arms ts [] (b ∷ bodies) = none (length bodies) (all_right (b ∷ bodies))
    where
      none : (n : ℕ) (x : Bool) → false ≡ ((nat_eq 0 (suc n) && true) && x)
      none n x = sym (ap (λ c. (c && true) && x) (zero_suc n))
  given_arms ts (arm ∷ arms) [] = none (length arms) (all_given_right j (arm ∷ arms) ts)
    where
      none : (n : ℕ) (x : Bool) → false ≡ ((nat_eq (suc n) 0 && x) && true)
      none n x = sym (ap (λ c. (c && x) && true) (more_0 n))
  given_arms ts (arm ∷ arms) (b ∷ bodies) =
      ap (λ x. here.arm_right j arm ts && (b.right && x)) (given_arms ts arms bodies)
      ∙ arm_more (here.arm_right j arm ts) b.right (nat_eq (length arms) (length bodies)) (all_given_right j arms ts) (all_right bodies)
      ∙ ap (λ c. (c && all_given_right j (arm ∷ arms) ts) && all_right (b ∷ bodies)) (sym (same_suc (length arms) (length bodies)))

  match_is : (arms : List Arm) (shape : Shape) (k : ℕ) (a : Typing) (bodies : List Typing) → Same (K.Match arms shape) k (a ∷ bodies)
  match_is arms shape k a bodies =
      ap (λ x. a.right && (x && met)) (ends_arms a.ends arms bodies)
      ∙ matched a.right (nat_eq (length arms) (length bodies)) (all_end_right j arms a.ends) (all_right bodies) met
      ∙ right (nat_le 1 (suc (length bodies))) (rest_of (K.Match arms shape) k (a ∷ bodies)) (some (length bodies))
    where
      met : Bool
      met = here.meet_right j (here.arms_types j bodies) (cases_at j k 1)

  try_is : (arms : List Arm) (shape : Shape) (k : ℕ) (a : Typing) (bodies : List Typing) → Same (K.Try arms shape) k (a ∷ bodies)
  try_is arms shape k a bodies =
      ap (λ x. a.right && (sourced && (thrown && (x && met)))) (ends_arms (caught_ends j k) arms bodies)
      ∙ caught a.right sourced thrown (nat_eq (length arms) (length bodies)) (all_end_right j arms (caught_ends j k)) (all_right bodies) met
      ∙ right (nat_le 1 (suc (length bodies))) (rest_of (K.Try arms shape) k (a ∷ bodies)) (some (length bodies))
    where
      sourced : Bool
      sourced = cases_typed j (here.is_sourced j (Some (signs_here j).exception)) (cases_at j k 0)

      thrown : Bool
      thrown = here.all_thrown j (caught_ends j k)

      met : Bool
      met = here.meet_right j (here.arms_types j (a ∷ bodies)) (cases_at j k 1)

  -- ---- calls

  row_is : (b : Bool) (row : Row) (cases : List Case) (ps : List Typing)
      → typing.row_right j.setting.now.types.now (number_here j) (callees_here j) (tables_here j) (signs_here j) b row cases ps
      ≡ (row_asked j b row cases ps && all_right ps)
  row_is true row cases ps = freed (not g-pure) (all_right ps) (here.state_right j row cases (here.operand_types j ps))
  row_is false row cases ps = swapped (all_right ps) (cases_typed j (here.is_work j (O.Builtin row) in_order) cases)

  call_is : (callee : Callee) (k : ℕ) (ps : List Typing) → Same (K.Call callee) k ps
  call_is (F.Function f) k ps = freed (not g-pure) (all_right ps) (here.leads_right j (cases_at j k (length ps)) ((tables_here j).leads k))
  call_is (F.Row row) k ps = row_is (has_state row) row (cases_at j k (length ps)) ps
  call_is (F.Constructor u c) k ps = swapped (all_right ps) (cases_typed j (here.is_constructed j u c) (cases_at j k (length ps)))
  call_is (F.Converts d) k ps = refl
  call_is (F.Applies d) k [] = refl
  call_is (F.Applies d) k (a ∷ []) = applied (not g-pure) (may_turn j d) a.right (turned_asked j d k (a ∷ []))
  call_is (F.Applies d) k (a ∷ b ∷ ps) =
      wrong (nat_eq (suc (suc (length ps))) 1 && (not g-pure && (may_turn j d && turned_asked j d k (a ∷ b ∷ ps)))) (all_right (a ∷ b ∷ ps))
      (sym (wrong (nat_eq (suc (suc (length ps))) 1) (not g-pure && (may_turn j d && turned_asked j d k (a ∷ b ∷ ps))) (more_1 (length ps))))

  -- ---- all kinds

  none_is : (kind : Kind) (k : ℕ) (a : Typing) (ps : List Typing) → count_fits kind (length (a ∷ ps)) ≡ nat_eq (suc (length ps)) 0
      → false ≡ kind_judged j kind k (a ∷ ps)
  none_is kind k a ps e = wrong (count_fits kind (length (a ∷ ps))) (rest_of kind k (a ∷ ps)) (e ∙ more_0 (length ps))

  pub right_is : (kind : Kind) (k : ℕ) (ps : List Typing) → Same kind k ps
  right_is (K.Constant literal) k [] = leaf (literal_asked j literal)
  right_is (K.Constant literal) k (a ∷ ps) = none_is (K.Constant literal) k a ps refl
  right_is (K.Local name) k [] = leaf (kind_asked j (K.Local name) k [])
  right_is (K.Local name) k (a ∷ ps) = none_is (K.Local name) k a ps refl
  right_is (K.TopLevel i) k [] = leaf (kind_asked j (K.TopLevel i) k [])
  right_is (K.TopLevel i) k (a ∷ ps) = none_is (K.TopLevel i) k a ps refl
  right_is (K.Register r) k [] = leaf (kind_asked j (K.Register r) k [])
  right_is (K.Register r) k (a ∷ ps) = none_is (K.Register r) k a ps refl
  right_is (K.SizeOf t numbers) k [] = leaf (kind_asked j (K.SizeOf t numbers) k [])
  right_is (K.SizeOf t numbers) k (a ∷ ps) = none_is (K.SizeOf t numbers) k a ps refl
  right_is (K.Constraint c numbers) k [] = leaf (kind_asked j (K.Constraint c numbers) k [])
  right_is (K.Constraint c numbers) k (a ∷ ps) = none_is (K.Constraint c numbers) k a ps refl
  right_is (K.Variable name) k [] = leaf (kind_asked j (K.Variable name) k [])
  right_is (K.Variable name) k (a ∷ ps) = none_is (K.Variable name) k a ps refl
  right_is (K.Call callee) k ps = call_is callee k ps
  right_is K.And k [] = refl
  right_is K.And k (a ∷ []) = refl
  right_is K.And k (a ∷ b ∷ []) = two_parts a.right b.right
  right_is K.And k (a ∷ b ∷ c ∷ ps) = wrong (nat_eq (suc (suc (suc (length ps)))) 2) (rest_of K.And k (a ∷ b ∷ c ∷ ps)) (more_2 (length ps))
  right_is K.Or k [] = refl
  right_is K.Or k (a ∷ []) = refl
  right_is K.Or k (a ∷ b ∷ []) = two_parts a.right b.right
  right_is K.Or k (a ∷ b ∷ c ∷ ps) = wrong (nat_eq (suc (suc (suc (length ps)))) 2) (rest_of K.Or k (a ∷ b ∷ c ∷ ps)) (more_2 (length ps))
  right_is (K.Cast written) k [] = refl
  right_is (K.Cast written) k (a ∷ []) = one_part a.right (kind_asked j (K.Cast written) k (a ∷ []))
  right_is (K.Cast written) k (a ∷ b ∷ ps) =
      wrong (nat_eq (suc (suc (length ps))) 1) (rest_of (K.Cast written) k (a ∷ b ∷ ps)) (more_1 (length ps))
  right_is K.Tuple k ps = swapped (all_right ps) (kind_asked j K.Tuple k ps)
  right_is (K.Vector shape) k ps = swapped (all_right ps) (kind_asked j (K.Vector shape) k ps)
  right_is (K.List shape) k ps = swapped (all_right ps) (kind_asked j (K.List shape) k ps)
  right_is (K.Cons shape) k ps = swapped (all_right ps) (kind_asked j (K.Cons shape) k ps)
  right_is (K.Struct struct fields) k ps = swapped (all_right ps) (kind_asked j (K.Struct struct fields) k ps)
  right_is (K.With struct []) k ps = refl
  right_is (K.With struct (i ∷ [])) k ps = swapped (all_right ps) (kind_asked j (K.With struct (i ∷ [])) k ps)
  right_is (K.With struct (i ∷ l ∷ is)) k ps = swapped (all_right ps) (kind_asked j (K.With struct (i ∷ l ∷ is)) k ps)
  right_is (K.Part ss) k [] = refl
  right_is (K.Part ss) k (a ∷ ps) = part_is ss k a ps
  right_is K.WithItem k [] = refl
  right_is K.WithItem k (a ∷ []) = refl
  right_is K.WithItem k (a ∷ b ∷ []) = refl
  right_is K.WithItem k (a ∷ b ∷ c ∷ []) = swapped (all_right (a ∷ b ∷ c ∷ [])) (kind_asked j K.WithItem k (a ∷ b ∷ c ∷ []))
  right_is K.WithItem k (a ∷ b ∷ c ∷ d ∷ ps) =
      wrong (nat_eq (suc (suc (suc (suc (length ps))))) 3) (rest_of K.WithItem k (a ∷ b ∷ c ∷ d ∷ ps)) (more_3 (length ps))
  right_is K.WithSlice k [] = refl
  right_is K.WithSlice k (a ∷ []) = refl
  right_is K.WithSlice k (a ∷ b ∷ []) = refl
  right_is K.WithSlice k (a ∷ b ∷ c ∷ []) = refl
  right_is K.WithSlice k (a ∷ b ∷ c ∷ d ∷ []) = swapped (all_right (a ∷ b ∷ c ∷ d ∷ [])) (kind_asked j K.WithSlice k (a ∷ b ∷ c ∷ d ∷ []))
  right_is K.WithSlice k (a ∷ b ∷ c ∷ d ∷ e ∷ ps) =
      wrong (nat_eq (suc (suc (suc (suc (suc (length ps)))))) 4) (rest_of K.WithSlice k (a ∷ b ∷ c ∷ d ∷ e ∷ ps)) (more_4 (length ps))
  right_is (K.Assign []) k ps = refl
  right_is (K.Assign (t ∷ [])) k ps =
      ap (λ b. not g-pure && b) (write_is (target_spot t) ps)
      ∙ grouped (not g-pure) (spot_asked j (target_spot t) ps) (all_right ps)
  right_is (K.Assign (t ∷ u ∷ ts)) k ps = refl
  right_is (K.Block statements) k ps = refl
  right_is (K.Let arm) k [] = refl
  right_is (K.Let arm) k (a ∷ []) = refl
  right_is (K.Let arm) k (a ∷ b ∷ []) = bound a.right (here.ends_right j arm a.ends) b.right
  right_is (K.Let arm) k (a ∷ b ∷ c ∷ ps) =
      wrong (nat_eq (suc (suc (suc (length ps)))) 2) (rest_of (K.Let arm) k (a ∷ b ∷ c ∷ ps)) (more_2 (length ps))
  right_is (K.Var name written) k [] = refl
  right_is (K.Var name written) k (a ∷ []) = refl
  right_is (K.Var name written) k (a ∷ b ∷ []) = bound a.right (here.kept_right j ((tables_here j).reads name) a.types) b.right
  right_is (K.Var name written) k (a ∷ b ∷ c ∷ ps) =
      wrong (nat_eq (suc (suc (suc (length ps)))) 2) (rest_of (K.Var name written) k (a ∷ b ∷ c ∷ ps)) (more_2 (length ps))
  right_is (K.If shape) k [] = refl
  right_is (K.If shape) k (a ∷ []) = refl
  right_is (K.If shape) k (a ∷ b ∷ []) = two_parts a.right b.right
  right_is (K.If shape) k (a ∷ b ∷ c ∷ []) =
      ap (λ ts. a.right && (b.right && (c.right && here.meet_right j (b.types ++ ts) (cases_at j k 1)))) (sym (behind_none c.types))
      ∙ both_branches a.right b.right c.right (here.meet_right j (here.arms_types j (b ∷ c ∷ [])) (cases_at j k 1))
  right_is (K.If shape) k (a ∷ b ∷ c ∷ d ∷ ps) =
      wrong (nat_eq (suc (suc (suc (suc (length ps))))) 2 || nat_eq (suc (suc (suc (suc (length ps))))) 3) (rest_of (K.If shape) k (a ∷ b ∷ c ∷ d ∷ ps))
      (neither (nat_eq (suc (suc (suc (suc (length ps))))) 2) (nat_eq (suc (suc (suc (suc (length ps))))) 3) (more_2 (suc (length ps))) (more_3 (length ps)))
    where
      neither : (x y : Bool) → x ≡ false → y ≡ false → (x || y) ≡ false
      neither x y e h = ap (λ z. z || y) e ∙ h
  right_is (K.Match arms shape) k [] = refl
  right_is (K.Match arms shape) k (a ∷ bodies) = match_is arms shape k a bodies
  right_is (K.Try arms shape) k [] = refl
  right_is (K.Try arms shape) k (a ∷ bodies) = try_is arms shape k a bodies
  right_is (K.Clauses arms) k ps = given_arms (callees_here j).given arms ps
  right_is K.When k [] = refl
  right_is K.When k (a ∷ []) = refl
  right_is K.When k (a ∷ b ∷ []) = two_parts a.right b.right
  right_is K.When k (a ∷ b ∷ c ∷ ps) = wrong (nat_eq (suc (suc (suc (length ps)))) 2) (rest_of K.When k (a ∷ b ∷ c ∷ ps)) (more_2 (length ps))
  right_is (K.Foreach name way) k [] = refl
  right_is (K.Foreach name way) k (a ∷ []) = refl
  right_is (K.Foreach name way) k (a ∷ b ∷ []) = refl
  right_is (K.Foreach name way) k (a ∷ b ∷ c ∷ []) = refl
  right_is (K.Foreach name way) k (a ∷ b ∷ c ∷ d ∷ []) = refl
  right_is (K.Foreach name way) k (a ∷ b ∷ c ∷ d ∷ e ∷ ps) =
      wrong (nat_eq (suc (suc (suc (suc (suc (length ps)))))) 4) (rest_of (K.Foreach name way) k (a ∷ b ∷ c ∷ d ∷ e ∷ ps)) (more_4 (length ps))
  right_is K.While k [] = refl
  right_is K.While k (a ∷ []) = refl
  right_is K.While k (a ∷ b ∷ []) = refl
  right_is K.While k (a ∷ b ∷ c ∷ []) = three_free (not g-pure) a.right b.right c.right
  right_is K.While k (a ∷ b ∷ c ∷ d ∷ ps) =
      wrong (nat_eq (suc (suc (suc (suc (length ps))))) 3) (rest_of K.While k (a ∷ b ∷ c ∷ d ∷ ps)) (more_3 (length ps))
  right_is K.Repeat k [] = refl
  right_is K.Repeat k (a ∷ []) = refl
  right_is K.Repeat k (a ∷ b ∷ []) = refl
  right_is K.Repeat k (a ∷ b ∷ c ∷ []) = three_free (not g-pure) a.right b.right c.right
  right_is K.Repeat k (a ∷ b ∷ c ∷ d ∷ ps) =
      wrong (nat_eq (suc (suc (suc (suc (length ps))))) 3) (rest_of K.Repeat k (a ∷ b ∷ c ∷ d ∷ ps)) (more_3 (length ps))
  right_is K.Return k [] = refl
  right_is K.Return k (a ∷ []) = one_part a.right (kind_asked j K.Return k (a ∷ []))
  right_is K.Return k (a ∷ b ∷ ps) = wrong (nat_eq (suc (suc (length ps))) 1) (rest_of K.Return k (a ∷ b ∷ ps)) (more_1 (length ps))
  right_is K.Throw k [] = refl
  right_is K.Throw k (a ∷ []) = one_part a.right (kind_asked j K.Throw k (a ∷ []))
  right_is K.Throw k (a ∷ b ∷ ps) = wrong (nat_eq (suc (suc (length ps))) 1) (rest_of K.Throw k (a ∷ b ∷ ps)) (more_1 (length ps))
  right_is K.Exit k [] = refl
  right_is K.Exit k (a ∷ []) = only_part a.right
  right_is K.Exit k (a ∷ b ∷ ps) = wrong (nat_eq (suc (suc (length ps))) 1) (rest_of K.Exit k (a ∷ b ∷ ps)) (more_1 (length ps))
  right_is (K.Assert text) k [] = refl
  right_is (K.Assert text) k (a ∷ []) = only_part a.right
  right_is (K.Assert text) k (a ∷ b ∷ ps) =
      wrong (nat_eq (suc (suc (length ps))) 1) (rest_of (K.Assert text) k (a ∷ b ∷ ps)) (more_1 (length ps))
  right_is (K.Optional t) k [] = refl
  right_is (K.Optional t) k (a ∷ []) = one_part a.right (kind_asked j (K.Optional t) k (a ∷ []))
  right_is (K.Optional t) k (a ∷ b ∷ ps) =
      wrong (nat_eq (suc (suc (length ps))) 1) (rest_of (K.Optional t) k (a ∷ b ∷ ps)) (more_1 (length ps))

  -- ---- types

  -- the types, where a kind has as many parts as it takes
  abbrev pub if_counted : Bool → List Sized → List Sized
  if_counted true ts = ts
  if_counted false ts = []

  abbrev Typed : Kind → ℕ → List Typing → Type 0
  Typed kind k ps = here.kind_types j k kind ps ≡ if_counted (count_fits kind (length ps)) (types_by j kind k ps)

  never : (b : Bool) → [] ≡ if_counted b []
  never true = refl
  never false = refl

  uncounted : (b : Bool) (ts : List Sized) → b ≡ false → [] ≡ if_counted b ts
  uncounted b ts e = sym (ap (λ c. if_counted c ts) e)

  counted : (b : Bool) (ts : List Sized) → b ≡ true → ts ≡ if_counted b ts
  counted b ts e = sym (ap (λ c. if_counted c ts) e)

  spots_are : (o : Option Spot) (ps : List Typing)
      → typing.spot_types j.setting.now.types.now (number_here j) (callees_here j) (tables_here j) (signs_here j) o ps ≡ spot_types j o (length ps)
  spots_are None ps = refl
  spots_are (Some (one c)) ps = refl
  spots_are (Some (several cs)) ps = refl
  spots_are (Some (called k place m i f)) ps = refl

  pub types_is : (kind : Kind) (k : ℕ) (ps : List Typing) → Typed kind k ps
  types_is (K.Constant literal) k [] = refl
  types_is (K.Constant literal) k (a ∷ ps) =
      uncounted (nat_eq (suc (length ps)) 0) (types_by j (K.Constant literal) k (a ∷ ps)) (more_0 (length ps))
  types_is (K.Local name) k [] = refl
  types_is (K.Local name) k (a ∷ ps) =
      uncounted (nat_eq (suc (length ps)) 0) (types_by j (K.Local name) k (a ∷ ps)) (more_0 (length ps))
  types_is (K.TopLevel i) k [] = refl
  types_is (K.TopLevel i) k (a ∷ ps) =
      uncounted (nat_eq (suc (length ps)) 0) (types_by j (K.TopLevel i) k (a ∷ ps)) (more_0 (length ps))
  types_is (K.Register r) k [] = refl
  types_is (K.Register r) k (a ∷ ps) =
      uncounted (nat_eq (suc (length ps)) 0) (types_by j (K.Register r) k (a ∷ ps)) (more_0 (length ps))
  types_is (K.SizeOf t numbers) k [] = refl
  types_is (K.SizeOf t numbers) k (a ∷ ps) =
      uncounted (nat_eq (suc (length ps)) 0) (types_by j (K.SizeOf t numbers) k (a ∷ ps)) (more_0 (length ps))
  types_is (K.Constraint co numbers) k [] = refl
  types_is (K.Constraint co numbers) k (a ∷ ps) =
      uncounted (nat_eq (suc (length ps)) 0) (types_by j (K.Constraint co numbers) k (a ∷ ps)) (more_0 (length ps))
  types_is (K.Cast written) k [] = refl
  types_is (K.Cast written) k (a ∷ []) = refl
  types_is (K.Cast written) k (a ∷ b ∷ ps) =
      uncounted (nat_eq (suc (suc (length ps))) 1) (types_by j (K.Cast written) k (a ∷ b ∷ ps)) (more_1 (length ps))
  types_is (K.Assert text) k [] = refl
  types_is (K.Assert text) k (a ∷ []) = refl
  types_is (K.Assert text) k (a ∷ b ∷ ps) =
      uncounted (nat_eq (suc (suc (length ps))) 1) (types_by j (K.Assert text) k (a ∷ b ∷ ps)) (more_1 (length ps))
  types_is (K.Optional t) k [] = refl
  types_is (K.Optional t) k (a ∷ []) = refl
  types_is (K.Optional t) k (a ∷ b ∷ ps) =
      uncounted (nat_eq (suc (suc (length ps))) 1) (types_by j (K.Optional t) k (a ∷ b ∷ ps)) (more_1 (length ps))
  types_is K.And k [] = refl
  types_is K.And k (a ∷ []) = refl
  types_is K.And k (a ∷ b ∷ []) = refl
  types_is K.And k (a ∷ b ∷ c ∷ ps) =
      uncounted (nat_eq (suc (suc (suc (length ps)))) 2) (types_by j K.And k (a ∷ b ∷ c ∷ ps)) (more_2 (length ps))
  types_is K.Or k [] = refl
  types_is K.Or k (a ∷ []) = refl
  types_is K.Or k (a ∷ b ∷ []) = refl
  types_is K.Or k (a ∷ b ∷ c ∷ ps) =
      uncounted (nat_eq (suc (suc (suc (length ps)))) 2) (types_by j K.Or k (a ∷ b ∷ c ∷ ps)) (more_2 (length ps))
  types_is (K.Let arm) k [] = refl
  types_is (K.Let arm) k (a ∷ []) = refl
  types_is (K.Let arm) k (a ∷ b ∷ []) = refl
  types_is (K.Let arm) k (a ∷ b ∷ c ∷ ps) =
      uncounted (nat_eq (suc (suc (suc (length ps)))) 2) (types_by j (K.Let arm) k (a ∷ b ∷ c ∷ ps)) (more_2 (length ps))
  types_is (K.Var name written) k [] = refl
  types_is (K.Var name written) k (a ∷ []) = refl
  types_is (K.Var name written) k (a ∷ b ∷ []) = refl
  types_is (K.Var name written) k (a ∷ b ∷ c ∷ ps) =
      uncounted (nat_eq (suc (suc (suc (length ps)))) 2) (types_by j (K.Var name written) k (a ∷ b ∷ c ∷ ps)) (more_2 (length ps))
  types_is K.When k [] = refl
  types_is K.When k (a ∷ []) = refl
  types_is K.When k (a ∷ b ∷ []) = refl
  types_is K.When k (a ∷ b ∷ c ∷ ps) =
      uncounted (nat_eq (suc (suc (suc (length ps)))) 2) (types_by j K.When k (a ∷ b ∷ c ∷ ps)) (more_2 (length ps))
  types_is K.WithItem k [] = refl
  types_is K.WithItem k (a ∷ []) = refl
  types_is K.WithItem k (a ∷ b ∷ []) = refl
  types_is K.WithItem k (a ∷ b ∷ c ∷ []) = refl
  types_is K.WithItem k (a ∷ b ∷ c ∷ d ∷ ps) =
      uncounted (nat_eq (suc (suc (suc (suc (length ps))))) 3) (types_by j K.WithItem k (a ∷ b ∷ c ∷ d ∷ ps)) (more_3 (length ps))
  types_is K.While k [] = refl
  types_is K.While k (a ∷ []) = refl
  types_is K.While k (a ∷ b ∷ []) = refl
  types_is K.While k (a ∷ b ∷ c ∷ []) = refl
  types_is K.While k (a ∷ b ∷ c ∷ d ∷ ps) =
      uncounted (nat_eq (suc (suc (suc (suc (length ps))))) 3) (types_by j K.While k (a ∷ b ∷ c ∷ d ∷ ps)) (more_3 (length ps))
  types_is K.Repeat k [] = refl
  types_is K.Repeat k (a ∷ []) = refl
  types_is K.Repeat k (a ∷ b ∷ []) = refl
  types_is K.Repeat k (a ∷ b ∷ c ∷ []) = refl
  types_is K.Repeat k (a ∷ b ∷ c ∷ d ∷ ps) =
      uncounted (nat_eq (suc (suc (suc (suc (length ps))))) 3) (types_by j K.Repeat k (a ∷ b ∷ c ∷ d ∷ ps)) (more_3 (length ps))
  types_is K.WithSlice k [] = refl
  types_is K.WithSlice k (a ∷ []) = refl
  types_is K.WithSlice k (a ∷ b ∷ []) = refl
  types_is K.WithSlice k (a ∷ b ∷ c ∷ []) = refl
  types_is K.WithSlice k (a ∷ b ∷ c ∷ d ∷ []) = refl
  types_is K.WithSlice k (a ∷ b ∷ c ∷ d ∷ e ∷ ps) =
      uncounted (nat_eq (suc (suc (suc (suc (suc (length ps)))))) 4) (types_by j K.WithSlice k (a ∷ b ∷ c ∷ d ∷ e ∷ ps)) (more_4 (length ps))
  types_is (K.Foreach name way) k [] = refl
  types_is (K.Foreach name way) k (a ∷ []) = refl
  types_is (K.Foreach name way) k (a ∷ b ∷ []) = refl
  types_is (K.Foreach name way) k (a ∷ b ∷ c ∷ []) = refl
  types_is (K.Foreach name way) k (a ∷ b ∷ c ∷ d ∷ []) = refl
  types_is (K.Foreach name way) k (a ∷ b ∷ c ∷ d ∷ e ∷ ps) =
      uncounted (nat_eq (suc (suc (suc (suc (suc (length ps)))))) 4) (types_by j (K.Foreach name way) k (a ∷ b ∷ c ∷ d ∷ e ∷ ps)) (more_4 (length ps))
  types_is K.Return k ps = never (count_fits K.Return (length ps))
  types_is K.Throw k ps = never (count_fits K.Throw (length ps))
  types_is K.Exit k ps = never (count_fits K.Exit (length ps))
  types_is (K.Variable name) k [] = refl
  types_is (K.Variable name) k (a ∷ ps) =
      uncounted (nat_eq (suc (length ps)) 0) (types_by j (K.Variable name) k (a ∷ ps)) (more_0 (length ps))
  types_is K.Tuple k ps = refl
  types_is (K.Vector shape) k ps = refl
  types_is (K.List shape) k ps = refl
  types_is (K.Cons shape) k ps = refl
  types_is (K.Struct struct fields) k ps = refl
  types_is (K.With struct []) k ps = refl
  types_is (K.With struct (i ∷ is)) k ps = refl
  types_is (K.Block statements) k ps = refl
  types_is (K.Clauses arms) k ps = refl
  types_is (K.Assign []) k ps = refl
  types_is (K.Assign (t ∷ u ∷ ts)) k ps = refl
  types_is (K.Call (F.Function f)) k ps = refl
  types_is (K.Call (F.Row row)) k ps = refl
  types_is (K.Call (F.Constructor u c)) k ps = refl
  types_is (K.Call (F.Converts d)) k ps = refl
  types_is (K.Call (F.Applies d)) k [] = refl
  types_is (K.Call (F.Applies d)) k (a ∷ []) = refl
  types_is (K.Call (F.Applies d)) k (a ∷ b ∷ ps) = refl
  types_is (K.Assign (t ∷ [])) k ps = spots_are (target_spot t) ps
  types_is (K.Part ss) k [] = refl
  types_is (K.Part ss) k (a ∷ ps) = counted (nat_le 1 (suc (length ps))) (types_by j (K.Part ss) k (a ∷ ps)) (some (length ps))
  types_is (K.Match arms shape) k [] = refl
  types_is (K.Match arms shape) k (a ∷ ps) = counted (nat_le 1 (suc (length ps))) (types_by j (K.Match arms shape) k (a ∷ ps)) (some (length ps))
  types_is (K.Try arms shape) k [] = refl
  types_is (K.Try arms shape) k (a ∷ ps) = counted (nat_le 1 (suc (length ps))) (types_by j (K.Try arms shape) k (a ∷ ps)) (some (length ps))
  types_is (K.If shape) k [] = refl
  types_is (K.If shape) k (a ∷ []) = refl
  types_is (K.If shape) k (a ∷ b ∷ []) = refl
  types_is (K.If shape) k (a ∷ b ∷ c ∷ []) = refl
  types_is (K.If shape) k (a ∷ b ∷ c ∷ d ∷ ps) =
      uncounted (nat_eq (suc (suc (suc (suc (length ps))))) 2 || nat_eq (suc (suc (suc (suc (length ps))))) 3) (types_by j (K.If shape) k (a ∷ b ∷ c ∷ d ∷ ps))
      (neither (nat_eq (suc (suc (suc (suc (length ps))))) 2) (nat_eq (suc (suc (suc (suc (length ps))))) 3) (more_2 (suc (length ps))) (more_3 (length ps)))
    where
      neither : (x y : Bool) → x ≡ false → y ≡ false → (x || y) ≡ false
      neither x y e h = ap (λ z. z || y) e ∙ h

  -- ---- of a node

  form : Core-F Typing → Typing
  form c = record {
    types = here.kind_types j c.number c.kind c.parts;
    ends = typing.kind_ends j.setting.now.types.now (number_here j) (callees_here j) (tables_here j) (signs_here j) c.number c.kind c.parts;
    right = here.kind_right j c.number c.kind c.parts;
  }

  pub node_right : (c : Core) → (typed j c).right ≡ kind_judged j (out-Core c).kind (out-Core c).number (all_here j (out-Core c).parts)
  unfolding form
  node_right c =
      ap (λ (t : Typing). t.right) (fold_out-Core Typing form c) ∙ right_is (out-Core c).kind (out-Core c).number (all_here j (out-Core c).parts)

  pub node_types : (c : Core) → (typed j c).types
      ≡ if_counted (count_fits (out-Core c).kind (length (all_here j (out-Core c).parts)))
      (types_by j (out-Core c).kind (out-Core c).number (all_here j (out-Core c).parts))
  unfolding form
  node_types c =
      ap (λ (t : Typing). t.types) (fold_out-Core Typing form c) ∙ types_is (out-Core c).kind (out-Core c).number (all_here j (out-Core c).parts)

  pub many_here : (cs : List Core) → length (all_here j cs) ≡ length cs
  many_here [] = refl
  many_here (c ∷ cs) = ap suc (many_here cs)

  pub others_here : (cs : List Core) → others (all_here j cs) ≡ all_here j (behind cs)
  others_here [] = refl
  others_here (c ∷ cs) = refl

-- ---- as rules

pub ruleset parts_here = (many_here, others_here)
