-- Which types have numbers, what is said by cases, and what is assigned to.
use Rattle.std.proofs.Common.{◌≡◌, ◌∙◌, ℕ, zero, suc, ◌≤◌, ◌<◌, nat_eq, nat_lt, Bool, true, false, ◌&&◌, List, [], ◌∷◌, length, map, refl, sym, ap, arith}
use Rattle.std.proofs.lemmas.Bool.{eq-eqb, ne_eqb}
use Rattle.std.specs.Prelude.{◌||◌, if◌then◌else◌, None, Some}
use Rattle.sail_types.specs.declared.rows.Row.{Row}
use Rattle.row_types.specs.Calls.{has_state}
use Rattle.size_values.specs.declared.sized.Sized.{Sized, Sized-F, out-Sized, roll-Sized}
use Rattle.size_values.specs.declared.sized.Sized.TheOpen as Z
use Rattle.size_values.specs.declared.sized.Sized.TheVariants as S
use Rattle.size_values.specs.declared.sized.Sized.TheViews.{out-roll-Sized, roll-out-Sized}
use Rattle.sail_core.specs.declared.patterns.Literal.{Literal}
use Rattle.sail_core.specs.declared.targets.Target.{Target}
use Rattle.sail_core.specs.declared.tree.Callee.TheVariants as F
use Rattle.sail_core.specs.declared.tree.Core.{Core, out-Core}
use Rattle.sail_core.specs.declared.tree.Kind.TheVariants as K
use Rattle.size_values.specs.declared.constants.Picked.{Picked}
use Rattle.sized_nodes.specs.declared.trees.Case.{Case}
use Rattle.lowered_types.specs.Table.{form_never, is_known, type_in}
use Rattle.lowered_pieces.specs.Forms.{Piece, cases_ends, has_ends, one_end}
use Rattle.lowered_pieces.specs.Gathered.{is_one}
use Rattle.lowered_pieces.specs.Places.{Naming}
use Rattle.lowered_pieces.specs.Lowering.{row_lowered}
use Rattle.lowered_pieces.specs.Mapped.{all_end, ends_if, fixed_end, if_fixed}
use Rattle.lowered_pieces.specs.Nodes.{cases_at}
use Rattle.lowered_pieces.specs.Writes.{spot_lowered, target_spot}
use Rattle.lowered_steps.specs.declared.setting.Setting.{Setting}
use Rattle.lowered_ends.specs.declared.around.Around.{Around}
use Rattle.lowered_steps.specs.Setting.{nodes_in, tables_for}
use Rattle.lowered_ends.specs.Able.{all_for, all_one_for}
use Rattle.lowered_ends.specs.Ends.{end_where}
use Rattle.lowered_ends.specs.Around.{node_for}
use Rattle.lowered_ends.proofs.Opened.{many_nodes, ok_with}

pub never_known : (ss : List Sized) (t : Sized) → t ≡ S.Never → true ≡ is_known ss t
never_known ss t is =
    ap (λ (z : Sized-F Sized). form_never z || nat_lt (type_in ss S.Never) (length ss)) (sym (ap out-Sized (sym S.rolls-Never) ∙ out-roll-Sized Z.Never))
    ∙ ap (λ (u : Sized). is_known ss u) (sym is)

pub else_known : (ss : List Sized) (t : Sized) → (t ≡ S.Never → ⊥) → (n : ℕ) → n ≡ type_in ss t → nat_lt n (length ss) ≡ is_known ss t
else_known ss t other n is =
    ap (λ k. nat_lt k (length ss)) is ∙ ap (λ (b : Bool). b || nat_lt (type_in ss t) (length ss)) (sym (by (out-Sized t) refl))
  where
    by : (z : Sized-F Sized) → out-Sized t ≡ z → form_never z ≡ false
    by Z.Never e = absurd (other (sym (roll-out-Sized t) ∙ ap roll-Sized e ∙ S.rolls-Never))
    by z e = refl

-- ---- cases and what is said by them

pub some_ends : (cs : List Case) → 1 ≤ length cs → true ≡ has_ends (cases_ends cs)
some_ends [] some = absurd (omega (arith, some))
some_ends (c ∷ cs) some = refl

pub one_ends : (cs : List Case) → 1 ≤ length cs → length cs < 2 → true ≡ is_one (cases_ends cs)
one_ends [] some few = absurd (omega (arith, some))
one_ends (c ∷ []) some few = refl
one_ends (c ∷ d ∷ cs) some few = absurd (omega (arith, few))

pub many_ends : (cs : List Case) → 2 ≤ length cs → false ≡ is_one (cases_ends cs)
many_ends [] some = absurd (omega (arith, some))
many_ends (c ∷ []) some = absurd (omega (arith, some))
many_ends (c ∷ d ∷ cs) some = refl

-- one type, whatever the numbers are
if_none : (ps : List Picked) (t : Sized) → 1 ≤ length ps → None ≡ if_fixed ps t
if_none [] t some = absurd (omega (arith, some))
if_none (p ∷ ps) t some = refl

pub fixed_one : (cs : List Case) (c : Case) → cs ≡ c ∷ [] → c.picked ≡ [] → Some c.gives ≡ fixed_end (cases_ends cs)
fixed_one cs c one none =
    ap (λ (ps : List Picked). if_fixed ps c.gives) (sym none) ∙ ap (λ (ds : List Case). fixed_end (cases_ends ds)) (sym one)

pub fixed_picked : (cs : List Case) (c : Case) → cs ≡ c ∷ [] → 1 ≤ length c.picked → None ≡ fixed_end (cases_ends cs)
fixed_picked cs c one some = if_none c.picked c.gives some ∙ ap (λ (ds : List Case). fixed_end (cases_ends ds)) (sym one)

pub fixed_many : (cs : List Case) → 2 ≤ length cs → None ≡ fixed_end (cases_ends cs)
fixed_many [] some = absurd (omega (arith, some))
fixed_many (c ∷ []) some = absurd (omega (arith, some))
fixed_many (c ∷ d ∷ cs) some = refl

-- a type that is said of all
pub end_same : (t : Sized) (ps : List Piece) → end_where t (all_end t ps) ≡ ends_if (Some t) ps
end_same t ps = by (all_end t ps)
  where
    by : (b : Bool) → end_where t b ≡ (if b then one_end t else [])
    by true = refl
    by false = refl

-- ---- counts of parts

pub same_nat : (n : ℕ) → nat_eq n n ≡ true
same_nat n = eq-eqb n n refl

pub no_zero : (n : ℕ) (b : Bool) → 1 ≤ n → false ≡ (nat_eq n 0 && b)
no_zero zero b some = absurd (omega (arith, some))
no_zero (suc n) b some = ap (λ c. c && b) (sym (ne_eqb (suc n) 0 (λ e. omega (arith, e))))

module _ (setting : Setting) (around : Around) (name : Naming) (node : Core) where
  pub constant_short : (literal : Literal) (cs : List Core) → 1 ≤ length cs → false ≡ ok_with setting around name (K.Constant literal) node cs
  constant_short literal [] some = absurd (omega (arith, some))
  constant_short literal (c ∷ cs) some = refl

  -- a builtin, of the state and not
  ones : (cs : List Case) → is_one (cases_ends cs) ≡ is_one cs
  ones [] = refl
  ones (c ∷ []) = refl
  ones (c ∷ d ∷ cs) = refl

  abbrev row_at : Bool → List Core → Bool
  row_at b ds =
      row_lowered b (cases_at (out-Core node).number (length (map (node_for setting around name) ds)) (nodes_in setting))
      (map (node_for setting around name) ds)

  pub row_true : (row : Row) → has_state row ≡ true → (ds : List Core)
      → (is_one (cases_ends (cases_at (out-Core node).number (length ds)
      (nodes_in setting))) && (all_one_for setting around name ds && all_for setting around name ds))
      ≡ ok_with setting around name (K.Call (F.Row row)) node ds
  row_true row state ds =
      ap (λ (b : Bool). b && (all_one_for setting around name ds && all_for setting around name ds))
      (ones (cases_at (out-Core node).number (length ds) (nodes_in setting))
      ∙ ap (λ n. is_one (cases_at (out-Core node).number n (nodes_in setting))) (sym (many_nodes (node_for setting around name) ds)))
      ∙ ap (λ (b : Bool). row_at b ds) (sym state)

  pub row_false : (row : Row) → has_state row ≡ false → (ds : List Core) → all_for setting around name ds
      ≡ ok_with setting around name (K.Call (F.Row row)) node ds
  row_false row state ds = ap (λ (b : Bool). row_at b ds) (sym state)

  -- one target
  pub assign_none : (ts : List Target) (cs : List Core) → ts ≡ [] → false ≡ ok_with setting around name (K.Assign ts) node cs
  assign_none ts cs none = ap (λ (us : List Target). ok_with setting around name (K.Assign us) node cs) (sym none)

  pub assign_many : (ts : List Target) (cs : List Core) → 2 ≤ length ts → false ≡ ok_with setting around name (K.Assign ts) node cs
  assign_many [] cs some = absurd (omega (arith, some))
  assign_many (t ∷ []) cs some = absurd (omega (arith, some))
  assign_many (t ∷ u ∷ ts) cs some = refl

  pub assign_one : (ts : List Target) (t : Target) (cs : List Core) → ts ≡ t ∷ [] → (spot_lowered setting.types.now (tables_for setting around.instances.now)
      (target_spot t) (length cs) && all_for setting around name cs) ≡ ok_with setting around name (K.Assign ts) node cs
  assign_one ts t cs one =
      ap (λ n. spot_lowered setting.types.now (tables_for setting around.instances.now) (target_spot t) n && all_for setting around name cs)
      (sym (many_nodes (node_for setting around name) cs))
      ∙ ap (λ (us : List Target). ok_with setting around name (K.Assign us) node cs) (sym one)
