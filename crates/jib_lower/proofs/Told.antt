-- What code is made by, once the types at which its variables are read are told.
use Rattle.std.proofs.Common.{◌≡◌, ◌∙◌, ℤ, List, [], Option, ap, refl}
use Rattle.std.specs.Borrow.{Bor}
use Rattle.sail_core.specs.declared.tree.Core.{Core}
use Rattle.sail_core.specs.declared.model.Function.{Function}
use Rattle.sized_nodes.specs.declared.trees.NodeSizes.{NodeSizes}
use Rattle.lowered_steps.specs.declared.setting.Mapped.{Mapped}
use Rattle.lowered_steps.specs.declared.setting.Reads.{Reads}
use Rattle.lowered_steps.specs.declared.setting.Setting.{Setting}
use Rattle.jib_lower.specs.declared.instances.Model.{Model}
use Rattle.jib_lower.specs.Instances.{SettingOf}
use Rattle.jib_lower.specs.Reads.{function_reads, tree_reads}

module _ (model : Model) (plain : Setting) (told : Bor (List Reads)) where
  -- by the value of an opening, which asks no direction
  pub tree_told : (c : Core) (bodies : List (List NodeSizes)) (reads : List Reads) → told.now ≡ reads → reads ≡ tree_reads plain.bodies.now c
      → SettingOf model bodies [] [] [] plain → SettingOf model bodies [] (tree_reads bodies c) [] (record plain { reads = told })
  tree_told c bodies reads r t p = record {
    types = p.types;
    numbered = p.numbered;
    bodies_are = p.bodies_are;
    numbers_are = p.numbers_are;
    reads_are = r ∙ t ∙ ap (λ x. tree_reads x c) p.bodies_are;
    directions_are = p.directions_are;
    nothing = p.nothing;
    truths = p.truths;
    unit = p.unit;
    truth = p.truth;
    integer = p.integer;
    exception = p.exception;
  }

  module _ (ways : Bor (List Mapped)) where
    asking_by : (bs bodies : List (List NodeSizes)) (ns numbers : List (Option ℤ)) (reads : List Reads) → bs ≡ bodies → ns ≡ numbers → told.now ≡ reads
        → SettingOf model bs ns [] [] plain → SettingOf model bodies numbers reads ways.now (record plain { reads = told; directions = ways })
    asking_by bs bodies ns numbers reads b n r p = record {
      types = p.types;
      numbered = p.numbered;
      bodies_are = p.bodies_are ∙ b;
      numbers_are = p.numbers_are ∙ n;
      reads_are = r;
      directions_are = refl;
      nothing = p.nothing;
      truths = p.truths;
      unit = p.unit;
      truth = p.truth;
      integer = p.integer;
      exception = p.exception;
    }

    -- by a function
    pub setting_told : (f : Function) (bs bodies : List (List NodeSizes)) (ns numbers : List (Option ℤ)) (reads : List Reads) → bs ≡ bodies → ns ≡ numbers
        → told.now ≡ reads → reads ≡ function_reads plain.bodies.now f → SettingOf model bs ns [] [] plain
        → SettingOf model bodies numbers (function_reads bodies f) ways.now (record plain { reads = told; directions = ways })
    setting_told f bs bodies ns numbers reads b n r t p =
        asking_by bs bodies ns numbers (function_reads bodies f) b n (r ∙ t ∙ ap (λ x. function_reads x f) (p.bodies_are ∙ b)) p

    -- by the body of a direction
    pub way_told : (c : Core) (bodies : List (List NodeSizes)) (reads : List Reads) → told.now ≡ reads → reads ≡ tree_reads plain.bodies.now c
        → SettingOf model bodies [] [] [] plain
        → SettingOf model bodies [] (tree_reads bodies c) ways.now (record plain { reads = told; directions = ways })
    way_told c bodies reads r t p =
        asking_by bodies bodies [] [] (tree_reads bodies c) refl refl (r ∙ t ∙ ap (λ x. tree_reads x c) p.bodies_are) p
