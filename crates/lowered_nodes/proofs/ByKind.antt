-- A node by its kind: it is put as one of the kind, and what is asked of that holds.
use Rattle.std.proofs.Common.{◌≡◌, ◌∙◌, ℕ, true, List, [], None}
use Rattle.std.specs.Prelude.{OnOk, Option, Result}
use Rattle.sail_types.specs.declared.numbers.Con.{Con}
use Rattle.sail_types.specs.declared.numbers.Num.{Num}
use Rattle.sail_types.specs.declared.shapes.Shape.{Shape}
use Rattle.sail_types.specs.declared.shapes.Shape.TheVariants as S
use Rattle.sail_core.specs.declared.patterns.Arm.{Arm}
use Rattle.sail_core.specs.declared.written.Written.{Written}
use Rattle.sail_core.specs.declared.written.WrittenNumber.{WrittenNumber}
use Rattle.sail_core.specs.declared.tree.Kind.TheVariants as K
use Rattle.sail_core.specs.declared.tree.Core.{Core, out-Core}
use Rattle.sail_core.specs.declared.tree.Kind.{Kind}
use Rattle.lowered_pieces.specs.declared.coding.Coding.{Coding}
use Rattle.lowered_pieces.specs.Forms.{Piece}
use Rattle.lowered_pieces.specs.Places.{Naming}
use Rattle.lowered_steps.specs.Setting.{kit_for, number_for, tables_for}
use Rattle.lowered_steps.specs.declared.setting.Setting.{Setting}
use Rattle.lowered_steps.specs.declared.stands.Stand.{Stand}
use Rattle.lowered_steps.specs.declared.tails.Tail.{Tail}
use Rattle.lowered_ends.specs.declared.around.Around.{Around}
use Rattle.lowered_nodes.specs.declared.walk.Walk.{Walk}
use Rattle.lowered_ends.specs.Around.{callees_of}
use Rattle.lowered_nodes.specs.Walk.{Puts, as_for, as_ok, node_ok, nodes_for, piece_at, pieces_for}
use Rattle.lowered_ends.proofs.Counts.{cast_alike, cast_same, if_alike, if_same, match_alike, match_same, size_alike, size_same, truth_alike, truth_same}
use Rattle.lowered_ends.proofs.Counts.{try_alike, try_same, var_alike, var_same, with_alike, with_same}
use Rattle.lowered_ends.proofs.Opened.{ok_is, piece_is}
use Rattle.lowered_nodes.proofs.Putting.{put_as}

module _ (walk : Walk) (node : Core) (kind : Kind) (is : (out-Core node).kind ≡ kind) where
  pub kind_put : {T E : Type 0} (r : Result T E) (a b : Coding) (stand : Stand) (tail : Tail)
      → OnOk r (Puts a b walk stand tail (λ name. as_for walk name kind node)) → OnOk r (Puts a b walk stand tail (λ name. piece_at walk name node))
  kind_put r a b stand tail h = put_as r a b walk stand tail _ _ (λ name. piece_is walk.setting.now walk.around.now name node kind is) h

  -- by a form that is the same
  pub form_put : {T E : Type 0} (r : Result T E) (a b : Coding) (stand : Stand) (tail : Tail) (p : Naming → Piece)
      → ((name : Naming) → p name ≡ as_for walk name kind node) → OnOk r (Puts a b walk stand tail p)
      → OnOk r (Puts a b walk stand tail (λ name. piece_at walk name node))
  form_put r a b stand tail p same h =
      put_as r a b walk stand tail _ _ (λ name. same name ∙ piece_is walk.setting.now walk.around.now name node kind is) h

  pub kind_ok : ((name : Naming) → node_ok walk name node ≡ true) → (name : Naming) → as_ok walk name kind node ≡ true
  kind_ok h name = ok_is walk.setting.now walk.around.now name node kind is ∙ h name

-- what of a kind doesn't matter to its code, nor to whether it is lowered
module _ (walk : Walk) (node : Core) where
  abbrev setting : Setting
  setting = walk.setting.now

  abbrev around : Around
  around = walk.around.now

  pub cast_kind : (w : Option Written) (name : Naming) → as_for walk name (K.Cast None) node ≡ as_for walk name (K.Cast w) node
  cast_kind w name =
      cast_same setting.types.now (kit_for setting name) (number_for setting) (callees_of setting around) (tables_for setting around.instances.now)
      (out-Core node).place (out-Core node).number None w (pieces_for walk name (out-Core node).parts)

  pub cast_kind_ok : (w : Option Written) (name : Naming) → as_ok walk name (K.Cast None) node ≡ as_ok walk name (K.Cast w) node
  cast_kind_ok w name =
      cast_alike setting.types.now (callees_of setting around) (tables_for setting around.instances.now) (out-Core node).number None w (nodes_for walk name
      (out-Core node).parts)

  pub size_kind : (t : Num) (us : List WrittenNumber) (name : Naming) → as_for walk name (K.SizeOf t []) node ≡ as_for walk name (K.SizeOf t us) node
  size_kind t us name =
      size_same setting.types.now (kit_for setting name) (number_for setting) (callees_of setting around) (tables_for setting around.instances.now)
      (out-Core node).place (out-Core node).number t [] us (pieces_for walk name (out-Core node).parts)

  pub size_kind_ok : (t : Num) (us : List WrittenNumber) (name : Naming) → as_ok walk name (K.SizeOf t []) node ≡ as_ok walk name (K.SizeOf t us) node
  size_kind_ok t us name =
      size_alike setting.types.now (callees_of setting around) (tables_for setting around.instances.now) (out-Core node).number t [] us
      (nodes_for walk name (out-Core node).parts)

  pub truth_kind : (t : Con) (us : List WrittenNumber) (name : Naming) → as_for walk name (K.Constraint t []) node ≡ as_for walk name (K.Constraint t us) node
  truth_kind t us name =
      truth_same setting.types.now (kit_for setting name) (number_for setting) (callees_of setting around) (tables_for setting around.instances.now)
      (out-Core node).place (out-Core node).number t [] us (pieces_for walk name (out-Core node).parts)

  pub truth_kind_ok : (t : Con) (us : List WrittenNumber) (name : Naming) → as_ok walk name (K.Constraint t []) node ≡ as_ok walk name (K.Constraint t us) node
  truth_kind_ok t us name =
      truth_alike setting.types.now (callees_of setting around) (tables_for setting around.instances.now) (out-Core node).number t [] us
      (nodes_for walk name (out-Core node).parts)

  pub var_kind : (text : List ℕ) (w : Option Written) (name : Naming) → as_for walk name (K.Var text None) node ≡ as_for walk name (K.Var text w) node
  var_kind text w name =
      var_same setting.types.now (kit_for setting name) (number_for setting) (callees_of setting around) (tables_for setting around.instances.now)
      (out-Core node).place (out-Core node).number text None w (pieces_for walk name (out-Core node).parts)

  pub var_kind_ok : (text : List ℕ) (w : Option Written) (name : Naming) → as_ok walk name (K.Var text None) node ≡ as_ok walk name (K.Var text w) node
  var_kind_ok text w name =
      var_alike setting.types.now (callees_of setting around) (tables_for setting around.instances.now) (out-Core node).number text None w
      (nodes_for walk name (out-Core node).parts)

  pub if_kind : (shape : Shape) (name : Naming) → as_for walk name (K.If S.Unit) node ≡ as_for walk name (K.If shape) node
  if_kind shape name =
      if_same setting.types.now (kit_for setting name) (number_for setting) (callees_of setting around) (tables_for setting around.instances.now)
      (out-Core node).place (out-Core node).number S.Unit shape (pieces_for walk name (out-Core node).parts)

  pub if_kind_ok : (shape : Shape) (name : Naming) → as_ok walk name (K.If S.Unit) node ≡ as_ok walk name (K.If shape) node
  if_kind_ok shape name =
      if_alike setting.types.now (callees_of setting around) (tables_for setting around.instances.now) (out-Core node).number S.Unit shape
      (nodes_for walk name (out-Core node).parts)

  pub match_kind : (arms : List Arm) (shape : Shape) (name : Naming) → as_for walk name (K.Match arms S.Unit) node ≡ as_for walk name (K.Match arms shape) node
  match_kind arms shape name =
      match_same setting.types.now (kit_for setting name) (number_for setting) (callees_of setting around) (tables_for setting around.instances.now)
      (out-Core node).place (out-Core node).number arms S.Unit shape (pieces_for walk name (out-Core node).parts)

  pub match_kind_ok : (arms : List Arm) (shape : Shape) (name : Naming) → as_ok walk name (K.Match arms S.Unit) node ≡ as_ok walk name (K.Match arms shape) node
  match_kind_ok arms shape name =
      match_alike setting.types.now (callees_of setting around) (tables_for setting around.instances.now) (out-Core node).number arms S.Unit shape
      (nodes_for walk name (out-Core node).parts)

  pub try_kind : (arms : List Arm) (shape : Shape) (name : Naming) → as_for walk name (K.Try arms S.Unit) node ≡ as_for walk name (K.Try arms shape) node
  try_kind arms shape name =
      try_same setting.types.now (kit_for setting name) (number_for setting) (callees_of setting around) (tables_for setting around.instances.now)
      (out-Core node).place (out-Core node).number arms S.Unit shape (pieces_for walk name (out-Core node).parts)

  pub try_kind_ok : (arms : List Arm) (shape : Shape) (name : Naming) → as_ok walk name (K.Try arms S.Unit) node ≡ as_ok walk name (K.Try arms shape) node
  try_kind_ok arms shape name =
      try_alike setting.types.now (callees_of setting around) (tables_for setting around.instances.now) (out-Core node).number arms S.Unit shape
      (nodes_for walk name (out-Core node).parts)

  pub with_kind : (u : ℕ) (fields : List ℕ) (name : Naming) → as_for walk name (K.With 0 fields) node ≡ as_for walk name (K.With u fields) node
  with_kind u fields name =
      with_same setting.types.now (kit_for setting name) (number_for setting) (callees_of setting around) (tables_for setting around.instances.now)
      (out-Core node).place (out-Core node).number 0 u fields (pieces_for walk name (out-Core node).parts)

  pub with_kind_ok : (u : ℕ) (fields : List ℕ) (name : Naming) → as_ok walk name (K.With 0 fields) node ≡ as_ok walk name (K.With u fields) node
  with_kind_ok u fields name =
      with_alike setting.types.now (callees_of setting around) (tables_for setting around.instances.now) (out-Core node).number 0 u fields
      (nodes_for walk name (out-Core node).parts)
