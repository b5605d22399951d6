-- A node by its kind and its parts.
use Rattle.std.proofs.Common.{◌≡◌, ◌∙◌, ◌≤◌, ℕ, suc, Bool, true, List, [], ◌∷◌, map, length, sym, ap, refl, arith}
use Rattle.sail_core.specs.declared.tree.Core.{Core, Core-F, fold_out-Core, out-Core}
use Rattle.sail_core.specs.declared.tree.Kind.{Kind}
use Rattle.lowered_pieces.specs.Forms.{Piece}
use Rattle.lowered_pieces.specs.Lowering.{Node, kind_lowered, kind_piece, pieces_of}
use Rattle.lowered_pieces.specs.Places.{Naming}
use Rattle.lowered_steps.specs.declared.setting.Setting.{Setting}
use Rattle.lowered_steps.specs.Setting.{kit_for, number_for, tables_for}
use Rattle.lowered_ends.specs.declared.around.Around.{Around}
use Rattle.lowered_ends.specs.Around.{callees_of, node_for, ok_as, piece_as, piece_for}

-- as many nodes as trees
pub many_nodes : {A B : Type 0} (f : A → B) (cs : List A) → length (map f cs) ≡ length cs
many_nodes f [] = refl
many_nodes f (c ∷ cs) = ap (λ n. suc n) (many_nodes f cs)

-- so many parts as nodes
pub so_many : {A B : Type 0} (f : A → B) (ps cs : List A) (n : ℕ) → ps ≡ cs → length (map f cs) ≡ n → length ps ≡ n
so_many {A} f ps cs n same is = ap (λ (us : List A). length us) same ∙ sym (many_nodes f cs) ∙ is

pub so_most : {A B : Type 0} (f : A → B) (ps cs : List A) (n : ℕ) → ps ≡ cs → length (map f cs) ≤ n → length ps ≤ n
so_most f ps cs n same most = let e = so_many f ps cs (length (map f cs)) same refl in omega (arith, e, most)

pub so_some : {A B : Type 0} (f : A → B) (ps cs : List A) (n : ℕ) → ps ≡ cs → n ≤ length (map f cs) → n ≤ length ps
so_some f ps cs n same some = let e = so_many f ps cs (length (map f cs)) same refl in omega (arith, e, some)

module _ (setting : Setting) (around : Around) (name : Naming) where
  opens : (c : Core) → node_for setting around name c
      ≡ record { piece = piece_as setting around name (out-Core c).kind c; ok = ok_as setting around name (out-Core c).kind c }
  opens c =
      fold_out-Core Node (λ (x : Core-F Node). record {
        piece = kind_piece setting.types.now (kit_for setting name) (number_for setting) (callees_of setting around) (tables_for setting around.instances.now)
            x.place x.number x.kind (pieces_of x.parts);
        ok = kind_lowered setting.types.now (callees_of setting around) (tables_for setting around.instances.now) x.number x.kind x.parts;
      }) c

  pub piece_is : (c : Core) (kind : Kind) → (out-Core c).kind ≡ kind → piece_as setting around name kind c ≡ piece_for setting around name c
  piece_is c kind is = sym (ap (λ (n : Node). n.piece) (opens c) ∙ ap (λ (k : Kind). piece_as setting around name k c) is)

  pub ok_is : (c : Core) (kind : Kind) → (out-Core c).kind ≡ kind → ok_as setting around name kind c ≡ (node_for setting around name c).ok
  ok_is c kind is = sym (ap (λ (n : Node). n.ok) (opens c) ∙ ap (λ (k : Kind). ok_as setting around name k c) is)

  -- with these parts
  abbrev pub piece_with : Kind → Core → List Core → Piece
  piece_with kind c cs =
      kind_piece setting.types.now (kit_for setting name) (number_for setting) (callees_of setting around) (tables_for setting around.instances.now)
      (out-Core c).place (out-Core c).number kind (pieces_of (map (node_for setting around name) cs))

  abbrev pub ok_with : Kind → Core → List Core → Bool
  ok_with kind c cs =
      kind_lowered setting.types.now (callees_of setting around) (tables_for setting around.instances.now) (out-Core c).number kind
      (map (node_for setting around name) cs)

  pub with_is : (kind : Kind) (c : Core) (ps cs : List Core) → ps ≡ (out-Core c).parts → ps ≡ cs → piece_with kind c cs ≡ piece_as setting around name kind c
  with_is kind c ps cs is same = ap (λ (xs : List Core). piece_with kind c xs) (sym same ∙ is)

  pub lowered_with : (kind : Kind) (c : Core) (ps cs : List Core) → ps ≡ (out-Core c).parts → ps ≡ cs → ok_as setting around name kind c ≡ true
      → ok_with kind c cs ≡ true
  lowered_with kind c ps cs is same h = ap (λ (xs : List Core). ok_with kind c xs) (sym same ∙ is) ∙ h
