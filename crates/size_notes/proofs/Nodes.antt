-- Nodes of a tree, with the sizes that are written in it.
use Rattle.std.proofs.Common.{◌≡◌, ◌++◌, ◌∙◌, ◌<◌, ◌≤◌, ap, sym, List, [], ◌∷◌, map, length, get_or, append-nil, arith, Result, Ok, Err}
use Rattle.std.specs.Prelude.{OnOk}
use Rattle.sail_types.specs.declared.numbers.Index.{Index}
use Rattle.sail_core.specs.declared.tree.Core.{Core, out-Core, fold-roll-Core}
use Rattle.sail_core.specs.declared.tree.Core.TheViews.{roll-out-Core}
use Rattle.size_notes.specs.declared.written.WrittenSize.{WrittenSize}
use Rattle.size_notes.specs.declared.behind.Behind.{Behind}
use Rattle.size_notes.specs.Behind.{Node, node_of, node_form, all_behind, behind_first}

node_number : (is : List Index) (c : Core) → Node.number (node_of is c) ≡ (out-Core c).number
node_number is c =
    ap (λ (d : Core). Node.number (node_of is d)) (sym (roll-out-Core c))
    ∙ ap (λ (a : Node). a.number) (fold-roll-Core Node (node_form is) (out-Core c))

pub first_behind : {A E : Type 0} (r : Result A E) (is : List Index) (c : Core) (cs : List Core) (made new : List Behind) (sizes : List WrittenSize)
    → 1 ≤ length cs → c ≡ get_or cs 0 c → OnOk r (new ≡ made ++ all_behind (out-Core c).number sizes)
    → OnOk r (new ≡ made ++ behind_first sizes (map (node_of is) cs))
first_behind (Ok x) is c [] made new sizes some at h = absurd (omega arith)
first_behind (Ok x) is c (d ∷ cs) made new sizes some at h =
    h ∙ ap (λ k. made ++ all_behind k sizes) (ap (λ (e : Core). (out-Core e).number) at ∙ sym (node_number is d))
first_behind (Err e) is c cs made new sizes some at h = tt

pub none_behind : (is : List Index) (cs : List Core) (made : List Behind) (sizes : List WrittenSize) → length cs < 1
    → made ≡ made ++ behind_first sizes (map (node_of is) cs)
none_behind is [] made sizes none = sym (append-nil made)
none_behind is (c ∷ cs) made sizes none = absurd (omega arith)
