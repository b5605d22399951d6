use Rattle.std.proofs.Common.{◌≡◌, ◌∙◌, ◌-◌, ◌&&◌, ℕ, true, false, List, [], ◌∷◌, length, refl, arith}
use Rattle.std.proofs.lemmas.Bool.{and_parts, false≢true}
use Rattle.value_indices.specs.declared.indices.Indices.{Indices}
use Rattle.size_values.specs.declared.sized.Sized.{Sized}
use Rattle.sized_nodes.specs.declared.trees.Case.{Case}
use Rattle.sized_meanings.specs.Present.{gives_at}
use Rattle.lowered_pieces.specs.Places.{Kit}
use Rattle.lowered_pieces.specs.Forms.{made_piece, variable_make, variable_piece}
use Rattle.lowered_pieces.specs.Lowering.{Node, no_parts, variable_lowered}
use Rattle.lowered_pieces.specs.Tables.{cases_among}
use Rattle.lowered_pieces.specs.Nodes.{cases_at}
use Rattle.lowered_pieces.specs.Writes.{is_read}
use Rattle.lowered_ends.proofs.Lists.{none_of}
use Rattle.lowered_ends.proofs.Opened.{so_many, with_is}
use Rattle.lowered_nodes.proofs.Putting.{put_as}
use Rattle.lowered_ends.specs.Around.{node_for}
use Rattle.lowered_pieces.specs.Places.{Naming}
use Rattle.lowered_steps.specs.Setting.{kit_for, nodes_in, number_for, reads_at}
use Rattle.sail_core.specs.declared.tree.Core.{out-Core}
use Rattle.sail_core.specs.declared.tree.Giver.TheVariants as G
use Rattle.sail_core.specs.declared.tree.Kind.TheVariants as K
use Rattle.lowered_nodes.proofs.leaves.put_variable.Goals as goal

-- where a variable is read at all
read_made : (kit : Kit) (number : Sized → ℕ) (us : List Sized) (text : List ℕ) (cases : List Case) (gives : List Indices) → is_read us ≡ true
    → made_piece kit number (variable_make kit number text) cases gives ≡ variable_piece kit number us text cases gives
read_made kit number [] text cases gives h = absurd (false≢true h)
read_made kit number (u ∷ us) text cases gives h = refl

is_there : (us : List Sized) (cases : List Case) (ns : List Node) → variable_lowered us cases ns ≡ true → is_read us ≡ true
is_there us cases ns h = (and_parts (is_read us) (no_parts ns && cases_among us cases) h).0

no_more : (us : List Sized) (cases : List Case) (ns : List Node) → variable_lowered us cases ns ≡ true → length ns ≡ 0
no_more us cases [] h = refl
no_more us cases (n ∷ ns) h = absurd (false≢true (and_parts (is_read us) (no_parts (n ∷ ns) && cases_among us cases) h).1)

pub returns-in-empty : goal.returns-in-empty
returns-in-empty c =
    let walk = c.args.walk.now in let setting = walk.setting.now in let around = walk.around.now in let node = c.args.node.now in let here : Naming = λ
    place typ. 0 in let k = (out-Core node).number in put_as c.put_made.result _ _ walk c.args.stand.now c.args.tail.now _ _
    (λ name. read_made (kit_for setting name) (number_for setting) (reads_at setting.reads.now c.args.name.now) c.args.name.now
    (cases_at k 0 (nodes_in setting)) (gives_at (nodes_in setting) (G.Node k))
    (is_there (reads_at setting.reads.now c.args.name.now) (cases_at k 0 (nodes_in setting)) _ (c.requires here))
    ∙ with_is setting around name (K.Variable c.args.name.now) node _ _ c.as_slice.ensures (none_of _ c.in-empty.len_below)) c.put_made.ensures

pub returns-in_default : goal.returns-in_default
returns-in_default c =
    let walk = c.args.walk.now in let setting = walk.setting.now in let around = walk.around.now in let node = c.args.node.now in let here : Naming = λ
    place typ. 0 in absurd (omega (
      arith,
      so_many (node_for setting around here) _ _ _ c.as_slice.ensures
          (no_more (reads_at setting.reads.now c.args.name.now) (cases_at (out-Core node).number 0 (nodes_in setting)) _ (c.requires here)),
    ))
