-- What the functions of the walk put: each is a part of the definition of the code of a node.
use Rattle.std.specs.Prelude.{ℕ, ◌+◌, Bool, true, ◌&&◌, List, [], ◌∷◌, ◌++◌, length, map, Option, Some, None}
use Rattle.sail_base.specs.declared.place.Place.{Place as TextPlace}
use Rattle.sail_types.specs.declared.rows.Row.{Row}
use Rattle.model_state.specs.declared.cause.Cause.TheVariants.{MatchFailure}
use Rattle.sail_core.specs.declared.patterns.Arm.{Arm}
use Rattle.sail_core.specs.declared.targets.Suffix.{Suffix}
use Rattle.sail_core.specs.declared.tree.Giver.{Giver}
use Rattle.sail_core.specs.declared.tree.Giver.TheVariants as G
use Rattle.sail_core.specs.declared.tree.Kind.{Kind}
use Rattle.sail_core.specs.declared.tree.Statement.{Statement}
use Rattle.sail_core.specs.declared.tree.Core.{Core, out-Core}
use Rattle.sized_meanings.specs.Present.{gives_at}
use Rattle.value_indices.specs.declared.indices.Indices.{Indices}
use Rattle.size_values.specs.declared.sized.Sized.{Sized}
use Rattle.sized_nodes.specs.declared.trees.Case.{Case}
use Rattle.sized_nodes.specs.declared.trees.Lead.{Lead}
use Rattle.jib.specs.declared.code.Instruction.{Instruction}
use Rattle.lowered_pieces.specs.declared.coding.Coding.{Coding}
use Rattle.lowered_pieces.specs.Emitted.{Emits}
use Rattle.jib.specs.declared.code.Source.{Source}
use Rattle.lowered_pieces.specs.Gathered.{only_end, operands_at, state_piece}
use Rattle.lowered_pieces.specs.Places.{Kit, Local, Naming, Temp, from, to}
use Rattle.jib.specs.declared.code.Instruction.TheVariants as I
use Rattle.lowered_pieces.specs.Chains.{by_case, many}
use Rattle.lowered_pieces.specs.Moves.{retype}
use Rattle.lowered_pieces.specs.Nodes.{cases_at, leads_at}
use Rattle.lowered_pieces.specs.Counted.{bounds_code, bounds_labels, foreach_piece, turn_stand}
use Rattle.lowered_pieces.specs.Writes.{Cell as Aim, Writing, assign_piece, cell_writing, given_piece, several_writing, spot_lowered, take_op, takes_of}
use Rattle.lowered_pieces.specs.Paths.{path_piece}
use Rattle.lowered_pieces.specs.Arms.{arm_piece, arms_fit, failing, fall_piece, first_piece, let_piece, stop_here, throw_here, try_piece}
use Rattle.lowered_pieces.specs.Forms.{End, Piece, again_code, all_code, all_labels, call_piece, if_piece, inside_piece, kit_at, made_of_piece, var_piece}
use Rattle.lowered_pieces.specs.Forms.{cast_piece, code_of, count_of, in_order, picked_by, work_piece}
use Rattle.lowered_pieces.specs.Forms.{lead_arm, note_code, unit_piece}
use Rattle.lowered_pieces.specs.Lowering.{Node, all_lowered, block_lowered, block_piece, path_lowered, pieces_of}
use Rattle.lowered_steps.specs.declared.hands.Matched.{Matched as MatchedValue}
use Rattle.lowered_steps.specs.declared.making.Making.{Making}
use Rattle.lowered_steps.specs.declared.setting.Setting.{Setting}
use Rattle.lowered_steps.specs.declared.stands.Stand.{Stand}
use Rattle.lowered_steps.specs.Cells.{aim_of}
use Rattle.lowered_steps.specs.declared.cells.Cell.{Cell}
use Rattle.lowered_steps.specs.declared.tails.Tail.{Tail}
use Rattle.lowered_steps.specs.Hands.{matched_of}
use Rattle.lowered_steps.specs.Makers.{maker_of}
use Rattle.lowered_steps.specs.Setting.{crosses_for, kit_for, mapped_of, nodes_in, number_for, reads_at, size_for, tables_for, ways_for as directions_for}
use Rattle.lowered_steps.specs.Stands.{depths_of, stand_of}
use Rattle.lowered_steps.specs.Tails.{tail_of}
use Rattle.lowered_ends.specs.Around.{callees_of, node_for, ok_as, piece_as}
use Rattle.lowered_ends.specs.declared.targets.Spot.{Spot}
use Rattle.lowered_ends.specs.Targets.{spot_in}
use Rattle.sail_types.specs.declared.types.Typ.{Typ}
use Rattle.sail_core.specs.Meaning.{option_typ}
use Rattle.checked_meaning.specs.Items.{fixed_typ}
use Rattle.lowered_pieces.specs.Mapped.{applied_piece, direction_call, operand_moved, optional_piece}
use Rattle.lowered_steps.specs.declared.setting.Mapped.{Mapped as Direction}
use Rattle.lowered_nodes.specs.declared.calls.Calling.{Calling}
use Rattle.lowered_nodes.specs.declared.loops.Counted.{Counted}
use Rattle.lowered_nodes.specs.declared.walk.Walk.{Walk}
use Rattle.lowered_nodes.specs.declared.arms.Otherwise.{Otherwise}
use Rattle.lowered_nodes.specs.declared.arms.Otherwise.TheVariants as O

-- a form is put, and what comes behind its value
abbrev pub Puts : Coding → Coding → Walk → Stand → Tail → (Naming → Piece) → Type 0
Puts old new walk stand tail piece =
    Emits old new (λ name first. (piece name).ended (tail_of walk.setting.now name tail) (stand_of stand) first)
    (λ name. (piece name).labels (tail_of walk.setting.now name tail).labels)

-- a form whose value is in hand
abbrev pub Held : Coding → Coding → Stand → (Naming → Piece) → Type 0
Held old new stand piece = Emits old new (λ name first. code_of (piece name) (stand_of stand) first) (λ name. count_of (piece name))

-- the only one of several
abbrev pub only_of : List ℕ → Option ℕ
only_of (i ∷ []) = Some i
only_of is = None

abbrev number_or : Setting → Option Sized → ℕ
number_or setting None = setting.unit
number_or setting (Some t) = number_for setting t

abbrev pub only_number : Setting → List End → ℕ
only_number setting es = number_or setting (only_end es)

module _ (walk : Walk) where
  abbrev setting : Setting
  setting = walk.setting.now

  abbrev pub nodes_for : Naming → List Core → List Node
  nodes_for name cs = map (node_for setting walk.around.now name) cs

  abbrev pub pieces_for : Naming → List Core → List Piece
  pieces_for name cs = pieces_of (nodes_for name cs)

  abbrev given : Giver → List Indices
  given giver = gives_at (nodes_in setting) giver

  -- what is said and given of the i-th arm or statement from the last of a node
  abbrev names_of : ℕ → ℕ → List Indices
  names_of k n = given (G.Arm k n)

  module _ (name : Naming) where
    abbrev kit : Kit
    kit = kit_for setting name

    abbrev pub piece_at : Core → Piece
    piece_at c = (node_for setting walk.around.now name c).piece

    -- a node as one of this kind, and whether it is lowered here as one
    abbrev pub as_for : Kind → Core → Piece
    as_for kind c = piece_as setting walk.around.now name kind c

    abbrev pub as_ok : Kind → Core → Bool
    as_ok kind c = ok_as setting walk.around.now name kind c

    -- a value that is made of the parts of a node, a call, and a builtin, at the cases of so many operands
    abbrev pub counted_made : Making → Core → ℕ → Piece
    counted_made making c n =
        made_of_piece kit (number_for setting) (maker_of setting name making) (cases_at (out-Core c).number n (nodes_in setting))
        (given (G.Node (out-Core c).number)) (pieces_for name (out-Core c).parts)

    abbrev pub made_for : Making → Core → Piece
    made_for making c = counted_made making c (length (out-Core c).parts)

    abbrev pub counted_call : Core → ℕ → Piece
    counted_call c n =
        call_piece kit (number_for setting) (callees_of setting walk.around.now) (out-Core c).place
        ((tables_for setting walk.around.now.instances.now).cases (out-Core c).number n)
        ((tables_for setting walk.around.now.instances.now).leads (out-Core c).number) (given (G.Node (out-Core c).number)) (pieces_for name (out-Core c).parts)

    abbrev pub call_for : Core → Piece
    call_for c = counted_call c (length (out-Core c).parts)

    abbrev pub state_of : Row → Core → List Case → Piece
    state_of row c cases = state_piece kit row cases (given (G.Node (out-Core c).number)) (pieces_for name (out-Core c).parts)

    abbrev pub counted_state : Row → Core → ℕ → Piece
    counted_state row c n = state_of row c (cases_at (out-Core c).number n (nodes_in setting))

    abbrev pub state_for : Row → Core → Piece
    state_for row c = counted_state row c (length (out-Core c).parts)

    -- one lead of a call, and all of them
    abbrev pub lead_for : Stand → Tail → Calling → Lead → ℕ → List Instruction
    lead_for stand tail c =
        lead_arm kit (number_for setting) (callees_of setting walk.around.now) c.place (cases_at c.node c.count (nodes_in setting)) (given (G.Node c.node))
        (tail_of setting name tail) (stand_of stand)

    abbrev pub lead_labels : Tail → Calling → ℕ
    lead_labels tail c = many (tail_of setting name tail).labels (cases_at c.node c.count (nodes_in setting))

    abbrev leads_here : Calling → List Lead
    leads_here c = leads_at c.node (nodes_in setting)

    abbrev pub leads_for : Stand → Tail → Calling → ℕ → List Instruction
    leads_for stand tail c first =
        by_case picked_by (kit_at kit (depths_of stand.levels.now)) (stand.temp + c.count) (lead_labels tail c) (lead_for stand tail c) first (leads_here c)

    abbrev pub leads_labels : Tail → Calling → ℕ
    leads_labels tail c = many (lead_labels tail c) (leads_here c)

    -- assignments
    abbrev pub new_for : ℕ → Piece → Piece
    new_for k p = cast_piece kit (number_for setting) (cases_at k 1 (nodes_in setting)) (given (G.Node k)) p

    abbrev pub cast_for : ℕ → Core → Piece
    cast_for k c = new_for k (piece_at c)

    abbrev pub called_with : ℕ → Calling → List Piece → Piece → Piece
    called_with k calling ps p =
        call_piece kit (number_for setting) (callees_of setting walk.around.now) calling.place (cases_at calling.node calling.count (nodes_in setting))
        (leads_here calling) (given (G.Node calling.node)) (ps ++ new_for k p ∷ [])

    abbrev pub written_for : ℕ → Calling → List Core → Core → Piece
    written_for k calling cs c = called_with k calling (pieces_for name cs) (piece_at c)

    abbrev pub given_for : Writing → List Core → Core → Piece
    given_for w cs c = given_piece kit w (pieces_for name cs) (piece_at c)

    abbrev pub one_for : Cell → List Core → Core → Piece
    one_for cell cs c =
        given_for (cell_writing setting.types.now kit (tables_for setting walk.around.now.instances.now) (aim_of cell)) cs c

    abbrev pub several_for : List Aim → List Core → Core → Piece
    several_for cells cs c =
        given_for (several_writing setting.types.now kit (tables_for setting walk.around.now.instances.now) cells) cs c

    abbrev pub assign_for : Spot → List Core → Piece
    assign_for spot cs =
        assign_piece setting.types.now kit (number_for setting) (callees_of setting walk.around.now) (tables_for setting walk.around.now.instances.now)
        (spot_in spot) (pieces_for name cs)

    abbrev pub operands_for : ℕ → List Core → List Source
    operands_for n cs = operands_at kit n (pieces_for name cs)

    abbrev pub noted_code : Stand → Tail → ℕ → Sized → ℕ → List Instruction
    noted_code stand tail k t first =
        note_code (kit_at kit (depths_of stand.levels.now)) (number_for setting) stand.temp (given (G.Node k)) t ++ (tail_of setting name tail).code t first

    abbrev pub inside_for : Core → Piece
    inside_for c = inside_piece kit (piece_at c)

    abbrev pub block_for : ℕ → List Statement → List Core → Piece
    block_for k ss cs =
        block_piece setting.types.now kit (number_for setting) (callees_of setting walk.around.now) (tables_for setting walk.around.now.instances.now) k ss
        (pieces_for name cs)

    -- a statement, and the rest of the block behind it
    abbrev pub statement_for : ℕ → Statement → List Statement → Core → List Core → Piece
    statement_for k statement rest first others = block_for k (statement ∷ rest) (first ∷ others)

    -- the rest of a block behind an arm; a body is one without statements
    abbrev pub arm_for : Giver → MatchedValue → Arm → ℕ → List Statement → List Core → Piece
    arm_for giver matched arm k ss cs = arm_piece setting.types.now kit (given giver) (matched_of matched) arm (block_for k ss cs)

    abbrev pub otherwise_for : MatchedValue → Otherwise → Piece
    otherwise_for matched (O.Stops place) = stop_here setting.types.now kit (MatchFailure place)
    otherwise_for matched O.Throws = throw_here setting.types.now kit (matched_of matched)
    otherwise_for matched O.Falls = fall_piece setting.types.now kit

    abbrev pub first_for : ℕ → MatchedValue → List Arm → List Core → Otherwise → Piece
    first_for k matched arms bodies otherwise =
        first_piece setting.types.now kit (names_of k) (matched_of matched) arms (pieces_for name bodies) (otherwise_for matched otherwise)

    -- an arm whose body is one node
    abbrev pub armed_for : Giver → MatchedValue → Arm → Core → Piece
    armed_for giver matched arm body = arm_piece setting.types.now kit (given giver) (matched_of matched) arm (piece_at body)

    -- inside of what was noted before it; where it isn't taken it goes on at a label
    abbrev pub taken_for : Giver → MatchedValue → Arm → Core → Stand → Tail → ℕ → ℕ → List Instruction
    taken_for giver matched arm body stand tail label first =
        (inside_piece kit (armed_for giver matched arm body)).ended (tail_of setting name tail) (failing setting.types.now kit label (stand_of stand)) first

    abbrev pub let_for : Giver → TextPlace → Core → Arm → ℕ → List Statement → List Core → Piece
    let_for giver place value arm k ss cs =
        let_piece setting.types.now kit (given giver) (piece_at value) arm (block_for k ss cs) (MatchFailure place)

    abbrev pub bind_for : List ℕ → Core → ℕ → List Statement → List Core → Piece
    bind_for text value k ss cs = var_piece kit (reads_at setting.reads.now text) text (piece_at value) (block_for k ss cs)

    -- there may be no second branch
    abbrev pub second_for : List Core → Piece
    second_for [] = unit_piece kit
    second_for (c ∷ cs) = inside_for c

    abbrev pub if_for : Core → Core → List Core → Piece
    if_for test first second = if_piece kit (piece_at test) (inside_for first) (second_for second)

    -- mappings
    abbrev pub optional_for : Typ → Core → Piece
    optional_for t c =
        optional_piece setting.types.now kit (fixed_typ setting.types.now (option_typ t)) (fixed_typ setting.types.now t) (piece_at c)

    abbrev pub applied_for : ℕ → Core → Core → Piece
    applied_for d c value =
        applied_piece kit (out-Core c).place (directions_for setting d) (cases_at (out-Core c).number 1 (nodes_in setting))
        (given (G.Node (out-Core c).number))
        (piece_at value)

    abbrev moved_from : ℕ → ℕ → Option Sized → List Instruction
    moved_from n t None = []
    moved_from n t (Some u) = retype kit n (kit.number u) t

    abbrev pub operand_for : ℕ → List End → ℕ → List Instruction
    operand_for n es t = moved_from n t (only_end es)

    abbrev pub direction_for : Stand → Direction → List End → TextPlace → ℕ → List Instruction
    direction_for stand m es place l =
        operand_moved kit stand.temp (only_end es) m.takes ++ I.Tick ∷ direction_call kit place (mapped_of m) (stand_of stand)
        ∷ I.Payload (kit.name (Temp stand.temp) (kit.number m.payload)) (from kit (Temp stand.temp) (kit.number m.gives)) 0 l ∷ []

    -- `foreach`
    abbrev pub bounds_for : Counted → Stand → ℕ → List Instruction
    bounds_for c stand first = bounds_code kit (piece_at c.first.now) (piece_at c.last.now) (piece_at c.step.now) (stand_of stand) first

    abbrev pub bounds_count : Counted → ℕ
    bounds_count c = bounds_labels kit (piece_at c.first.now) (piece_at c.last.now) (piece_at c.step.now)

    abbrev pub body_for : Counted → Stand → ℕ → List Instruction
    body_for c stand first =
        I.Copy (to kit (Local (length (stand_of stand).scope)) kit.integer) (from kit (Temp stand.temp) kit.integer)
        ∷ code_of (inside_for c.body.now) (turn_stand kit c.name.now (stand_of stand)) first

    abbrev pub body_count : Counted → ℕ
    body_count c = count_of (inside_for c.body.now)

    abbrev pub foreach_for : Counted → Piece
    foreach_for c =
        foreach_piece kit c.name.now c.counting (piece_at c.first.now) (piece_at c.last.now) (piece_at c.step.now) (inside_for c.body.now)

    -- a part of a value that is in hand
    abbrev pub way_for : Suffix → Piece → List Core → Piece
    way_for suffix whole indexes =
        work_piece kit (number_for setting) (take_op suffix.way) in_order (cases_at suffix.number (takes_of suffix.way + 1) (nodes_in setting))
        (given (G.Node suffix.number)) (whole ∷ pieces_for name indexes)

    abbrev pub ways_for : List Suffix → Piece → List Core → Piece
    ways_for suffixes whole indexes =
        path_piece kit (number_for setting) (tables_for setting walk.around.now.instances.now) suffixes (pieces_for name indexes) whole

    abbrev pub path_for : Core → List Suffix → List Core → Piece
    path_for whole suffixes indexes = ways_for suffixes (piece_at whole) indexes

    abbrev pub try_for : ℕ → List Arm → Core → List Core → Piece
    try_for k arms value bodies =
        try_piece setting.types.now kit (cases_at k 0 (nodes_in setting)) (given (G.Node k)) (names_of k) arms (pieces_for name bodies) (piece_at value)

    -- the value in hand is that of the node
    abbrev pub again_for : Stand → Tail → ℕ → ℕ → List Instruction
    again_for stand tail k first =
        again_code kit (number_for setting) (cases_at k 1 (nodes_in setting)) (given (G.Node k)) (tail_of setting name tail) (stand_of stand) first

    abbrev pub again_labels : Tail → ℕ → ℕ
    again_labels tail k = many (tail_of setting name tail).labels (cases_at k 1 (nodes_in setting))

    -- ---- what is lowered

    abbrev pub node_ok : Core → Bool
    node_ok c = (node_for setting walk.around.now name c).ok

    abbrev pub all_lowered_for : List Core → Bool
    all_lowered_for cs = all_lowered (nodes_for name cs)

    abbrev pub block_ok : List Statement → List Core → Bool
    block_ok ss cs = block_lowered (callees_of setting walk.around.now) (tables_for setting walk.around.now.instances.now) ss (nodes_for name cs)

    abbrev pub statement_ok : Statement → List Statement → Core → List Core → Bool
    statement_ok statement rest first others = block_ok (statement ∷ rest) (first ∷ others)

    -- a value that is bound for what comes behind
    abbrev pub bound_ok : Core → List Statement → List Core → Bool
    bound_ok c ss cs = node_ok c && block_ok ss cs

    abbrev pub second_ok : List Core → Bool
    second_ok [] = true
    second_ok (c ∷ cs) = node_ok c

    abbrev pub if_ok : Core → Core → List Core → Bool
    if_ok test first second = node_ok test && (node_ok first && second_ok second)

    abbrev pub counted_ok : Counted → Bool
    counted_ok c = node_ok c.first.now && (node_ok c.last.now && (node_ok c.step.now && node_ok c.body.now))

    abbrev pub assigned_ok : List Core → Core → Bool
    assigned_ok cs c = all_lowered_for cs && node_ok c

    abbrev pub spot_ok : Spot → List Core → Bool
    spot_ok spot cs =
        spot_lowered setting.types.now (tables_for setting walk.around.now.instances.now) (spot_in spot) (length cs) && all_lowered_for cs

    abbrev pub ways_ok : List Suffix → List Core → Bool
    ways_ok suffixes indexes = path_lowered suffixes (nodes_for name indexes)

    abbrev pub path_ok : Core → List Suffix → List Core → Bool
    path_ok whole suffixes indexes = node_ok whole && ways_ok suffixes indexes

    abbrev pub try_ok : List Arm → Core → List Core → Bool
    try_ok arms value bodies = node_ok value && (arms_fit (size_for setting) (crosses_for setting) (reads_at setting.reads.now) arms && all_lowered_for bodies)

-- indexes are in hand, and then a value behind so many places, with what is done with it
abbrev pub Given : Coding → Coding → Walk → Stand → Tail → ℕ → List Core → Core → Type 0
Given old new walk stand gives takes cs c =
    Emits old new
    (λ name first.
    all_code (kit_for walk.setting.now name) (number_for walk.setting.now) (pieces_for walk name cs) (stand_of stand) first
    ++ (piece_at walk name c).ended (tail_of walk.setting.now name gives) (record (stand_of stand) { temp = stand.temp + takes })
    (first + all_labels (kit_for walk.setting.now name) (number_for walk.setting.now) (pieces_for walk name cs)))
    (λ name.
    all_labels (kit_for walk.setting.now name) (number_for walk.setting.now) (pieces_for walk name cs)
    + (piece_at walk name c).labels (tail_of walk.setting.now name gives).labels)
