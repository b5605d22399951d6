-- New values of registers and variables, and of parts of them, as they are put behind indexes.
use Rattle.std.proofs.Common.{◌≡◌, ◌∙◌, ℕ, suc, ◌+◌, List, [], ◌∷◌, ◌++◌, refl, ap, subst}
use Rattle.std.specs.Prelude.{OnOk, Result}
use Rattle.sail_core.specs.declared.targets.Suffix.{Suffix}
use Rattle.sail_core.specs.declared.tree.Core.{Core}
use Rattle.size_values.specs.declared.sized.Sized.{Sized}
use Rattle.sized_nodes.specs.declared.trees.SizedInstance.{SizedInstance}
use Rattle.jib.specs.declared.code.Instruction.{Instruction}
use Rattle.lowered_pieces.specs.declared.coding.Coding.{Coding}
use Rattle.lowered_pieces.specs.Emitted.{Emits}
use Rattle.lowered_pieces.specs.Forms.{Maker, Stand, Tail as Ending, all_code, all_labels, all_notes, cast_make, higher, kit_at, made_code, note_code}
use Rattle.lowered_pieces.specs.Chains.{many}
use Rattle.lowered_pieces.specs.Places.{Kit, Naming}
use Rattle.lowered_pieces.specs.Tables.{Tables}
use Rattle.lowered_pieces.specs.Writes.{Cell, Holder, Writing, cell_code, cell_labels, cell_notes, cell_writing, component_step, given_piece, given_tail}
use Rattle.lowered_pieces.specs.Writes.{held_make, register, replaced_code, several_code, several_labels, several_notes, several_writing, store_code, takes_all}
use Rattle.lowered_pieces.specs.Writes.{takes_in, typed_code, typed_labels, typed_notes, typed_tail, variable, whole_at}
use Rattle.lowered_steps.specs.declared.cells.Cell.{Cell as Found}
use Rattle.lowered_steps.specs.declared.setting.Setting.{Setting}
use Rattle.lowered_steps.specs.declared.stands.Stand.{Stand as Standing}
use Rattle.lowered_steps.specs.declared.tails.Tail.{Tail}
use Rattle.lowered_steps.specs.Cells.{aim_of}
use Rattle.lowered_steps.specs.Setting.{kit_for, number_for, tables_for}
use Rattle.lowered_steps.specs.Stands.{stand_of}
use Rattle.lowered_steps.specs.Tails.{tail_of}
use Rattle.lowered_nodes.specs.declared.walk.Walk.{Walk}
use Rattle.lowered_nodes.specs.Walk.{Given, Puts, one_for, piece_at, pieces_for, several_for}
use Rattle.lowered_nodes.proofs.Joining.{ok_more}
use Rattle.lowered_nodes.proofs.Putting.{put_as}

-- ---- what is written doesn't ask which instances there are
module _ (setting : Setting) (name : Naming) (instances : List SizedInstance) where
  abbrev kit : Kit
  kit = kit_for setting name

  abbrev none : Tables
  none = tables_for setting []

  abbrev there : Tables
  there = tables_for setting instances

  stored_same : (h : Holder) (s : Stand) (t : Sized) → store_code setting.types.now kit none h s t ≡ store_code setting.types.now kit there h s t
  stored_same (register r) s t = refl
  stored_same (variable text) s t = refl

  held_same : (h : Holder) → held_make setting.types.now kit none h ≡ held_make setting.types.now kit there h
  held_same (register r) = refl
  held_same (variable text) = refl

  -- the whole gets a part, and goes to its holder
  abbrev renewed_by : Maker kit kit.number → (Sized → List Instruction) → List Suffix → Cell → ℕ → Stand → Sized → ℕ → List Instruction
  renewed_by make store ss c at s t l =
      made_code kit kit.number 0 make (there.cases c.read 0) (there.gives c.read)
      (record {
        labels = 0;
        code = λ u k. replaced_code setting.types.now kit ss at (higher s).temp u (whole_at setting.types.now kit s.temp t)
            ++ (note_code (kit_at kit (higher s).depths) kit.number (higher s).temp (there.gives c.read) u ++ store u);
      }) (higher s) l

  typed_code_same : (ss : List Suffix) (c : Cell) (at : ℕ) (s : Stand) (t : Sized) (l : ℕ) → typed_code setting.types.now kit none ss c at s t l
      ≡ typed_code setting.types.now kit there ss c at s t l
  typed_code_same [] c at s t l = stored_same c.holder s t
  typed_code_same (x ∷ ss) c at s t l = λ i. renewed_by (held_same c.holder i) (λ u. stored_same c.holder (higher s) u i) c.suffixes c at s t l

  typed_labels_same : (ss : List Suffix) (c : Cell) → typed_labels setting.types.now kit none ss c ≡ typed_labels setting.types.now kit there ss c
  typed_labels_same [] c = refl
  typed_labels_same (x ∷ ss) c = refl

  typed_notes_same : (ss : List Suffix) (c : Cell) → typed_notes setting.types.now kit none ss c ≡ typed_notes setting.types.now kit there ss c
  typed_notes_same [] c = refl
  typed_notes_same (x ∷ ss) c = refl

  tail_same : (c : Cell) (at : ℕ) (s : Stand) → typed_tail setting.types.now kit none c at s ≡ typed_tail setting.types.now kit there c at s
  tail_same c at s = λ i. record { labels = typed_labels_same c.suffixes c i; code = λ t l. typed_code_same c.suffixes c at s t l i }

  code_same : (c : Cell) (at : ℕ) (s : Stand) (l : ℕ) → cell_code setting.types.now kit none c at s l ≡ cell_code setting.types.now kit there c at s l
  code_same c at s l =
      ap (λ (e : Ending). made_code kit kit.number 1 (cast_make kit kit.number) (there.cases c.number 1) (there.gives c.number) e s l) (tail_same c at s)

  labels_same : (c : Cell) → cell_labels setting.types.now kit none c ≡ cell_labels setting.types.now kit there c
  labels_same c = ap (λ n. many n (there.cases c.number 1)) (typed_labels_same c.suffixes c)

  notes_same : (c : Cell) → cell_notes setting.types.now kit none c ≡ cell_notes setting.types.now kit there c
  notes_same c = ap (λ ns. all_notes (there.gives c.number) ++ ns) (typed_notes_same c.suffixes c)

  cell_same : (c : Cell) → cell_writing setting.types.now kit none c ≡ cell_writing setting.types.now kit there c
  cell_same c = λ i. record {
    takes = takes_in c.suffixes;
    labels = labels_same c i;
    code = λ at s t l. code_same c at s l i;
    notes = notes_same c i;
  }

  several_code_same : (cs : List Cell) (k at : ℕ) (s : Stand) (t : Sized) (l : ℕ) → several_code setting.types.now kit none cs k at s t l
      ≡ several_code setting.types.now kit there cs k at s t l
  several_code_same [] k at s t l = refl
  several_code_same (c ∷ cs) k at s t l =
      λ i. component_step setting.types.now kit there k s t ∷ (code_same c at (higher s) l i
      ++ (several_code_same cs (suc k) (at + takes_in c.suffixes) s t (l + cell_labels setting.types.now kit none c)
      ∙ ap (λ n. several_code setting.types.now kit there cs (suc k) (at + takes_in c.suffixes) s t (l + n)) (labels_same c)) i)

  several_labels_same : (cs : List Cell) → several_labels setting.types.now kit none cs ≡ several_labels setting.types.now kit there cs
  several_labels_same [] = refl
  several_labels_same (c ∷ cs) = λ i. labels_same c i + several_labels_same cs i

  several_notes_same : (cs : List Cell) → several_notes setting.types.now kit none cs ≡ several_notes setting.types.now kit there cs
  several_notes_same [] = refl
  several_notes_same (c ∷ cs) = λ i. notes_same c i ++ several_notes_same cs i

  several_same : (cs : List Cell) → several_writing setting.types.now kit none cs ≡ several_writing setting.types.now kit there cs
  several_same cs = λ i. record {
    takes = takes_all cs;
    labels = several_labels_same cs i;
    code = λ at s t l. several_code_same cs 0 at s t l i;
    notes = several_notes_same cs i;
  }

-- ---- the indexes, and the new value behind them
module _ {T E : Type 0} (r : Result T E) (walk : Walk) (stand : Standing) where
  abbrev indexes_in : Coding → Coding → List Core → Type 0
  indexes_in a b cs =
      Emits a b (λ name x. all_code (kit_for walk.setting.now name) (number_for walk.setting.now) (pieces_for walk name cs) (stand_of stand) x)
      (λ name. all_labels (kit_for walk.setting.now name) (number_for walk.setting.now) (pieces_for walk name cs))

  pub given_put : (gives : Tail) (takes : ℕ) (cs : List Core) (v : Core) (m : ℕ) → m ≡ stand.temp + takes → (a b c : Coding) → indexes_in a b cs
      → OnOk r (Puts b c walk (record stand { temp = m }) gives (λ name. piece_at walk name v)) → OnOk r (Given a c walk stand gives takes cs v)
  given_put gives takes cs v m is a b c x h =
      ok_more r a b c _ _ _ _ x (subst (λ n. OnOk r (Puts b c walk (record stand { temp = n }) gives (λ name. piece_at walk name v))) is h)

  -- what is given is what is written
  abbrev GivenTo : Coding → Coding → (Naming → Ending) → ℕ → List Core → Core → Type 0
  GivenTo a c gives takes cs v =
      Emits a c
      (λ name l.
      all_code (kit_for walk.setting.now name) (number_for walk.setting.now) (pieces_for walk name cs) (stand_of stand) l
      ++ (piece_at walk name v).ended (gives name) (record (stand_of stand) { temp = stand.temp + takes })
      (l + all_labels (kit_for walk.setting.now name) (number_for walk.setting.now) (pieces_for walk name cs)))
      (λ name.
      all_labels (kit_for walk.setting.now name) (number_for walk.setting.now) (pieces_for walk name cs) + (piece_at walk name v).labels (gives name).labels)

  module _ (tail : Tail) where
    abbrev tail_with : (Naming → Writing) → Naming → Ending
    tail_with w name = given_tail (kit_for walk.setting.now name) (w name) (tail_of walk.setting.now name tail) (stand_of stand)

    abbrev PutWith : (Naming → Writing) → List Core → Core → Coding → Coding → Type 0
    PutWith w cs v a c =
        Puts a c walk stand tail (λ name. given_piece (kit_for walk.setting.now name) (w name) (pieces_for walk name cs) (piece_at walk name v))

    abbrev one_written : Found → List SizedInstance → Naming → Writing
    one_written cell instances name =
        cell_writing walk.setting.now.types.now (kit_for walk.setting.now name) (tables_for walk.setting.now instances) (aim_of cell)

    pub one_put : (cell : Found) (takes : ℕ) (cs : List Core) (v : Core) → takes ≡ takes_in cell.suffixes.now → (a c : Coding)
        → OnOk r (GivenTo a c (tail_with (one_written cell [])) takes cs v) → OnOk r (Puts a c walk stand tail (λ name. one_for walk name cell cs v))
    one_put cell takes cs v is a c h =
        put_as r a c walk stand tail _ _
        (λ name. ap (λ w. given_piece (kit_for walk.setting.now name) w (pieces_for walk name cs) (piece_at walk name v))
        (cell_same walk.setting.now name walk.around.now.instances.now (aim_of cell)))
        (by (subst (λ n. OnOk r (GivenTo a c (tail_with (one_written cell [])) n cs v)) is h))
      where
        by : OnOk r (GivenTo a c (tail_with (one_written cell [])) (takes_in cell.suffixes.now) cs v) → OnOk r (PutWith (one_written cell []) cs v a c)
        by x = x

    abbrev several_written : List Cell → List SizedInstance → Naming → Writing
    several_written cells instances name =
        several_writing walk.setting.now.types.now (kit_for walk.setting.now name) (tables_for walk.setting.now instances) cells

    pub several_put : (cells : List Cell) (takes : ℕ) (cs : List Core) (v : Core) → takes ≡ takes_all cells → (a c : Coding)
        → OnOk r (GivenTo a c (tail_with (several_written cells [])) takes cs v)
        → OnOk r (Puts a c walk stand tail (λ name. several_for walk name cells cs v))
    several_put cells takes cs v is a c h =
        put_as r a c walk stand tail _ _
        (λ name. ap (λ w. given_piece (kit_for walk.setting.now name) w (pieces_for walk name cs) (piece_at walk name v))
        (several_same walk.setting.now name walk.around.now.instances.now cells))
        (by (subst (λ n. OnOk r (GivenTo a c (tail_with (several_written cells [])) n cs v)) is h))
      where
        by : OnOk r (GivenTo a c (tail_with (several_written cells [])) (takes_all cells) cs v) → OnOk r (PutWith (several_written cells []) cs v a c)
        by x = x
