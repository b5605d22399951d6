-- New values of registers and of variables, and of parts of them, as they are put.
use Rattle.std.proofs.Common.{◌≡◌, ◌∙◌, ◌≤◌, ◌<◌, ℕ, suc, ◌+◌, List, [], ◌∷◌, ◌++◌, length, sym, ap, subst, arith}
use Rattle.std.specs.Prelude.{OnOk, Option, Result, Some, None}
use Rattle.sail_core.specs.declared.tree.Giver.TheVariants as Gives
use Rattle.sail_core.specs.declared.targets.Suffix.{Suffix}
use Rattle.sail_core.specs.declared.targets.Target.{Target}
use Rattle.sail_core.specs.Making.{component}
use Rattle.checked_meaning.specs.Items.{part_typ}
use Rattle.size_values.specs.declared.sized.Sized.{Sized}
use Rattle.sized_meanings.specs.Present.{gives_at}
use Rattle.sized_nodes.specs.declared.trees.Case.{Case}
use Rattle.jib.specs.declared.code.Instruction.{Instruction}
use Rattle.jib.specs.declared.code.Instruction.TheVariants as I
use Rattle.jib.specs.declared.code.Literal.TheVariants as L
use Rattle.jib.specs.declared.code.Operation.TheVariants as O
use Rattle.jib.specs.declared.code.Source.TheVariants as R
use Rattle.jib.specs.declared.code.Target.TheVariants as G
use Rattle.lowered_pieces.specs.declared.coding.Coding.{Coding}
use Rattle.lowered_pieces.specs.Emitted.{Coded, Emits, no_labels}
use Rattle.lowered_pieces.specs.Chains.{by_case, many as many_}
use Rattle.lowered_pieces.specs.Forms.{cast_make, constant_code, kit_at, note_code, picked_in, place_of, unit_piece}
use Rattle.lowered_pieces.specs.Frames.{ArmsPut, end_code, end_labels}
use Rattle.lowered_pieces.specs.Nodes.{cases_at}
use Rattle.lowered_pieces.specs.Moves.{kept_code}
use Rattle.lowered_pieces.specs.Places.{Kit, Naming, Place, Temp}
use Rattle.lowered_pieces.specs.Writes.{Cell as Aim, replaced_code, takes_in, target_spot, typed_code, typed_labels}
use Rattle.lowered_pieces.proofs.Emitting.{emits_none, ok_before, ok_next, ok_same, ok_then}
use Rattle.lowered_pieces.proofs.Framing.{ok_cases}
use Rattle.lowered_steps.specs.declared.cells.Cell.{Cell}
use Rattle.lowered_steps.specs.declared.cells.Holder.{Holder as Held}
use Rattle.lowered_steps.specs.declared.setting.Setting.{Setting}
use Rattle.lowered_steps.specs.declared.stands.Stand.{Stand as Standing}
use Rattle.lowered_steps.specs.declared.tails.Tail.{Tail as Ending}
use Rattle.lowered_steps.specs.Cells.{aim_of, and_cell, cell_arm, cell_code_of, cell_count, cells_of, component_of, held, only_cell, part_code, renewed}
use Rattle.lowered_steps.specs.Cells.{renewed_arm, several_count, several_of, stored, typed, typed_count}
use Rattle.lowered_steps.specs.Setting.{kit_for, nodes_in, number_for, reads_at, tables_for}
use Rattle.lowered_steps.specs.Stands.{depths_of, scope_of, stand_of}
use Rattle.lowered_steps.specs.Stores.{temp_at}
use Rattle.lowered_steps.specs.Tails.{tail_of}
use Rattle.lowered_steps.proofs.Lists.{none_of}
use Rattle.lowered_steps.proofs.Tailed.{nothing}

module _ {V E : Type 0} (r : Result V E) (setting : Setting) (old : Coding) (new : Coding) where
  -- ---- a value in hand goes to its holder, and what it holds comes to hand

  pub stored_is : (h k : Held) (s : Standing) (t : Sized) → h ≡ k → OnOk r (Emits old new (λ name l. stored setting name k s t) no_labels)
      → OnOk r (Emits old new (λ name l. stored setting name h s t) no_labels)
  stored_is h k s t is x = subst (λ j. OnOk r (Emits old new (λ name l. stored setting name j s t) no_labels)) (sym is) x

  pub register_put : (i : ℕ) (s : Standing) (t : Sized) (n : ℕ) → n ≡ number_for setting t
      → OnOk r (Emits old new (λ name l. I.Copy (G.Register i) (R.Slot (name (Temp s.temp) n)) ∷ []) no_labels)
      → OnOk r (Emits old new (λ name l. I.Copy (G.Register i) (R.Slot (name (Temp s.temp) (number_for setting t))) ∷ []) no_labels)
  register_put i s t n is x =
      subst (λ k. OnOk r (Emits old new (λ name l. I.Copy (G.Register i) (R.Slot (name (Temp s.temp) k)) ∷ []) no_labels)) is x

  pub variable_put : (text : List ℕ) (s : Standing) (t : Sized) (place : Place) (types : List Sized) → place ≡ place_of (scope_of s.scope.now) text
      → types ≡ reads_at setting.reads.now text
      → OnOk r (Emits old new (λ name l. kept_code (kit_for setting name) place s.temp types t) no_labels)
      → OnOk r (Emits old new
      (λ name l. kept_code (kit_for setting name) (place_of (scope_of s.scope.now) text) s.temp (reads_at setting.reads.now text) t) no_labels)
  variable_put text s t place types here as_read x =
      subst (λ us. OnOk r (Emits old new (λ name l. kept_code (kit_for setting name) (place_of (scope_of s.scope.now) text) s.temp us t) no_labels)) as_read
      (subst (λ p. OnOk r (Emits old new (λ name l. kept_code (kit_for setting name) p s.temp types t) no_labels)) here x)

  pub held_is : (h k : Held) (s : Standing) (c : Case) → h ≡ k → OnOk r (Emits old new (λ name l. held setting name k (stand_of s) c) no_labels)
      → OnOk r (Emits old new (λ name l. held setting name h (stand_of s) c) no_labels)
  held_is h k s c is x = subst (λ j. OnOk r (Emits old new (λ name l. held setting name j (stand_of s) c) no_labels)) (sym is) x

  pub register_held : (i : ℕ) (s : Standing) (t : Sized) (n : ℕ) → n ≡ number_for setting t
      → OnOk r (Emits old new (λ name l. I.Copy (G.Slot (name (Temp s.temp) n)) (R.Register i) ∷ []) no_labels)
      → OnOk r (Emits old new (λ name l. I.Copy (G.Slot (name (Temp s.temp) (number_for setting t))) (R.Register i) ∷ []) no_labels)
  register_held i s t n is x =
      subst (λ k. OnOk r (Emits old new (λ name l. I.Copy (G.Slot (name (Temp s.temp) k)) (R.Register i) ∷ []) no_labels)) is x

  pub variable_held : (text : List ℕ) (s : Standing) (t : Sized) (place : Place) (n : ℕ) → place ≡ place_of (scope_of s.scope.now) text
      → n ≡ number_for setting t
      → OnOk r (Emits old new (λ name l. I.Copy (G.Slot (name (Temp s.temp) n)) (R.Slot (name place n)) ∷ []) no_labels)
      → OnOk r (Emits old new
      (λ name l. I.Copy (G.Slot (name (Temp s.temp) (number_for setting t))) (R.Slot (name (place_of (scope_of s.scope.now) text) (number_for setting t))) ∷ [])
      no_labels)
  variable_held text s t place n here is x =
      subst (λ k. OnOk r (Emits old new
      (λ name l. I.Copy (G.Slot (name (Temp s.temp) k)) (R.Slot (name (place_of (scope_of s.scope.now) text) k)) ∷ []) no_labels)) is
      (subst (λ p. OnOk r (Emits old new (λ name l. I.Copy (G.Slot (name (Temp s.temp) n)) (R.Slot (name p n)) ∷ []) no_labels)) here x)

  -- ---- the whole gets a part, and goes to its holder

  abbrev noted : ℕ → Standing → Sized → Naming → List Instruction
  noted k s t name =
      note_code (kit_at (kit_for setting name) (depths_of s.levels.now)) (number_for setting) s.temp (gives_at (nodes_in setting) (Gives.Node k)) t

  pub renewed_put : (c : Cell) (at i k : ℕ) (s : Standing) (t : Sized) (a b : Coding)
      → Emits old a (λ name l. replaced_code setting.types.now (kit_for setting name) c.suffixes.now at s.temp t (temp_at name i k)) no_labels
      → Emits a b (λ name l. noted c.read s t name) no_labels → OnOk r (Emits b new (λ name l. stored setting name c.holder s t) no_labels)
      → OnOk r (Emits old new (λ name l. renewed setting name c at i k s t) no_labels)
  renewed_put c at i k s t a b x y h =
      ok_next r old a new (λ name. replaced_code setting.types.now (kit_for setting name) c.suffixes.now at s.temp t (temp_at name i k))
      (λ name. noted c.read s t name ++ stored setting name c.holder s t) x
      (ok_next r a b new (λ name. noted c.read s t name) (λ name. stored setting name c.holder s t) y h)

  -- a value comes to its place in a case, its numbers are noted, and what follows is put
  pub arm_put : (first : Naming → List Instruction) (notes : Naming → List Instruction) (rest : Coded) (n : Naming → ℕ) (a b : Coding)
      → Emits old a (λ name l. first name) no_labels → Emits a b (λ name l. notes name) no_labels → OnOk r (Emits b new rest n)
      → OnOk r (Emits old new (λ name l. first name ++ (notes name ++ rest name l)) n)
  arm_put first notes rest n a b x y h =
      ok_before r old a new first (λ name l. notes name ++ rest name l) n x (ok_before r a b new notes rest n y h)

  pub renewed_arm_put : (c : Cell) (at i k : ℕ) (s : Standing) (case : Case) (a b : Coding)
      → Emits old a (λ name l. held setting name c.holder (stand_of s) case) no_labels
      → Emits a b (λ name l. noted c.read s case.gives name) no_labels
      → OnOk r (Emits b new (λ name l. renewed setting name c at i k s case.gives) no_labels)
      → OnOk r (Emits old new (λ name. renewed_arm setting name c at i k s case) no_labels)
  renewed_arm_put c at i k s case a b x y h =
      arm_put (λ name. held setting name c.holder (stand_of s) case) (noted c.read s case.gives) (λ name l. renewed setting name c at i k s case.gives)
      no_labels
      a b x y h

  pub cell_arm_put : (c : Cell) (at : ℕ) (s : Standing) (case : Case) (a b : Coding)
      → Emits old a (λ name l. cast_make (kit_for setting name) (number_for setting) (stand_of s) case) no_labels
      → Emits a b (λ name l. noted c.number s case.gives name) no_labels
      → OnOk r (Emits b new (λ name. typed setting name c at s case.gives) (λ name. typed_count setting name c))
      → OnOk r (Emits old new (λ name. cell_arm setting name c at s case) (λ name. typed_count setting name c))
  cell_arm_put c at s case a b x y h =
      arm_put (λ name. cast_make (kit_for setting name) (number_for setting) (stand_of s) case) (noted c.number s case.gives)
      (λ name. typed setting name c at s case.gives) (λ name. typed_count setting name c) a b x y h

  -- ---- what is done with a new value that has its type

  abbrev typed_with : List Suffix → Cell → ℕ → Standing → Sized → Type 0
  typed_with qs c at s t =
      OnOk r (Emits old new (λ name. typed_code setting.types.now (kit_for setting name) (tables_for setting []) qs (aim_of c) at (stand_of s) t)
      (λ name. typed_labels setting.types.now (kit_for setting name) (tables_for setting []) qs (aim_of c)))

  pub typed_whole : (c : Cell) (at : ℕ) (s : Standing) (t : Sized) → length c.suffixes.now < 1
      → OnOk r (Emits old new (λ name l. stored setting name c.holder s t) no_labels) → typed_with c.suffixes.now c at s t
  typed_whole c at s t few h = subst (λ qs. typed_with qs c at s t) (sym (none_of c.suffixes.now few)) h

  abbrev part_at : Cell → ℕ → ℕ → ℕ → Standing → Type 0
  part_at c at i k s =
      OnOk r (Emits old new (λ name. part_code setting name c at i k s) (λ name. many_ 0 (cases_at c.read 0 (nodes_in setting))))

  pub typed_part : (c : Cell) (at : ℕ) (s : Standing) (t : Sized) (m k : ℕ) → 1 ≤ length c.suffixes.now → m ≡ s.temp + 1 → k ≡ number_for setting t
      → part_at c at s.temp k (record s { temp = m }) → typed_with c.suffixes.now c at s t
  typed_part c at s t m k some next number h =
      by c.suffixes.now some
      (subst (λ j. part_at c at s.temp j (record s { temp = s.temp + 1 })) number (subst (λ j. part_at c at s.temp k (record s { temp = j })) next h))
    where
      by : (qs : List Suffix) → 1 ≤ length qs → part_at c at s.temp (number_for setting t) (record s { temp = s.temp + 1 }) → typed_with qs c at s t
      by [] few h = absurd (omega (arith, few))
      by (q ∷ qs) few h = h

  -- ---- by the cases of the nodes

  -- no values in hand more
  no_more : (n : ℕ) → n ≡ n + 0
  no_more n = omega arith

  pub part_cases : (c : Cell) (at i k : ℕ) (s : Standing) (cases : List Case) (a b : Coding) (end n : ℕ) → cases ≡ cases_at c.read 0 (nodes_in setting)
      → n ≡ length cases → end ≡ old.labels → Emits old a (λ name l. []) (λ name. end_labels n)
      → ArmsPut picked_in (λ name. kit_at (kit_for setting name) (depths_of s.levels.now)) s.temp no_labels
      (λ name. renewed_arm setting name c at i k s) end cases a b
      → OnOk r (Emits b new (λ name l. end_code n end) no_labels) → part_at c at i k s
  part_cases c at i k s cases a b end n all many at_end first arms h =
      let p : Naming → Kit = λ name. kit_at (kit_for setting name) (depths_of s.levels.now) in
      let arm : Naming → Case → ℕ → List Instruction = λ name. renewed_arm setting name c at i k s in
      subst (λ q. OnOk r (Emits old new
      (λ name l. by_case picked_in (p name) q 0 (arm name) l (cases_at c.read 0 (nodes_in setting)))
      (λ name. many_ 0 (cases_at c.read 0 (nodes_in setting))))) (no_more s.temp)
      (subst (λ us. OnOk r (Emits old new (λ name l. by_case picked_in (p name) s.temp 0 (arm name) l us) (λ name. many_ 0 us))) all
      (ok_cases picked_in p s.temp no_labels arm r cases old a b new end n at_end many first arms h))

  pub cell_cases : (c : Cell) (at : ℕ) (s : Standing) (cases : List Case) (a b : Coding) (free end n : ℕ) → cases ≡ cases_at c.number 1 (nodes_in setting)
      → n ≡ length cases → free ≡ s.temp + 1 → end ≡ old.labels → Emits old a (λ name l. []) (λ name. end_labels n)
      → ArmsPut picked_in (λ name. kit_at (kit_for setting name) (depths_of s.levels.now)) free (λ name. typed_count setting name c)
      (λ name. cell_arm setting name c at s) end cases a b
      → OnOk r (Emits b new (λ name l. end_code n end) no_labels)
      → OnOk r (Emits old new (λ name. cell_code_of setting name c at s) (λ name. cell_count setting name c))
  cell_cases c at s cases a b free end n all many next at_end first arms h =
      let p : Naming → Kit = λ name. kit_at (kit_for setting name) (depths_of s.levels.now) in
      let q : Naming → ℕ = λ name. typed_count setting name c in
      let arm : Naming → Case → ℕ → List Instruction = λ name. cell_arm setting name c at s in
      subst (λ us. OnOk r (Emits old new (λ name l. by_case picked_in (p name) (s.temp + 1) (q name) (arm name) l us) (λ name. many_ (q name) us))) all
      (ok_cases picked_in p (s.temp + 1) q arm r cases old a b new end n at_end many first
      (subst (λ k. ArmsPut picked_in p k q arm end cases a b) next arms) h)

  -- ---- several

  pub component_put : (i m k n : ℕ) (s : Standing) (t u : Sized) → u ≡ part_typ setting.types.now (component i) t → m ≡ s.temp + 1
      → k ≡ number_for setting u → n ≡ number_for setting t
      → OnOk r (Emits old new (λ name l. I.Apply (G.Slot (name (Temp m) k)) (O.Field i) (R.Slot (name (Temp s.temp) n) ∷ []) ∷ []) no_labels)
      → OnOk r (Emits old new (λ name l. component_of setting name i s t ∷ []) no_labels)
  component_put i m k n s t u inner next part whole h =
      ok_same r old new (λ name l. step m k n name) (λ name l. component_of setting name i s t ∷ []) no_labels
      (λ name.
      ap (λ j. step j k n name) next ∙ ap (λ j. step (s.temp + 1) j n name) (part ∙ ap (number_for setting) inner)
      ∙ ap (λ j. step (s.temp + 1) (number_for setting (part_typ setting.types.now (component i) t)) j name) whole) h
    where
      step : ℕ → ℕ → ℕ → Naming → List Instruction
      step a b d name = I.Apply (G.Slot (name (Temp a) b)) (O.Field i) (R.Slot (name (Temp s.temp) d) ∷ []) ∷ []

  abbrev several_at : List Aim → ℕ → ℕ → Standing → Sized → Type 0
  several_at cs i at s t = OnOk r (Emits old new (λ name. several_of setting name cs i at s t) (λ name. several_count setting name cs))

  -- a target that isn't one is passed over
  pub several_other : (ts us : List Target) (u : Target) (i at : ℕ) (s : Standing) (t : Sized) → ts ≡ u ∷ us → only_cell (target_spot u) ≡ None
      → several_at (cells_of us) i at s t → several_at (cells_of ts) i at s t
  several_other ts us u i at s t all none h =
      subst (λ vs. several_at (cells_of vs) i at s t) (sym all) (subst (λ o. several_at (and_cell o (cells_of us)) i at s t) (sym none) h)

  pub several_more : (ts us : List Target) (u : Target) (c : Cell) (i i2 at at2 m : ℕ) (s : Standing) (t : Sized) (a b : Coding) → ts ≡ u ∷ us
      → only_cell (target_spot u) ≡ Some (aim_of c) → m ≡ s.temp + 1 → i2 ≡ i + 1 → at2 ≡ at + takes_in c.suffixes.now
      → Emits old a (λ name l. component_of setting name i s t ∷ []) no_labels
      → Emits a b (λ name. cell_code_of setting name c at (record s { temp = m })) (λ name. cell_count setting name c)
      → OnOk r (Emits b new (λ name. several_of setting name (cells_of us) i2 at2 s t) (λ name. several_count setting name (cells_of us)))
      → several_at (cells_of ts) i at s t
  several_more ts us u c i i2 at at2 m s t a b all some next further behind x y h =
      subst (λ vs. several_at (cells_of vs) i at s t) (sym all)
      (subst (λ o. several_at (and_cell o (cells_of us)) i at s t) (sym some)
      (ok_before r old a new (λ name. component_of setting name i s t ∷ [])
      (λ name l. cell_code_of setting name c at (record s { temp = s.temp + 1 }) l
      ++ several_of setting name (cells_of us) (suc i) (at + takes_in c.suffixes.now) s t (l + cell_count setting name c))
      (λ name. cell_count setting name c + several_count setting name (cells_of us)) x
      (ok_then r a b new (λ name. cell_code_of setting name c at (record s { temp = s.temp + 1 }))
      (λ name. several_of setting name (cells_of us) (suc i) (at + takes_in c.suffixes.now) s t) (λ name. cell_count setting name c)
      (λ name. several_count setting name (cells_of us))
      (subst (λ k. Emits a b (λ name. cell_code_of setting name c at (record s { temp = k })) (λ name. cell_count setting name c)) next y)
      (subst (λ k. OnOk r (Emits b new (λ name. several_of setting name (cells_of us) (suc i) k s t)
      (λ name. several_count setting name (cells_of us)))) behind
      (subst (λ k. OnOk r (Emits b new (λ name. several_of setting name (cells_of us) k at2 s t)
      (λ name. several_count setting name (cells_of us)))) (further ∙ later i) h)))))
    where
      later : (n : ℕ) → n + 1 ≡ suc n
      later n = omega arith

  -- ---- what comes behind a write: `()`

  pub behind_put : (first : Coded) (n : Naming → ℕ) (s : Standing) (b : Ending) (a late : Coding) → Emits old a first n
      → Emits a late (λ name l. constant_code (kit_for setting name) (number_for setting setting.nothing.now) L.Unit s.temp) no_labels
      → OnOk r (Emits late new (λ name l. (tail_of setting name b).code setting.nothing.now l) (λ name. (tail_of setting name b).labels))
      → OnOk r (Emits old new
      (λ name l. first name l ++ (unit_piece (kit_for setting name)).ended (tail_of setting name b) (stand_of s) (l + n name))
      (λ name. n name + (tail_of setting name b).labels))
  behind_put first n s b a late x y h =
      ok_then r old a new first (λ name l. (unit_piece (kit_for setting name)).ended (tail_of setting name b) (stand_of s) l) n
      (λ name. (tail_of setting name b).labels) x (nothing r a new setting s b late y h)

-- no targets
pub several_none : (setting : Setting) (old : Coding) (ts : List Target) (i at : ℕ) (s : Standing) (t : Sized) → length ts < 1
    → Emits old old (λ name. several_of setting name (cells_of ts) i at s t) (λ name. several_count setting name (cells_of ts))
several_none setting old ts i at s t few =
    subst (λ us. Emits old old (λ name. several_of setting name (cells_of us) i at s t) (λ name. several_count setting name (cells_of us)))
    (sym (none_of ts few)) (emits_none old)

-- the cell of a target, before those behind it
pub cells_first : (ts us : List Target) (u : Target) (o : Option Aim) → ts ≡ u ∷ us → o ≡ only_cell (target_spot u) → and_cell o (cells_of us) ≡ cells_of ts
cells_first ts us u o all is = ap (λ p. and_cell p (cells_of us)) is ∙ ap cells_of (sym all)
