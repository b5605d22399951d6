-- Values by the cases of their nodes, as they are put.
use Rattle.std.proofs.Common.{◌≡◌, ◌∙◌, ℕ, ◌≤◌, List, [], ◌∷◌, ◌++◌, length, sym, ap, subst, arith}
use Rattle.std.specs.Prelude.{OnOk, Result}
use Rattle.sail_core.specs.declared.tree.Giver.TheVariants as Gives
use Rattle.size_values.specs.declared.sized.Sized.{Sized, out-Sized}
use Rattle.sail_types.specs.declared.table.Types.{Types}
use Rattle.jib.specs.declared.code.Literal.TheVariants as L
use Rattle.jib.specs.declared.code.Operation.{Operation}
use Rattle.jib.specs.declared.code.Operation.TheVariants as O
use Rattle.jib.specs.declared.code.Source.{Source}
use Rattle.jib.specs.declared.code.Source.TheVariants as R
use Rattle.jib.specs.declared.code.Target.TheVariants as G
use Rattle.jib.specs.declared.code.Instruction.{Instruction}
use Rattle.jib.specs.declared.code.Instruction.TheVariants as I
use Rattle.checked_meaning.specs.Items.{payload_typ}
use Rattle.sized_nodes.specs.declared.trees.Case.{Case}
use Rattle.sized_meanings.specs.Present.{gives_at}
use Rattle.lowered_pieces.specs.declared.coding.Coding.{Coding}
use Rattle.lowered_pieces.specs.Emitted.{Emits, Grows, Sourced, no_labels}
use Rattle.lowered_pieces.specs.Forms.{construct_code, kit_at, made_arm, note_code, numbers_of}
use Rattle.lowered_pieces.specs.Moves.{sources}
use Rattle.lowered_pieces.specs.Places.{Naming, Temp}
use Rattle.lowered_pieces.proofs.Emitting.{ok_before, ok_from, ok_next}
use Rattle.lowered_steps.specs.declared.making.Making.{Making}
use Rattle.lowered_steps.specs.declared.making.Order.{Order as Ordering}
use Rattle.lowered_steps.specs.declared.setting.Setting.{Setting}
use Rattle.lowered_steps.specs.declared.stands.Stand.{Stand as Standing}
use Rattle.lowered_steps.specs.declared.tails.Tail.{Tail as Ending}
use Rattle.lowered_steps.specs.Makers.{maker_of, order_of}
use Rattle.lowered_steps.specs.Setting.{kit_for, nodes_in, number_for}
use Rattle.lowered_steps.specs.Stands.{depths_of, stand_of}
use Rattle.lowered_steps.specs.Tails.{tail_of}
use Rattle.lowered_steps.proofs.Sourcing.{sourced_ordered}

module _ {T E : Type 0} (r : Result T E) (setting : Setting) (old : Coding) (new : Coding) where
  abbrev hands : ℕ → List Sized → Naming → List Source
  hands temp ts name = sources (kit_for setting name) temp (numbers_of (kit_for setting name) (number_for setting) ts)

  -- an operation over operands in hand
  pub works : (temp n : ℕ) (op : Operation) (order : Ordering) (c : Case) (mid : Coding) (rs us : List Source) → n ≡ number_for setting c.gives
      → Grows old mid → Sourced mid.slots rs (hands temp c.takes) → ((name : Naming) → us ≡ order_of setting name order rs)
      → ((by : Naming → List Source) → Sourced mid.slots us by
      → OnOk r (Emits mid new (λ name l. I.Apply (G.Slot (name (Temp temp) n)) op (by name) ∷ []) no_labels))
      → OnOk r (Emits old new
      (λ name l. I.Apply (G.Slot (name (Temp temp) (number_for setting c.gives))) op (order_of setting name order (hands temp c.takes name)) ∷ []) no_labels)
  works temp n op order c mid rs us numbered g read is put =
      let by : Naming → List Source = λ name. order_of setting name order (hands temp c.takes name) in
      subst (λ k. OnOk r (Emits old new (λ name l. I.Apply (G.Slot (name (Temp temp) k)) op (by name) ∷ []) no_labels)) numbered
      (ok_from r old mid new (λ name l. I.Apply (G.Slot (name (Temp temp) n)) op (by name) ∷ []) no_labels g
      (put by (sourced_ordered setting order mid.slots rs us (hands temp c.takes) read is)))

  -- a constructor over one argument, and over several
  pub constructs_one : (types : Types) (u k temp n m : ℕ) (t s : Sized) (ts : List Sized) → ts ≡ t ∷ [] → n ≡ number_for setting s → m ≡ number_for setting t
      → OnOk r (Emits old new (λ name l. I.Apply (G.Slot (name (Temp temp) n)) (O.Construct k) (R.Slot (name (Temp temp) m) ∷ []) ∷ []) no_labels)
      → OnOk r (Emits old new (λ name l. construct_code (kit_for setting name) (number_for setting) types u k temp ts s) no_labels)
  constructs_one types u k temp n m t s ts is gives takes h =
      subst (λ us. OnOk r (Emits old new (λ name l. construct_code (kit_for setting name) (number_for setting) types u k temp us s) no_labels)) (sym is)
      (subst (λ j. OnOk r (Emits old new
      (λ name l. I.Apply (G.Slot (name (Temp temp) (number_for setting s))) (O.Construct k) (R.Slot (name (Temp temp) j) ∷ []) ∷ []) no_labels)) takes
      (subst (λ j. OnOk r (Emits old new
      (λ name l. I.Apply (G.Slot (name (Temp temp) j)) (O.Construct k) (R.Slot (name (Temp temp) m) ∷ []) ∷ []) no_labels)) gives h))

  pub constructs_none : (types : Types) (u k temp n : ℕ) (s : Sized) (ts : List Sized) → ts ≡ [] → n ≡ number_for setting s
      → OnOk r (Emits old new (λ name l. I.Apply (G.Slot (name (Temp temp) n)) (O.Construct k) (R.Constant setting.unit L.Unit ∷ []) ∷ []) no_labels)
      → OnOk r (Emits old new (λ name l. construct_code (kit_for setting name) (number_for setting) types u k temp ts s) no_labels)
  constructs_none types u k temp n s ts is gives h =
      subst (λ us. OnOk r (Emits old new (λ name l. construct_code (kit_for setting name) (number_for setting) types u k temp us s) no_labels)) (sym is)
      (subst (λ j. OnOk r (Emits old new
      (λ name l. I.Apply (G.Slot (name (Temp temp) j)) (O.Construct k) (R.Constant setting.unit L.Unit ∷ []) ∷ []) no_labels)) gives h)

  pub constructs_more : (types : Types) (u k temp n m : ℕ) (s p : Sized) (ts : List Sized) (mid : Coding) → 2 ≤ length ts
      → n ≡ number_for setting s → p ≡ payload_typ types u k (out-Sized s) → m ≡ number_for setting p
      → Emits old mid (λ name l. I.Apply (G.Slot (name (Temp temp) m)) O.Build (hands temp ts name) ∷ []) no_labels
      → OnOk r (Emits mid new (λ name l. I.Apply (G.Slot (name (Temp temp) n)) (O.Construct k) (R.Slot (name (Temp temp) m) ∷ []) ∷ []) no_labels)
      → OnOk r (Emits old new (λ name l. construct_code (kit_for setting name) (number_for setting) types u k temp ts s) no_labels)
  constructs_more types u k temp n m s p [] mid many gives payload inside x h = absurd (omega arith)
  constructs_more types u k temp n m s p (t ∷ []) mid many gives payload inside x h = absurd (omega arith)
  constructs_more types u k temp n m s p (t ∷ v ∷ us) mid many gives payload inside x h =
      subst (λ j. OnOk r (Emits old new (λ name l.
      I.Apply (G.Slot (name (Temp temp) j)) O.Build (hands temp (t ∷ v ∷ us) name)
      ∷ I.Apply (G.Slot (name (Temp temp) (number_for setting s))) (O.Construct k) (R.Slot (name (Temp temp) j) ∷ []) ∷ []) no_labels))
      (inside ∙ ap (number_for setting) payload)
      (subst (λ j. OnOk r (Emits old new (λ name l.
      I.Apply (G.Slot (name (Temp temp) m)) O.Build (hands temp (t ∷ v ∷ us) name)
      ∷ I.Apply (G.Slot (name (Temp temp) j)) (O.Construct k) (R.Slot (name (Temp temp) m) ∷ []) ∷ []) no_labels)) gives
      (ok_next r old mid new (λ name. I.Apply (G.Slot (name (Temp temp) m)) O.Build (hands temp (t ∷ v ∷ us) name) ∷ [])
      (λ name. I.Apply (G.Slot (name (Temp temp) n)) (O.Construct k) (R.Slot (name (Temp temp) m) ∷ []) ∷ []) x h))

  -- the value, its notes, and what is done with it
  pub arm_made : (s : Standing) (making : Making) (tail : Ending) (node : ℕ) (c : Case) (a b : Coding)
      → Emits old a (λ name l. maker_of setting name making (stand_of s) c) no_labels
      → Emits a b (λ name l. note_code (kit_at (kit_for setting name) (depths_of s.levels.now)) (number_for setting) s.temp
      (gives_at (nodes_in setting) (Gives.Node node)) c.gives) no_labels
      → OnOk r (Emits b new (λ name l. (tail_of setting name tail).code c.gives l) (λ name. (tail_of setting name tail).labels))
      → OnOk r (Emits old new (λ name. made_arm (kit_for setting name) (number_for setting) (maker_of setting name making)
      (gives_at (nodes_in setting) (Gives.Node node)) (tail_of setting name tail) (stand_of s) c) (λ name. (tail_of setting name tail).labels))
  arm_made s making tail node c a b x y h =
      let noted : Naming → List Instruction =
      λ name. note_code (kit_at (kit_for setting name) (depths_of s.levels.now)) (number_for setting) s.temp
      (gives_at (nodes_in setting) (Gives.Node node)) c.gives in
      ok_before r old a new (λ name. maker_of setting name making (stand_of s) c) (λ name l. noted name ++ (tail_of setting name tail).code c.gives l)
      (λ name. (tail_of setting name tail).labels) x
      (ok_before r a b new noted (λ name l. (tail_of setting name tail).code c.gives l) (λ name. (tail_of setting name tail).labels) y h)

  -- of how a value is made
  pub making_is : (s : Standing) (c : Case) (m k : Making) → m ≡ k → OnOk r (Emits old new (λ name l. maker_of setting name k (stand_of s) c) no_labels)
      → OnOk r (Emits old new (λ name l. maker_of setting name m (stand_of s) c) no_labels)
  making_is s c m k is h = subst (λ x. OnOk r (Emits old new (λ name l. maker_of setting name x (stand_of s) c) no_labels)) (sym is) h
