-- Values that are made of the parts of a node, calls, and builtins of the state, as they are put.
use Rattle.std.proofs.Common.{◌≡◌, ◌∙◌, ℕ, ◌+◌, List, [], ◌∷◌, ◌++◌, length, refl, sym, ap, subst, arith}
use Rattle.std.specs.Prelude.{OnOk, Result}
use Rattle.sail_types.specs.declared.rows.Row.{Row}
use Rattle.sail_core.specs.declared.tree.Core.{Core, out-Core}
use Rattle.sail_core.specs.declared.tree.Giver.TheVariants as G
use Rattle.value_indices.specs.declared.indices.Indices.{Indices}
use Rattle.sized_meanings.specs.Present.{gives_at}
use Rattle.sized_nodes.specs.declared.trees.Case.{Case}
use Rattle.jib.specs.declared.code.Instruction.TheVariants as I
use Rattle.jib.specs.declared.code.Operation.TheVariants as O
use Rattle.jib.specs.declared.code.Target.TheVariants as J
use Rattle.lowered_pieces.specs.declared.coding.Coding.{Coding}
use Rattle.lowered_pieces.specs.Chains.{many}
use Rattle.lowered_pieces.specs.Counted.{bounds_code, bounds_labels}
use Rattle.lowered_pieces.specs.Emitted.{Emits, Grows, no_labels}
use Rattle.lowered_pieces.specs.Forms.{Piece, Stand, all_code, all_labels, made_code}
use Rattle.lowered_pieces.specs.Nodes.{cases_at, leads_at}
use Rattle.lowered_pieces.specs.Places.{Kit, Naming, Temp}
use Rattle.lowered_pieces.proofs.Emitting.{emits_from}
use Rattle.lowered_steps.specs.declared.making.Making.{Making}
use Rattle.lowered_steps.specs.declared.stands.Stand.{Stand as Standing}
use Rattle.lowered_steps.specs.declared.tails.Tail.{Tail}
use Rattle.lowered_steps.specs.Makers.{maker_of}
use Rattle.lowered_steps.specs.Setting.{kit_for, nodes_in, number_for}
use Rattle.lowered_steps.specs.Stands.{stand_of}
use Rattle.lowered_steps.specs.Tails.{tail_of}
use Rattle.lowered_ends.specs.Around.{callees_of}
use Rattle.lowered_nodes.specs.declared.calls.Calling.{Calling}
use Rattle.lowered_nodes.specs.declared.walk.Walk.{Walk}
use Rattle.lowered_nodes.specs.Walk.{Puts, call_for, cast_for, leads_for, leads_labels, made_for, noted_code, operands_for, pieces_for, state_for}
use Rattle.lowered_nodes.specs.Walk.{state_of, written_for}
use Rattle.lowered_nodes.proofs.Counting.{many_pieces}
use Rattle.lowered_nodes.proofs.Joining.{ok_as, ok_first, ok_more}
use Rattle.lowered_nodes.proofs.Lasts.{all_last, length_last}
use Rattle.lowered_nodes.proofs.Made.{call_put, made_put}
use Rattle.lowered_nodes.proofs.Pieces.{Stays, raised_stays}

module _ {T E : Type 0} (r : Result T E) (walk : Walk) (stand : Standing) (tail : Tail) (node : Core) where
  -- operands in hand
  abbrev Here : Coding → Coding → List Core → Type 0
  Here a b cs =
      Emits a b (λ name x. all_code (kit_for walk.setting.now name) (number_for walk.setting.now) (pieces_for walk name cs) (stand_of stand) x)
      (λ name. all_labels (kit_for walk.setting.now name) (number_for walk.setting.now) (pieces_for walk name cs))

  abbrev gives : List Indices
  gives = gives_at (nodes_in walk.setting.now) (G.Node (out-Core node).number)

  -- a value of so many of them
  abbrev Makes : Making → ℕ → Coding → Coding → Type 0
  Makes making n b c =
      Emits b c (λ name x. made_code (kit_for walk.setting.now name) (number_for walk.setting.now) n (maker_of walk.setting.now name making)
      (cases_at (out-Core node).number n (nodes_in walk.setting.now)) gives (tail_of walk.setting.now name tail) (stand_of stand) x)
      (λ name. many (tail_of walk.setting.now name tail).labels (cases_at (out-Core node).number n (nodes_in walk.setting.now)))

  pub made_from : (making : Making) (ps : List Core) (n : ℕ) → ps ≡ (out-Core node).parts → n ≡ length (out-Core node).parts
      → (a b c : Coding) → Here a b ps → OnOk r (Makes making n b c) → OnOk r (Puts a c walk stand tail (λ name. made_for walk name making node))
  made_from making ps n same count a b c x h =
      made_put r (λ name. kit_for walk.setting.now name) (number_for walk.setting.now) (stand_of stand) (λ name. tail_of walk.setting.now name tail)
      (λ name. maker_of walk.setting.now name making) (cases_at (out-Core node).number (length (out-Core node).parts) (nodes_in walk.setting.now)) gives
      (length (out-Core node).parts) (λ name. pieces_for walk name (out-Core node).parts) (λ name. many_pieces walk name (out-Core node).parts) a b c
      (subst (λ (cs : List Core). Here a b cs) same x) (subst (λ m. OnOk r (Makes making m b c)) count h)

  -- a call with so many arguments
  abbrev calling : ℕ → Calling
  calling n = record { place = (out-Core node).place; node = (out-Core node).number; count = n }

  abbrev Calls : ℕ → Coding → Coding → Type 0
  Calls n b c = Emits b c (λ name x. leads_for walk name stand tail (calling n) x) (λ name. leads_labels walk name tail (calling n))

  pub call_from : (ps : List Core) (n : ℕ) → ps ≡ (out-Core node).parts → n ≡ length (out-Core node).parts
      → (a b c : Coding) → Here a b ps → OnOk r (Calls n b c) → OnOk r (Puts a c walk stand tail (λ name. call_for walk name node))
  call_from ps n same count a b c x h =
      call_put r (λ name. kit_for walk.setting.now name) (number_for walk.setting.now) (stand_of stand) (λ name. tail_of walk.setting.now name tail)
      (callees_of walk.setting.now walk.around.now) (out-Core node).place
      (cases_at (out-Core node).number (length (out-Core node).parts) (nodes_in walk.setting.now))
      (leads_at (out-Core node).number (nodes_in walk.setting.now)) gives (length (out-Core node).parts)
      (λ name. pieces_for walk name (out-Core node).parts) (λ name. many_pieces walk name (out-Core node).parts) a b c
      (subst (λ (cs : List Core). Here a b cs) same x) (subst (λ m. OnOk r (Calls m b c)) count h)

  -- a builtin of the state, at a node that has one case
  pub state_put : (row : Row) (only : Case) (n : ℕ) → n ≡ length (out-Core node).parts
      → cases_at (out-Core node).number n (nodes_in walk.setting.now) ≡ only ∷ []
      → (ps qs : List Core) → ps ≡ (out-Core node).parts → qs ≡ (out-Core node).parts → (t : ℕ) → t ≡ number_for walk.setting.now only.gives
      → (a b c d e : Coding) → Here a b ps → Grows b c
      → Emits c d (λ name x. I.Apply (J.Slot (name (Temp stand.temp) t)) (O.Builtin row) (operands_for walk name stand.temp qs) ∷ []) no_labels
      → OnOk r (Emits d e (λ name x. noted_code walk name stand tail (out-Core node).number only.gives x) (λ name. (tail_of walk.setting.now name tail).labels))
      → OnOk r (Puts a e walk stand tail (λ name. state_for walk name row node))
  state_put row only n count one ps qs same too t is a b c d e x g y h =
      ok_as r a e _ _ _ _ (ok_more r a b e _ _ _ _ (subst (λ (cs : List Core). Here a b cs) same x) (ok_first r b d e _ _ _ applied h))
      (λ name. ap (λ (cs : List Case). (of_cases name cs).ended (tail_of walk.setting.now name tail) (stand_of stand) a.labels) (sym cases_are))
      (λ name. ap (λ (cs : List Case). (of_cases name cs).labels (tail_of walk.setting.now name tail).labels) (sym cases_are))
    where
      cases_are : cases_at (out-Core node).number (length (out-Core node).parts) (nodes_in walk.setting.now) ≡ only ∷ []
      cases_are = ap (λ m. cases_at (out-Core node).number m (nodes_in walk.setting.now)) (sym count) ∙ one

      of_cases : Naming → List Case → Piece
      of_cases name cs = state_of walk name row node cs

      applied : Emits b d (λ name x. I.Apply (J.Slot (name (Temp stand.temp) (number_for walk.setting.now only.gives))) (O.Builtin row)
          (operands_for walk name stand.temp (out-Core node).parts) ∷ []) no_labels
      applied =
          emits_from b c d _ _ g
          (subst (λ (u : ℕ × List Core). Emits c d (λ name x. I.Apply (J.Slot (name (Temp stand.temp) u.0)) (O.Builtin row)
          (operands_for walk name stand.temp u.1) ∷ []) no_labels) (λ i. (is i, too i)) y)

-- the bounds of a `foreach`, each in the next place in hand
module _ {T E : Type 0} (r : Result T E) (s : Stand) (p q u : Naming → Piece) (kit : Naming → Kit) where
  pub bounds_put : (m n : ℕ) (a b c d : Coding) → m ≡ s.temp + 1 → n ≡ m + 1 → Stays a b s p → Stays b c (record s { temp = m }) q
      → OnOk r (Stays c d (record s { temp = n }) u)
      → OnOk r (Emits a d (λ name x. bounds_code (kit name) (p name) (q name) (u name) s x) (λ name. bounds_labels (kit name) (p name) (q name) (u name)))
  bounds_put m n a b c d is next x y h =
      ok_as r a d _ _ _ _
      (ok_more r a b d _ _ _ _ x (ok_more r b c d _ _ _ _ (raised_stays b c s m q is y)
      (subst (λ k. OnOk r (Stays c d (record s { temp = k }) u)) (next ∙ ap (λ k. k + 1) is) h)))
      (λ name. refl) (λ name. omega arith)

-- arguments, and the new value behind them, of a call
module _ {T E : Type 0} (r : Result T E) (walk : Walk) (stand : Standing) (tail : Tail) where
  pub behind_put : (cs : List Core) (p : Naming → Piece) (m : ℕ) → m ≡ stand.temp + length cs → (a b c : Coding)
      → Emits a b (λ name x. all_code (kit_for walk.setting.now name) (number_for walk.setting.now) (pieces_for walk name cs) (stand_of stand) x)
      (λ name. all_labels (kit_for walk.setting.now name) (number_for walk.setting.now) (pieces_for walk name cs))
      → Stays b c (record (stand_of stand) { temp = m }) p
      → Emits a c (λ name x. all_code (kit_for walk.setting.now name) (number_for walk.setting.now) (pieces_for walk name cs ++ p name ∷ []) (stand_of stand) x)
      (λ name. all_labels (kit_for walk.setting.now name) (number_for walk.setting.now) (pieces_for walk name cs ++ p name ∷ []))
  behind_put cs p m is a b c x y =
      all_last (λ name. kit_for walk.setting.now name) (number_for walk.setting.now) (λ name. pieces_for walk name cs) p (stand_of stand) m (length cs) is
      (λ name. many_pieces walk name cs) a b c x y

  pub written_put : (k : ℕ) (calling : Calling) (cs : List Core) (v : Core) → calling.count ≡ length cs + 1 → (m : ℕ) → m ≡ stand.temp + length cs
      → (a b c d : Coding)
      → Emits a b (λ name x. all_code (kit_for walk.setting.now name) (number_for walk.setting.now) (pieces_for walk name cs) (stand_of stand) x)
      (λ name. all_labels (kit_for walk.setting.now name) (number_for walk.setting.now) (pieces_for walk name cs))
      → Stays b c (record (stand_of stand) { temp = m }) (λ name. cast_for walk name k v)
      → OnOk r (Emits c d (λ name x. leads_for walk name stand tail calling x) (λ name. leads_labels walk name tail calling))
      → OnOk r (Puts a d walk stand tail (λ name. written_for walk name k calling cs v))
  written_put k calling cs v count m is a b c d x y h =
      call_put r (λ name. kit_for walk.setting.now name) (number_for walk.setting.now) (stand_of stand) (λ name. tail_of walk.setting.now name tail)
      (callees_of walk.setting.now walk.around.now) calling.place (cases_at calling.node calling.count (nodes_in walk.setting.now))
      (leads_at calling.node (nodes_in walk.setting.now)) (gives_at (nodes_in walk.setting.now) (G.Node calling.node)) calling.count
      (λ name. pieces_for walk name cs ++ cast_for walk name k v ∷ [])
      (λ name. count ∙ ap (λ n. n + 1) (many_pieces walk name cs) ∙ sym (length_last (pieces_for walk name cs) (cast_for walk name k v)))
      a c d (behind_put cs (λ name. cast_for walk name k v) m is a b c x y) h
