-- The pieces of the definition, as their parts are put one behind the other.
use Rattle.std.proofs.Common.{◌≡◌, ◌∙◌, ℕ, ◌+◌, List, [], ◌∷◌, ◌++◌, length, refl, ap, subst, arith}
use Rattle.std.specs.Prelude.{OnOk, Result}
use Rattle.sail_base.specs.declared.place.Place.{Place as TextPlace}
use Rattle.model_state.specs.declared.cause.Cause.{Cause}
use Rattle.sail_core.specs.declared.tree.Counting.{Counting}
use Rattle.size_values.specs.declared.sized.Sized.{Sized}
use Rattle.jib.specs.declared.code.Instruction.{Instruction}
use Rattle.jib.specs.declared.code.Instruction.TheVariants as I
use Rattle.lowered_pieces.specs.declared.coding.Coding.{Coding}
use Rattle.lowered_pieces.specs.Emitted.{Emits, no_labels}
use Rattle.lowered_pieces.specs.Places.{Kit, Local, Naming, Temp, from, to}
use Rattle.lowered_pieces.specs.Arms.{catch_piece, else_piece, failing}
use Rattle.lowered_pieces.specs.Counted.{bounds_code, bounds_labels, foreach_piece, next_code, turn_code, turn_stand}
use Rattle.lowered_pieces.specs.Forms.{var_piece, var_tail}
use Rattle.lowered_pieces.specs.Forms.{Piece, Stand, Tail, and_piece, assert_piece, bound, caught_at, code_of, count_of, fallen_code}
use Rattle.lowered_pieces.specs.Forms.{higher, if_piece, jump_where, no_measure_yet, or_piece, repeat_piece, seq_piece, unit_piece, when_piece, while_piece}
use Rattle.lowered_pieces.specs.Mapped.{none_piece, optional_piece, some_tail}
use Rattle.sail_types.specs.declared.table.Types.{Types}
use Rattle.lowered_nodes.proofs.Joining.{ok_as, ok_first, ok_last, ok_more}

-- a piece whose value stays in hand
abbrev pub Stays : Coding → Coding → Stand → (Naming → Piece) → Type 0
Stays a b s p = Emits a b (λ name x. code_of (p name) s x) (λ name. count_of (p name))

-- instructions without labels, and labels alone
abbrev pub Plain : Coding → Coding → (Naming → List Instruction) → Type 0
Plain a b code = Emits a b (λ name x. code name) no_labels

abbrev pub Takes : Coding → Coding → ℕ → Type 0
Takes a b n = Emits a b (λ name x. []) (λ name. n)

module _ {T E : Type 0} (r : Result T E) (kit : Naming → Kit) (s : Stand) (t : Naming → Tail) where
  -- a piece with what comes behind its value
  abbrev pub Ended : Coding → Coding → (Naming → Piece) → Type 0
  Ended a b p = Emits a b (λ name x. (p name).ended (t name) s x) (λ name. (p name).labels (t name).labels)

  pub seq_put : (p q : Naming → Piece) (a b c : Coding) → Stays a b s p → OnOk r (Ended b c q) → OnOk r (Ended a c (λ name. seq_piece (p name) (q name)))
  seq_put p q a b c x h = ok_more r a b c _ _ _ _ x h

  pub bind_put : (us : List Sized) (p q : Naming → Piece) (nm : List ℕ) (a b c : Coding)
      → Emits a b (λ name x. (p name).ended (var_tail (kit name) us s) s x) (λ name. count_of (p name))
      → OnOk r (Emits b c (λ name x. (q name).ended (t name) (bound nm s) x) (λ name. (q name).labels (t name).labels))
      → OnOk r (Ended a c (λ name. var_piece (kit name) us nm (p name) (q name)))
  bind_put us p q nm a b c x h = ok_more r a b c _ _ _ _ x h

  pub and_put : (p q : Naming → Piece) (a b c d e f g z : Coding) (l m : ℕ) → l ≡ a.labels → m ≡ l + 1 → Takes a b 2 → Stays b c s p
      → Plain c d (λ name. jump_where (kit name) s l ∷ []) → Plain d e (λ name. I.Goto m ∷ I.Label l ∷ []) → Stays e f s q
      → Plain f g (λ name. I.Label m ∷ []) → OnOk r (Emits g z (λ name x. (t name).code (kit name).truths x) (λ name. (t name).labels))
      → OnOk r (Ended a z (λ name. and_piece (kit name) (p name) (q name)))
  and_put p q a b c d e f g z l m is next x0 x1 x2 x3 x4 x5 h =
      ok_as r a z _ _ _ _
      (ok_more r a b z _ _ _ _ x0 (ok_more r b c z _ _ _ _ x1 (ok_first r c d z _ _ _ x2 (ok_first r d e z _ _ _ x3
      (ok_more r e f z _ _ _ _ x4 (ok_first r f g z _ _ _ x5 h))))))
      (λ name i. code_of (p name) s (a.labels + 2) ++ jump_where (kit name) s (is i) ∷ I.Goto (after i) ∷ I.Label (is i)
      ∷ (code_of (q name) s (a.labels + 2 + count_of (p name)) ++ I.Label (after i)
      ∷ (t name).code (kit name).truths (a.labels + 2 + count_of (p name) + count_of (q name))))
      (λ name. omega arith)
    where
      after : m ≡ a.labels + 1
      after = next ∙ ap (λ k. k + 1) is

  pub or_put : (p q : Naming → Piece) (a b c d e f z : Coding) (l : ℕ) → l ≡ a.labels → Takes a b 1 → Stays b c s p
      → Plain c d (λ name. jump_where (kit name) s l ∷ []) → Stays d e s q → Plain e f (λ name. I.Label l ∷ [])
      → OnOk r (Emits f z (λ name x. (t name).code (kit name).truths x) (λ name. (t name).labels))
      → OnOk r (Ended a z (λ name. or_piece (kit name) (p name) (q name)))
  or_put p q a b c d e f z l is x0 x1 x2 x3 x4 h =
      ok_as r a z _ _ _ _
      (ok_more r a b z _ _ _ _ x0 (ok_more r b c z _ _ _ _ x1 (ok_first r c d z _ _ _ x2 (ok_more r d e z _ _ _ _ x3 (ok_first r e f z _ _ _ x4 h)))))
      (λ name i. code_of (p name) s (a.labels + 1) ++ jump_where (kit name) s (is i)
      ∷ (code_of (q name) s (a.labels + 1 + count_of (p name)) ++ I.Label (is i)
      ∷ (t name).code (kit name).truths (a.labels + 1 + count_of (p name) + count_of (q name))))
      (λ name. omega arith)

  pub when_put : (p q : Naming → Piece) (a b c d e f z : Coding) (l : ℕ) → l ≡ a.labels → Takes a b 1 → Stays b c s p
      → Plain c d (λ name. jump_where (kit name) s l ∷ []) → Plain d e (λ name. I.Goto s.on_no ∷ []) → Plain e f (λ name. I.Label l ∷ [])
      → OnOk r (Ended f z q) → OnOk r (Ended a z (λ name. when_piece (kit name) (p name) (q name)))
  when_put p q a b c d e f z l is x0 x1 x2 x3 x4 h =
      ok_as r a z _ _ _ _
      (ok_more r a b z _ _ _ _ x0 (ok_more r b c z _ _ _ _ x1 (ok_first r c d z _ _ _ x2 (ok_first r d e z _ _ _ x3 (ok_first r e f z _ _ _ x4 h)))))
      (λ name i. code_of (p name) s (a.labels + 1) ++ jump_where (kit name) s (is i) ∷ I.Goto s.on_no ∷ I.Label (is i)
      ∷ (q name).ended (t name) s (a.labels + 1 + count_of (p name)))
      (λ name. omega arith)

  pub assert_put : (cause : Cause) (p : Naming → Piece) (a b c d e f z : Coding) (l : ℕ) → l ≡ a.labels → Takes a b 1 → Stays b c s p
      → Plain c d (λ name. jump_where (kit name) s l ∷ []) → Plain d e (λ name. I.Stop cause ∷ []) → Plain e f (λ name. I.Label l ∷ [])
      → OnOk r (Ended f z (λ name. unit_piece (kit name))) → OnOk r (Ended a z (λ name. assert_piece (kit name) cause (p name)))
  assert_put cause p a b c d e f z l is x0 x1 x2 x3 x4 h =
      ok_as r a z _ _ _ _
      (ok_more r a b z _ _ _ _ x0 (ok_more r b c z _ _ _ _ x1 (ok_first r c d z _ _ _ x2 (ok_first r d e z _ _ _ x3 (ok_first r e f z _ _ _ x4 h)))))
      (λ name i. code_of (p name) s (a.labels + 1) ++ jump_where (kit name) s (is i) ∷ I.Stop cause ∷ I.Label (is i)
      ∷ (unit_piece (kit name)).ended (t name) s (a.labels + 1 + count_of (p name)))
      (λ name. omega arith)

  -- the test, and both branches: the one that stands behind the jump first
  pub if_put : (p q u : Naming → Piece) (a b c d e f g z : Coding) (l m : ℕ) → l ≡ a.labels → m ≡ l + 1 → Takes a b 2 → Stays b c s p
      → Plain c d (λ name. jump_where (kit name) s l ∷ []) → Ended d e u → Plain e f (λ name. I.Goto m ∷ I.Label l ∷ []) → Ended f g q
      → OnOk r (Plain g z (λ name. I.Label m ∷ [])) → OnOk r (Ended a z (λ name. if_piece (kit name) (p name) (q name) (u name)))
  if_put p q u a b c d e f g z l m is next x0 x1 x2 x3 x4 x5 h =
      ok_as r a z _ _ _ _
      (ok_more r a b z _ _ _ _ x0 (ok_more r b c z _ _ _ _ x1 (ok_first r c d z _ _ _ x2 (ok_more r d e z _ _ _ _ x3
      (ok_first r e f z _ _ _ x4 (ok_last r f g z _ _ _ x5 h))))))
      (λ name i. code_of (p name) s (a.labels + 2) ++ jump_where (kit name) s (is i)
      ∷ ((u name).ended (t name) s (a.labels + 2 + count_of (p name)) ++ I.Goto (after i) ∷ I.Label (is i)
      ∷ ((q name).ended (t name) s (a.labels + 2 + count_of (p name) + (u name).labels (t name).labels) ++ I.Label (after i) ∷ [])))
      (λ name. omega arith)
    where
      after : m ≡ a.labels + 1
      after = next ∙ ap (λ k. k + 1) is

  -- where one piece says No, another
  pub else_put : (types : Types) (p q : Naming → Piece) (a b c d e z : Coding) (l m : ℕ) → l ≡ a.labels → m ≡ l + 1 → Takes a b 2
      → Emits b c (λ name x. (p name).ended (t name) (failing types (kit name) l s) x) (λ name. (p name).labels (t name).labels)
      → Plain c d (λ name. I.Goto m ∷ I.Label l ∷ []) → Ended d e q → OnOk r (Plain e z (λ name. I.Label m ∷ []))
      → OnOk r (Ended a z (λ name. else_piece types (kit name) (p name) (q name)))
  else_put types p q a b c d e z l m is next x0 x1 x2 x3 h =
      ok_as r a z _ _ _ _
      (ok_more r a b z _ _ _ _ x0 (ok_more r b c z _ _ _ _ x1 (ok_first r c d z _ _ _ x2 (ok_last r d e z _ _ _ x3 h))))
      (λ name i. (p name).ended (t name) (failing types (kit name) (is i) s) (a.labels + 2) ++ I.Goto (after i) ∷ I.Label (is i)
      ∷ ((q name).ended (t name) s (a.labels + 2 + (p name).labels (t name).labels) ++ I.Label (after i) ∷ []))
      (λ name. omega arith)
    where
      after : m ≡ a.labels + 1
      after = next ∙ ap (λ k. k + 1) is

  -- where one piece throws, another
  pub catch_put : (types : Types) (p q : Naming → Piece) (a b c d e z : Coding) (l m : ℕ) → l ≡ a.labels → m ≡ l + 1 → Takes a b 2
      → Emits b c (λ name x. (p name).ended (t name) (caught_at l s) x) (λ name. (p name).labels (t name).labels)
      → Plain c d (λ name. I.Goto m ∷ I.Label l ∷ []) → Ended d e q → OnOk r (Plain e z (λ name. I.Label m ∷ []))
      → OnOk r (Ended a z (λ name. catch_piece types (kit name) (p name) (q name)))
  catch_put types p q a b c d e z l m is next x0 x1 x2 x3 h =
      ok_as r a z _ _ _ _
      (ok_more r a b z _ _ _ _ x0 (ok_more r b c z _ _ _ _ x1 (ok_first r c d z _ _ _ x2 (ok_last r d e z _ _ _ x3 h))))
      (λ name i. (p name).ended (t name) (caught_at (is i) s) (a.labels + 2) ++ I.Goto (after i) ∷ I.Label (is i)
      ∷ ((q name).ended (t name) s (a.labels + 2 + (p name).labels (t name).labels) ++ I.Label (after i) ∷ []))
      (λ name. omega arith)
    where
      after : m ≡ a.labels + 1
      after = next ∙ ap (λ k. k + 1) is

  -- `while`
  pub while_put : (place : TextPlace) (m c b : Naming → Piece) (k0 k1 k2 k3 k4 k5 k6 k7 k8 k9 ka kb z : Coding) (l e f : ℕ) → l ≡ k0.labels
      → e ≡ l + 1 → f ≡ l + 2 → Takes k0 k1 3 → Plain k1 k2 (λ name. no_measure_yet (kit name) s.temp ∷ []) → Plain k2 k3 (λ name. I.Goto e ∷ [])
      → Plain k3 k4 (λ name. I.Label l ∷ []) → Plain k4 k5 (λ name. I.Tick ∷ []) → Stays k5 k6 (higher s) m
      → Plain k6 k7 (λ name. fallen_code (kit name) place s.temp f) → Stays k7 k8 (higher s) b → Plain k8 k9 (λ name. I.Label e ∷ [])
      → Stays k9 ka (higher s) c → Plain ka kb (λ name. jump_where (kit name) (higher s) l ∷ []) → OnOk r (Ended kb z (λ name. unit_piece (kit name)))
      → OnOk r (Ended k0 z (λ name. while_piece (kit name) place (m name) (c name) (b name)))
  while_put place m c b k0 k1 k2 k3 k4 k5 k6 k7 k8 k9 ka kb z l e f is next last x0 x1 x2 x3 x4 x5 x6 x7 x8 x9 xa h =
      ok_as r k0 z _ _ _ _
      (ok_more r k0 k1 z _ _ _ _ x0 (ok_first r k1 k2 z _ _ _ x1 (ok_first r k2 k3 z _ _ _ x2 (ok_first r k3 k4 z _ _ _ x3 (ok_first r k4 k5 z _ _ _ x4
      (ok_more r k5 k6 z _ _ _ _ x5 (ok_first r k6 k7 z _ _ _ x6 (ok_more r k7 k8 z _ _ _ _ x7 (ok_first r k8 k9 z _ _ _ x8
      (ok_more r k9 ka z _ _ _ _ x9 (ok_first r ka kb z _ _ _ xa h)))))))))))
      (λ name i. no_measure_yet (kit name) s.temp ∷ I.Goto (after i) ∷ I.Label (is i) ∷ I.Tick
      ∷ (code_of (m name) (higher s) (k0.labels + 3) ++ (fallen_code (kit name) place s.temp (behind i)
      ++ (code_of (b name) (higher s) (k0.labels + 3 + count_of (m name)) ++ I.Label (after i)
      ∷ (code_of (c name) (higher s) (k0.labels + 3 + count_of (m name) + count_of (b name)) ++ jump_where (kit name) (higher s) (is i)
      ∷ (unit_piece (kit name)).ended (t name) s (k0.labels + 3 + count_of (m name) + count_of (b name) + count_of (c name)))))))
      (λ name. omega arith)
    where
      after : e ≡ k0.labels + 1
      after = next ∙ ap (λ k. k + 1) is

      behind : f ≡ k0.labels + 2
      behind = last ∙ ap (λ k. k + 2) is

  -- `repeat`
  pub repeat_put : (place : TextPlace) (m b c : Naming → Piece) (k0 k1 k2 k3 k4 k5 k6 k7 k8 k9 ka z : Coding) (l f e : ℕ) → l ≡ k0.labels
      → f ≡ l + 1 → e ≡ l + 2 → Takes k0 k1 3 → Plain k1 k2 (λ name. no_measure_yet (kit name) s.temp ∷ []) → Plain k2 k3 (λ name. I.Label l ∷ [])
      → Plain k3 k4 (λ name. I.Tick ∷ []) → Stays k4 k5 (higher s) m → Plain k5 k6 (λ name. fallen_code (kit name) place s.temp f)
      → Stays k6 k7 (higher s) b → Stays k7 k8 (higher s) c → Plain k8 k9 (λ name. jump_where (kit name) (higher s) e ∷ [])
      → Plain k9 ka (λ name. I.Goto l ∷ I.Label e ∷ []) → OnOk r (Ended ka z (λ name. unit_piece (kit name)))
      → OnOk r (Ended k0 z (λ name. repeat_piece (kit name) place (m name) (b name) (c name)))
  repeat_put place m b c k0 k1 k2 k3 k4 k5 k6 k7 k8 k9 ka z l f e is next last x0 x1 x2 x3 x4 x5 x6 x7 x8 x9 h =
      ok_as r k0 z _ _ _ _
      (ok_more r k0 k1 z _ _ _ _ x0 (ok_first r k1 k2 z _ _ _ x1 (ok_first r k2 k3 z _ _ _ x2 (ok_first r k3 k4 z _ _ _ x3
      (ok_more r k4 k5 z _ _ _ _ x4 (ok_first r k5 k6 z _ _ _ x5 (ok_more r k6 k7 z _ _ _ _ x6 (ok_more r k7 k8 z _ _ _ _ x7
      (ok_first r k8 k9 z _ _ _ x8 (ok_first r k9 ka z _ _ _ x9 h))))))))))
      (λ name i. no_measure_yet (kit name) s.temp ∷ I.Label (is i) ∷ I.Tick
      ∷ (code_of (m name) (higher s) (k0.labels + 3) ++ (fallen_code (kit name) place s.temp (after i)
      ++ (code_of (b name) (higher s) (k0.labels + 3 + count_of (m name))
      ++ (code_of (c name) (higher s) (k0.labels + 3 + count_of (m name) + count_of (b name)) ++ jump_where (kit name) (higher s) (behind i)
      ∷ I.Goto (is i) ∷ I.Label (behind i)
      ∷ (unit_piece (kit name)).ended (t name) s (k0.labels + 3 + count_of (m name) + count_of (b name) + count_of (c name)))))))
      (λ name. omega arith)
    where
      after : f ≡ k0.labels + 1
      after = next ∙ ap (λ k. k + 1) is

      behind : e ≡ k0.labels + 2
      behind = last ∙ ap (λ k. k + 2) is

  -- `foreach`
  pub foreach_put : (nm : List ℕ) (way : Counting) (p q u b : Naming → Piece) (k0 k1 k2 k3 k4 k5 k6 k7 k8 k9 ka z : Coding) (l m e : ℕ) → l ≡ k0.labels
      → m ≡ l + 1 → e ≡ l + 2 → Takes k0 k1 3
      → Emits k1 k2 (λ name x. bounds_code (kit name) (p name) (q name) (u name) s x) (λ name. bounds_labels (kit name) (p name) (q name) (u name))
      → Plain k2 k3 (λ name. I.Goto m ∷ []) → Plain k3 k4 (λ name. I.Label l ∷ []) → Plain k4 k5 (λ name. I.Tick ∷ [])
      → Emits k5 k6 (λ name x. I.Copy (to (kit name) (Local (length s.scope)) (kit name).integer) (from (kit name) (Temp s.temp) (kit name).integer)
      ∷ code_of (b name) (turn_stand (kit name) nm s) x) (λ name. count_of (b name))
      → Plain k6 k7 (λ name. next_code (kit name) way s.temp e) → Plain k7 k8 (λ name. I.Label m ∷ [])
      → Plain k8 k9 (λ name. turn_code (kit name) way s.temp l) → Plain k9 ka (λ name. I.Label e ∷ [])
      → OnOk r (Ended ka z (λ name. unit_piece (kit name)))
      → OnOk r (Ended k0 z (λ name. foreach_piece (kit name) nm way (p name) (q name) (u name) (b name)))
  foreach_put nm way p q u b k0 k1 k2 k3 k4 k5 k6 k7 k8 k9 ka z l m e is next last x0 x1 x2 x3 x4 x5 x6 x7 x8 x9 h =
      ok_as r k0 z _ _ _ _
      (ok_more r k0 k1 z _ _ _ _ x0 (ok_more r k1 k2 z _ _ _ _ x1 (ok_first r k2 k3 z _ _ _ x2 (ok_first r k3 k4 z _ _ _ x3 (ok_first r k4 k5 z _ _ _ x4
      (ok_more r k5 k6 z _ _ _ _ x5 (ok_first r k6 k7 z _ _ _ x6 (ok_first r k7 k8 z _ _ _ x7 (ok_first r k8 k9 z _ _ _ x8
      (ok_first r k9 ka z _ _ _ x9 h))))))))))
      (λ name i. bounds_code (kit name) (p name) (q name) (u name) s (k0.labels + 3) ++ I.Goto (after i) ∷ I.Label (is i) ∷ I.Tick
      ∷ I.Copy (to (kit name) (Local (length s.scope)) (kit name).integer) (from (kit name) (Temp s.temp) (kit name).integer)
      ∷ (code_of (b name) (turn_stand (kit name) nm s) (k0.labels + 3 + bounds_labels (kit name) (p name) (q name) (u name))
      ++ (next_code (kit name) way s.temp (behind i) ++ I.Label (after i) ∷ (turn_code (kit name) way s.temp (is i) ++ I.Label (behind i)
      ∷ (unit_piece (kit name)).ended (t name) s (k0.labels + 3 + bounds_labels (kit name) (p name) (q name) (u name) + count_of (b name))))))
      (λ name. omega arith)
    where
      after : m ≡ k0.labels + 1
      after = next ∙ ap (λ k. k + 1) is

      behind : e ≡ k0.labels + 2
      behind = last ∙ ap (λ k. k + 2) is

-- the next place in hand is free
pub raised_stays : (a b : Coding) (s : Stand) (n : ℕ) (p : Naming → Piece) → n ≡ s.temp + 1 → Stays a b (record s { temp = n }) p → Stays a b (higher s) p
raised_stays a b s n p is h = subst (λ k. Stays a b (record s { temp = k }) p) is h

pub raised_jump : (kit : Naming → Kit) (a b : Coding) (s : Stand) (n l : ℕ) → n ≡ s.temp + 1
    → Plain a b (λ name. jump_where (kit name) (record s { temp = n }) l ∷ []) → Plain a b (λ name. jump_where (kit name) (higher s) l ∷ [])
raised_jump kit a b s n l is h = subst (λ k. Plain a b (λ name. jump_where (kit name) (record s { temp = k }) l ∷ [])) is h
