-- A run of code with each label set once has one end.
use Rattle.std.proofs.Common.{◌≡◌, ℕ, ◌+◌, List, Some, refl, sym, ◌∙◌, subst}
use Rattle.std.specs.Prelude.{slice_get}
use Rattle.sail_types.specs.declared.values.Value.{Value}
use Rattle.jib.specs.declared.code.Instruction.TheVariants as I
use Rattle.jib.specs.declared.code.Module.{Module}
use Rattle.jib.specs.Jib.{Slots, Store, Outcome, Gives, Throws, Stops, Here, Act, Go, Jump, Sink, Over, Enter, acts, put, entry, called}
use Rattle.jib.specs.Jib.{Runs, runs_go, runs_jump, runs_sink, runs_over, runs_back, runs_caught, runs_stopped}
use Rattle.jib.proofs.Ticking.{code_at, Once}

-- what an act leads to
abbrev Back : Module → List Value → ℕ → Here → ℕ → Slots → ℕ → ℕ → Outcome → Outcome → Type 0
Back m ls hart h pc sl i l (Gives v t) r = Runs m ls hart h (pc + 1) (put sl i v) t r
Back m ls hart h pc sl i l (Throws v t) r =
    (p : ℕ) × (slice_get (code_at m.functions h.function) p ≡ Some (I.Label l)) × Runs m ls hart h p (put sl 0 v) t r
Back m ls hart h pc sl i l (Stops w t) r = r ≡ Stops w t

abbrev Leads : Module → List Value → ℕ → Here → ℕ → Slots → Store → Act → Outcome → Type 0
Leads m ls hart h pc sl s (Go sl' s') r = Runs m ls hart h (pc + 1) sl' s' r
Leads m ls hart h pc sl s (Jump l) r = (p : ℕ) × (slice_get (code_at m.functions h.function) p ≡ Some (I.Label l)) × Runs m ls hart h p sl s r
Leads m ls hart h pc sl s (Sink z) r = Runs m ls hart (record h { measure = Some z }) (pc + 1) sl s r
Leads m ls hart h pc sl s (Over q) r = r ≡ q
Leads m ls hart h pc sl s (Enter i f vs l place) r = (q : Outcome) × Runs m ls hart (called m h f place) 0 (entry m f vs) s q × Back m ls hart h pc sl i l q r

leads : (m : Module) (ls : List Value) (hart : ℕ) {h : Here} {pc : ℕ} {sl : Slots} {s : Store} {r : Outcome} → Runs m ls hart h pc sl s r
    → (a : Act) → acts m ls hart h pc sl s ≡ a → Leads m ls hart h pc sl s a r
leads m ls hart (runs_go {h = h} {pc = pc} {slots = sl} {s = s} {r = r} e x) a g = subst (λ q. Leads m ls hart h pc sl s q r) (sym e ∙ g) x
leads m ls hart (runs_jump {h = h} {pc = pc} {p = p} {slots = sl} {s = s}
    {r = r} e k x) a g = subst (λ q. Leads m ls hart h pc sl s q r) (sym e ∙ g) (p, k, x)
leads m ls hart (runs_sink {h = h} {pc = pc} {slots = sl} {s = s} {r = r} e x) a g = subst (λ q. Leads m ls hart h pc sl s q r) (sym e ∙ g) x
leads m ls hart (runs_over {h = h} {pc = pc} {slots = sl} {s = s} {r = r} e) a g = subst (λ q. Leads m ls hart h pc sl s q r) (sym e ∙ g) refl
leads m ls hart (runs_back {h = h} {pc = pc} {v = v} {slots = sl} {s = s} {t = t}
    {r = r} e x y) a g = subst (λ q. Leads m ls hart h pc sl s q r) (sym e ∙ g) (Gives v t, x, y)
leads m ls hart (runs_caught {h = h} {pc = pc} {p = p} {v = v} {slots = sl} {s = s} {t = t}
    {r = r} e x k y) a g = subst (λ q. Leads m ls hart h pc sl s q r) (sym e ∙ g) (Throws v t, x, (p, k, y))
leads m ls hart (runs_stopped {h = h} {pc = pc} {cause = w} {slots = sl} {s = s}
    {t = t} e x) a g = subst (λ q. Leads m ls hart h pc sl s q (Stops w t)) (sym e ∙ g) (Stops w t, x, refl)

pub determined : (m : Module) (ls : List Value) (hart : ℕ) → Once m.functions → {h : Here} {pc : ℕ} {sl : Slots} {s : Store} {r r' : Outcome}
    → Runs m ls hart h pc sl s r → Runs m ls hart h pc sl s r' → r ≡ r'
determined m ls hart o (runs_go e x) y = determined m ls hart o x (leads m ls hart y _ e)
determined m ls hart o {r' = r'} (runs_jump {h = h} {p = p} {label = l} {slots = sl} {s = s} e k x) y =
    let n = leads m ls hart y _ e in
    let eq : n.0 ≡ p = o.once h.function n.0 p l n.1 k in
    determined m ls hart o x (subst (λ q. Runs m ls hart h q sl s r') eq n.2)
determined m ls hart o (runs_sink e x) y = determined m ls hart o x (leads m ls hart y _ e)
determined m ls hart o (runs_over e) y = sym (leads m ls hart y _ e)
determined m ls hart o {r' = r'} (runs_back {h = h} {pc = pc} {i = i} {label = l} {v = v} {slots = sl} {t = t} e x z) y =
    let n = leads m ls hart y _ e in
    let eq : Gives v t ≡ n.0 = determined m ls hart o x n.1 in
    determined m ls hart o z (subst (λ q. Back m ls hart h pc sl i l q r') (sym eq) n.2)
determined m ls hart o {r' = r'} (runs_caught {h = h} {pc = pc} {p = p} {i = i} {label = l} {v = v} {slots = sl} {t = t} e x k z) y =
    let n = leads m ls hart y _ e in
    let eq : Throws v t ≡ n.0 = determined m ls hart o x n.1 in
    let b = subst (λ q. Back m ls hart h pc sl i l q r') (sym eq) n.2 in
    let pq : b.0 ≡ p = o.once h.function b.0 p l b.1 k in
    determined m ls hart o z (subst (λ q. Runs m ls hart h q (put sl 0 v) t r') pq b.2)
determined m ls hart o {r' = r'} (runs_stopped {h = h} {pc = pc} {i = i} {label = l} {cause = w} {slots = sl} {t = t} e x) y =
    let n = leads m ls hart y _ e in
    let eq : Stops w t ≡ n.0 = determined m ls hart o x n.1 in
    sym (subst (λ q. Back m ls hart h pc sl i l q r') (sym eq) n.2)
