-- The numbers of a definition's nodes: each node's own, then those in its kind, then those of its parts, in order.
use Rattle.std.specs.Prelude.{ℕ, suc, List, [], ◌∷◌, map, Option, Some, None}
use Rattle.sail_core.specs.Nodes.{node}
use Rattle.sail_core.specs.declared.targets.Suffix.{Suffix}
use Rattle.sail_core.specs.declared.targets.Caller.{Caller}
use Rattle.sail_core.specs.declared.targets.TargetKind.{TargetKind}
use Rattle.sail_core.specs.declared.targets.TargetKind.TheVariants as T
use Rattle.sail_core.specs.declared.targets.Target.{Target, Target-F, fold-Target, roll-Target}
use Rattle.sail_core.specs.declared.tree.Kind.{Kind}
use Rattle.sail_core.specs.declared.tree.Kind.TheVariants as K
use Rattle.sail_core.specs.declared.tree.Core.{Core, Core-F, fold-Core}

-- something with its numbers, and the number that comes next
pub record Numbered (A : Type 0) : Type 0 where
  pub it : A
  pub next : ℕ

abbrev pub Numbering : Type 0 → Type 0
Numbering A = ℕ → Numbered A

abbrev pub same : {A : Type 0} → A → Numbering A
same x n = record { it = x; next = n }

-- something of what is numbered
abbrev pub then_made : {A B : Type 0} → (A → B) → Numbered A → Numbered B
then_made f a = record { it = f a.it; next = a.next }

abbrev pub also_numbered : {A : Type 0} → Numbered A → Numbering (List A) → Numbered (List A)
also_numbered a more = then_made (λ rest. a.it ∷ rest) (more a.next)

abbrev pub each_numbered : {A : Type 0} → List (Numbering A) → Numbering (List A)
each_numbered [] n = record { it = []; next = n }
each_numbered (f ∷ fs) n = also_numbered (f n) (each_numbered fs)

abbrev pub suffix_numbered : Suffix → Numbering Suffix
suffix_numbered s n = record { it = record s { number = n }; next = suc n }

abbrev pub caller_numbered : Caller → Numbering Caller
caller_numbered c n = record { it = record c { number = n }; next = suc n }

abbrev pub reader_numbered : Option Caller → Numbering (Option Caller)
reader_numbered None n = record { it = None; next = n }
reader_numbered (Some c) n = then_made Some (caller_numbered c n)

abbrev pub call_numbered : ℕ → Numbered (Option Caller) → Caller → Numbered TargetKind
call_numbered count reader writer = then_made (T.Call count reader.it) (caller_numbered writer reader.next)

abbrev pub target_kind_numbered : TargetKind → Numbering TargetKind
target_kind_numbered (T.Call count reader writer) n = call_numbered count (reader_numbered reader n) writer
target_kind_numbered (T.Part suffixes) n = then_made T.Part (each_numbered (map suffix_numbered suffixes) n)
target_kind_numbered kind n = record { it = kind; next = n }

abbrev pub target_with : Target-F (Numbering Target) → ℕ → Numbered TargetKind → Numbered Target
target_with t n kind =
    then_made (λ parts. roll-Target (record { place = t.place; number = n; kind = kind.it; parts = parts })) (each_numbered t.parts kind.next)

abbrev pub target_numbered : Target → Numbering Target
target_numbered = fold-Target (Numbering Target) (λ t n. target_with t n (target_kind_numbered t.kind (suc n)))

abbrev pub kind_numbered : Kind → Numbering Kind
kind_numbered (K.Part suffixes) n = then_made K.Part (each_numbered (map suffix_numbered suffixes) n)
kind_numbered (K.Assign targets) n = then_made K.Assign (each_numbered (map target_numbered targets) n)
kind_numbered kind n = record { it = kind; next = n }

abbrev pub core_with : Core-F (Numbering Core) → ℕ → Numbered Kind → Numbered Core
core_with c n kind = then_made (λ parts. node c.place n kind.it parts) (each_numbered c.parts kind.next)

-- a definition's tree with its numbers, from this one on
abbrev pub numbered : Core → Numbering Core
numbered = fold-Core (Numbering Core) (λ c n. core_with c n (kind_numbered c.kind (suc n)))
