-- All heads that are lowered.
use Rattle.std.proofs.Common.{◌≡◌, ℕ, true}
use Rattle.sail_core.specs.Numbers.{Givens}
use Rattle.sail_core.specs.declared.patterns.Head.{Head}
use Rattle.sail_core.specs.declared.patterns.Head.TheVariants as H
use Rattle.lowered_pieces.specs.Arms.{Held, head_lowered, head_taken}
use Rattle.lowered_laws.specs.Simulation.{AtWork, kit}
use Rattle.lowered_laws.proofs.Heads.{constructor_runs, is_runs, tuple_runs}
use Rattle.lowered_laws.proofs.Takes.{vector_runs}
use Rattle.lowered_laws.proofs.Lists.{cons_runs, list_runs}
use Rattle.lowered_laws.proofs.Cuts.{HeadAt, Widths, cut_runs}

module _ (g : AtWork) where
  pub head_runs : (nu : Givens) → Widths g nu → (head : Head) (k q fail : ℕ) (h : Held) → head_lowered g.size head ≡ true
      → HeadAt g nu (head_taken g.table (kit g) h head k q fail) q fail h head k
  head_runs nu widths (H.Is l) k q fail h lowered =
      λ x pc pf sl t K Hx N held at_ hl th next failed. is_runs g l k h x q pc pf fail sl t nu K Hx N held at_ hl th next failed
  head_runs nu widths H.Tuple k q fail h lowered =
      λ x pc pf sl t K Hx N held at_ hl th next failed. tuple_runs g k h x q pc pf fail sl t nu K Hx N held at_ hl th next failed
  head_runs nu widths (H.Constructor u c) k q fail h lowered =
      λ x pc pf sl t K Hx N held at_ hl th next failed. constructor_runs g u c k q fail h x pc pf sl t nu K Hx N held at_ hl th next failed
  head_runs nu widths H.Vector k q fail h lowered =
      λ x pc pf sl t K Hx N held at_ hl th next failed. vector_runs g k q fail h x pc pf sl t nu K Hx N held at_ hl th next failed
  head_runs nu widths H.List k q fail h lowered =
      λ x pc pf sl t K Hx N held at_ hl th next failed. list_runs g k q fail h x pc pf sl t nu K Hx N held at_ hl th next failed
  head_runs nu widths H.Cons k q fail h lowered =
      λ x pc pf sl t K Hx N held at_ hl th next failed. cons_runs g k q fail h x pc pf sl t nu K Hx N held at_ hl th next failed
  head_runs nu widths (H.Cut ws) k q fail h lowered = cut_runs g nu widths ws k q fail h lowered
