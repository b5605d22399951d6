-- How many parts the kinds of nodes have that are lowered.
use Rattle.std.specs.Prelude.{ℕ, nat_eq, nat_le, Bool, true, false, ◌||◌, [], ◌∷◌}
use Rattle.sail_core.specs.declared.tree.Kind.{Kind}
use Rattle.sail_core.specs.declared.tree.Kind.TheVariants as K

abbrev pub count_fits : Kind → ℕ → Bool
count_fits (K.Constant literal) n = nat_eq n 0
count_fits (K.Local name) n = nat_eq n 0
count_fits (K.Variable name) n = nat_eq n 0
count_fits (K.TopLevel i) n = nat_eq n 0
count_fits (K.Register r) n = nat_eq n 0
count_fits (K.Call callee) n = true
count_fits K.And n = nat_eq n 2
count_fits K.Or n = nat_eq n 2
count_fits (K.Cast written) n = nat_eq n 1
count_fits K.Tuple n = true
count_fits (K.Vector shape) n = true
count_fits (K.List shape) n = true
count_fits (K.Cons shape) n = true
count_fits (K.Struct struct fields) n = true
count_fits (K.With struct (i ∷ is)) n = true
count_fits (K.Part suffixes) n = nat_le 1 n
count_fits K.WithItem n = nat_eq n 3
count_fits K.WithSlice n = nat_eq n 4
count_fits (K.SizeOf t numbers) n = nat_eq n 0
count_fits (K.Constraint c numbers) n = nat_eq n 0
count_fits (K.Assign (t ∷ [])) n = true
count_fits (K.Block statements) n = true
count_fits (K.Let arm) n = nat_eq n 2
count_fits (K.Var name written) n = nat_eq n 2
count_fits (K.If shape) n = nat_eq n 2 || nat_eq n 3
count_fits (K.Match arms shape) n = nat_le 1 n
count_fits (K.Try arms shape) n = nat_le 1 n
count_fits (K.Clauses arms) n = true
count_fits K.When n = nat_eq n 2
count_fits (K.Foreach name way) n = nat_eq n 4
count_fits K.While n = nat_eq n 3
count_fits K.Repeat n = nat_eq n 3
count_fits K.Return n = nat_eq n 1
count_fits K.Throw n = nat_eq n 1
count_fits K.Exit n = nat_eq n 1
count_fits (K.Assert text) n = nat_eq n 1
count_fits (K.Optional t) n = nat_eq n 1
count_fits kind n = false
