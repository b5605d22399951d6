use Rattle.std.proofs.Common.{◌≡◌, ◌∷◌, [], ◌++◌, Bool, true, false, not, sym, ◌∙◌, refl, Result, Ok, Err}
use Rattle.std.specs.Prelude.{OnOk, ℕ}
use Rattle.std.specs.BTreeSet.{UpdatesBy}
use Rattle.std.specs.Ordering.{nat_cmp}
use Rattle.fact_index.specs.declared.gathering.Keys.{Keys}
use Rattle.fact_index.specs.Gathered.{Puts}
use Rattle.fact_index.proofs.Reaching.{put_new, put_again}
use Rattle.fact_index.proofs.gathering.put_key.Goals as goal

there : (b : Bool) → not b ≡ false → b ≡ true
there true e = refl
there false e = sym e

new_there : {A E : Type 0} (r : Result A E) (a b : Keys) (k : ℕ) → UpdatesBy nat_cmp (nat_cmp k) a.seen b.seen true
    → OnOk r (b.list ≡ a.list ++ k ∷ []) → OnOk r (Puts a b (k ∷ []))
new_there (Ok x) a b k u e = put_new a b k u e
new_there (Err x) a b k u e = tt

pub returns-then-not-branch : goal.returns-then-not-branch
returns-then-not-branch c =
    put_again c.args.keys.now (record { list = c.args.keys.now.list; seen = c.insert.new.self }) c.args.key c.in_ok-insert.ensures.updates refl
    (there _ (sym c.in_ok-insert.ensures.added ∙ c.if-not-branch.true))

pub returns : goal.returns
returns c =
    new_there c.push.result c.args.keys.now (record { list = c.push.new.self; seen = c.insert.new.self }) c.args.key c.in_ok-insert.ensures.updates
    c.push.ensures.pushed
