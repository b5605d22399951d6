-- An integer of which the bounds and conditions of a row are known.
use Rattle.std.proofs.Common.{◌≡◌, ◌∙◌, ap, sym, ℕ, List}
use Rattle.std.specs.Prelude.{Option}
use Rattle.sail_types.specs.Sums.{variable}
use Rattle.sail_types.specs.declared.numbers.Con.{Con}
use Rattle.sail_types.specs.declared.numbers.Index.{Index}
use Rattle.sail_types.specs.declared.numbers.Num.{Num}
use Rattle.row_types.specs.declared.kinds.Product.{Product}
use Rattle.value_indices.specs.Opening.{bound_above, bound_below}
use Rattle.value_indices.specs.Steps.{Conditions, Walk, assume_all, assume_if, bind, fresh, give}
use Rattle.value_indices.specs.Walking.{Written, got, run}
use Rattle.value_indices.specs.declared.indices.Indices.{Indices}
use Rattle.value_indices.specs.declared.indices.Indices.TheVariants as I
use Rattle.value_indices.proofs.Walks.{got_give, run_give}
use Rattle.call_notes.specs.Rows.{conditions_in, fresh_result, number_in, numbers_under}
use Rattle.call_notes.specs.declared.numbers.Numbers.{Numbers}
use Rattle.call_notes.proofs.Turns.{then_got, then_run, behind_got, behind_run}

module _ (p : Product) (is : List Index) (low high : Num) (cs : List Con) where
  abbrev lower : ℕ → Option Con
  lower v = bound_below (number_in (numbers_under p is (variable v)) low) (variable v)

  abbrev upper : ℕ → Option Con
  upper v = bound_above (variable v) (number_in (numbers_under p is (variable v)) high)

  abbrev known : ℕ → Conditions
  known v = conditions_in (numbers_under p is (variable v)) cs

  abbrev result : ℕ → Walk Indices
  result v = give (I.Integer (variable v))

  abbrev last : ℕ → Walk Indices
  last v = bind (assume_all (known v)) (λ z. result v)

  abbrev further : ℕ → Walk Indices
  further v = bind (assume_if (upper v)) (λ y. last v)

  abbrev behind : ℕ → Walk Indices
  behind v = bind (assume_if (lower v)) (λ x. further v)

  -- of a number and of the conditions that the code has in hand
  pub lower_is : (v : ℕ) (m k : Num) (ns : Numbers) (l : Option Num) (b : Option Con) → m ≡ variable v → ns ≡ numbers_under p is m
      → l ≡ number_in ns low → k ≡ m → b ≡ bound_below l k → b ≡ lower v
  lower_is v m k ns l b m_is ns_is l_is k_is b_is =
      let names : ns ≡ numbers_under p is (variable v) = ns_is ∙ ap (numbers_under p is) m_is in
      b_is ∙ (λ i. bound_below ((l_is ∙ ap (λ s. number_in s low) names) i) ((k_is ∙ m_is) i))

  pub upper_is : (v : ℕ) (m k : Num) (ns : Numbers) (h : Option Num) (b : Option Con) → m ≡ variable v → ns ≡ numbers_under p is m
      → h ≡ number_in ns high → k ≡ m → b ≡ bound_above k h → b ≡ upper v
  upper_is v m k ns h b m_is ns_is h_is k_is b_is =
      let names : ns ≡ numbers_under p is (variable v) = ns_is ∙ ap (numbers_under p is) m_is in
      b_is ∙ (λ i. bound_above ((k_is ∙ m_is) i) ((h_is ∙ ap (λ s. number_in s high) names) i))

  pub known_is : (v : ℕ) (m : Num) (ns : Numbers) (ks : Conditions) → m ≡ variable v → ns ≡ numbers_under p is m → ks ≡ conditions_in ns cs
      → ks ≡ known v
  known_is v m ns ks m_is ns_is ks_is = ks_is ∙ ap (λ s. conditions_in s cs) (ns_is ∙ ap (numbers_under p is) m_is)

  pub fresh_got : (w w1 w2 w3 w4 : Written) (v : ℕ) (b a : Option Con) (ks : Conditions) (m : Num) → m ≡ variable v
      → v ≡ got fresh w → w1 ≡ run fresh w → b ≡ lower v → w2 ≡ run (assume_if b) w1 → a ≡ upper v
      → w3 ≡ run (assume_if a) w2 → ks ≡ known v → w4 ≡ run (assume_all ks) w3 → I.Integer m ≡ got (fresh_result p is low high cs) w
  fresh_got w w1 w2 w3 w4 v b a ks m m_is v_is was b_is below a_is above ks_is all =
      ap I.Integer m_is
      ∙ sym (got_give (I.Integer (variable v)) w4)
      ∙ behind_got (assume_all (known v)) (result v) w3 w4 (all ∙ ap (λ c. run (assume_all c) w3) ks_is)
      ∙ behind_got (assume_if (upper v)) (last v) w2 w3 (above ∙ ap (λ c. run (assume_if c) w2) a_is)
      ∙ behind_got (assume_if (lower v)) (further v) w1 w2 (below ∙ ap (λ c. run (assume_if c) w1) b_is)
      ∙ then_got fresh behind w w1 v v_is was

  pub fresh_run : (w w1 w2 w3 w4 : Written) (v : ℕ) (b a : Option Con) (ks : Conditions)
      → v ≡ got fresh w → w1 ≡ run fresh w → b ≡ lower v → w2 ≡ run (assume_if b) w1 → a ≡ upper v
      → w3 ≡ run (assume_if a) w2 → ks ≡ known v → w4 ≡ run (assume_all ks) w3 → w4 ≡ run (fresh_result p is low high cs) w
  fresh_run w w1 w2 w3 w4 v b a ks v_is was b_is below a_is above ks_is all =
      sym (run_give (I.Integer (variable v)) w4)
      ∙ behind_run (assume_all (known v)) (result v) w3 w4 (all ∙ ap (λ c. run (assume_all c) w3) ks_is)
      ∙ behind_run (assume_if (upper v)) (last v) w2 w3 (above ∙ ap (λ c. run (assume_if c) w2) a_is)
      ∙ behind_run (assume_if (lower v)) (further v) w1 w2 (below ∙ ap (λ c. run (assume_if c) w1) b_is)
      ∙ then_run fresh behind w w1 v v_is was
