-- The arguments of a named type, where a value of it is opened: those on which a size hangs stay what they are.
use Rattle.std.proofs.Common.{◌≡◌, ℕ, suc, Bool, true, false, List, [], ◌∷◌, map, length, Option, Some, refl, sym, ap, ◌∙◌}
use Rattle.sail_types.specs.declared.numbers.Index.{Index}
use Rattle.sail_types.specs.declared.table.Types.{Types}
use Rattle.sail_types.specs.declared.types.Typ.{Typ}
use Rattle.value_indices.specs.declared.indices.Reading.{Reading}
use Rattle.value_indices.specs.declared.indices.Reading.TheVariants as R
use Rattle.value_indices.specs.declared.notes.Fact.{Fact}
use Rattle.value_indices.specs.Steps.{bind, each, give}
use Rattle.value_indices.specs.Opening.{each_read, index_or_fresh, read_or_fresh, Inner as Inside}
use Rattle.size_values.specs.declared.constants.Constant.{Constant}
use Rattle.size_values.specs.declared.sized.Sized.{Sized}
use Rattle.size_values.specs.Numbers.{argument_of, index_under}
use Rattle.size_values.specs.Sized.{each_sized, hangs_on, integer_of, named_numbers, number_where, numbers_from, reading_sized, typ_sized}
use Rattle.size_laws.specs.Settled.{AreAlike, SaysArgument, SaysArguments, stood}
use Rattle.size_laws.proofs.Forms.{inside, of_is}

-- the number of an argument matters alone where a size hangs on it
where_same : (b : Bool) (c d : Constant) → (b ≡ true → integer_of c ≡ integer_of d) → number_where b c ≡ number_where b d
where_same true c d h = ap Some (h refl)
where_same false c d h = refl

module _ (types : Types) (own : List Sized) (of : ℕ → Constant) where
  one_same : (is : List Index) (cs : List Constant) (a : Index) → SaysArgument types own of is cs a → (facts : List Fact) (n : ℕ)
      → integer_of (index_under of (read_or_fresh is a facts n).value) ≡ integer_of (index_under (argument_of cs) a)
  unfolding read_or_fresh index_or_fresh give
  one_same is cs a s facts n =
      ap (λ (o : Option Index). integer_of (index_under of (index_or_fresh a o facts n).value)) s.is_said ∙ s.same

  args_same : (u k m : ℕ) (is : List Index) (cs : List Constant) (args : List Index) → SaysArguments types own of u m k is cs args
      → (facts : List Fact) (n : ℕ)
      → numbers_from types u m k (map (index_under of) (each (read_or_fresh is) args facts n).value)
      ≡ numbers_from types u m k (map (index_under (argument_of cs)) args)
  unfolding bind give
  args_same u k m is cs [] h facts n = refl
  args_same u k m is cs (a ∷ args) h facts n =
      let w = read_or_fresh is a facts n in
      λ j. where_same (hangs_on types u m k) (index_under of w.value) (index_under (argument_of cs) a) (λ e. one_same is cs a (h.0 e) facts n) j
      ∷ args_same u (suc k) m is cs args h.1 w.facts w.next j

  length_of : (is args : List Index) (facts : List Fact) (n : ℕ) → length (map (index_under of) (each (read_or_fresh is) args facts n).value) ≡ length args
  unfolding bind give
  length_of is [] facts n = refl
  length_of is (a ∷ args) facts n =
      let w = read_or_fresh is a facts n in
      ap suc (length_of is args w.facts w.next)

  length_under : (cs : List Constant) (args : List Index) → length (map (index_under (argument_of cs)) args) ≡ length args
  length_under cs [] = refl
  length_under cs (a ∷ args) = ap suc (length_under cs args)

  pub numbers_same : (u : ℕ) (is : List Index) (cs : List Constant) (args : List Index) → SaysArguments types own of u (length args) 0 is cs args
      → (facts : List Fact) (n : ℕ)
      → named_numbers types u (map (index_under of) (each_read is args facts n).value) ≡ named_numbers types u (map (index_under (argument_of cs)) args)
  unfolding each_read
  numbers_same u is cs args h facts n =
      ap (λ m. numbers_from types u m 0 (map (index_under of) (each (read_or_fresh is) args facts n).value)) (length_of is args facts n)
      ∙ args_same u 0 (length args) is cs args h facts n
      ∙ ap (λ m. numbers_from types u m 0 (map (index_under (argument_of cs)) args)) (sym (length_under cs args))

  -- what its Type parameters stand for
  pub types_same : (rs : List Reading) (is : List Index) (cs : List Constant) (ts : List Typ) → AreAlike types own of rs is cs ts
      → map (reading_sized types own of) (map (λ (t : Typ × Inside). R.Of t.0 is rs) (inside types own of rs ts))
      ≡ each_sized (map (typ_sized types (stood types own of rs)) ts) cs
  types_same rs is cs [] h = refl
  types_same rs is cs (t ∷ ts) h = λ j. (of_is types own of t is rs ∙ sym h.0) j ∷ types_same rs is cs ts h.1 j
