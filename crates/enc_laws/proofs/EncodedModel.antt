-- A structure in which a translation is true, and whose tables are in range, is a model of the
-- encoded problem over the marked symbols that occur.
use Rattle.std.specs.Prelude.{ℕ, ◌+◌, ◌<◌, ◌≡◌, Bool, true, List, ◌++◌, map, length, replicate, slice_get, Some, IsTrue}
use Rattle.std.proofs.Common.{refl, sym, ap, ◌∙◌, subst, arith}
use Rattle.enc_base.specs.Tables.{EachBelow}
use Rattle.tf_core.specs.declared.signature.Constructor.{Constructor}
use Rattle.tf_core.specs.declared.signature.Symbol.{Symbol}
use Rattle.tf_core.specs.declared.normal.Normal.{Normal}
use Rattle.fof_models.specs.declared.problem.FofSymbol.{FofSymbol}
use Rattle.fof_models.specs.Structures.{Untyped, values_below}
use Rattle.fof_models.specs.Structures as fof_structures
use Rattle.fof_models.specs.Models as fof_models
use Rattle.fof_models.specs.Models.{AreSatisfied}
use Rattle.enc_marks.specs.Choices.{Choices}
use Rattle.enc_marks.specs.Occurrence.{count_below, passing}
use Rattle.enc_marks.specs.Encoded.{MarkedSymbol, marked_symbol, marked_constructor, marked_symbols, marked_constructors, own_marks, all_marks, is_present, renumbered, translation, encoded}
use Rattle.enc_laws.specs.MergedStructure.{kept_count}
use Rattle.enc_laws.specs.Ranks.{nth}
use Rattle.enc_laws.specs.Present.{over_present}
use Rattle.enc_laws.proofs.Ranked.{nth-count_below}
use Rattle.enc_laws.proofs.Renumbered.{satisfied-renumbered}
use Rattle.enc_laws.proofs.MarksFound.{passing_found, map_found, InLists, in_first, in_second, lists_found, symbol_found, constructor_found, length-symbols, length-constructors}

module _ (c : Choices) (normal : Normal) (j : Untyped) where
  -- a marked symbol gives a number in its range
  abbrev pub IsBelow : ℕ → MarkedSymbol → List ℕ → Type 0
  IsBelow m marked values = j.symbol_at m values < values_below marked.symbol j.size

  abbrev pub AreArgumentsOf : MarkedSymbol → List ℕ → Type 0
  AreArgumentsOf marked values = EachBelow (replicate marked.symbol.arity j.size) values

  pub record IsInRange : Type 0 where
    pub some : 0 < j.size
    pub symbols : (f : ℕ) (symbol : Symbol) (values : List ℕ) →
        slice_get normal.signature.symbols f ≡ Some symbol →
        EachBelow (replicate (kept_count c symbol + length symbol.arguments) j.size) values →
        IsBelow f (marked_symbol c f symbol) values
    pub constructors : (i : ℕ) (constructor : Constructor) (values : List ℕ) →
        slice_get normal.signature.constructors i ≡ Some constructor →
        EachBelow (replicate constructor.arity j.size) values →
        IsBelow (length normal.signature.symbols + i) (marked_constructor normal i constructor)
        values
    pub own : (behind : ℕ) (marked : MarkedSymbol) (values : List ℕ) →
        slice_get (own_marks normal c.binding c.marking) behind ≡ Some marked →
        AreArgumentsOf marked values →
        IsBelow (length normal.signature.symbols + (length normal.signature.constructors + behind))
        marked values

  -- by the place in the list of all marked symbols

  module _ (range : IsInRange) where
    behind_below : (behind : ℕ) (marked : MarkedSymbol) (values : List ℕ) →
        InLists (marked_constructors normal 0 normal.signature.constructors)
        (own_marks normal c.binding c.marking) behind marked → AreArgumentsOf marked values →
        IsBelow (length normal.signature.symbols + behind) marked values
    behind_below behind marked values (in_first at) below =
        let found = constructor_found normal 0 normal.signature.constructors behind marked at in
        let constructor : Constructor = found.0 in
        let e : 0 + behind ≡ behind = omega arith in
        let same : marked ≡ marked_constructor normal behind constructor =
        found.2 ∙ ap (λ x. marked_constructor normal x constructor) e in
        subst (λ (z : MarkedSymbol). IsBelow (length normal.signature.symbols + behind) z values)
        (sym same) (range.constructors behind constructor values found.1
        (subst (λ (z : MarkedSymbol). AreArgumentsOf z values) same below))
    behind_below behind marked values (in_second later same at) below =
        let counts = length-constructors normal 0 normal.signature.constructors in
        let e : length normal.signature.symbols + (length normal.signature.constructors + later)
        ≡ length normal.signature.symbols + behind = omega (arith, same, counts) in
        subst (λ z. IsBelow z marked values) e (range.own later marked values at below)

    all_below : (m : ℕ) (marked : MarkedSymbol) (values : List ℕ) →
        InLists (marked_symbols c 0 normal.signature.symbols)
        (marked_constructors normal 0 normal.signature.constructors
        ++ own_marks normal c.binding c.marking) m marked → AreArgumentsOf marked values →
        IsBelow m marked values
    all_below m marked values (in_first at) below =
        let found = symbol_found c 0 normal.signature.symbols m marked at in
        let symbol : Symbol = found.0 in
        let e : 0 + m ≡ m = omega arith in
        let same : marked ≡ marked_symbol c m symbol = found.2
        ∙ ap (λ x. marked_symbol c x symbol) e in
        subst (λ (z : MarkedSymbol). IsBelow m z values) (sym same)
        (range.symbols m symbol values found.1
        (subst (λ (z : MarkedSymbol). AreArgumentsOf z values) same below))
    all_below m marked values (in_second behind same at) below =
        let counts = length-symbols c 0 normal.signature.symbols in
        let e : length normal.signature.symbols + behind ≡ m = omega (arith, same, counts) in
        subst (λ z. IsBelow z marked values) e
        (behind_below behind marked values
        (lists_found (marked_constructors normal 0 normal.signature.constructors)
        (own_marks normal c.binding c.marking) behind marked at) below)

    module _ (satisfied : AreSatisfied j (translation c normal))
        (within : (m : ℕ) → IsTrue (is_present (translation c normal) m) →
        m < length (all_marks c normal)) where
      abbrev present : ℕ → Bool
      present = is_present (translation c normal)

      abbrev over : Untyped
      over = over_present (is_present (translation c normal)) (length (all_marks c normal)) j

      structure_over : fof_structures.IsStructure (map (λ (one : MarkedSymbol). one.symbol)
          (passing present 0 (all_marks c normal))) over
      structure_over = record {
        inhabited = range.some;
        values = λ f symbol elements at below.
            let image = map_found (λ (one : MarkedSymbol). one.symbol)
            (passing present 0 (all_marks c normal)) f symbol at in
            let marked : MarkedSymbol = image.0 in
            let found = passing_found present 0 (all_marks c normal) f marked image.1 in
            let m : ℕ = found.0 in
            let facts = found.1 in
            let e : 0 + m ≡ m = omega arith in
            let passes : present m ≡ true = ap present (sym e) ∙ facts.passes in
            let rank : count_below m present ≡ f =
            (let same = ap (λ x. count_below x present) e in
            let found_rank = facts.rank in
            let zero_below : count_below 0 present ≡ 0 = refl in
            omega (arith, same, found_rank, zero_below)) in
            let number : nth (length (all_marks c normal)) present f ≡ m =
            ap (nth (length (all_marks c normal)) present) (sym rank)
            ∙ nth-count_below (length (all_marks c normal)) m present (within m passes) passes in
            let small : AreArgumentsOf marked elements =
            subst (λ (z : FofSymbol). EachBelow (replicate z.arity j.size) elements)
            (sym image.2) below in
            let bounded : IsBelow m marked elements =
            all_below m marked elements
            (lists_found (marked_symbols c 0 normal.signature.symbols) _ m marked facts.at)
            small in
            subst (λ (z : FofSymbol). over.symbol_at f elements < values_below z j.size) image.2
            (subst (λ z. j.symbol_at z elements < values_below marked.symbol j.size) (sym number)
            bounded);
      }

      formulas_over : AreSatisfied over
          (map (λ formula. renumbered present formula) (translation c normal))
      formulas_over =
          satisfied-renumbered present over j refl (translation c normal)
          (λ m is values.
          ap (λ z. j.symbol_at z values)
          (nth-count_below (length (all_marks c normal)) m present (within m is) is))
          satisfied

      pub encoded_model : fof_models.IsModel (encoded c normal).problem
          (over_present (is_present (translation c normal)) (length (all_marks c normal)) j)
      unfolding encoded
      encoded_model = record { structure = structure_over; formulas = formulas_over }
