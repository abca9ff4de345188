-- The worked rows: the element is undercover, at the cover of the parameter of `cons`, and the list
-- isn't; what the cover schemes write of lists, and `guards_cover` of pairs.
use Rattle.std.specs.Prelude.{ℕ, ◌≡◌, true, false, ◌||◌, List, [], ◌∷◌, codes, eqb, map}
use Rattle.std.proofs.Common.{refl, ap, ◌∙◌}
use Rattle.tf_core.specs.declared.signature.Constructor.{Constructor}
use Rattle.tf_core.specs.declared.normal.Normal.{Normal}
use Rattle.tf_core.proofs.Types.{instantiate-variable, instantiate-apply}
use Rattle.fof_models.specs.declared.problem.FofFormula.{FofFormula}
use Rattle.tf_naked.specs.Standing.{is_covering, stands}
use Rattle.tf_naked.proofs.Standing.{standing-variable, standing-apply, stands-equation, stands-for_all}
use Rattle.tf_naked.proofs.Covers.{parameter_of-variable, parameter_of-apply}
use Rattle.enc_marks.specs.declared.choices.Marking.TheVariants.{ByType}
use Rattle.enc_marks.specs.declared.choices.Binding.TheVariants.{ByGuard}
use Rattle.enc_marks.specs.Choices.{Choices}
use Rattle.enc_marks.specs.Schemes.{guards_cover, tags_cover}
use Rattle.enc_marks.specs.Encoded.{MarkedSymbol, marked_symbol, marked_constructor, shared_mark, all_marks, axiom_named, translation, is_present, renumbered, encoded, encoded_from}
use Rattle.enc_marks.specs.Occurrence.{passing}
use Rattle.enc_marks.specs.Rows.{nil, cons}
use Rattle.enc_marks.proofs.Translation.{type_term-variable, type_term-apply, bare-variable, bare-apply, formula-equation, formula-for_all}
use Rattle.enc_marks.proofs.Occurrence.{occurs-for_all, occurs-exists, occurs-not, occurs-implies, occurs-atom, occurs-equal, occurs_in_term-variable, occurs_in_term-apply, renumber-for_all, renumber-exists, renumber-not, renumber-implies, renumber-atom, renumber-equal, renumber_term-variable, renumber_term-apply}
use Rattle.enc_cover.specs.Undercover.{undercover_binders}
use Rattle.enc_cover.specs.Rows.{lists, sides_differ, all_differ, some_differ, lists_differ, differ_guarded, nil_guarded, cons_guarded, inhabited, lists_guarded, differ_tagged, nil_tagged, cons_tagged, idempotent, lists_tagged, id, fst, first_equation, pairs, first_written, codes_written, id_guarded, fst_guarded, pairs_guarded}
use Rattle.enc_cover.proofs.Binders.{undercover_binders-equation, undercover_binders-for_all, undercover_binders-exists}

stands-sides_differ : (i : ℕ) → stands lists is_covering sides_differ i ≡ (eqb 1 i || false)
stands-sides_differ i =
    simp (
      stands-equation,
      standing-apply,
      standing-variable,
      parameter_of-variable,
      parameter_of-apply,
    )

pub the_element_is_undercover : undercover_binders lists all_differ ≡ true ∷ false ∷ []
the_element_is_undercover =
    simp (
      undercover_binders-for_all,
      undercover_binders-equation,
      stands-for_all,
      stands-sides_differ,
    )

pub existential_variables_are_not : undercover_binders lists some_differ ≡ false ∷ false ∷ []
existential_variables_are_not = simp (undercover_binders-exists, undercover_binders-equation)

stands-first_code : (i : ℕ) → stands pairs.signature is_covering first_equation i ≡ false
stands-first_code i = simp (stands-equation, standing-apply, standing-variable, parameter_of-apply)

-- ---- what is written

ruleset writes = (
  formula-equation,
  formula-for_all,
  bare-variable,
  bare-apply,
  type_term-variable,
  type_term-apply,
  stands-for_all,
  stands-sides_differ,
  stands-first_code,
  parameter_of-variable,
  parameter_of-apply,
  instantiate-variable,
  instantiate-apply,
)

ruleset occurring = (
  occurs-for_all,
  occurs-exists,
  occurs-not,
  occurs-implies,
  occurs-atom,
  occurs-equal,
  occurs_in_term-variable,
  occurs_in_term-apply,
)

ruleset renumbers = (
  renumber-for_all,
  renumber-exists,
  renumber-not,
  renumber-implies,
  renumber-atom,
  renumber-equal,
  renumber_term-variable,
  renumber_term-apply,
)

-- a translation over the marked symbols that occur in it
module _ (c : Choices) (normal : Normal) (stated written : List FofFormula)
    (marked : List MarkedSymbol) where
  encoded_as : translation c normal ≡ stated →
      passing (is_present stated) 0 (all_marks c normal) ≡ marked →
      map (renumbered (is_present stated)) stated ≡ written →
      encoded c normal ≡ record {
        problem = record { signature = map (λ one. one.symbol) marked; formulas = written };
        marks = map (λ one. one.mark) marked;
      }
  unfolding encoded
  encoded_as translated present numbered =
      ap (encoded_from c normal) translated
      ∙ ap (λ (ones : List MarkedSymbol). record {
        problem = record {
          signature = map (λ one. one.symbol) ones;
          formulas = map (renumbered (is_present stated)) stated;
        };
        marks = map (λ one. one.mark) ones;
      }) present
      ∙ ap (λ formulas. record {
        problem = record { signature = map (λ one. one.symbol) marked; formulas = formulas };
        marks = map (λ one. one.mark) marked;
      }) numbered

-- ---- lists

abbrev list : Constructor
list = record { name = codes "list"; arity = 1 }

abbrev lists_marked : Choices → List MarkedSymbol
lists_marked c =
    marked_symbol c 0 nil
    ∷ marked_symbol c 1 cons
    ∷ marked_constructor lists_differ 1 list
    ∷ shared_mark c.binding ∷ []

-- over the numbers of all marked symbols
abbrev lists_stated_by_guards : List FofFormula
lists_stated_by_guards =
    axiom_named (codes "ne") (differ_guarded 4)
    ∷ axiom_named (codes "typing_nil") (nil_guarded 3 4)
    ∷ axiom_named (codes "typing_cons") (cons_guarded 3 4)
    ∷ axiom_named (codes "inhabitation") (inhabited 4) ∷ []

abbrev lists_stated_by_tags : List FofFormula
lists_stated_by_tags =
    axiom_named (codes "ne") (differ_tagged 4)
    ∷ axiom_named (codes "typing_nil") (nil_tagged 3 4)
    ∷ axiom_named (codes "typing_cons") (cons_tagged 3 4)
    ∷ axiom_named (codes "tag_idempotence") (idempotent 4) ∷ []

-- all marked symbols occur but `$i`
record OccurInLists (stated : List FofFormula) : Type 0 where
  of_nil : is_present stated 0 ≡ true
  of_cons : is_present stated 1 ≡ true
  of_individuals : is_present stated 2 ≡ false
  of_list : is_present stated 3 ≡ true
  of_mark : is_present stated 4 ≡ true

lists_occur : (stated : List FofFormula) → OccurInLists stated → (c : Choices) →
    c.marking ≡ ByType →
    passing (is_present stated) 0 (all_marks c lists_differ) ≡ lists_marked c
lists_occur stated occur c by_type =
    rw (
      by_type,
      occur.of_nil,
      occur.of_cons,
      occur.of_individuals,
      occur.of_list,
      occur.of_mark,
    ) refl

stated_by_guards : translation guards_cover lists_differ ≡ lists_stated_by_guards
unfolding translation
stated_by_guards = simp writes

occur_by_guards : OccurInLists lists_stated_by_guards
occur_by_guards = record {
  of_nil = simp occurring;
  of_cons = simp occurring;
  of_individuals = simp occurring;
  of_list = simp occurring;
  of_mark = simp occurring;
}

pub lists_under_guards_cover : encoded guards_cover lists_differ ≡ lists_guarded
lists_under_guards_cover =
    encoded_as guards_cover lists_differ lists_stated_by_guards lists_guarded.problem.formulas
    (lists_marked guards_cover) stated_by_guards
    (lists_occur lists_stated_by_guards occur_by_guards guards_cover refl)
    (simp renumbers (rw (
      occur_by_guards.of_nil,
      occur_by_guards.of_cons,
      occur_by_guards.of_individuals,
      occur_by_guards.of_list,
    ) refl))
    ∙ simp (parameter_of-variable, parameter_of-apply)

stated_by_tags : translation tags_cover lists_differ ≡ lists_stated_by_tags
unfolding translation
stated_by_tags = simp writes

occur_by_tags : OccurInLists lists_stated_by_tags
occur_by_tags = record {
  of_nil = simp occurring;
  of_cons = simp occurring;
  of_individuals = simp occurring;
  of_list = simp occurring;
  of_mark = simp occurring;
}

pub lists_under_tags_cover : encoded tags_cover lists_differ ≡ lists_tagged
lists_under_tags_cover =
    encoded_as tags_cover lists_differ lists_stated_by_tags lists_tagged.problem.formulas
    (lists_marked tags_cover) stated_by_tags
    (lists_occur lists_stated_by_tags occur_by_tags tags_cover refl)
    (simp renumbers (rw (
      occur_by_tags.of_nil,
      occur_by_tags.of_cons,
      occur_by_tags.of_individuals,
      occur_by_tags.of_list,
    ) refl))
    ∙ simp (parameter_of-variable, parameter_of-apply)

-- ---- pairs

abbrev pairs_stated : List FofFormula
pairs_stated =
    axiom_named (codes "ax") first_written
    ∷ axiom_named (codes "nt") (codes_written 3 4)
    ∷ axiom_named (codes "typing_id") (id_guarded 4 5)
    ∷ axiom_named (codes "typing_fst") (fst_guarded 4 5)
    ∷ axiom_named (codes "inhabitation") (inhabited 5) ∷ []

abbrev pairs_marked : List MarkedSymbol
pairs_marked =
    marked_symbol guards_cover 0 id
    ∷ marked_symbol guards_cover 1 fst
    ∷ marked_constructor pairs 1 (record { name = codes "pair"; arity = 2 })
    ∷ marked_constructor pairs 2 (record { name = codes "code"; arity = 0 })
    ∷ shared_mark ByGuard ∷ []

stated_of_pairs : translation guards_cover pairs ≡ pairs_stated
unfolding translation
stated_of_pairs = simp writes

of_id : is_present pairs_stated 0 ≡ true
of_id = simp occurring

of_fst : is_present pairs_stated 1 ≡ true
of_fst = simp occurring

of_individuals : is_present pairs_stated 2 ≡ false
of_individuals = simp occurring

of_pair : is_present pairs_stated 3 ≡ true
of_pair = simp occurring

of_code : is_present pairs_stated 4 ≡ true
of_code = simp occurring

of_guard : is_present pairs_stated 5 ≡ true
of_guard = simp occurring

pub pairs_under_guards_cover : encoded guards_cover pairs ≡ pairs_guarded
pairs_under_guards_cover =
    encoded_as guards_cover pairs pairs_stated pairs_guarded.problem.formulas pairs_marked
    stated_of_pairs
    (rw (of_id, of_fst, of_individuals, of_pair, of_code, of_guard) refl)
    (simp renumbers (rw (of_id, of_fst, of_individuals, of_pair, of_code) refl))
    ∙ simp parameter_of-apply
