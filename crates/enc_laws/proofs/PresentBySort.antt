-- The tags of sorts, seen over all marked symbols.
use Rattle.std.specs.Prelude.{ℕ, ◌+◌, ◌<◌, ◌≡◌, Bool, true, false, not, ◌&&◌, [], ◌∷◌, length, cond, slice_get, Some}
use Rattle.std.proofs.Common.{refl, sym, ap, ◌∙◌, subst, arith}
use Rattle.std.proofs.lemmas.Bool.{le-leb}
use Rattle.tf_core.specs.declared.ty.Ty.{Ty}
use Rattle.tf_core.specs.declared.normal.Normal.{Normal}
use Rattle.fof_models.specs.declared.structure.Structure.{Structure}
use Rattle.fof_models.specs.Structures.{reading}
use Rattle.fof_models.specs.Models.{AreModel}
use Rattle.tf_naked.specs.SortLaws.{IsSort}
use Rattle.enc_marks.specs.declared.choices.Marking.TheVariants.{BySort}
use Rattle.enc_marks.specs.declared.choices.Binding.TheVariants.{ByTag}
use Rattle.enc_marks.specs.Choices.{Choices}
use Rattle.enc_marks.specs.Encoded.{all_numbers, is_guard, sort_mark, all_marks, is_present, translation, encoded}
use Rattle.enc_marks.specs.Occurrence.{count_below}
use Rattle.enc_marks.proofs.SoundMarks.{sort_number, sort-at}
use Rattle.enc_laws.specs.Present.{is_tag}
use Rattle.enc_laws.specs.LiftedBySort.{IsTotalBySort}
use Rattle.enc_laws.proofs.Present.{marked, well_formed, mark_present, is_closed, predicates_below}

module _ (c : Choices) (normal : Normal) (s : Structure)
    (model : AreModel (encoded c normal).problem s) (marking : c.marking ≡ BySort) where
  abbrev present : ℕ → Bool
  present = is_present (translation c normal)

  module _ (binding : c.binding ≡ ByTag) (sort : Ty) (is_sort : IsSort normal sort) where
    abbrev number : ℕ
    number = (all_numbers normal).sort sort

    mark-sort : slice_get (all_marks c normal) ((all_numbers normal).sort sort)
        ≡ Some (sort_mark normal ByTag (sort_number c normal sort) sort)
    mark-sort =
        sort-at c normal marking sort is_sort
        ∙ ap (λ z. Some (sort_mark normal z (sort_number c normal sort) sort)) binding

    tag_by_presence : (v : ℕ) → v < s.size → (b : Bool) → present number ≡ b →
        (marked c normal s model).symbol_at number (v ∷ []) < s.size
    tag_by_presence v below true is =
        mark_present c normal s model number
        (sort_mark normal ByTag (sort_number c normal sort) sort) (v ∷ []) mark-sort
        (well_formed c normal s model).inhabited is
    tag_by_presence v below false is =
        let before : ℕ =
        length normal.signature.symbols + length normal.signature.constructors in
        let tag : is_tag c normal number ≡ true =
        ap (λ b. b && not (is_guard c.binding)) (le-leb before number (omega arith))
        ∙ ap (λ z. not (is_guard z)) binding in
        subst (λ z. z < s.size)
        (sym (ap (λ b. cond b ((reading s).symbol_at (count_below number present) (v ∷ []))
        (cond (is_tag c normal number) v 0)) is
        ∙ ap (λ b. cond b v 0) tag)) below

  -- the tables that occur, with zeros for the others and tags that change nothing
  pub is_total_by_sort : IsTotalBySort c normal (marked c normal s model)
  is_total_by_sort = record {
    closed = is_closed c normal s model;
    tags = λ binding sort v is_sort below.
        tag_by_presence binding sort is_sort v below
        (present ((all_numbers normal).sort sort)) refl;
    predicates = predicates_below c normal s model;
  }
