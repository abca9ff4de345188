-- The lift of the translation where every term has its tag: the elements of a member are what its
-- tag gives, and numbers are read through the tag.
use Rattle.std.specs.Prelude.{ℕ, ◌<◌, ◌≡◌, Bool, true, false, List, [], ◌∷◌, ◌++◌, map, eqb, slice_get, Some}
use Rattle.std.proofs.Common.{refl, sym, ap, ◌∙◌, subst, arith}
use Rattle.std.proofs.lemmas.Bool.{eqb-true, eq-eqb, false≢true}
use Rattle.enc_base.proofs.Quantifiers.{some_below-at, some_below-from}
use Rattle.tf_core.specs.declared.ty.Ty.{Ty}
use Rattle.tf_core.specs.declared.signature.Symbol.{Symbol}
use Rattle.tf_core.specs.declared.signature.Signature.{Signature}
use Rattle.tf_core.specs.declared.normal.Normal.{Normal}
use Rattle.tf_core.specs.Types.{instantiate}
use Rattle.tf_core.specs.Typing.{IsNormal}
use Rattle.tf_core.specs.Models.{IsNormalModel}
use Rattle.fof_models.specs.Structures.{Untyped}
use Rattle.fof_models.specs.Truth.{value}
use Rattle.fof_models.specs.Models.{AreSatisfied}
use Rattle.fof_models.proofs.Truth.{value-apply}
use Rattle.enc_marks.specs.Translation.{Numbers, type_term, selected}
use Rattle.enc_marks.specs.Encoded.{all_numbers, translation}
use Rattle.enc_marks.specs.Occurrence.{count_below}
use Rattle.enc_marks.specs.Schemes.{tags}
use Rattle.enc_laws.specs.Relations.{needed}
use Rattle.enc_laws.specs.Corresponds.{IsApplied}
use Rattle.enc_laws.specs.Lifted.{Lift, lifted, lifted_value, type_mark, lift_by_type, IsClosed}
use Rattle.enc_laws.specs.Total.{IsTotal}
use Rattle.enc_laws.proofs.Selected.{all_same}
use Rattle.enc_laws.proofs.Ranked.{count_below-less}
use Rattle.enc_laws.proofs.ByType.{never_stands}
use Rattle.enc_laws.proofs.Lifting.{ranking, IsInside, Lifts}
use Rattle.enc_laws.proofs.Formed.{is_structure}
use Rattle.enc_laws.proofs.LiftByType.{IsItself, any, same_numbers, lifts_satisfied}

-- a symbol that doesn't occur gives the element of rank 0, and a predicate 0
abbrev pub AreAbsent : Numbers → Signature → (ℕ → Bool) → Untyped → Type 0
AreAbsent k g present j =
    (f : ℕ) (symbol : Symbol) (kept values members elements : List ℕ) →
    slice_get g.symbols f ≡ Some symbol → present (k.symbol f) ≡ false →
    IsApplied tags k g (lifted tags k g present j (lift_by_type tags k j)) j
    (ranking j (lift_by_type tags k j) (IsItself j) any) symbol kept values members elements →
    lifted_value (lift_by_type tags k j) members symbol.result
    (j.symbol_at (k.symbol f) (kept ++ values)) ≡ 0

module _ (k : Numbers) (g : Signature) (present : ℕ → Bool) (j : Untyped) (closed : IsClosed k g j)
    (tags_below : (u v : ℕ) → v < j.size → j.symbol_at k.shared (u ∷ v ∷ []) < j.size) where
  abbrev own : Lift
  own = lift_by_type tags k j

  pub inside_tag : (m v : ℕ) → v < j.size → IsInside j (lift_by_type tags k j) v m
  inside_tag m v below = record {
    inside = tags_below m v below;
    passes = some_below-from j.size (λ x. eqb (type_mark k j m x) (type_mark k j m v)) v below
        (eq-eqb _ _ refl);
  }

  pub read_from : (m w : ℕ) → (lift_by_type tags k j).picks m w ≡ true →
      (v : ℕ) × (v < j.size) × ((lift_by_type tags k j).into m v ≡ w)
  read_from m w picked =
      let found = some_below-at j.size (λ x. eqb (type_mark k j m x) w) picked in
      (found.0, found.1, eqb-true _ _ found.2)

  pub tag_inhabited : (m : ℕ) → 0 < count_below j.size ((lift_by_type tags k j).picks m)
  tag_inhabited m =
      let first = inside_tag m 0 closed.inhabited in
      let less = count_below-less j.size (own.into m 0) (own.picks m) first.inside first.passes in
      omega (arith, less)

  module _ (absent : AreAbsent k g present j) where
    pub tags_lifts : Lifts tags k g present j (lift_by_type tags k j) (IsItself j) any
    tags_lifts = record {
      within = λ v m h. subst (λ z. z < j.size) h.is h.below;
      constructors = λ i constructor values members at all h. record {
        is = ap (j.symbol_at (k.constructor i)) (same_numbers j values members h);
        below = closed.constructors i constructor values at;
      };
      constructors_below = λ i constructor members at below.
          closed.constructors i constructor members at;
      kept = λ symbol us members h. same_numbers j us (selected (tags.keeps symbol) members) h;
      good_arguments = λ f symbol types at all.
          all_same (λ (ty : Ty). ty) (map (instantiate types) symbol.arguments);
      good_result = λ f symbol ty types at gives all. refl;
      result_below = λ f symbol ty kept values members elements at gives h.
          closed.functions f symbol ty (kept ++ values) at gives;
      result_inside = λ f symbol ty kept values members elements at gives h.
          inside_tag _ _ (closed.functions f symbol ty (kept ++ values) at gives);
      absent = absent;
      untagged = λ position kind ty members v good no_tag. absurd (false≢true (sym no_tag));
      stays = λ kind ty body members v good need.
          absurd (never_stands g (needed tags (ranking j own (IsItself j) any) kind ty) (λ p. refl)
          body 0 need);
      tag_is = λ depth ty t members assignment position kind e good tagged type_is h.
          value-apply j assignment k.shared (type_term k.constructor depth ty ∷ t ∷ [])
          ∙ ap (λ z. j.symbol_at k.shared (z ∷ value j assignment t ∷ [])) type_is.is;
      covered = λ m w within below picked. read_from m w picked;
      bind_true = λ undercover naked depth ty t members assignment good binds type_is below picked.
          absurd (false≢true binds);
      element = λ depth ty t members assignment good type_is below bound. inside_tag _ _ below;
    }

-- the lifted structure is a model
pub tags_lifted_model : (normal : Normal) (present : ℕ → Bool) (j : Untyped) →
    IsTotal tags normal j → AreAbsent (all_numbers normal) normal.signature present j →
    IsNormal normal → AreSatisfied j (translation tags normal) →
    IsNormalModel normal (lifted tags (all_numbers normal) normal.signature present j
    (lift_by_type tags (all_numbers normal) j))
tags_lifted_model normal present j total absent sound satisfied =
    let k : Numbers = all_numbers normal in
    let g : Signature = normal.signature in
    let below : (u v : ℕ) → v < j.size → j.symbol_at k.shared (u ∷ v ∷ []) < j.size =
    total.tags refl in
    let has_lifts : Lifts tags k g present j (lift_by_type tags k j) (IsItself j) any =
    tags_lifts k g present j total.closed below absent in
    record {
      structure = is_structure tags k g present j (lift_by_type tags k j) (IsItself j) any
          sound.signature has_lifts
          (record {
            some = total.closed.inhabited;
            number_of = λ m within. (m, record { is = refl; below = within });
            inhabited = λ m within. tag_inhabited k g present j total.closed below m;
            predicates = total.predicates;
          });
      formulas = lifts_satisfied tags normal present j sound has_lifts satisfied;
    }
