-- The choices of the schemes by sort bear the collapse.
use Rattle.std.specs.Prelude.{◌≡◌, Bool, true, false, not, ◌&&◌}
use Rattle.std.proofs.Common.{refl, sym, ap}
use Rattle.std.proofs.lemmas.Bool.{and_parts, and_from, false≢true}
use Rattle.tf_core.specs.declared.ty.Ty.{Ty}
use Rattle.tf_core.specs.declared.signature.Signature.{Signature}
use Rattle.tf_naked.specs.declared.position.Position.{Position}
use Rattle.tf_naked.specs.declared.position.Position.TheVariants.{Argument, Side}
use Rattle.tf_naked.specs.declared.position.Kind.{Kind}
use Rattle.tf_naked.specs.declared.position.Kind.TheVariants.{Universal}
use Rattle.tf_naked.specs.Standing.{is_positive_side, is_universal}
use Rattle.enc_marks.specs.Schemes.{erase, guards_light, tags_light, guards_feather, tags_feather}
use Rattle.enc_laws.specs.CollapsedLaws.{BearsCollapse, SchemesCollapse}
use Rattle.enc_laws.proofs.ByType.{never_stands, same_stands}

not_false : (b : Bool) → not b ≡ true → b ≡ false
not_false true is = sym is
not_false false is = refl

side_untagged : (p : Position) → (is_positive_side p && true) ≡ is_positive_side p
side_untagged (Argument cover) = refl
side_untagged (Side true) = refl
side_untagged (Side false) = refl

erase_bears : (g : Signature) → BearsCollapse erase g (λ ty. true)
erase_bears g = record {
  domain = refl;
  marking = refl;
  keeps = λ symbol. refl;
  tagged = λ position kind ty tagged. absurd (false≢true tagged);
  universal = λ undercover naked ty binds. binds;
  existential = λ ty binds. binds;
  binds = λ ty body marked need. absurd (false≢true (sym marked));
}

module _ (g : Signature) (is_free_sort : Ty → Bool) where
  guards_light_bears : BearsCollapse (guards_light is_free_sort) g is_free_sort
  guards_light_bears = record {
    domain = refl;
    marking = refl;
    keeps = λ symbol. refl;
    tagged = λ position kind ty tagged. absurd (false≢true tagged);
    universal = λ undercover naked ty binds. binds;
    existential = λ ty binds. binds;
    binds = λ ty body marked need. ap not marked;
  }

  guards_feather_bears : BearsCollapse (guards_feather is_free_sort) g is_free_sort
  guards_feather_bears = record {
    domain = refl;
    marking = refl;
    keeps = λ symbol. refl;
    tagged = λ position kind ty tagged. absurd (false≢true tagged);
    universal = λ undercover naked ty binds. (and_parts naked (not (is_free_sort ty)) binds).1;
    existential = λ ty binds. binds;
    binds = λ ty body marked need.
        and_from _ _
        (same_stands g (λ p. is_positive_side p && true) is_positive_side side_untagged body 0 need)
        (ap not marked);
  }

  -- where terms of a type have tags no position is left without one
  light_never : (ty : Ty) → is_free_sort ty ≡ false → (p : Position) →
      (is_positive_side p && not (not (is_free_sort ty))) ≡ false
  light_never ty marked (Argument cover) = refl
  light_never ty marked (Side true) = ap (λ b. not (not b)) marked
  light_never ty marked (Side false) = refl

  tags_light_bears : BearsCollapse (tags_light is_free_sort) g is_free_sort
  tags_light_bears = record {
    domain = refl;
    marking = refl;
    keeps = λ symbol. refl;
    tagged = λ position kind ty tagged. (not_false (is_free_sort ty) tagged, refl);
    universal = λ undercover naked ty binds. binds;
    existential = λ ty binds. binds;
    binds = λ ty body marked need.
        absurd (never_stands g (λ p. is_positive_side p && not (not (is_free_sort ty)))
        (light_never ty marked) body 0 need);
  }

  feather_never : (ty : Ty) → is_free_sort ty ≡ false → (p : Position) →
      (is_positive_side p
      && not (is_positive_side p && is_universal Universal && not (is_free_sort ty))) ≡ false
  feather_never ty marked (Argument cover) = refl
  feather_never ty marked (Side true) = ap (λ b. not (not b)) marked
  feather_never ty marked (Side false) = refl

  tags_feather_bears : BearsCollapse (tags_feather is_free_sort) g is_free_sort
  tags_feather_bears = record {
    domain = refl;
    marking = refl;
    keeps = λ symbol. refl;
    tagged = λ position kind ty tagged.
        (not_false (is_free_sort ty) (last_of position kind ty tagged), refl);
    universal = λ undercover naked ty binds. absurd (false≢true binds);
    existential = λ ty binds. binds;
    binds = λ ty body marked need.
        absurd (never_stands g (λ p. is_positive_side p
        && not (is_positive_side p && is_universal Universal && not (is_free_sort ty)))
        (feather_never ty marked) body 0 need);
  }
    where
      last_of : (position : Position) (kind : Kind) (ty : Ty) →
          (is_positive_side position && is_universal kind && not (is_free_sort ty)) ≡ true →
          not (is_free_sort ty) ≡ true
      last_of position kind ty tagged =
          (and_parts (is_positive_side position && is_universal kind) (not (is_free_sort ty))
          tagged).1

pub schemes_bear : SchemesCollapse
schemes_bear = record {
  erase_bears = erase_bears;
  guards_light_bears = guards_light_bears;
  tags_light_bears = tags_light_bears;
  guards_feather_bears = guards_feather_bears;
  tags_feather_bears = tags_feather_bears;
}
