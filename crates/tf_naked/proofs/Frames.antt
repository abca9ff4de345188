-- The kinds of the binders in frames, one a variant, and the kinds behind the nearest ones.
use Rattle.std.specs.Prelude.{ℕ, zero, suc, ◌+◌, ◌≡◌, List, [], ◌∷◌, drop}
use Rattle.std.proofs.Common.{refl, sym, ap, ◌∙◌, arith}
use Rattle.std.proofs.Math.Seq.{drop-nil}
use Rattle.std.specs.Borrow.{Bor}
use Rattle.tf_naked.specs.declared.position.Kind.{Kind}
use Rattle.tf_naked.specs.declared.kinds.Frames.{Frames}
use Rattle.tf_naked.specs.declared.kinds.Frames.TheVariants as frames
use Rattle.tf_naked.specs.declared.kinds.Frames.TheOpen as layer
use Rattle.tf_naked.specs.declared.kinds.Frames.TheFolds.{fold-roll-Frames}
use Rattle.tf_naked.specs.Calls.Frames.{kinds_of, kinds_step}

pub kinds_of-outside : kinds_of frames.Outside ≡ []
unfolding kinds_of
kinds_of-outside =
    ap kinds_of (sym frames.rolls-Outside)
    ∙ fold-roll-Frames (List Kind) kinds_step layer.Outside

pub kinds_of-inside : (kind : Kind) (outer : Bor Frames) →
    kinds_of (frames.Inside kind outer) ≡ kind ∷ kinds_of outer.now
unfolding kinds_of
kinds_of-inside kind outer =
    ap kinds_of (sym (frames.rolls-Inside kind outer))
    ∙ fold-roll-Frames (List Kind) kinds_step (layer.Inside kind outer)

pub drop_one_more : {A : Type 0} (n : ℕ) (items : List A) →
    drop 1 (drop n items) ≡ drop (n + 1) items
drop_one_more zero items = refl
drop_one_more (suc n) [] = sym (drop-nil (suc n + 1))
drop_one_more (suc n) (item ∷ items) =
    let moved : suc (n + 1) ≡ suc n + 1 = omega arith in
    drop_one_more n items ∙ ap (λ k. drop k (item ∷ items)) moved
