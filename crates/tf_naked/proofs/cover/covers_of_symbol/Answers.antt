use Rattle.std.proofs.Common.{◌+◌, ◌++◌, ◌∷◌, [], length, drop, map, sym, ap, subst, ◌∙◌}
use Rattle.std.proofs.lemmas.List.{length-replicate}
use Rattle.std.specs.Prelude.{true, false}
use Rattle.std.specs.List.{AllByRecursion}
use Rattle.tf_naked.specs.Covers.{parameter_of, IsOwn}
use Rattle.tf_naked.specs.Calls.Flags.{is_unseen, unseen_places}
use Rattle.tf_naked.proofs.Flags.{length-flagged, own_at, unseen_places-step, unseen_places-end, unseen_places-covers}
use Rattle.tf_naked.proofs.cover.covers_of_symbol.Goals as goal

pub loop-ty-init : goal.loop-ty-init
loop-ty-init c =
    record {
      long = ap length c.in_ok-seen.ensures ∙ length-replicate c.args.symbol.now.parameters false;
      own = subst
          (λ xs. AllByRecursion (IsOwn c.args.symbol.now.parameters) (map parameter_of xs))
          (sym c.as_slice-ty-items.ensures) c.requires.own;
      found = ap (λ xs. xs ++ unseen_places c.in_ok-seen.seen.items
          (map parameter_of c.as_slice-ty-items.result.now)) c.new-found.ensures;
    }

pub is_first-requires : goal.is_first-requires
is_first-requires c =
    record {
      own = subst (λ n. IsOwn n (parameter_of c.ty-item.result)) (sym c.loop-ty.invariant.long)
          (own_at c.args.symbol.now.parameters c.as_slice-ty-items.result.now c.loop-ty.ty-index
          c.ty-item.result c.loop-ty-test.true c.ty-item.is c.loop-ty.invariant.own).0;
    }

pub loop-ty-preserved : goal.loop-ty-preserved
loop-ty-preserved c =
    record {
      long = ap length c.is_first.ensures.seen
          ∙ length-flagged true c.loop-ty.seen.items (parameter_of c.ty-item.result)
          ∙ c.loop-ty.invariant.long;
      own = (own_at c.args.symbol.now.parameters c.as_slice-ty-items.result.now c.loop-ty.ty-index
          c.ty-item.result c.loop-ty-test.true c.ty-item.is c.loop-ty.invariant.own).1;
      found = ap (λ xs. xs ++ unseen_places c.is_first.new.seen.items
          (map parameter_of (drop (c.loop-ty.ty-index + 1) c.as_slice-ty-items.result.now)))
          (c.in_ok-push.ensures.ok ∙ ap (λ x. c.loop-ty.found ++ x ∷ []) c.is_first.ensures.exact)
          ∙ ap (λ seen. (c.loop-ty.found
          ++ is_unseen c.loop-ty.seen.items (parameter_of c.ty-item.result) ∷ [])
          ++ unseen_places seen
          (map parameter_of (drop (c.loop-ty.ty-index + 1) c.as_slice-ty-items.result.now)))
          c.is_first.ensures.seen
          ∙ unseen_places-step c.loop-ty.seen.items c.loop-ty.found c.as_slice-ty-items.result.now
          c.loop-ty.ty-index c.ty-item.result c.loop-ty-test.true c.ty-item.is
          ∙ c.loop-ty.invariant.found;
    }

pub returns : goal.returns
returns c =
    record {
      exact = sym (unseen_places-end c.loop-ty.seen.items c.loop-ty.found
          c.as_slice-ty-items.result.now c.loop-ty.ty-index c.loop-ty-test.false)
          ∙ c.loop-ty.invariant.found
          ∙ ap (λ xs. unseen_places c.in_ok-seen.seen.items (map parameter_of xs))
          c.as_slice-ty-items.ensures
          ∙ unseen_places-covers c.args.symbol.now c.in_ok-seen.seen.items c.in_ok-seen.ensures
          c.requires.own;
    }
