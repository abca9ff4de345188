use Rattle.std.proofs.Common.{sym, subst, ap, ◌∙◌, map}
use Rattle.std.proofs.lemmas.Result.{IfOk-weaker}
use Rattle.std.specs.List.{AllByRecursion}
use Rattle.enc_mono.specs.Calls.Numbered.{keys_in}
use Rattle.enc_mono.specs.Calls.Searched.{IsTotal, query}
use Rattle.enc_mono.proofs.Partials.{partials_decide}
use Rattle.enc_mono.proofs.Totals.{all_items, AreDistinct-keys, AreMatchedUpTo-finished}
use Rattle.enc_mono.proofs.search.matched_substitutions.Goals as goal

pub all_numbers-requires : goal.all_numbers-requires
all_numbers-requires c = record {
  total = subst (AllByRecursion (λ key. IsTotal key.items)) (sym c.as_slice.ensures.keys)
      (all_items (λ key. key.items) IsTotal c.in_ok-search.search.found.keys
      (λ bound at.
      let both = c.in_ok-search.ensures.search_is.found_are bound at in both.1));
}

pub returns : goal.returns
returns c =
    IfOk-weaker c.all_numbers.result _ _
    (λ made is.
    let same = is ∙ ap (map (λ key. key.items)) c.as_slice.ensures.keys in
    AreMatchedUpTo-finished
    (query c.args.table.now (keys_in c.args.index.now) c.args.patterns.now c.args.variables) c.args.most
    c.in_ok-search.search c.in_ok-search.ensures made same
    (AreDistinct-keys (λ key. key.items) _ (λ a b. partials_decide a.items b.items)
    c.in_ok-search.search.found.keys made same c.as_slice.ensures.unique))
    c.all_numbers.ensures
