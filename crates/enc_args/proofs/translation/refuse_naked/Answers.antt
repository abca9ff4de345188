use Rattle.std.specs.Prelude.{None, map, slice_get, ◌≡◌, List, [], ◌∷◌}
use Rattle.std.proofs.Common.{refl, sym, ◌∙◌}
use Rattle.tf_naked.specs.Naked.{NakedPlace, naked_places}
use Rattle.enc_args.proofs.translation.refuse_naked.Goals as goal

none_first : (places : List NakedPlace) →
    slice_get (map (λ (naked : NakedPlace). naked.place) places) 0 ≡ None → places ≡ []
none_first [] none = refl
none_first (naked ∷ places) none = cc

pub returns-in-None-clause-applies : goal.returns-in-None-clause-applies
returns-in-None-clause-applies c =
    none_first (naked_places c.args.normal.now) (sym c.first_naked.ensures.exact ∙ c.in-None.is)
