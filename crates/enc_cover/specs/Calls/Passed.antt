-- A search for the binder of a number, which passes the binders before it.
use Rattle.std.specs.Prelude.{ℕ, zero, suc, Bool, List, [], ◌∷◌}
use Rattle.enc_cover.specs.declared.undercover.Search.{Search}
use Rattle.enc_cover.specs.declared.undercover.Search.TheVariants.{Found, Left}

-- the item of a list that has a number, or how much of the number is left behind the list
abbrev pub sought : List Bool → ℕ → Search
sought [] left = Left left
sought (item ∷ items) zero = Found item
sought (item ∷ items) (suc left) = sought items left
