-- The numbers of constructors by a list of marks.
use Rattle.std.specs.Prelude.{ℕ, Bool, false, List, cond, eqb, nat_eq, is_some, Option, Some, None}
use Rattle.std.specs.HashMap as hash
use Rattle.std.specs.HashMap.{HashMap}
use Rattle.std.specs.List.{position_or_len}
use Rattle.std.specs.Option.{unwrap_or}
use Rattle.enc_marks.specs.declared.mark.Mark.{Mark}
use Rattle.enc_marks.specs.declared.mark.Mark.TheVariants as mark

abbrev pub is_constructor : ℕ → Mark → Bool
is_constructor c (mark.Symbol f) = false
is_constructor c (mark.Constructor other) = eqb c other
is_constructor c mark.Guard = false
is_constructor c mark.Tag = false
is_constructor c (mark.SortGuard s) = false
is_constructor c (mark.SortTag s) = false

-- the place of a constructor's mark in the list, or where it has none the list's length
abbrev pub constructor_number : List Mark → ℕ → ℕ
constructor_number marks c = position_or_len (is_constructor c) marks

-- the number that a constructor has, or else the one that this mark gives it
abbrev pub noted : Option ℕ → Bool → ℕ → Option ℕ
noted given is_marked number = cond (is_some given) given (cond is_marked (Some number) None)

-- the number that a table gives a constructor, or else this one
unfoldable pub number_in : {S : Type 0} → HashMap ℕ ℕ S → ℕ → ℕ → ℕ
number_in numbers unmarked c = unwrap_or (hash.get nat_eq numbers c) unmarked
