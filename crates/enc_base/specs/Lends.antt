-- What a list or a box holds once a loan of its items, or of its value, has ended.
use Rattle.std.specs.Prelude.{List, length}
use Rattle.std.specs.List.{refill}
use Rattle.std.specs.Borrow.{Lends, Fml, RattleType, MutBor, Array}
use Rattle.enc_base.specs.contracts.boxed.Boxed as boxed
use Rattle.enc_base.specs.contracts.list.List as list

-- the value that stands behind the loan at its end
abbrev pub LendsValue : (T : RattleType) → MutBor T.Denot → MutBor T.Denot → Fml
LendsValue T owner loan = Lends (boxed.the_row T) T owner loan (λ value. value)

-- the items that stand behind the loan at its end: as many as before, since a slice can't grow
abbrev pub LendsItems : (T : RattleType) → MutBor (List T.Denot) → MutBor (List T.Denot) → Fml
LendsItems T owner loan =
    Lends (list.the_row T) (Array T 0) owner loan (refill (length owner.now) owner.now)
