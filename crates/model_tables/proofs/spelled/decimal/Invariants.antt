use Rattle.std.proofs.Common.{◌≡◌, ◌<◌, ◌^◌, length, true}
use Rattle.std.specs.List.{list_all}
use Rattle.std.specs.Char.{is_ascii_digit}
use Rattle.model_tables.specs.Grammar.{decimal_from}
use Rattle.model_tables.proofs.spelled.decimal.Given as goal

-- the number of all digits is that of those that are left behind the value, which is small
abbrev pub invariant-digits : goal.invariant-digits
invariant-digits l = record {
  same : decimal_from l.value l.left ≡ decimal_from 0 l.fn.digits;
  digits : list_all is_ascii_digit l.left ≡ true;
  small : l.value < 2 ^ 32;
}

abbrev pub decreases-digits : goal.decreases-digits
decreases-digits l = length l.left
