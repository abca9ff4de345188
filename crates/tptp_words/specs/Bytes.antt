-- The bytes of ASCII that words and gaps are made of, by their names.
use Rattle.std.specs.Prelude.{ℕ}

abbrev pub line_feed : ℕ
line_feed = 10

abbrev pub carriage_return : ℕ
carriage_return = 13

abbrev pub tab : ℕ
tab = 9

abbrev pub space : ℕ
space = 32

abbrev pub underscore : ℕ
underscore = 95

abbrev pub single_quote : ℕ
single_quote = 39

abbrev pub double_quote : ℕ
double_quote = 34

abbrev pub backslash : ℕ
backslash = 92

abbrev pub percent : ℕ
percent = 37

abbrev pub slash : ℕ
slash = 47

abbrev pub star : ℕ
star = 42

abbrev pub dollar_sign : ℕ
dollar_sign = 36

abbrev pub point : ℕ
point = 46

abbrev pub plus : ℕ
plus = 43

abbrev pub minus : ℕ
minus = 45

abbrev pub capital_e : ℕ
capital_e = 69

abbrev pub small_e : ℕ
small_e = 101

abbrev pub less : ℕ
less = 60

abbrev pub greater : ℕ
greater = 62

abbrev pub equals : ℕ
equals = 61

abbrev pub exclamation : ℕ
exclamation = 33

abbrev pub tilde : ℕ
tilde = 126

abbrev pub ampersand : ℕ
ampersand = 38

abbrev pub bar : ℕ
bar = 124
