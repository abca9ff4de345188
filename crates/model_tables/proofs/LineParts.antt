-- What the code sends for a table, part by part.
use Rattle.std.proofs.Common.{◌≡◌, ◌+◌, ◌<◌, ◌≤◌, ℕ, zero, suc, List, [], ◌∷◌}
use Rattle.std.proofs.Common.{◌++◌, map, length, take, refl, sym, ap, ◌∙◌, arith, append-nil}
use Rattle.std.proofs.Common.{append_assoc, Fits, w32}
use Rattle.std.proofs.Math.Facts.{Fits-lt-pow}
use Rattle.std.specs.Prelude.{codes, get_or}
use Rattle.std.specs.Fmt.{decimal}
use Rattle.std.proofs.lemmas.List.{take_more, take_all, length-take-le}
use Rattle.fof_text.specs.Written.{number_word, mark_word}
use Rattle.tf_core.specs.declared.signature.Constructor.{Constructor}
use Rattle.tf_core.specs.declared.signature.Symbol.{Symbol}
use Rattle.tf_core.specs.declared.signature.Signature.{Signature}
use Rattle.tf_models.specs.declared.structure.TypedStructure.{TypedStructure}
use Rattle.fof_models.specs.declared.problem.FofSymbol.{FofSymbol}
use Rattle.fof_models.specs.declared.structure.Structure.{Structure}
use Rattle.model_tables.specs.declared.form.Form.{Form}
use Rattle.model_tables.specs.declared.form.Form.TheVariants.{Typed, Untyped}
use Rattle.model_tables.specs.Grammar.{size_word}
use Rattle.model_tables.specs.Untyped.{symbol_kind}
use Rattle.model_tables.specs.WrittenLaws.{AreNumbers}
use Rattle.model_tables.specs.Written.{Laid, laid, first_word, next_word, line_end, Writer, numbers}
use Rattle.model_tables.specs.Written.{form_line, size_line, kind_word, Heading, item_line, item_lines}
use Rattle.model_tables.specs.Written.{constructor_headings, constructor_heading, heading}
use Rattle.model_tables.specs.Written.{fof_headings, symbol_headings, typed_text, untyped_text}

-- ---- parts, and what follows them

-- what follows is written behind the part
pub record Splits (w : Writer) : Type 0 where
  pub at : (rest : List Laid) → laid (w rest) ≡ laid (w []) ++ laid rest

pub word_splits : (v : Laid) → Splits (λ rest. v ∷ rest)
word_splits v = record {
  at = λ rest.
      ap (λ z. v.before ++ z)
      (ap (λ z. v.token.spelling ++ z) (ap (λ z. z ++ laid rest) (sym (append-nil v.after)))
      ∙ sym (append_assoc v.token.spelling (v.after ++ []) (laid rest)))
      ∙ sym (append_assoc v.before (v.token.spelling ++ (v.after ++ [])) (laid rest));
}

pub then_splits : (u v : Writer) → Splits u → Splits v → Splits (λ rest. u (v rest))
then_splits u v h k = record {
  at = λ rest.
      h.at (v rest) ∙ ap (λ z. laid (u []) ++ z) (k.at rest)
      ∙ sym (append_assoc (laid (u [])) (laid (v [])) (laid rest))
      ∙ ap (λ z. z ++ laid rest) (sym (h.at (v [])));
}

pub word_then : (v : Laid) (w : Writer) → Splits w → Splits (λ rest. v ∷ w rest)
word_then v w h = then_splits (λ rest. v ∷ rest) w (word_splits v) h

-- ---- numbers

-- the numbers of a slice have 32 bits
pub fits_numbers : (ns : List ℕ) → ((i : ℕ) → Fits w32 (get_or ns i 0)) → AreNumbers ns
fits_numbers [] each = tt
fits_numbers (n ∷ ns) each =
    let first : Fits w32 n = each 0 in
    (Fits-lt-pow first, fits_numbers ns (λ i. each (suc i)))

pub numbers_split : (ns : List ℕ) → Splits (numbers ns)
numbers_split [] = record { at = λ rest. refl }
numbers_split (n ∷ ns) =
    word_then (next_word (number_word (decimal n))) (numbers ns) (numbers_split ns)

last_number : (ns : List ℕ) (n : ℕ)
    → laid (numbers (ns ++ n ∷ []) []) ≡ laid (numbers ns []) ++ (codes " " ++ decimal n)
last_number [] n = ap (λ z. codes " " ++ z) (append-nil (decimal n))
last_number (m ∷ ns) n =
    ap (λ z. codes " " ++ (decimal m ++ z)) (last_number ns n)
    ∙ ap (λ z. codes " " ++ z)
    (sym (append_assoc (decimal m) (laid (numbers ns [])) (codes " " ++ decimal n)))

-- one number more
pub number_next : (ns : List ℕ) (i : ℕ) → i < length ns
    → laid (numbers (take (i + 1) ns) [])
    ≡ laid (numbers (take i ns) []) ++ (codes " " ++ decimal (get_or ns i 0))
number_next ns i l =
    ap (λ z. laid (numbers z [])) (take_more ns i 0 l) ∙ last_number (take i ns) (get_or ns i 0)

-- ---- lines

abbrev end_of_line : Writer
end_of_line rest = line_end ∷ rest

pub opening_is : (form : Form) (sizes : List ℕ)
    → laid (form_line form (size_line form sizes []))
    ≡ ((laid (form_line form []) ++ size_word form) ++ laid (numbers sizes [])) ++ codes ".\n"
opening_is Typed sizes =
    ap (λ z. codes "typed 1.\nsizes" ++ z) ((numbers_split sizes).at (line_end ∷ []))
opening_is Untyped sizes =
    ap (λ z. codes "untyped 1.\nsize" ++ z) ((numbers_split sizes).at (line_end ∷ []))

pub opening_splits : (form : Form) (sizes : List ℕ)
    → Splits (λ rest. form_line form (size_line form sizes rest))
opening_splits Typed sizes =
    word_then (first_word (codes "typed")) _
    (word_then (next_word (number_word (codes "1"))) _
    (word_then line_end _
    (word_then (first_word (codes "sizes")) _
    (then_splits (numbers sizes) end_of_line (numbers_split sizes) (word_splits line_end)))))
opening_splits Untyped sizes =
    word_then (first_word (codes "untyped")) _
    (word_then (next_word (number_word (codes "1"))) _
    (word_then line_end _
    (word_then (first_word (codes "size")) _
    (then_splits (numbers sizes) end_of_line (numbers_split sizes) (word_splits line_end)))))

pub item_line_is : (head : Heading) (entries : List ℕ)
    → laid (item_line head entries [])
    ≡ ((kind_word head.kind ++ codes " ") ++ head.name.spelling)
    ++ ((codes " =" ++ laid (numbers entries [])) ++ codes ".\n")
item_line_is head entries =
    let front = kind_word head.kind in
    let name = head.name.spelling in
    let behind : List ℕ = codes " =" ++ (laid (numbers entries []) ++ codes ".\n") in
    ap (λ z. front ++ (codes " " ++ (name ++ (codes " =" ++ z))))
    ((numbers_split entries).at (line_end ∷ []))
    ∙ sym (append_assoc (front ++ codes " ") name behind
    ∙ append_assoc front (codes " ") (name ++ behind))

line_splits : (head : Heading) (entries : List ℕ) → Splits (item_line head entries)
line_splits head entries =
    word_then (first_word (kind_word head.kind)) _
    (word_then (next_word head.name) _
    (word_then (next_word (mark_word (codes "="))) _
    (then_splits (numbers entries) end_of_line (numbers_split entries) (word_splits line_end))))

pub lines_split : (heads : List Heading) (tables : List (List ℕ))
    → Splits (item_lines heads tables)
lines_split [] tables = record { at = λ rest. refl }
lines_split (head ∷ heads) [] = record { at = λ rest. refl }
lines_split (head ∷ heads) (entries ∷ tables) =
    then_splits (item_line head entries) (item_lines heads tables) (line_splits head entries)
    (lines_split heads tables)

last_line : (heads : List Heading) (tables : List (List ℕ)) (head : Heading) (entries : List ℕ)
    → length heads ≡ length tables
    → laid (item_lines (heads ++ head ∷ []) (tables ++ entries ∷ []) [])
    ≡ laid (item_lines heads tables []) ++ laid (item_line head entries [])
last_line [] [] head entries long = refl
last_line [] (t ∷ tables) head entries long = absurd (omega (arith, long))
last_line (h ∷ heads) [] head entries long = absurd (omega (arith, long))
last_line (h ∷ heads) (t ∷ tables) head entries long =
    let one = laid (item_line h t []) in
    (line_splits h t).at (item_lines (heads ++ head ∷ []) (tables ++ entries ∷ []) [])
    ∙ ap (λ z. one ++ z) (last_line heads tables head entries (omega (arith, long)))
    ∙ sym (append_assoc one (laid (item_lines heads tables [])) (laid (item_line head entries [])))
    ∙ ap (λ z. z ++ laid (item_line head entries []))
    (sym ((line_splits h t).at (item_lines heads tables [])))

-- one line more
pub line_next : (heads : List Heading) (tables : List (List ℕ)) (i : ℕ) (head : Heading)
    (entries : List ℕ) → i < length heads → i < length tables → get_or heads i head ≡ head
    → entries ≡ get_or tables i entries
    → laid (item_lines (take (i + 1) heads) (take (i + 1) tables) [])
    ≡ laid (item_lines (take i heads) (take i tables) []) ++ laid (item_line head entries [])
line_next heads tables i head entries l k e f =
    let short : i ≤ length heads = omega arith in
    let few : i ≤ length tables = omega arith in
    ap (λ z. laid (item_lines z (take (i + 1) tables) []))
    (take_more heads i head l ∙ ap (λ z. take i heads ++ z ∷ []) e)
    ∙ ap (λ z. laid (item_lines (take i heads ++ head ∷ []) z []))
    (take_more tables i entries k ∙ ap (λ z. take i tables ++ z ∷ []) (sym f))
    ∙ last_line (take i heads) (take i tables) head entries
    (length-take-le i heads short ∙ sym (length-take-le i tables few))

-- all lines
pub lines_end : (heads : List Heading) (tables : List (List ℕ)) (i : ℕ) → length heads ≤ i
    → length tables ≤ i
    → laid (item_lines (take i heads) (take i tables) []) ≡ laid (item_lines heads tables [])
lines_end heads tables i l k =
    ap (λ z. laid (item_lines z (take i tables) [])) (take_all i heads l)
    ∙ ap (λ z. laid (item_lines heads z [])) (take_all i tables k)

-- ---- headings by their places

pub constructor_there : (n : ℕ) (cs : List Constructor) (i : ℕ) (c : Constructor) (d : Heading)
    → i < length cs → c ≡ get_or cs i c
    → get_or (constructor_headings n cs) i d ≡ constructor_heading (n + i) c.name
constructor_there n [] i c d l e = absurd (omega arith)
constructor_there n (k ∷ cs) zero c d l e =
    let same : n ≡ n + 0 = omega arith in
    ap (λ (z : Constructor). constructor_heading n z.name) (sym e)
    ∙ ap (λ m. constructor_heading m c.name) same
constructor_there n (k ∷ cs) (suc i) c d l e =
    let same : suc n + i ≡ n + suc i = omega arith in
    constructor_there (suc n) cs i c d (omega arith) e
    ∙ ap (λ m. constructor_heading m c.name) same

pub constructors_long : (n : ℕ) (cs : List Constructor)
    → length (constructor_headings n cs) ≡ length cs
constructors_long n [] = refl
constructors_long n (c ∷ cs) = ap suc (constructors_long (suc n) cs)

pub mapped_there : {A : Type 0} (f : A → Heading) (xs : List A) (i : ℕ) (x : A) (d : Heading)
    → i < length xs → x ≡ get_or xs i x → get_or (map f xs) i d ≡ f x
mapped_there f [] i x d l e = absurd (omega arith)
mapped_there f (y ∷ xs) zero x d l e = ap f (sym e)
mapped_there f (y ∷ xs) (suc i) x d l e = mapped_there f xs i x d (omega arith) e

pub fof_there : (symbols : List FofSymbol) (names : List (List ℕ)) (i : ℕ) (s : FofSymbol)
    (n : List ℕ) (d : Heading) → i < length symbols → i < length names
    → s ≡ get_or symbols i s → n ≡ get_or names i n
    → get_or (fof_headings symbols names) i d ≡ heading (symbol_kind s) n
fof_there [] names i s n d l k e f = absurd (omega arith)
fof_there (x ∷ symbols) [] i s n d l k e f = absurd (omega arith)
fof_there (x ∷ symbols) (m ∷ names) zero s n d l k e f =
    ap (λ z. heading (symbol_kind z) m) (sym e) ∙ ap (heading (symbol_kind s)) (sym f)
fof_there (x ∷ symbols) (m ∷ names) (suc i) s n d l k e f =
    fof_there symbols names i s n d (omega arith) (omega arith) e f

pub fof_long : (symbols : List FofSymbol) (names : List (List ℕ))
    → length names ≡ length symbols → length (fof_headings symbols names) ≡ length symbols
fof_long [] names h = refl
fof_long (x ∷ symbols) [] h = absurd (omega (arith, h))
fof_long (x ∷ symbols) (m ∷ names) h = ap suc (fof_long symbols names (omega (arith, h)))

-- ---- whole tables, of parts that are these

module _ (g : Signature) (s : TypedStructure) where
  -- what is sent for lists of these
  abbrev pub typed_parts : List ℕ → List Constructor → List (List ℕ) → List Symbol → List (List ℕ)
      → List ℕ
  typed_parts sizes constructors first symbols second =
      (laid (form_line Typed (size_line Typed sizes []))
      ++ laid (item_lines (constructor_headings 0 constructors) first []))
      ++ laid (item_lines (symbol_headings symbols) second [])

  typed_text_is : typed_parts s.sizes g.constructors s.constructors g.symbols s.symbols
      ≡ typed_text g s
  unfolding typed_text
  typed_text_is =
      let opening = laid (form_line Typed (size_line Typed s.sizes [])) in
      let first = laid (item_lines (constructor_headings 0 g.constructors) s.constructors []) in
      let second = laid (item_lines (symbol_headings g.symbols) s.symbols []) in
      append_assoc opening first second
      ∙ ap (λ z. opening ++ z)
      (sym ((lines_split (constructor_headings 0 g.constructors) s.constructors).at
      (item_lines (symbol_headings g.symbols) s.symbols [])))
      ∙ sym ((opening_splits Typed s.sizes).at
      (item_lines (constructor_headings 0 g.constructors) s.constructors
      (item_lines (symbol_headings g.symbols) s.symbols [])))

  pub typed_whole : (sizes : List ℕ) (constructors : List Constructor) (first : List (List ℕ))
      (symbols : List Symbol) (second : List (List ℕ)) → sizes ≡ s.sizes
      → constructors ≡ g.constructors → first ≡ s.constructors → symbols ≡ g.symbols
      → second ≡ s.symbols
      → typed_parts sizes constructors first symbols second ≡ typed_text g s
  typed_whole sizes constructors first symbols second a b c d e =
      ap (λ z. typed_parts z constructors first symbols second) a
      ∙ ap (λ z. typed_parts s.sizes z first symbols second) b
      ∙ ap (λ z. typed_parts s.sizes g.constructors z symbols second) c
      ∙ ap (λ z. typed_parts s.sizes g.constructors s.constructors z second) d
      ∙ ap (λ z. typed_parts s.sizes g.constructors s.constructors g.symbols z) e
      ∙ typed_text_is

module _ (signature : List FofSymbol) (names : List (List ℕ)) (s : Structure) where
  abbrev pub untyped_parts : List FofSymbol → List (List ℕ) → List (List ℕ) → List ℕ
  untyped_parts symbols given tables =
      laid (form_line Untyped (size_line Untyped (s.size ∷ []) []))
      ++ laid (item_lines (fof_headings symbols given) tables [])

  untyped_text_is : untyped_parts signature names s.tables ≡ untyped_text signature names s
  unfolding untyped_text
  untyped_text_is =
      sym ((opening_splits Untyped (s.size ∷ [])).at
      (item_lines (fof_headings signature names) s.tables []))

  pub untyped_whole : (symbols : List FofSymbol) (given tables : List (List ℕ))
      → symbols ≡ signature → given ≡ names → tables ≡ s.tables
      → untyped_parts symbols given tables ≡ untyped_text signature names s
  untyped_whole symbols given tables a b c =
      ap (λ z. untyped_parts z given tables) a
      ∙ ap (λ z. untyped_parts signature z tables) b
      ∙ ap (λ z. untyped_parts signature names z) c
      ∙ untyped_text_is
