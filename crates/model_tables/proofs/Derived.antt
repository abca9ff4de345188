-- The words that are written for a structure derive its table.
use Rattle.std.proofs.Common.{◌≡◌, ℕ, ◌<◌, List, [], ◌∷◌, ◌++◌, Option, Some, refl, sym, ap, subst}
use Rattle.std.specs.Prelude.{◌^◌, codes}
use Rattle.std.specs.List.{AllByRecursion}
use Rattle.std.specs.Fmt.{decimal}
use Rattle.tptp_words.specs.Text.{Token, Spells}
use Rattle.tptp_words.proofs.Longest.{Begin, Dead, run, step}
use Rattle.tptp_phrases.specs.Phrase.{Phrase, word, Row}
use Rattle.fof_text.specs.Written.{lower_word, mark_word, number_word}
use Rattle.fof_text.proofs.Derives.{Has, seq, give, take, rows}
use Rattle.model_tables.specs.declared.form.Form.{Form}
use Rattle.model_tables.specs.declared.form.Form.TheVariants.{Typed, Untyped}
use Rattle.model_tables.specs.declared.form.Kind.{Kind}
use Rattle.model_tables.specs.Grammar.{Item, Table, number, format, stop, equals, item_kind, item_name}
use Rattle.model_tables.specs.Grammar.{closed_opening, item, table}
use Rattle.model_tables.specs.Faults.{Want}
use Rattle.model_tables.specs.Written.{Laid, words_of, line_end, numbers, form_line, size_line}
use Rattle.model_tables.specs.Written.{kind_word, Heading, item_line, item_lines}
use Rattle.model_tables.specs.WrittenLaws.{AreNumbers}
use Rattle.model_tables.proofs.Decimals.{number_says}

-- ---- headings and what they are written for

-- a word after which a space may stand
pub record EndsAtSpace (w : Token) : Type 0 where
  pub spelled : Spells w.kind w.spelling
  pub ends : step (run Begin w.spelling) 32 ≡ Dead

-- the heading of an item for this constructor or symbol
pub record IsHeading (form : Form) (head : Heading) (w : Want) : Type 0 where
  pub kind : head.kind ≡ w.kind
  pub kind_says : item_kind form (lower_word (kind_word w.kind)) ≡ Some w.kind
  pub name_says : item_name w.kind head.name ≡ Some w.name
  pub name_ends : EndsAtSpace head.name

abbrev pub AreHeadings : Form → List Heading → List Want → Type 0
AreHeadings form [] [] = Unit {0}
AreHeadings form [] (w ∷ wants) = ⊥
AreHeadings form (head ∷ heads) [] = ⊥
AreHeadings form (head ∷ heads) (w ∷ wants) =
    IsHeading form head w × AreHeadings form heads wants

-- the items that are written
abbrev pub items_of : List Want → List (List ℕ) → List Item
items_of [] tables = []
items_of (w ∷ wants) [] = []
items_of (w ∷ wants) (entries ∷ tables) =
    record { kind = w.kind; name = w.name; entries = entries } ∷ items_of wants tables

-- ---- parts

number_row : (ns : List ℕ) (rest : List Laid) → AreNumbers ns
    → Row (word number) (words_of (numbers ns rest)) (words_of rest) ns
number_row [] rest h = refl
number_row (n ∷ ns) rest h = (
  words_of (numbers ns rest),
  (take number (number_word (decimal n)) (words_of (numbers ns rest)) (number_says n h.0)).it,
  number_row ns rest h.1,
)

pub typed_opening : (n : ℕ) (ns : List ℕ) (rest : List Laid) → AreNumbers (n ∷ ns)
    → Has (closed_opening Typed) (words_of (form_line Typed (size_line Typed (n ∷ ns) rest)))
    (words_of rest) (n ∷ ns)
typed_opening n ns rest h =
    let end : List Token = mark_word (codes ".") ∷ words_of rest in
    seq _ _ end (n ∷ ns)
    (seq _ _ _ tt (take _ (lower_word (codes "typed")) _ refl)
    (seq _ _ _ tt (take format (number_word (codes "1")) _ refl)
    (seq _ _ _ tt (take stop (mark_word (codes ".")) _ refl)
    (seq _ _ _ tt (take _ (lower_word (codes "sizes")) _ refl)
    (seq _ _ _ n (take number (number_word (decimal n)) _ (number_says n h.0))
    (seq _ _ end ns (rows _ _ end ns (number_row ns (line_end ∷ rest) h.1))
    (give (n ∷ ns) end)))))))
    (seq _ _ (words_of rest) tt (take stop (mark_word (codes ".")) _ refl)
    (give (n ∷ ns) (words_of rest)))

pub untyped_opening : (n : ℕ) (rest : List Laid) → n < 2 ^ 32
    → Has (closed_opening Untyped) (words_of (form_line Untyped (size_line Untyped (n ∷ []) rest)))
    (words_of rest) (n ∷ [])
untyped_opening n rest h =
    let end : List Token = mark_word (codes ".") ∷ words_of rest in
    seq _ _ end (n ∷ [])
    (seq _ _ _ tt (take _ (lower_word (codes "untyped")) _ refl)
    (seq _ _ _ tt (take format (number_word (codes "1")) _ refl)
    (seq _ _ _ tt (take stop (mark_word (codes ".")) _ refl)
    (seq _ _ _ tt (take _ (lower_word (codes "size")) _ refl)
    (seq _ _ _ n (take number (number_word (decimal n)) _ (number_says n h))
    (seq _ _ end [] (give [] end) (give (n ∷ []) end)))))))
    (seq _ _ (words_of rest) tt (take stop (mark_word (codes ".")) _ refl)
    (give (n ∷ []) (words_of rest)))

-- the words of a line whose heading is for this constructor or symbol
written_item : (form : Form) (w : Want) (name : Token) (entries : List ℕ) (rest : List Laid)
    → item_kind form (lower_word (kind_word w.kind)) ≡ Some w.kind
    → item_name w.kind name ≡ Some w.name → AreNumbers entries
    → Has (item form)
    (words_of (item_line (record { kind = w.kind; name = name }) entries rest)) (words_of rest)
    (record { kind = w.kind; name = w.name; entries = entries })
written_item form w name entries rest says named small =
    let end : List Token = mark_word (codes ".") ∷ words_of rest in
    let behind : List Token = words_of (numbers entries (line_end ∷ rest)) in
    let named_on : List Token = mark_word (codes "=") ∷ behind in
    let it : Item = record { kind = w.kind; name = w.name; entries = entries } in
    seq _ _ named_on (w.kind, w.name)
    (seq _ _ (name ∷ named_on) w.kind (take _ (lower_word (kind_word w.kind)) _ says)
    (seq _ _ named_on w.name (take _ name named_on named) (give (w.kind, w.name) named_on)))
    (seq _ _ behind tt (take equals (mark_word (codes "=")) behind refl)
    (seq _ _ end entries (rows _ _ end entries (number_row entries (line_end ∷ rest) small))
    (seq _ _ (words_of rest) tt (take stop (mark_word (codes ".")) (words_of rest) refl)
    (give it (words_of rest)))))

headed : (form : Form) (head : Heading) (w : Want) (entries : List ℕ) (rest : List Laid)
    → IsHeading form head w → AreNumbers entries
    → Has (item form) (words_of (item_line head entries rest)) (words_of rest)
    (record { kind = w.kind; name = w.name; entries = entries })
headed form head w entries rest h small =
    subst (λ (k : Heading). Has (item form) (words_of (item_line k entries rest)) (words_of rest)
    (record { kind = w.kind; name = w.name; entries = entries }))
    (heading_is head w.kind h.kind)
    (written_item form w head.name entries rest h.kind_says h.name_says small)
  where
    heading_is : (head : Heading) (kind : Kind) → head.kind ≡ kind
        → record { kind = kind; name = head.name } ≡ head
    heading_is head kind e = ap (λ k. record { kind = k; name = head.name }) (sym e)

pub item_row : (form : Form) (heads : List Heading) (wants : List Want) (tables : List (List ℕ))
    (rest : List Laid) → AreHeadings form heads wants → AllByRecursion AreNumbers tables
    → Row (item form) (words_of (item_lines heads tables rest)) (words_of rest)
    (items_of wants tables)
item_row form [] [] tables rest h small = refl
item_row form [] (w ∷ wants) tables rest h small = absurd h
item_row form (head ∷ heads) [] tables rest h small = absurd h
item_row form (head ∷ heads) (w ∷ wants) [] rest h small = refl
item_row form (head ∷ heads) (w ∷ wants) (entries ∷ tables) rest h small = (
  words_of (item_lines heads tables rest),
  (headed form head w entries (item_lines heads tables rest) h.0 small.0).it,
  item_row form heads wants tables rest h.1 small.1,
)

pub rows_both : {A : Type 0} (p : Phrase A) (ws mid rest : List Token) (xs ys : List A)
    → Row p ws mid xs → Row p mid rest ys → Row p ws rest (xs ++ ys)
rows_both p ws mid rest [] ys h k = subst (λ z. Row p z rest ys) (sym h) k
rows_both p ws mid rest (x ∷ xs) ys (next, one, more) k =
    (next, one, rows_both p next mid rest xs ys more k)

-- ---- the whole

pub as_table : (form : Form) (ws mid : List Token) (sizes : List ℕ) (items : List Item)
    → Has (closed_opening form) ws mid sizes → Row (item form) mid [] items
    → (table form).derives ws [] (record { sizes = sizes; items = items })
as_table form ws mid sizes items h k =
    (seq _ _ mid sizes h
    (seq _ _ [] items (rows (item form) mid [] items k)
    (give (record { sizes = sizes; items = items }) []))).it
