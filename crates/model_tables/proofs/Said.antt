-- What is said in a state of the reading: that the words so far derive the parts of a table that are
-- read, and so begin a table.
use Rattle.std.proofs.Common.{◌≡◌, ℕ, List, [], ◌∷◌, ◌++◌, ◌⊎◌, Option, Some, None, refl, sym, ap, ◌∙◌}
use Rattle.std.proofs.Common.{subst, inl, inr}
use Rattle.std.specs.Option.{option_map}
use Rattle.tptp_words.specs.Text.{Token}
use Rattle.tptp_words.specs.Words.{keyword}
use Rattle.tptp_phrases.specs.Phrase.{Phrase, Row, empty, word, many, ◌>>=◌}
use Rattle.model_tables.specs.declared.form.Form.{Form}
use Rattle.model_tables.specs.declared.form.Form.TheVariants.{Typed, Untyped}
use Rattle.model_tables.specs.declared.form.Kind.{Kind}
use Rattle.model_tables.specs.Grammar.{Item, Table, form_word, size_word, format, stop, equals, number}
use Rattle.model_tables.specs.Grammar.{item_kind, item_name, more_sizes, opening, closed_opening}
use Rattle.model_tables.specs.Grammar.{heading, item, table}
use Rattle.model_tables.specs.Places.{Place, AtSize, AtSizesEnd, AtName, AtItemEnd, Reaches}
use Rattle.model_tables.specs.Steps.{State, Start, AtFormat, AtStop, AtSizeWord, AtFirstSize, Stands}
use Rattle.model_tables.specs.Steps.{HasKind, Filling, step, first_some, more_size, with_item}
use Rattle.model_tables.specs.Steps.{with_no_items, run, bind}

-- one word for which f gives the value
abbrev pub One : {A : Type 0} → (Token → Option A) → List Token → List Token → A → Type 0
One f ws rest a = (w : Token) × (ws ≡ w ∷ rest) × (f w ≡ Some a)

-- the words from ws up to rest say this
abbrev pub Said : Form → List Token → List Token → State → Type 0
Said form ws rest Start = ws ≡ rest
Said form ws rest AtFormat = One (keyword (form_word form)) ws rest tt
Said form ws rest AtStop =
    (mid : List Token) × One (keyword (form_word form)) ws mid tt × One format mid rest tt
Said form ws rest AtSizeWord =
    (mid next : List Token) × One (keyword (form_word form)) ws mid tt × One format mid next tt
    × One stop next rest tt
Said form ws rest AtFirstSize =
    (mid next third : List Token) × One (keyword (form_word form)) ws mid tt × One format mid next tt
    × One stop next third tt × One (keyword (size_word form)) third rest tt
Said form ws rest (Stands place) = Reaches form ws rest place
Said form ws rest (HasKind before kind) =
    (mid : List Token) × (table form).derives ws mid before × One (item_kind form) mid rest kind
Said form ws rest (Filling before kind name entries) =
    (mid next third : List Token) × (table form).derives ws mid before
    × (heading form).derives mid next (kind, name) × One equals next third tt
    × Row (word number) third rest entries

-- what an option's image comes from
pub mapped : {A B : Type 0} (f : A → B) (o : Option A) (b : B) → option_map f o ≡ Some b
    → (a : A) × (o ≡ Some a) × (f a ≡ b)
mapped f None b is = cc
mapped f (Some a) b is = (a, refl, cc)

-- one more item of a row
pub row_more : {A : Type 0} (p : Phrase A) (ws mid rest : List Token) (xs : List A) (a : A)
    → Row p ws mid xs → p.derives mid rest a → Row p ws rest (xs ++ a ∷ [])
row_more p ws mid rest [] a is d = (rest, subst (λ z. p.derives z rest a) (sym is) d, refl)
row_more p ws mid rest (x ∷ xs) a (next, first, others) d =
    (next, first, row_more p next mid rest xs a others d)

-- one more number of a row
number_more : (ws mid rest : List Token) (xs : List ℕ) (n : ℕ) → Row (word number) ws mid xs
    → One number mid rest n → Row (word number) ws rest (xs ++ n ∷ [])
unfolding word
number_more ws mid rest xs n row one = row_more (word number) ws mid rest xs n row one

module _ (form : Form) where
  -- the parts of a table
  pub table_parts : (ws rest : List Token) (t : Table) → (table form).derives ws rest t
      → (mid : List Token) × (closed_opening form).derives ws mid t.sizes
      × Row (item form) mid rest t.items
  unfolding ◌>>=◌ empty many
  table_parts ws rest t (mid, sizes, first, (next, items, row, (same, is))) = (
    mid,
    subst (λ (z : Table). (closed_opening form).derives ws mid z.sizes) (sym is) first,
    subst (λ (z : Table). Row (item form) mid rest z.items) (sym is)
        (subst (λ z. Row (item form) mid z items) same row),
  )

  table_whole : (ws mid rest : List Token) (t : Table) → (closed_opening form).derives ws mid t.sizes
      → Row (item form) mid rest t.items → (table form).derives ws rest t
  unfolding ◌>>=◌ empty many
  table_whole ws mid rest t first row = (mid, t.sizes, first, (rest, t.items, row, (refl, refl)))

  -- a table without items
  pub no_items : (ws rest : List Token) (sizes : List ℕ) → (closed_opening form).derives ws rest sizes
      → (table form).derives ws rest (with_no_items sizes)
  no_items ws rest sizes d = table_whole ws rest rest (with_no_items sizes) d refl

  -- a table with one item more
  pub one_item : (ws mid rest : List Token) (before : Table) (it : Item)
      → (table form).derives ws mid before → (item form).derives mid rest it
      → (table form).derives ws rest (with_item before it)
  one_item ws mid rest before it first second =
      let parts = table_parts ws mid before first in
      table_whole ws parts.0 rest (with_item before it) parts.1
      (row_more (item form) parts.0 mid rest before.items it parts.2 second)

  closed : (ws mid rest : List Token) (sizes : List ℕ) → (opening form).derives ws mid sizes
      → One stop mid rest tt → (closed_opening form).derives ws rest sizes
  unfolding ◌>>=◌ empty word
  closed ws mid rest sizes first second = (mid, sizes, first, (rest, tt, second, (refl, refl)))

  named : (mid next rest : List Token) (kind : Kind) (name : List ℕ)
      → One (item_kind form) mid next kind → One (item_name kind) next rest name
      → (heading form).derives mid rest (kind, name)
  unfolding ◌>>=◌ empty word
  named mid next rest kind name first second =
      (next, kind, first, (rest, name, second, (refl, refl)))

  filled : (mid next third fourth rest : List Token) (kind : Kind) (name entries : List ℕ)
      → (heading form).derives mid next (kind, name) → One equals next third tt
      → Row (word number) third fourth entries → One stop fourth rest tt
      → (item form).derives mid rest (record { kind = kind; name = name; entries = entries })
  unfolding ◌>>=◌ empty word many
  filled mid next third fourth rest kind name entries first second row last = (
    next,
    (kind, name),
    first,
    (
      third,
      tt,
      second,
      (
        fourth,
        entries,
        row,
        (rest, tt, last, (refl, refl)),
      ),
    ),
  )

  one_size : (ws mid next third fourth rest : List Token) (n : ℕ)
      → One (keyword (form_word form)) ws mid tt → One format mid next tt → One stop next third tt
      → One (keyword (size_word form)) third fourth tt → One number fourth rest n
      → (more_sizes form).derives rest rest [] → (opening form).derives ws rest (n ∷ [])
  unfolding ◌>>=◌ empty word
  one_size ws mid next third fourth rest n a b c d e f = (
    mid,
    tt,
    a,
    (
      next,
      tt,
      b,
      (
        third,
        tt,
        c,
        (
          fourth,
          tt,
          d,
          (
            rest,
            n,
            e,
            (rest, [], f, (refl, refl)),
          ),
        ),
      ),
    ),
  )

no_more_sizes : (form : Form) (rest : List Token) → (more_sizes form).derives rest rest []
unfolding empty many
no_more_sizes Typed rest = refl
no_more_sizes Untyped rest = (refl, refl)

-- one more size of a typed table
next_size : (ws mid rest : List Token) (sizes : List ℕ) (n : ℕ)
    → (opening Typed).derives ws mid sizes → One number mid rest n
    → (opening Typed).derives ws rest (sizes ++ n ∷ [])
unfolding ◌>>=◌ empty word many
next_size ws mid rest sizes n
    (m1, a, d1, (m2, b, d2, (m3, c, d3, (m4, d, d4, (m5, m, d5, (m6, more, row, (same, is))))))) last = (
      m1,
      a,
      d1,
      (
        m2,
        b,
        d2,
        (
          m3,
          c,
          d3,
          (
            m4,
            d,
            d4,
            (
              m5,
              m,
              d5,
              (
                rest,
                more ++ n ∷ [],
                row_more (word number) m5 mid rest more n (subst (λ z. Row (word number) m5 z more) same row) last,
                (refl, ap (λ z. z ++ n ∷ []) is),
              ),
            ),
          ),
        ),
      ),
    )

module _ (form : Form) (ws : List Token) (w : Token) (rest : List Token) where
  -- the next word is one for which f gives the value
  here : {A : Type 0} (f : Token → Option A) (a : A) → f w ≡ Some a → One f (w ∷ rest) rest a
  here f a is = (w, refl, is)

  -- what is said with the next word
  pub more_said : (s t : State) → Said form ws (w ∷ rest) s → step form s w ≡ Some t
      → Said form ws rest t
  more_said Start t said is =
      let o = mapped (λ _. AtFormat) (keyword (form_word form) w) t is in
      subst (λ z. Said form ws rest z) o.2 (w, said, o.1)
  more_said AtFormat t said is =
      let o = mapped (λ _. AtStop) (format w) t is in
      subst (λ z. Said form ws rest z) o.2 (w ∷ rest, said, here format tt o.1)
  more_said AtStop t (mid, a, b) is =
      let o = mapped (λ _. AtSizeWord) (stop w) t is in
      subst (λ z. Said form ws rest z) o.2 (mid, w ∷ rest, a, b, here stop tt o.1)
  more_said AtSizeWord t (mid, next, a, b, c) is =
      let o = mapped (λ _. AtFirstSize) (keyword (size_word form) w) t is in
      subst (λ z. Said form ws rest z) o.2
      (mid, next, w ∷ rest, a, b, c, here (keyword (size_word form)) tt o.1)
  more_said AtFirstSize t (mid, next, third, a, b, c, d) is =
      let o = mapped (λ n. Stands (AtSize (n ∷ []))) (number w) t is in
      subst (λ z. Said form ws rest z) o.2
      (one_size form ws mid next third (w ∷ rest) rest o.0 a b c d (here number o.0 o.1)
      (no_more_sizes form rest))
  more_said (Stands (AtSize sizes)) t said is = by (stop w) refl is
    where
      more : (f : Form) → (opening f).derives ws (w ∷ rest) sizes → more_size f sizes w ≡ Some t
          → Said f ws rest t
      more Typed d same =
          let o = mapped (λ n. Stands (AtSize (sizes ++ n ∷ []))) (number w) t same in
          subst (λ z. Said Typed ws rest z) o.2
          (next_size ws (w ∷ rest) rest sizes o.0 d (here number o.0 o.1))
      more Untyped d same = cc

      by : (o : Option (Unit {0})) → stop w ≡ o
          → first_some (option_map (λ _. Stands (AtSizesEnd sizes)) o) (more_size form sizes w)
          ≡ Some t → Said form ws rest t
      by None stops same = more form said same
      by (Some u) stops same =
          let at : Stands (AtSizesEnd sizes) ≡ t = cc in
          subst (λ z. Said form ws rest z) at
          (closed form ws (w ∷ rest) rest sizes said (here stop tt stops))
  more_said (Stands (AtSizesEnd sizes)) t said is =
      let o = mapped (λ k. HasKind (with_no_items sizes) k) (item_kind form w) t is in
      subst (λ z. Said form ws rest z) o.2
      (w ∷ rest, no_items form ws (w ∷ rest) sizes said, here (item_kind form) o.0 o.1)
  more_said (Stands (AtItemEnd before it)) t (mid, first, second) is =
      let o = mapped (λ k. HasKind (with_item before it) k) (item_kind form w) t is in
      subst (λ z. Said form ws rest z) o.2 (
        w ∷ rest,
        one_item form ws mid (w ∷ rest) before it first second,
        here (item_kind form) o.0 o.1,
      )
  more_said (Stands (AtName before kind name)) t (mid, first, second) is =
      let o = mapped (λ _. Filling before kind name []) (equals w) t is in
      subst (λ z. Said form ws rest z) o.2
      (mid, w ∷ rest, rest, first, second, here equals tt o.1, refl)
  more_said (HasKind before kind) t (mid, first, second) is =
      let o = mapped (λ name. Stands (AtName before kind name)) (item_name kind w) t is in
      subst (λ z. Said form ws rest z) o.2
      (mid, first, named form mid (w ∷ rest) rest kind o.0 second (here (item_name kind) o.0 o.1))
  more_said (Filling before kind name entries) t (mid, next, third, first, second, eq, row) is =
      by (stop w) refl is
    where
      by : (o : Option (Unit {0})) → stop w ≡ o
          → first_some (option_map (λ _. Stands (AtItemEnd before
          (record { kind = kind; name = name; entries = entries }))) o)
          (option_map (λ n. Filling before kind name (entries ++ n ∷ [])) (number w))
          ≡ Some t → Said form ws rest t
      by None stops same =
          let o = mapped (λ n. Filling before kind name (entries ++ n ∷ [])) (number w) t same in
          subst (λ z. Said form ws rest z) o.2 (
            mid,
            next,
            third,
            first,
            second,
            eq,
            number_more third (w ∷ rest) rest entries o.0 row (here number o.0 o.1),
          )
      by (Some u) stops same =
          let at : Stands (AtItemEnd before
          (record { kind = kind; name = name; entries = entries })) ≡ t = cc in
          subst (λ z. Said form ws rest z) at (
            mid,
            first,
            filled form mid next third (w ∷ rest) rest kind name entries second eq row
                (here stop tt stops),
          )

-- words that say something begin a table
pub said_begins : (form : Form) (ws rest : List Token) (s : State) → Said form ws rest s
    → (table form).begins ws rest
unfolding ◌>>=◌ empty word many
said_begins form ws rest Start said = inl (inl (inl (inl said)))
said_begins form ws rest AtFormat said = inl (inl (inl (inr (said.0, tt, said.1, said.2))))
said_begins form ws rest AtStop (mid, a, b) =
    inl (inl (inr (mid, tt, a, inl (inr (b.0, tt, b.1, b.2)))))
said_begins form ws rest AtSizeWord (mid, next, a, b, c) =
    inl (inl (inr (mid, tt, a, inr (next, tt, b, inl (inr (c.0, tt, c.1, c.2))))))
said_begins form ws rest AtFirstSize (mid, next, third, a, b, c, d) =
    inl (inl (inr (
      mid,
      tt,
      a,
      inr (
        next,
        tt,
        b,
        inr (
          third,
          tt,
          c,
          inl (inr (d.0, tt, d.1, d.2)),
        ),
      ),
    )))
said_begins form ws rest (Stands (AtSize sizes)) said =
    inl (inr (rest, sizes, said, inl (inl refl)))
said_begins form ws rest (Stands (AtSizesEnd sizes)) said =
    inr (rest, sizes, said, inl (inl refl))
said_begins form ws rest (HasKind before kind) (mid, first, second) =
    let parts = table_parts form ws mid before first in
    inr (
      parts.0,
      before.sizes,
      parts.1,
      inl (inr (
        mid,
        before.items,
        parts.2,
        inl (inl (inr (second.0, kind, second.1, second.2))),
      )),
    )
said_begins form ws rest (Stands (AtName before kind name)) (mid, first, second) =
    let parts = table_parts form ws mid before first in
    inr (
      parts.0,
      before.sizes,
      parts.1,
      inl (inr (
        mid,
        before.items,
        parts.2,
        inr (rest, (kind, name), second, inl (inl refl)),
      )),
    )
said_begins form ws rest (Filling before kind name entries)
    (mid, next, third, first, second, eq, row) =
    let parts = table_parts form ws mid before first in
    inr (
      parts.0,
      before.sizes,
      parts.1,
      inl (inr (
        mid,
        before.items,
        parts.2,
        inr (
          next,
          (kind, name),
          second,
          inr (
            third,
            tt,
            eq,
            inl (inr (rest, entries, row, inl refl)),
          ),
        ),
      )),
    )
said_begins form ws rest (Stands (AtItemEnd before it)) (mid, first, second) =
    let parts = table_parts form ws mid before first in
    inr (
      parts.0,
      before.sizes,
      parts.1,
      inl (inr (
        rest,
        before.items ++ it ∷ [],
        row_more (item form) parts.0 mid rest before.items it parts.2 second,
        inl (inl (inl refl)),
      )),
    )
