-- Each word that is written for a structure is the longest at its place.
use Rattle.std.proofs.Common.{◌≡◌, ℕ, ◌<◌, inl, inr, Bool, true, false, List, [], ◌∷◌, ◌++◌, refl}
use Rattle.std.proofs.Common.{sym, ap, arith, if◌then◌else◌}
use Rattle.std.specs.Prelude.{◌^◌, codes}
use Rattle.std.specs.List.{AllByRecursion}
use Rattle.std.specs.Fmt.{decimal}
use Rattle.std.specs.Char.{is_ascii_lowercase}
use Rattle.std.proofs.lemmas.Bool.{and_parts}
use Rattle.enc_base.specs.Names.{IsWritable}
use Rattle.tptp_words.specs.declared.word.WordKind.TheVariants.{Lower, Dollar}
use Rattle.tptp_words.specs.Text.{Token, is_name, IsNameFrom, IsLongest, Spells}
use Rattle.tptp_words.proofs.Longest.{Begin, Done, Equals, Dead, run, step, Ends, longest}
use Rattle.tptp_words.proofs.Longest.{lower_run, quoted_run, dollar_run}
use Rattle.fof_text.specs.Written.{lower_word, mark_word, number_word, dollar_word, quoted_word}
use Rattle.fof_text.specs.Written.{is_lower, name_word}
use Rattle.fof_text.proofs.Spelled.{all_pass, done_ends, some_bytes-writable, passes-writable}
use Rattle.model_tables.specs.declared.form.Form.{Form}
use Rattle.model_tables.specs.declared.form.Form.TheVariants.{Typed, Untyped}
use Rattle.model_tables.specs.declared.form.Kind.{Kind}
use Rattle.model_tables.specs.declared.form.Kind.TheVariants as kind
use Rattle.model_tables.specs.Faults.{Want}
use Rattle.model_tables.specs.Written.{Laid, laid, line_end, numbers, form_line, size_line}
use Rattle.model_tables.specs.Written.{kind_word, Heading, item_line, item_lines}
use Rattle.model_tables.specs.WrittenLaws.{AreNumbers}
use Rattle.model_tables.proofs.Decimals.{decimal_digits}
use Rattle.model_tables.proofs.ReadBack.{Stand, Closes, at_space, at_stop, number_longest}
use Rattle.model_tables.proofs.Derived.{EndsAtSpace, AreHeadings}

-- ---- names and fixed words

lower_spelled : (n : List ℕ) → is_lower n ≡ true → IsNameFrom is_ascii_lowercase n
lower_spelled [] h = absurd (cc h)
lower_spelled (b ∷ bs) h = let hs = and_parts _ _ h in (hs.0, all_pass is_name bs hs.1)

lower_ends : (n : List ℕ) → is_lower n ≡ true → EndsAtSpace (lower_word n)
lower_ends n h = record {
  spelled = lower_spelled n h;
  ends = ap (λ q. step q 32) (lower_run n (lower_spelled n h));
}

pub name_ends : (n : List ℕ) → IsWritable n → EndsAtSpace (name_word n)
name_ends n h = go (is_lower n) refl
  where
    go : (v : Bool) → is_lower n ≡ v
        → EndsAtSpace (if v then lower_word n else quoted_word n)
    go true e = lower_ends n e
    go false e = record {
      spelled = (n, passes-writable n h, some_bytes-writable n h, refl);
      ends = ap (λ q. step q 32) (quoted_run n);
    }

pub individuals_end : EndsAtSpace (dollar_word (codes "$i"))
individuals_end = record {
  spelled = (codes "i", (refl, tt), refl);
  ends = refl;
}

kind_ends : (k : Kind) → EndsAtSpace (lower_word (kind_word k))
kind_ends kind.Constructor = lower_ends (codes "type") refl
kind_ends kind.Symbol = lower_ends (codes "symbol") refl
kind_ends kind.Function = lower_ends (codes "function") refl
kind_ends kind.Predicate = lower_ends (codes "predicate") refl

at_a_space : (w : Token) (rest : List ℕ) → EndsAtSpace w
    → IsLongest (w.spelling ++ 32 ∷ rest) w (32 ∷ rest)
at_a_space w rest h = longest w (32 ∷ rest) h.spelled h.ends

-- ---- lines

end_stands : (rest : List Laid) → Stand rest → Stand (line_end ∷ rest)
end_stands rest h = (
  tt,
  (refl, tt),
  longest (mark_word (codes ".")) (10 ∷ laid rest) (inr (inr (inr (inr (inr (inl refl)))))) refl,
  h,
)

closes : (ns : List ℕ) (rest : List Laid) → Closes (laid (numbers ns (line_end ∷ rest)))
closes [] rest = at_stop (laid rest)
closes (n ∷ ns) rest = at_space (decimal n ++ laid (numbers ns (line_end ∷ rest)))

numbers_stand : (ns : List ℕ) (rest : List Laid) → AreNumbers ns → Stand rest
    → Stand (numbers ns (line_end ∷ rest))
numbers_stand [] rest small h = end_stands rest h
numbers_stand (n ∷ ns) rest small h =
    let few = small.0 in (
      (refl, tt),
      tt,
      number_longest (decimal n) (laid (numbers ns (line_end ∷ rest)))
          (decimal_digits n (omega (arith, few))) (closes ns rest),
      numbers_stand ns rest small.1 h,
    )

sizes_stand : (word : List ℕ) → is_lower word ≡ true → (n : ℕ) (ns : List ℕ) (rest : List Laid)
    → AreNumbers (n ∷ ns) → Stand rest
    → Stand (record { before = []; token = lower_word word; after = [] }
    ∷ numbers (n ∷ ns) (line_end ∷ rest))
sizes_stand word lower n ns rest small h = (
  tt,
  tt,
  at_a_space (lower_word word) (decimal n ++ laid (numbers ns (line_end ∷ rest)))
      (lower_ends word lower),
  numbers_stand (n ∷ ns) rest small h,
)

one_stands : (rest : List Laid) → Stand rest
    → Stand (record { before = codes " "; token = number_word (codes "1"); after = [] }
    ∷ line_end ∷ rest)
one_stands rest h = (
  (refl, tt),
  tt,
  number_longest (codes "1") (laid (line_end ∷ rest)) ((refl, tt), refl) (at_stop (laid rest)),
  end_stands rest h,
)

pub opening_stands : (form : Form) (n : ℕ) (ns : List ℕ) (rest : List Laid) → AreNumbers (n ∷ ns)
    → Stand rest → Stand (form_line form (size_line form (n ∷ ns) rest))
opening_stands Typed n ns rest small h =
    let sizes = sizes_stand (codes "sizes") refl n ns rest small h in (
      tt,
      tt,
      at_a_space (lower_word (codes "typed")) _ (lower_ends (codes "typed") refl),
      one_stands (size_line Typed (n ∷ ns) rest) sizes,
    )
opening_stands Untyped n ns rest small h =
    let sizes = sizes_stand (codes "size") refl n ns rest small h in (
      tt,
      tt,
      at_a_space (lower_word (codes "untyped")) _ (lower_ends (codes "untyped") refl),
      one_stands (size_line Untyped (n ∷ ns) rest) sizes,
    )

equals_end : (ns : List ℕ) (rest : List Laid) → Ends Equals (laid (numbers ns (line_end ∷ rest)))
equals_end [] rest = refl
equals_end (n ∷ ns) rest = refl

line_stands : (head : Heading) (entries : List ℕ) (rest : List Laid) → EndsAtSpace head.name
    → AreNumbers entries → Stand rest → Stand (item_line head entries rest)
line_stands head entries rest name small h =
    let behind : List ℕ = laid (numbers entries (line_end ∷ rest)) in (
      tt,
      tt,
      at_a_space (lower_word (kind_word head.kind))
          (head.name.spelling ++ (32 ∷ 61 ∷ behind)) (kind_ends head.kind),
      (
        (refl, tt),
        tt,
        at_a_space head.name (61 ∷ behind) name,
        (
          (refl, tt),
          tt,
          longest (mark_word (codes "=")) behind
              (inr (inr (inr (inr (inr (inr (inr (inl refl)))))))) (equals_end entries rest),
          numbers_stand entries rest small h,
        ),
      ),
    )

pub lines_stand : (form : Form) (heads : List Heading) (wants : List Want)
    (tables : List (List ℕ)) (rest : List Laid) → AreHeadings form heads wants
    → AllByRecursion AreNumbers tables → Stand rest → Stand (item_lines heads tables rest)
lines_stand form [] [] tables rest h small k = k
lines_stand form [] (w ∷ wants) tables rest h small k = absurd h
lines_stand form (head ∷ heads) [] tables rest h small k = absurd h
lines_stand form (head ∷ heads) (w ∷ wants) [] rest h small k = k
lines_stand form (head ∷ heads) (w ∷ wants) (entries ∷ tables) rest h small k =
    line_stands head entries (item_lines heads tables rest) h.0.name_ends small.0
    (lines_stand form heads wants tables rest h.1 small.1 k)
