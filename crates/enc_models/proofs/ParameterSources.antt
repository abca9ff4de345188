-- The sources of a symbol's parameters, listed one after another, and the members that they tell.
use Rattle.std.specs.Prelude.{ℕ, zero, suc, ◌+◌, ◌<◌, ◌≤◌, ◌≡◌, ◌||◌, Bool, true, false, List, [], ◌∷◌, map, length, replicate, cond, take, get_or, count_by, set, Option, Some, IsTrue}
use Rattle.std.specs.List.{list_any}
use Rattle.std.proofs.Common.{refl, sym, ap, subst, ◌∙◌, arith, ⊎_elim}
use Rattle.std.proofs.lemmas.Bool.{false≢true, cases_eq, eq-eqb, ne_eqb}
use Rattle.std.proofs.lemmas.List.{get_or-set_same, get_or-set_other, length-replicate}
use Rattle.std.proofs.lemmas.List.Sums.{sum_by-cons, sum_by-take-le, count_by_more_yes}
use Rattle.enc_base.specs.Tables.{EachBelow}
use Rattle.tf_core.specs.declared.signature.Symbol.{Symbol}
use Rattle.tf_core.specs.declared.signature.Signature.{Signature}
use Rattle.tf_core.specs.declared.normal.Normal.{Normal}
use Rattle.tf_core.specs.Structures.{Typed}
use Rattle.tf_naked.specs.Covers.{is_parameter, argument_parameters}
use Rattle.enc_marks.specs.declared.choices.TypeArguments.{TypeArguments}
use Rattle.enc_marks.specs.declared.choices.TypeArguments.TheVariants as kept
use Rattle.enc_marks.specs.declared.choices.Domain.TheVariants.{Merged}
use Rattle.enc_marks.specs.declared.scheme.Scheme.{Scheme}
use Rattle.enc_marks.specs.Choices.{Choices, kept_types}
use Rattle.enc_marks.specs.Schemes.{choices_of}
use Rattle.enc_marks.specs.Translation.{selected}
use Rattle.tf_stamp.specs.Merged.{member_in}
use Rattle.enc_laws.specs.MergedStructure.{value_at_cover, members_read}
use Rattle.enc_laws.proofs.CoversRead as covers
use Rattle.enc_laws.proofs.CoversRead.{AreCovered, no_parameters, AreCovered-all}
use Rattle.enc_laws.proofs.ByType.{guards_cover_by_type, merges_by_type}
use Rattle.enc_models.specs.Calls.Sources.{AreKeptTypes, cover_from, sources_from, numbers_at}

-- which type arguments are kept

some_signature : Signature
some_signature = record { constructors = []; symbols = [] }

some_structure : Typed
some_structure = record {
  sizes = [];
  constructor_at = λ c members. 0;
  symbol_at = λ f members elements. 0;
}

kept_covered : (which : TypeArguments) (symbol : Symbol) →
    AreCovered (argument_parameters symbol) (kept_types which symbol) 0
kept_covered kept.All symbol =
    AreCovered-all symbol.parameters 0 (argument_parameters symbol)
kept_covered kept.Uncovered symbol =
    (guards_cover_by_type some_signature some_structure).covered symbol
kept_covered kept.Nothing symbol = no_parameters 0

kept_few : (which : TypeArguments) (symbol : Symbol) →
    length (kept_types which symbol) ≤ symbol.parameters
kept_few kept.All symbol = omega (arith, length-replicate symbol.parameters true)
kept_few kept.Uncovered symbol =
    let all = (guards_cover_by_type some_signature some_structure).keeps symbol in
    omega (arith, all)
kept_few kept.Nothing symbol = omega arith

-- each parameter that isn't kept has a cover
pub all_covered : (c : Choices) → AreKeptTypes c → (symbol : Symbol) →
    AreCovered (argument_parameters symbol) (c.keeps symbol) 0
all_covered c are symbol =
    subst (λ keeps. AreCovered (argument_parameters symbol) keeps 0) (sym (are.1 symbol))
    (kept_covered are.0 symbol)

-- of no more type arguments than there are is it said whether they are kept
pub few_kept : (c : Choices) → AreKeptTypes c → (symbol : Symbol) →
    length (c.keeps symbol) ≤ symbol.parameters
few_kept c are symbol =
    subst (λ keeps. length keeps ≤ symbol.parameters) (sym (are.1 symbol)) (kept_few are.0 symbol)

-- schemes that lower to the merged domain say of each whether it is kept
pub each_kept : (which : Scheme) (normal : Normal) → (choices_of which normal).domain ≡ Merged →
    (symbol : Symbol) → length ((choices_of which normal).keeps symbol) ≡ symbol.parameters
each_kept which normal merged = (merges_by_type which normal some_structure merged).keeps

pub map-same : {A B : Type 0} (f g : A → B) (items : List A) → ((item : A) → f item ≡ g item) →
    map f items ≡ map g items
map-same f g [] same = refl
map-same f g (item ∷ items) same =
    ap (λ first. first ∷ map f items) (same item)
    ∙ ap (λ others. g item ∷ others) (map-same f g items same)

-- covers, noted from the last argument to the first

pub cover_set : (covers : List ℕ) (i place p : ℕ) → i < length covers →
    get_or (set covers i place) p 0 ≡ cond (is_parameter p (Some i)) place (get_or covers p 0)
cover_set covers i place p within =
    ⊎_elim
    (λ same.
    ap (λ n. get_or (set covers i place) n 0) same
    ∙ get_or-set_same covers i place 0 within
    ∙ sym (ap (λ b. cond b place (get_or covers p 0)) (eq-eqb p i same)))
    (λ differs.
    get_or-set_other covers i p place 0 differs
    ∙ sym (ap (λ b. cond b place (get_or covers p 0)) (ne_eqb p i differs)))
    (cases_eq p i)

pub cover_past : (covers : List ℕ) (i place p : ℕ) → length covers ≤ i → p < length covers →
    get_or covers p 0 ≡ cond (is_parameter p (Some i)) place (get_or covers p 0)
cover_past covers i place p past within =
    sym (ap (λ b. cond b place (get_or covers p 0))
    (ne_eqb p i (λ same. absurd (omega (arith, same, past, within)))))

-- what the sources tell

pub length-sources_from : (p next first : ℕ) (places : List (Option ℕ)) (keeps : List Bool) →
    length (sources_from p next first places keeps) ≡ length keeps
length-sources_from p next first places [] = refl
length-sources_from p next first places (true ∷ keeps) =
    ap suc (length-sources_from (p + 1) (next + 1) first places keeps)
length-sources_from p next first places (false ∷ keeps) =
    ap suc (length-sources_from (p + 1) next first places keeps)

-- an argument at a cover
pub record IsCover (p at : ℕ) (places : List (Option ℕ)) (values : List ℕ) (k : ℕ) : Type 0 where
  pub within : k < length places
  pub at_is : cover_from p at places ≡ at + k
  pub value_is : get_or values k 0 ≡ value_at_cover p places values

cover_found : (p at : ℕ) (places : List (Option ℕ)) (values : List ℕ) →
    length places ≤ length values → IsTrue (list_any (is_parameter p) places) →
    (k : ℕ) × IsCover p at places values k
cover_found p at [] values long found = absurd (false≢true found)
cover_found p at (place ∷ places) [] long found = absurd (omega (arith, long))
cover_found p at (place ∷ places) (v ∷ values) long found =
    by (is_parameter p place) refl found
    (λ others. cover_found p (at + 1) places values (omega (arith, long)) others)
  where
    by : (b : Bool) → is_parameter p place ≡ b →
        IsTrue (b || list_any (is_parameter p) places) →
        (IsTrue (list_any (is_parameter p) places) →
        (k : ℕ) × IsCover p (at + 1) places values k) →
        (k : ℕ) × IsCover p at (place ∷ places) (v ∷ values) k
    by true is some rest = (
      0,
      record {
        within = omega arith;
        at_is =
            let here : at ≡ at + 0 = omega arith in
            ap (λ b. cond b at (cover_from p (at + 1) places)) is ∙ here;
        value_is = sym (ap (λ b. cond b v (value_at_cover p places values)) is);
      },
    )
    by false is some rest =
        let behind = rest some in (
          suc behind.0,
          record {
            within = omega (arith, behind.1.within);
            at_is =
                let e : at + 1 + behind.0 ≡ at + suc behind.0 = omega arith in
                ap (λ b. cond b at (cover_from p (at + 1) places)) is ∙ behind.1.at_is ∙ e;
            value_is =
                behind.1.value_is
                ∙ sym (ap (λ b. cond b v (value_at_cover p places values)) is);
          },
        )

pub count_kept : (keeps : List Bool) →
    count_by (λ keep. keep) (true ∷ keeps) ≡ suc (count_by (λ keep. keep) keeps)
count_kept keeps =
    let one : 1 + count_by (λ keep. keep) keeps ≡ suc (count_by (λ keep. keep) keeps) =
    omega arith in
    sum_by-cons (λ (keep : Bool). cond keep 1 0) true keeps ∙ one

pub count_dropped : (keeps : List Bool) →
    count_by (λ keep. keep) (false ∷ keeps) ≡ count_by (λ keep. keep) keeps
count_dropped keeps =
    let none : 0 + count_by (λ keep. keep) keeps ≡ count_by (λ keep. keep) keeps = omega arith in
    sum_by-cons (λ (keep : Bool). cond keep 1 0) false keeps ∙ none

-- numbers for the type arguments that are kept, and behind them those for the arguments
module _ (sizes own values : List ℕ) (first : ℕ) (places : List (Option ℕ))
    (long : length places ≤ length own)
    (behind : (k : ℕ) → get_or values (first + k) 0 ≡ get_or own k 0)
  where
    pub sources_from-read : (p next : ℕ) (keeps : List Bool) (rest : List ℕ) →
        AreCovered places keeps p → count_by (λ keep. keep) keeps ≡ length rest →
        ((i : ℕ) → i < length rest → get_or values (next + i) 0 ≡ get_or rest i 0) →
        map (member_in sizes) (numbers_at values (sources_from p next first places keeps))
        ≡ members_read sizes keeps p places rest own
    sources_from-read p next keeps rest (covers.no_parameters _) all ahead = refl
    sources_from-read p next keeps [] (covers.kept others _ covered) all ahead =
        absurd (omega (arith, all, count_kept others))
    sources_from-read p next keeps (u ∷ rest) (covers.kept others _ covered) all ahead =
        let here : next + 0 ≡ next = omega arith in
        ap
        (λ v. member_in sizes v
        ∷ map (member_in sizes)
        (numbers_at values (sources_from (p + 1) (next + 1) first places others)))
        (ap (λ n. get_or values n 0) (sym here) ∙ ahead 0 (omega arith))
        ∙ ap (λ ms. member_in sizes u ∷ ms)
        (sources_from-read (p + 1) (next + 1) others rest covered
        (omega (arith, all, count_kept others))
        (λ i within.
        let e : next + 1 + i ≡ next + suc i = omega arith in
        ap (λ n. get_or values n 0) e ∙ ahead (suc i) (omega (arith, within))))
    sources_from-read p next keeps rest (covers.dropped others _ some covered) all ahead =
        let cover = cover_found p first places own long some in
        ap
        (λ v. member_in sizes v
        ∷ map (member_in sizes)
        (numbers_at values (sources_from (p + 1) next first places others)))
        (ap (λ n. get_or values n 0) cover.1.at_is
        ∙ behind cover.0
        ∙ cover.1.value_is)
        ∙ ap (λ ms. member_in sizes (value_at_cover p places own) ∷ ms)
        (sources_from-read (p + 1) next others rest covered
        (omega (arith, all, count_dropped others)) ahead)

    pub sources_from-below : (count p next : ℕ) (keeps : List Bool) → AreCovered places keeps p →
        next + count_by (λ keep. keep) keeps ≤ first → first + length own ≤ count →
        EachBelow (replicate (length keeps) count) (sources_from p next first places keeps)
    sources_from-below count p next keeps (covers.no_parameters _) few inside = tt
    sources_from-below count p next keeps (covers.kept others _ covered) few inside = (
      omega (arith, few, inside, count_kept others),
      sources_from-below count (p + 1) (next + 1) others covered
          (omega (arith, few, count_kept others)) inside,
    )
    sources_from-below count p next keeps (covers.dropped others _ some covered) few inside =
        let cover = cover_found p first places own long some in (
          omega (arith, cover.1.at_is, cover.1.within, long, inside),
          sources_from-below count (p + 1) next others covered
              (omega (arith, few, count_dropped others)) inside,
        )

-- the items that are kept

pub selected_below : (bound : ℕ) (keeps : List Bool) (items : List ℕ) →
    EachBelow (replicate (length items) bound) items →
    EachBelow (replicate (length (selected keeps items)) bound) (selected keeps items)
selected_below bound [] items below = tt
selected_below bound (true ∷ keeps) [] below = tt
selected_below bound (false ∷ keeps) [] below = tt
selected_below bound (true ∷ keeps) (item ∷ items) below =
    (below.0, selected_below bound keeps items below.1)
selected_below bound (false ∷ keeps) (item ∷ items) below =
    selected_below bound keeps items below.1

-- one that is kept stands behind as many as are kept before it
pub get_or-selected : (keeps : List Bool) (items : List ℕ) (i : ℕ) → i < length items →
    get_or keeps i false ≡ true →
    get_or (selected keeps items) (count_by (λ keep. keep) (take i keeps)) 0 ≡ get_or items i 0
get_or-selected [] items i within kept = absurd (false≢true kept)
get_or-selected (keep ∷ keeps) [] i within kept = absurd (omega (arith, within))
get_or-selected (true ∷ keeps) (item ∷ items) zero within kept = refl
get_or-selected (false ∷ keeps) (item ∷ items) zero within kept = absurd (false≢true kept)
get_or-selected (true ∷ keeps) (item ∷ items) (suc i) within kept =
    ap (λ n. get_or (item ∷ selected keeps items) n 0) (count_kept (take i keeps))
    ∙ get_or-selected keeps items i (omega (arith, within)) kept
get_or-selected (false ∷ keeps) (item ∷ items) (suc i) within kept =
    ap (λ n. get_or (selected keeps items) n 0) (count_dropped (take i keeps))
    ∙ get_or-selected keeps items i (omega (arith, within)) kept

-- fewer of the first are kept than of all
pub count_before : (keeps : List Bool) (i : ℕ) → i < length keeps → get_or keeps i false ≡ true →
    count_by (λ keep. keep) (take i keeps) < count_by (λ keep. keep) keeps
count_before keeps i within kept =
    let most : count_by (λ keep. keep) (take (i + 1) keeps) ≤ count_by (λ keep. keep) keeps =
    sum_by-take-le (λ (keep : Bool). cond keep 1 0) keeps (i + 1) in
    omega (arith, most, count_by_more_yes (λ (keep : Bool). keep) keeps i false within kept)
