-- The names that are visited in terms and formulas stand in them: where all names in these can be
-- written, the visited ones can.
use Rattle.std.specs.Prelude.{ℕ, zero, suc, ◌+◌, Bool, true, false, not, cond}
use Rattle.std.specs.Prelude.{List, [], ◌∷◌, ◌++◌, map, drop, filter, flat_map}
use Rattle.std.specs.Prelude.{bytes_eq}
use Rattle.std.specs.List.{AllByRecursion}
use Rattle.std.proofs.Common.{sym, subst}
use Rattle.tptp_syntax.specs.declared.types.Bound.{Bound}
use Rattle.tptp_syntax.specs.declared.term.RawTerm.{RawTerm, roll-RawTerm}
use Rattle.tptp_syntax.specs.declared.term.RawTerm.TheOpen.{RawTerm-F}
use Rattle.tptp_syntax.specs.declared.term.RawTerm.TheOpen as term
use Rattle.tptp_syntax.specs.declared.term.RawTerm.TheFolds.{ind-RawTerm, map-RawTerm}
use Rattle.tptp_syntax.specs.declared.term.RawTerm.TheFolds.{fold-roll-RawTerm}
use Rattle.tptp_syntax.specs.declared.formula.RawFormula.{RawFormula, roll-RawFormula}
use Rattle.tptp_syntax.specs.declared.formula.RawFormula.TheOpen.{RawFormula-F}
use Rattle.tptp_syntax.specs.declared.formula.RawFormula.TheOpen as formula
use Rattle.tptp_syntax.specs.declared.formula.RawFormula.TheFolds.{ind-RawFormula, map-RawFormula}
use Rattle.tptp_syntax.specs.declared.formula.RawFormula.TheFolds.{fold-roll-RawFormula}
use Rattle.enc_base.specs.Names.{IsWritable}
use Rattle.tptp_syntax.specs.FileNames.{Bytes, all_names, term_names, term_names_at, bound_names}
use Rattle.tptp_syntax.specs.FileNames.{formula_names, formula_names_at}
use Rattle.tf_core.specs.declared.signature.Symbol.{Symbol}
use Rattle.tf_check.specs.Names.{Occurrence, names_of_term, names_of_term_at, names_of_formula}
use Rattle.tf_check.specs.Names.{names_of_formula_at}
use Rattle.tf_check.specs.Signature.{first_of_each}

-- ---- what holds of each item of a list

module _ {A : Type 0} (P : A → Type 0) where
  pub all-append : (xs ys : List A) → AllByRecursion P xs → AllByRecursion P ys
      → AllByRecursion P (xs ++ ys)
  all-append [] ys front back = back
  all-append (x ∷ xs) ys front back = (front.0, all-append xs ys front.1 back)

  all-front : (xs ys : List A) → AllByRecursion P (xs ++ ys) → AllByRecursion P xs
  all-front [] ys all = tt
  all-front (x ∷ xs) ys all = (all.0, all-front xs ys all.1)

  all-back : (xs ys : List A) → AllByRecursion P (xs ++ ys) → AllByRecursion P ys
  all-back [] ys all = all
  all-back (x ∷ xs) ys all = all-back xs ys all.1

  all-drop : (n : ℕ) (xs : List A) → AllByRecursion P xs → AllByRecursion P (drop n xs)
  all-drop zero xs all = all
  all-drop (suc n) [] all = tt
  all-drop (suc n) (x ∷ xs) all = all-drop n xs all.1

  pub all-filter : (test : A → Bool) (xs : List A) → AllByRecursion P xs
      → AllByRecursion P (filter test xs)
  all-filter test [] all = tt
  all-filter test (x ∷ xs) all = choose (test x) (all-filter test xs all.1)
    where
      choose : (passes : Bool) → AllByRecursion P (filter test xs)
          → AllByRecursion P (cond passes (x ∷ filter test xs) (filter test xs))
      choose true rest = (all.0, rest)
      choose false rest = rest

  pub all-first_of_each : (name_of : A → List ℕ) (xs : List A) → AllByRecursion P xs
      → AllByRecursion P (first_of_each name_of xs)
  all-first_of_each name_of [] all = tt
  all-first_of_each name_of (x ∷ xs) all = (
    all.0,
    all-filter (λ later. not (bytes_eq (name_of later) (name_of x))) (first_of_each name_of xs)
        (all-first_of_each name_of xs all.1),
  )

  pub all-weaker : (Q : A → Type 0) → ((x : A) → P x → Q x) → (xs : List A) → AllByRecursion P xs
      → AllByRecursion Q xs
  all-weaker Q weaker [] all = tt
  all-weaker Q weaker (x ∷ xs) all = (weaker x all.0, all-weaker Q weaker xs all.1)

  all-given : (Q : A → Type 0) (xs : List A) → AllByRecursion (λ x. P x → Q x) xs
      → AllByRecursion P xs → AllByRecursion Q xs
  all-given Q [] each all = tt
  all-given Q (x ∷ xs) each all = (each.0 all.0, all-given Q xs each.1 all.1)

  pub all-map : {B : Type 0} (image : B → A) (xs : List B) → AllByRecursion (λ x. P (image x)) xs
      → AllByRecursion P (map image xs)
  all-map image [] all = tt
  all-map image (x ∷ xs) all = (all.0, all-map image xs all.1)

  pub all-flat_map : {B : Type 0} (image : B → List A) (xs : List B)
      → AllByRecursion (λ x. AllByRecursion P (image x)) xs → AllByRecursion P (flat_map image xs)
  all-flat_map image [] all = tt
  all-flat_map image (x ∷ xs) all =
      all-append (image x) (flat_map image xs) all.0 (all-flat_map image xs all.1)

-- all the names can be written
abbrev pub AllWritable : List Bytes → Type 0
AllWritable = AllByRecursion IsWritable

-- what can be written where lists are joined
pub all-joined : {A : Type 0} (names_of : A → List Bytes) (xs : List A)
    → AllWritable (all_names (map names_of xs)) → AllByRecursion (λ x. AllWritable (names_of x)) xs
all-joined names_of [] all = tt
all-joined names_of (x ∷ xs) all = (
  all-front IsWritable (names_of x) (all_names (map names_of xs)) all,
  all-joined names_of xs (all-back IsWritable (names_of x) (all_names (map names_of xs)) all),
)

-- the name of the symbol can be written
abbrev pub HasWritableName : Symbol → Type 0
HasWritableName symbol = IsWritable symbol.name

-- the names of all the symbols can be written
abbrev pub AreWritable : List Symbol → Type 0
AreWritable = AllByRecursion HasWritableName

-- the name that is visited can be written
abbrev pub IsNamedWritably : Occurrence → Type 0
IsNamedWritably occurrence = IsWritable occurrence.name

abbrev pub AreNamedWritably : List Occurrence → Type 0
AreNamedWritably = AllByRecursion IsNamedWritably

-- all the names in a term can be written
abbrev TermWritable : RawTerm → Type 0
TermWritable t = AllWritable (term_names t)

-- all the names in a formula can be written
abbrev FormulaWritable : RawFormula → Type 0
FormulaWritable f = AllWritable (formula_names f)

module _ (parameters : List ℕ → ℕ) where
  -- ---- the names that are visited in a term

  abbrev VisitedTerm : RawTerm → Type 0
  VisitedTerm t = AreNamedWritably (names_of_term parameters t)

  abbrev TermClaim : RawTerm → Type 0
  TermClaim t = TermWritable t → VisitedTerm t

  term_claim : (x : RawTerm-F RawTerm)
      → (AllWritable (term_names_at (map-RawTerm RawTerm (List Bytes) term_names x))
      → AreNamedWritably (names_of_term_at parameters
      (map-RawTerm RawTerm (List Occurrence) (names_of_term parameters) x)))
      → TermClaim (roll-RawTerm x)
  unfolding term_names names_of_term
  term_claim x layer all =
      subst AreNamedWritably (sym (fold-roll-RawTerm (List Occurrence) (names_of_term_at parameters) x))
      (layer (subst AllWritable (fold-roll-RawTerm (List Bytes) term_names_at x) all))

  abbrev KeptTerm : Type 0
  KeptTerm = (t : RawTerm) × TermClaim t

  term_claims : (kept : List KeptTerm)
      → AllByRecursion TermClaim (map (λ (k : KeptTerm). k.0) kept)
  term_claims [] = tt
  term_claims (k ∷ kept) = (k.1, term_claims kept)

  term_layer : (y : RawTerm-F KeptTerm)
      → TermClaim (roll-RawTerm (map-RawTerm KeptTerm RawTerm (λ k. k.0) y))
  term_layer (term.Variable name) = term_claim (term.Variable name) (λ all. tt)
  term_layer (term.Apply name kept) =
      let parts : List RawTerm = map (λ (k : KeptTerm). k.0) kept in
      term_claim (term.Apply name parts)
      (λ all. (
        all.0,
        all-flat_map IsNamedWritably (λ names. names)
            (drop (parameters name) (map (names_of_term parameters) parts))
            (all-drop AreNamedWritably (parameters name) (map (names_of_term parameters) parts)
            (all-map AreNamedWritably (names_of_term parameters) parts
            (all-given TermWritable VisitedTerm parts (term_claims kept)
            (all-joined term_names parts all.1)))),
      ))
  term_layer term.Individuals = term_claim term.Individuals (λ all. tt)

  terms_writable : (t : RawTerm) → TermClaim t
  terms_writable =
      ind-RawTerm TermClaim (λ x y is. subst (λ z. TermClaim (roll-RawTerm z)) is (term_layer y))

  both_writable : (left right : RawTerm) → AllWritable (term_names left ++ term_names right)
      → AreNamedWritably (names_of_term parameters left ++ names_of_term parameters right)
  both_writable left right all =
      all-append IsNamedWritably (names_of_term parameters left) (names_of_term parameters right)
      (terms_writable left (all-front IsWritable (term_names left) (term_names right) all))
      (terms_writable right (all-back IsWritable (term_names left) (term_names right) all))

  -- ---- the names that are visited in a formula

  abbrev VisitedFormula : RawFormula → Type 0
  VisitedFormula f = AreNamedWritably (names_of_formula parameters f)

  abbrev FormulaClaim : RawFormula → Type 0
  FormulaClaim f = FormulaWritable f → VisitedFormula f

  formula_claim : (x : RawFormula-F RawFormula)
      → (AllWritable (formula_names_at (map-RawFormula RawFormula (List Bytes) formula_names x))
      → AreNamedWritably (names_of_formula_at parameters
      (map-RawFormula RawFormula (List Occurrence) (names_of_formula parameters) x)))
      → FormulaClaim (roll-RawFormula x)
  unfolding formula_names names_of_formula
  formula_claim x layer all =
      subst AreNamedWritably (sym (fold-roll-RawFormula (List Occurrence) (names_of_formula_at parameters) x))
      (layer (subst AllWritable (fold-roll-RawFormula (List Bytes) formula_names_at x) all))

  abbrev KeptFormula : Type 0
  KeptFormula = (f : RawFormula) × FormulaClaim f

  formula_claims : (kept : List KeptFormula)
      → AllByRecursion FormulaClaim (map (λ (k : KeptFormula). k.0) kept)
  formula_claims [] = tt
  formula_claims (k ∷ kept) = (k.1, formula_claims kept)

  several_writable : (kept : List KeptFormula)
      → AllWritable (all_names (map formula_names (map (λ (k : KeptFormula). k.0) kept)))
      → AreNamedWritably (flat_map (λ names. names)
      (map (names_of_formula parameters) (map (λ (k : KeptFormula). k.0) kept)))
  several_writable kept all =
      let parts : List RawFormula = map (λ (k : KeptFormula). k.0) kept in
      all-flat_map IsNamedWritably (λ names. names) (map (names_of_formula parameters) parts)
      (all-map AreNamedWritably (names_of_formula parameters) parts
      (all-given FormulaWritable VisitedFormula parts (formula_claims kept)
      (all-joined formula_names parts all)))

  two_writable : (left right : KeptFormula)
      → AllWritable (formula_names left.0 ++ formula_names right.0)
      → AreNamedWritably (names_of_formula parameters left.0 ++ names_of_formula parameters right.0)
  two_writable left right all =
      all-append IsNamedWritably
      (names_of_formula parameters left.0) (names_of_formula parameters right.0)
      (left.1 (all-front IsWritable (formula_names left.0) (formula_names right.0) all))
      (right.1 (all-back IsWritable (formula_names left.0) (formula_names right.0) all))

  bound_writable : (bounds : List Bound) (body : KeptFormula)
      → AllWritable (all_names (map bound_names bounds) ++ formula_names body.0)
      → VisitedFormula body.0
  bound_writable bounds body all =
      body.1 (all-back IsWritable (all_names (map bound_names bounds)) (formula_names body.0) all)

  formula_layer : (y : RawFormula-F KeptFormula)
      → FormulaClaim (roll-RawFormula (map-RawFormula KeptFormula RawFormula (λ k. k.0) y))
  formula_layer formula.True = formula_claim formula.True (λ all. tt)
  formula_layer formula.False = formula_claim formula.False (λ all. tt)
  formula_layer (formula.Atom name parts) =
      formula_claim (formula.Atom name parts)
      (λ all. (
        all.0,
        all-flat_map IsNamedWritably (names_of_term parameters)
            (drop (parameters name) parts)
            (all-drop VisitedTerm (parameters name) parts
            (all-weaker TermWritable VisitedTerm terms_writable parts
            (all-joined term_names parts all.1))),
      ))
  formula_layer (formula.Equal left right) =
      formula_claim (formula.Equal left right) (both_writable left right)
  formula_layer (formula.Unequal left right) =
      formula_claim (formula.Unequal left right) (both_writable left right)
  formula_layer (formula.Not part) = formula_claim (formula.Not part.0) part.1
  formula_layer (formula.And kept) =
      formula_claim (formula.And (map (λ (k : KeptFormula). k.0) kept)) (several_writable kept)
  formula_layer (formula.Or kept) =
      formula_claim (formula.Or (map (λ (k : KeptFormula). k.0) kept)) (several_writable kept)
  formula_layer (formula.Implies left right) =
      formula_claim (formula.Implies left.0 right.0) (two_writable left right)
  formula_layer (formula.If left right) =
      formula_claim (formula.If left.0 right.0) (two_writable left right)
  formula_layer (formula.Iff left right) =
      formula_claim (formula.Iff left.0 right.0) (two_writable left right)
  formula_layer (formula.Xor left right) =
      formula_claim (formula.Xor left.0 right.0) (two_writable left right)
  formula_layer (formula.Nand left right) =
      formula_claim (formula.Nand left.0 right.0) (two_writable left right)
  formula_layer (formula.Nor left right) =
      formula_claim (formula.Nor left.0 right.0) (two_writable left right)
  formula_layer (formula.ForAll bounds body) =
      formula_claim (formula.ForAll bounds body.0) (bound_writable bounds body)
  formula_layer (formula.Exists bounds body) =
      formula_claim (formula.Exists bounds body.0) (bound_writable bounds body)

  pub formulas_writable : (f : RawFormula) → FormulaClaim f
  formulas_writable =
      ind-RawFormula FormulaClaim
      (λ x y is. subst (λ z. FormulaClaim (roll-RawFormula z)) is (formula_layer y))
