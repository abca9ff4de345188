-- The translation of a formula is a formula over all marked symbols, with pairs where the formula
-- has them and with as many binders.
use Rattle.std.specs.Prelude.{ℕ, ◌+◌, ◌≡◌, ◌≤◌, Bool, true, false, ◌&&◌, List, [], ◌∷◌, map, length, cond, leb, sum, None}
use Rattle.std.specs.List.{list_all}
use Rattle.std.proofs.Common.{refl, sym, ap, ◌∙◌, subst, arith}
use Rattle.std.proofs.lemmas.Bool.{and_from, lt-ltb}
use Rattle.std.proofs.lemmas.List.{length-map}
use Rattle.std.proofs.lemmas.List.Sums.{sum_by-cons}
use Rattle.tf_core.specs.declared.ty.Ty.{Ty}
use Rattle.tf_core.specs.declared.term.Term.{Term}
use Rattle.tf_core.specs.declared.nnf.Nnf.{Nnf}
use Rattle.tf_core.specs.declared.nnf.Nnf.TheVariants as nnf
use Rattle.tf_core.specs.declared.normal.Normal.{Normal}
use Rattle.tf_core.specs.Counts.{normal_has_pairs, normal_sum}
use Rattle.tf_core.specs.Types.{instantiate}
use Rattle.tf_core.specs.Sorts.{joined, binder_types}
use Rattle.tf_core.specs.Typing.{IsType, IsEquation, IsSignature, IsNnf, nnf_true, nnf_false, nnf_atom, nnf_equation, nnf_and, nnf_or, nnf_for_all, nnf_exists, AreNnf, no_parts, more_parts}
use Rattle.tf_core.proofs.Counts.{normal_sum-true, normal_sum-false, normal_sum-atom, normal_sum-equation, normal_sum-and, normal_sum-or, normal_sum-for_all, normal_sum-exists}
use Rattle.fof_models.specs.declared.formula.FofTerm.{FofTerm}
use Rattle.fof_models.specs.declared.formula.FofTerm.TheVariants as term
use Rattle.fof_models.specs.declared.formula.Fof.{Fof}
use Rattle.fof_models.specs.declared.formula.Fof.TheVariants as fof
use Rattle.fof_models.specs.declared.problem.FofSymbol.{FofSymbol}
use Rattle.fof_models.specs.Sound.{is_term, is_formula, has_pairs, binder_count}
use Rattle.fof_models.proofs.Sound.{is_term-variable, is_formula-true, is_formula-false, is_formula-atom, is_formula-equal, is_formula-not, is_formula-and, is_formula-or, is_formula-implies, is_formula-for_all, is_formula-exists, has_pairs-true, has_pairs-false, has_pairs-atom, has_pairs-equal, has_pairs-not, has_pairs-and, has_pairs-or, has_pairs-implies, has_pairs-for_all, has_pairs-exists, binder_count-true, binder_count-false, binder_count-atom, binder_count-equal, binder_count-not, binder_count-and, binder_count-or, binder_count-implies, binder_count-for_all, binder_count-exists}
use Rattle.tf_naked.specs.declared.position.Position.TheVariants.{Side}
use Rattle.tf_naked.specs.declared.position.Kind.{Kind}
use Rattle.tf_naked.specs.declared.position.Kind.TheVariants.{Universal, Existential}
use Rattle.tf_naked.specs.Standing.{is_undercover, is_naked}
use Rattle.tf_naked.specs.SortLaws.{AreSorts}
use Rattle.tf_naked.proofs.HeldTypes.{sorts_front, sorts_back, term_sort}
use Rattle.tf_naked.proofs.BinderTypes.{binder_types-and, binder_types-or, binder_types-for_all, binder_types-exists}
use Rattle.enc_marks.specs.declared.choices.Marking.TheVariants.{BySort}
use Rattle.enc_marks.specs.declared.choices.Binding.{Binding}
use Rattle.enc_marks.specs.declared.choices.Binding.TheVariants.{ByGuard, ByTag}
use Rattle.enc_marks.specs.Choices.{Choices}
use Rattle.enc_marks.specs.Translation.{guard_by, tag_by, bind_by, bind, literal, arguments_of, bare, side, for_all, exists, formula}
use Rattle.enc_marks.specs.Encoded.{is_guard}
use Rattle.enc_marks.specs.Laws.{Fit}
use Rattle.enc_marks.proofs.Translation.{formula-true, formula-false, formula-atom, formula-equation, formula-and, formula-or, formula-for_all, formula-exists}
use Rattle.enc_marks.proofs.OwnMarks.{own_number, own_arguments, guard_by-own, HasMark, HaveMarks, type_marked, marked_sorts}
use Rattle.enc_marks.proofs.SoundPairs.{normal_has_pairs-true, normal_has_pairs-false, normal_has_pairs-atom, normal_has_pairs-equation, normal_has_pairs-and, normal_has_pairs-or, normal_has_pairs-for_all, normal_has_pairs-exists}
use Rattle.enc_marks.proofs.SoundTerms.{numbers, marked, own-sound, tag-sound, placed-sound, instance-sound, bare-sound, bares-sound, bares_count}

-- ---- a formula that has so many binders, and pairs as a test says

pub record IsMade (signature : List FofSymbol) (q : Fof) (depth : ℕ) (pairs : Bool) (binders : ℕ) :
    Type 0 where
  pub formed : is_formula signature q depth ≡ true
  pub has_them : has_pairs q ≡ pairs
  pub count : binder_count q ≡ binders

pub made_same : (signature : List FofSymbol) (q other : Fof) (depth : ℕ) (pairs more : Bool)
    (binders count : ℕ) → q ≡ other → pairs ≡ more → binders ≡ count →
    IsMade signature other depth pairs binders → IsMade signature q depth more count
made_same signature q other depth pairs more binders count is same_pairs same_binders made =
    record {
      formed = ap (λ x. is_formula signature x depth) is ∙ made.formed;
      has_them = ap has_pairs is ∙ made.has_them ∙ same_pairs;
      count = ap binder_count is ∙ made.count ∙ same_binders;
    }

literal-made : (signature : List FofSymbol) (positive : Bool) (atom : Fof) (depth : ℕ) →
    IsMade signature atom depth true 0 → IsMade signature (literal positive atom) depth true 0
literal-made signature true atom depth made = made
literal-made signature false atom depth made = record {
  formed = is_formula-not signature atom depth ∙ made.formed;
  has_them = has_pairs-not atom ∙ made.has_them;
  count = binder_count-not atom ∙ made.count;
}

pub implies-made : (signature : List FofSymbol) (depth : ℕ) (pairs : Bool) (binders : ℕ)
    (bound body : Fof) → IsMade signature bound depth true 0 →
    IsMade signature body depth pairs binders →
    IsMade signature (fof.Implies bound body) depth pairs binders
implies-made signature depth pairs binders bound body bound_made made = record {
  formed = is_formula-implies signature bound body depth
      ∙ and_from (is_formula signature bound depth) (is_formula signature body depth)
      bound_made.formed made.formed;
  has_them = has_pairs-implies bound body
      ∙ ap (λ b. b && has_pairs body) bound_made.has_them ∙ made.has_them;
  count = omega (arith, binder_count-implies bound body, bound_made.count, made.count);
}

module _ (signature : List FofSymbol) (depth : ℕ) (pairs : Bool) (binders : ℕ) (bound body : Fof)
    (bound_made : IsMade signature bound (depth + 1) true 0)
    (made : IsMade signature body (depth + 1) pairs binders) where
  both-made : IsMade signature (fof.And (bound ∷ body ∷ [])) (depth + 1) pairs binders
  both-made = record {
    formed = is_formula-and signature (bound ∷ body ∷ []) (depth + 1)
        ∙ and_from (is_formula signature bound (depth + 1))
        (is_formula signature body (depth + 1) && true) bound_made.formed
        (and_from (is_formula signature body (depth + 1)) true made.formed refl);
    has_them = has_pairs-and (bound ∷ body ∷ [])
        ∙ ap (λ b. b && (has_pairs body && true)) bound_made.has_them
        ∙ and_true (has_pairs body) ∙ made.has_them;
    count =
        let first = sum_by-cons (λ (n : ℕ). n) (binder_count bound) (binder_count body ∷ []) in
        let second = sum_by-cons (λ (n : ℕ). n) (binder_count body) [] in
        binder_count-and (bound ∷ body ∷ []) ∙ first
        ∙ ap (λ n. binder_count bound + n) second
        ∙ (let alone : binder_count bound + (binder_count body + 0) ≡ binders =
        omega (arith, bound_made.count, made.count) in alone);
  }
    where
      and_true : (b : Bool) → (b && true) ≡ b
      and_true true = refl
      and_true false = refl

  pub for_all-made : (b : Bool) →
      IsMade signature (fof.ForAll (cond b (fof.Implies bound body) body)) depth pairs (binders + 1)
  for_all-made true =
      let inner = implies-made signature (depth + 1) pairs binders bound body bound_made made in
      record {
        formed = is_formula-for_all signature (fof.Implies bound body) depth ∙ inner.formed;
        has_them = has_pairs-for_all (fof.Implies bound body) ∙ inner.has_them;
        count = binder_count-for_all (fof.Implies bound body) ∙ ap (λ n. n + 1) inner.count;
      }
  for_all-made false = record {
    formed = is_formula-for_all signature body depth ∙ made.formed;
    has_them = has_pairs-for_all body ∙ made.has_them;
    count = binder_count-for_all body ∙ ap (λ n. n + 1) made.count;
  }

  pub exists-made : (b : Bool) →
      IsMade signature (fof.Exists (cond b (fof.And (bound ∷ body ∷ [])) body)) depth pairs
      (binders + 1)
  exists-made true = record {
    formed = is_formula-exists signature (fof.And (bound ∷ body ∷ [])) depth ∙ both-made.formed;
    has_them = has_pairs-exists (fof.And (bound ∷ body ∷ [])) ∙ both-made.has_them;
    count = binder_count-exists (fof.And (bound ∷ body ∷ [])) ∙ ap (λ n. n + 1) both-made.count;
  }
  exists-made false = record {
    formed = is_formula-exists signature body depth ∙ made.formed;
    has_them = has_pairs-exists body ∙ made.has_them;
    count = binder_count-exists body ∙ ap (λ n. n + 1) made.count;
  }

module _ (c : Choices) (normal : Normal) (fit : Fit c normal)
    (typed : IsSignature normal.signature) where
  abbrev over : List FofSymbol
  over = marked c normal fit typed

  -- ---- what binds a term to a type

  module _ (variables depth : ℕ) (fits : variables ≤ depth) (ty : Ty) (t : FofTerm)
      (has : HasMark c normal variables ty) (sound : is_term over t depth ≡ true) where
    guard-made : c.binding ≡ ByGuard →
        IsMade over (guard_by c.marking (numbers c normal fit typed) depth ty t) depth true 0
    guard-made guards =
        let k = numbers c normal fit typed in
        let number = own_number c.marking k ty in
        let terms = own_arguments c.marking k depth ty t in
        made_same over (guard_by c.marking k depth ty t) (fof.Atom number terms) depth true true 0 0
        (guard_by-own c.marking k depth ty t) refl refl
        (record {
          formed = is_formula-atom over number terms depth
              ∙ own-sound c normal fit typed variables depth fits true (ap is_guard guards) ty t has
              sound;
          has_them = has_pairs-atom number terms;
          count = binder_count-atom number terms;
        })

    equal-made : c.binding ≡ ByTag →
        IsMade over (fof.Equal (tag_by c.marking (numbers c normal fit typed) depth ty t) t)
        depth true 0
    equal-made tags =
        let tagged = tag_by c.marking (numbers c normal fit typed) depth ty t in
        record {
          formed = is_formula-equal over tagged t depth
              ∙ and_from (is_term over tagged depth) (is_term over t depth)
              (tag-sound c normal fit typed variables depth fits tags ty t has sound) sound;
          has_them = has_pairs-equal tagged t;
          count = binder_count-equal tagged t;
        }

    pub bind-made :
        IsMade over (bind c (numbers c normal fit typed) normal.signature depth ty t) depth
        true 0
    bind-made = by c.binding refl
      where
        by : (binding : Binding) → c.binding ≡ binding →
            IsMade over (bind_by binding c.marking (numbers c normal fit typed) depth ty t)
            depth true 0
        by ByGuard is = guard-made is
        by ByTag is = equal-made is

  -- ---- formulas

  abbrev image : Nnf → ℕ → List Kind → Fof
  image p depth kinds = formula c (numbers c normal fit typed) normal.signature p depth kinds

  -- what the translation keeps of a formula
  abbrev IsKept : Nnf → ℕ → List Kind → Type 0
  IsKept p depth kinds =
      IsMade over (image p depth kinds) depth (normal_has_pairs p) (normal_sum 1 0 p)

  -- and of a list of parts
  record AreKept (parts : List Nnf) (depth : ℕ) (kinds : List Kind) : Type 0 where
    formed : list_all (λ q. is_formula over q depth) (map (λ p. image p depth kinds) parts) ≡ true
    has_them : list_all has_pairs (map (λ p. image p depth kinds) parts)
        ≡ list_all normal_has_pairs parts
    count : sum (map binder_count (map (λ p. image p depth kinds) parts))
        ≡ sum (map (normal_sum 1 0) parts)

  -- the types at the binders of a formula are sorts, where sorts have guards or tags of their own
  abbrev pub BindersFit : Nnf → Type 0
  BindersFit p = c.marking ≡ BySort → AreSorts normal (binder_types p)

  -- and of a list of parts
  abbrev PartsFit : List Nnf → Type 0
  PartsFit parts = c.marking ≡ BySort → AreSorts normal (joined (map binder_types parts))

  -- the variable of the nearest binder
  nearest : (depth : ℕ) → is_term over (term.Var 0) (depth + 1) ≡ true
  nearest depth = is_term-variable over 0 (depth + 1) ∙ lt-ltb 0 (depth + 1) (omega arith)

  module _ (variables : ℕ) where
    -- the type of an equation has a guard or tag
    equation-marked : (context : List Ty) (ty : Ty) (left right : Term) →
        HaveMarks c normal variables context →
        IsEquation normal.signature variables context ty left right →
        HasMark c normal variables ty
    equation-marked context ty left right have is =
        type_marked c.marking normal variables ty is.formed
        (λ by_sort. term_sort normal (fit.monomorphic by_sort) variables context left ty
        (marked_sorts c normal variables context have by_sort) is.left_side)

    -- the type at a binder has one
    binder-marked : (ty : Ty) (body whole : Nnf) → binder_types whole ≡ ty ∷ binder_types body →
        IsType normal.signature variables ty → BindersFit whole → HasMark c normal variables ty
    binder-marked ty body whole are formed sorted =
        type_marked c.marking normal variables ty formed
        (λ by_sort. (subst (AreSorts normal) are (sorted by_sort)).0)

    mutual
      pub formula-made : (context : List Ty) (kinds : List Kind) (depth : ℕ) →
          variables + length context ≡ depth → HaveMarks c normal variables context → (p : Nnf) →
          IsNnf normal.signature variables context p → BindersFit p → IsKept p depth kinds
      formula-made context kinds depth deep have p (nnf_true _) sorted =
          made_same over (image nnf.True depth kinds) fof.True depth true _ 0 _
          (formula-true c (numbers c normal fit typed) normal.signature depth kinds)
          (sym normal_has_pairs-true) (sym (normal_sum-true 1 0))
          (record {
            formed = is_formula-true over depth;
            has_them = has_pairs-true;
            count = binder_count-true;
          })
      formula-made context kinds depth deep have p (nnf_false _) sorted =
          made_same over (image nnf.False depth kinds) fof.False depth true _ 0 _
          (formula-false c (numbers c normal fit typed) normal.signature depth kinds)
          (sym normal_has_pairs-false) (sym (normal_sum-false 1 0))
          (record {
            formed = is_formula-false over depth;
            has_them = has_pairs-false;
            count = binder_count-false;
          })
      formula-made context kinds depth deep have p (nnf_atom _ positive f symbol types terms is)
          sorted =
          let k = numbers c normal fit typed in
          let bares = map (bare c k normal.signature depth kinds) terms in
          let atom = fof.Atom f (arguments_of c k normal.signature depth f types bares) in
          made_same over (image (nnf.Atom positive f types terms) depth kinds)
          (literal positive atom) depth true _ 0 _
          (formula-atom c k normal.signature positive f types terms depth kinds)
          (sym (normal_has_pairs-atom positive f types terms))
          (sym (normal_sum-atom 1 0 positive f types terms))
          (literal-made over positive atom depth (record {
            formed = is_formula-atom over f
                (arguments_of c k normal.signature depth f types bares) depth
                ∙ instance-sound c normal fit typed variables depth (omega (arith, deep)) f
                symbol None types bares is.predicate
                (bares_count c normal fit typed variables context kinds depth deep symbol types
                terms is.arguments)
                (bares-sound c normal fit typed variables context kinds depth deep terms
                (map (instantiate types) symbol.arguments) is.arguments);
            has_them = has_pairs-atom f (arguments_of c k normal.signature depth f types bares);
            count = binder_count-atom f (arguments_of c k normal.signature depth f types bares);
          }))
      formula-made context kinds depth deep have p (nnf_equation _ positive ty left right is)
          sorted =
          let k = numbers c normal fit typed in
          let l = side c k normal.signature depth kinds positive ty left in
          let r = side c k normal.signature depth kinds positive ty right in
          made_same over (image (nnf.Equation positive ty left right) depth kinds)
          (literal positive (fof.Equal l r)) depth true _ 0 _
          (formula-equation c k normal.signature positive ty left right depth kinds)
          (sym (normal_has_pairs-equation positive ty left right))
          (sym (normal_sum-equation 1 0 positive ty left right))
          (literal-made over positive (fof.Equal l r) depth (record {
            formed = is_formula-equal over l r depth
                ∙ and_from (is_term over l depth) (is_term over r depth)
                (placed-sound c normal fit typed variables depth (omega (arith, deep))
                (Side positive) ty (bare c k normal.signature depth kinds left)
                (equation-marked context ty left right have is)
                (bare-sound c normal fit typed variables context kinds depth deep left ty
                is.left_side))
                (placed-sound c normal fit typed variables depth (omega (arith, deep))
                (Side positive) ty (bare c k normal.signature depth kinds right)
                (equation-marked context ty left right have is)
                (bare-sound c normal fit typed variables context kinds depth deep right ty
                is.right_side));
            has_them = has_pairs-equal l r;
            count = binder_count-equal l r;
          }))
      formula-made context kinds depth deep have p (nnf_and _ parts each) sorted =
          let images = map (λ part. image part depth kinds) parts in
          let all = formulas-made context kinds depth deep have parts each
          (λ by_sort. subst (AreSorts normal) (binder_types-and parts) (sorted by_sort)) in
          made_same over (image (nnf.And parts) depth kinds) (fof.And images) depth
          (leb 2 (length parts) && list_all normal_has_pairs parts) _
          (sum (map (normal_sum 1 0) parts)) _
          (formula-and c (numbers c normal fit typed) normal.signature parts depth kinds)
          (sym (normal_has_pairs-and parts)) (sym (normal_sum-and 1 0 parts))
          (record {
            formed = is_formula-and over images depth ∙ all.formed;
            has_them = has_pairs-and images
                ∙ ap (λ n. leb 2 n && list_all has_pairs images)
                (length-map parts (λ part. image part depth kinds))
                ∙ ap (λ b. leb 2 (length parts) && b) all.has_them;
            count = binder_count-and images ∙ all.count;
          })
      formula-made context kinds depth deep have p (nnf_or _ parts each) sorted =
          let images = map (λ part. image part depth kinds) parts in
          let all = formulas-made context kinds depth deep have parts each
          (λ by_sort. subst (AreSorts normal) (binder_types-or parts) (sorted by_sort)) in
          made_same over (image (nnf.Or parts) depth kinds) (fof.Or images) depth
          (leb 2 (length parts) && list_all normal_has_pairs parts) _
          (sum (map (normal_sum 1 0) parts)) _
          (formula-or c (numbers c normal fit typed) normal.signature parts depth kinds)
          (sym (normal_has_pairs-or parts)) (sym (normal_sum-or 1 0 parts))
          (record {
            formed = is_formula-or over images depth ∙ all.formed;
            has_them = has_pairs-or images
                ∙ ap (λ n. leb 2 n && list_all has_pairs images)
                (length-map parts (λ part. image part depth kinds))
                ∙ ap (λ b. leb 2 (length parts) && b) all.has_them;
            count = binder_count-or images ∙ all.count;
          })
      formula-made context kinds depth deep have p (nnf_for_all _ ty body formed inner)
          sorted =
          let k = numbers c normal fit typed in
          let bound = bind c k normal.signature (depth + 1) ty (term.Var 0) in
          let one_more : normal_sum 1 0 body + 1 ≡ 1 + normal_sum 1 0 body = omega arith in
          made_same over (image (nnf.ForAll ty body) depth kinds)
          (for_all c k normal.signature (depth + 1) ty body
          (image body (depth + 1) (Universal ∷ kinds))) depth
          (normal_has_pairs body) _ (normal_sum 1 0 body + 1) _
          (formula-for_all c k normal.signature ty body depth kinds)
          (sym (normal_has_pairs-for_all ty body))
          (one_more ∙ sym (normal_sum-for_all 1 0 ty body))
          (for_all-made over depth (normal_has_pairs body) (normal_sum 1 0 body) bound
          (image body (depth + 1) (Universal ∷ kinds))
          (bind-made variables (depth + 1) (omega (arith, deep)) ty (term.Var 0)
          (binder-marked ty body (nnf.ForAll ty body) (binder_types-for_all ty body) formed sorted)
          (nearest depth))
          (formula-made (ty ∷ context) (Universal ∷ kinds) (depth + 1) (omega (arith, deep)) (
            binder-marked ty body (nnf.ForAll ty body) (binder_types-for_all ty body) formed sorted,
            have,
          )
          body inner
          (λ by_sort. (subst (AreSorts normal) (binder_types-for_all ty body) (sorted by_sort)).1))
          (c.universal (is_undercover normal.signature body) (is_naked normal.signature body) ty))
      formula-made context kinds depth deep have p (nnf_exists _ ty body formed inner)
          sorted =
          let k = numbers c normal fit typed in
          let bound = bind c k normal.signature (depth + 1) ty (term.Var 0) in
          let one_more : normal_sum 1 0 body + 1 ≡ 1 + normal_sum 1 0 body = omega arith in
          made_same over (image (nnf.Exists ty body) depth kinds)
          (exists c k normal.signature (depth + 1) ty
          (image body (depth + 1) (Existential ∷ kinds))) depth
          (normal_has_pairs body) _ (normal_sum 1 0 body + 1) _
          (formula-exists c k normal.signature ty body depth kinds)
          (sym (normal_has_pairs-exists ty body))
          (one_more ∙ sym (normal_sum-exists 1 0 ty body))
          (exists-made over depth (normal_has_pairs body) (normal_sum 1 0 body) bound
          (image body (depth + 1) (Existential ∷ kinds))
          (bind-made variables (depth + 1) (omega (arith, deep)) ty (term.Var 0)
          (binder-marked ty body (nnf.Exists ty body) (binder_types-exists ty body) formed sorted)
          (nearest depth))
          (formula-made (ty ∷ context) (Existential ∷ kinds) (depth + 1) (omega (arith, deep)) (
            binder-marked ty body (nnf.Exists ty body) (binder_types-exists ty body) formed sorted,
            have,
          )
          body inner
          (λ by_sort. (subst (AreSorts normal) (binder_types-exists ty body) (sorted by_sort)).1))
          (c.existential ty))

      formulas-made : (context : List Ty) (kinds : List Kind) (depth : ℕ) →
          variables + length context ≡ depth → HaveMarks c normal variables context →
          (parts : List Nnf) → AreNnf normal.signature variables context parts → PartsFit parts →
          AreKept parts depth kinds
      formulas-made context kinds depth deep have parts (no_parts _) sorted =
          record { formed = refl; has_them = refl; count = refl }
      formulas-made context kinds depth deep have parts (more_parts _ part others first rest)
          sorted =
          let here = formula-made context kinds depth deep have part first
          (λ by_sort. sorts_front normal (binder_types part) (joined (map binder_types others))
          (sorted by_sort)) in
          let there = formulas-made context kinds depth deep have others rest
          (λ by_sort. sorts_back normal (binder_types part) (joined (map binder_types others))
          (sorted by_sort)) in
          let q = image part depth kinds in
          let images = map (λ p. image p depth kinds) others in
          record {
            formed = and_from (is_formula over q depth)
                (list_all (λ x. is_formula over x depth) images) here.formed there.formed;
            has_them = ap (λ b. b && list_all has_pairs images) here.has_them
                ∙ ap (λ b. normal_has_pairs part && b) there.has_them;
            count = sum_by-cons (λ n. n) (binder_count q) (map binder_count images)
                ∙ ap (λ n. n + sum (map binder_count images)) here.count
                ∙ ap (λ n. normal_sum 1 0 part + n) there.count
                ∙ sym (sum_by-cons (λ n. n) (normal_sum 1 0 part) (map (normal_sum 1 0) others));
          }
