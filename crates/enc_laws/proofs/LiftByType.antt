-- The lift of the translations whose marks have the type as an argument: each number is a member.
use Rattle.std.specs.Prelude.{ℕ, ◌<◌, ◌≡◌, Bool, true, false, List, [], ◌∷◌, map, eqb, slice_get, Some, IsTrue}
use Rattle.std.specs.List.{AllByRecursion}
use Rattle.std.proofs.Common.{refl, sym, ap, ◌∙◌, subst}
use Rattle.std.proofs.lemmas.Bool.{eqb-true, false≢true}
use Rattle.tf_core.specs.declared.ty.Ty.{Ty}
use Rattle.tf_core.specs.declared.ty.Ty.TheVariants as type
use Rattle.tf_core.specs.declared.nnf.Nnf.{Nnf}
use Rattle.tf_core.specs.declared.signature.Symbol.{Symbol}
use Rattle.tf_core.specs.declared.signature.Signature.{Signature}
use Rattle.tf_core.specs.declared.normal.NormalFormula.{NormalFormula}
use Rattle.tf_core.specs.declared.normal.Normal.{Normal}
use Rattle.tf_core.specs.Types.{type_value, instantiate}
use Rattle.tf_core.specs.Typing.{IsNormal}
use Rattle.tf_core.specs.Models.{IsNormalSatisfied}
use Rattle.fof_models.specs.declared.formula.FofTerm.{FofTerm}
use Rattle.fof_models.specs.Structures.{Untyped}
use Rattle.fof_models.specs.Truth.{value, truth}
use Rattle.fof_models.specs.Models.{AreSatisfied}
use Rattle.fof_models.proofs.Truth.{value-apply, truth-atom, truth-equal}
use Rattle.tf_naked.specs.declared.position.Position.{Position}
use Rattle.tf_naked.specs.declared.position.Kind.{Kind}
use Rattle.enc_marks.specs.declared.choices.Marking.TheVariants.{ByType}
use Rattle.enc_marks.specs.declared.choices.Binding.{Binding}
use Rattle.enc_marks.specs.declared.choices.Binding.TheVariants.{ByGuard, ByTag}
use Rattle.enc_marks.specs.Choices.{Choices}
use Rattle.enc_marks.specs.Translation.{Numbers, type_term, selected, tag_by, tag, guard_by, bind_by, bind}
use Rattle.enc_marks.specs.Axioms.{typing_axiom}
use Rattle.enc_marks.specs.Encoded.{all_numbers, translation}
use Rattle.enc_marks.specs.Schemes.{guards, guards_cover, tags_cover, args}
use Rattle.enc_marks.specs.Occurrence.{count_below}
use Rattle.enc_laws.specs.Relations.{AreRelated, none_related, more_related}
use Rattle.enc_laws.specs.Directions.{Passes, NumbersAreRead}
use Rattle.enc_laws.specs.Lifted.{Lift, lifted, is_element, read_as, type_mark, lift_by_type, IsClosed}
use Rattle.enc_laws.proofs.Selected.{all_same}
use Rattle.enc_laws.proofs.Ranked.{length-listed}
use Rattle.enc_laws.proofs.ProblemBack.{translation_back}
use Rattle.enc_laws.proofs.Lifting.{ranking, Lifts, corresponds, backward}
use Rattle.enc_laws.proofs.Marked.{PicksByMarks}

-- a number is read as the member that it is
pub record IsItself (j : Untyped) (v m : ℕ) : Type 0 where
  pub is : v ≡ m
  pub below : v < j.size

abbrev pub any : Ty → Type 0
any ty = ty ≡ ty

pub same_numbers : (j : Untyped) (us members : List ℕ) → AreRelated (IsItself j) us members →
    us ≡ members
same_numbers j us members none_related = refl
same_numbers j us members (more_related u m us' members' h hs) =
    ap (λ x. x ∷ us') h.is ∙ ap (λ l. m ∷ l) (same_numbers j us' members' hs)

-- whether a number is bound by what its mark gives: the guard holds of it, or the tag leaves it as
-- it is
abbrev pub is_bound_by : Binding → (ℕ → ℕ) → ℕ → Bool
is_bound_by ByGuard mark v = eqb (mark v) 1
is_bound_by ByTag mark v = eqb (mark v) v

-- what such a translation has to choose
pub record LiftsByType (c : Choices) : Type 0 where
  pub marking : c.marking ≡ ByType
  -- numbers are read as themselves
  pub itself : (mark : ℕ → ℕ) (v : ℕ) → read_as c.elements mark v ≡ v
  -- the elements are the numbers that are bound to a type, or all where there are no typing axioms
  pub bound : (ty : Ty) (size : ℕ) (mark : ℕ → ℕ) (v : ℕ) → c.typing ty ≡ true →
      is_element c.elements size mark v ≡ is_bound_by c.binding mark v
  pub all : (ty : Ty) (size : ℕ) (mark : ℕ → ℕ) (v : ℕ) → c.typing ty ≡ false →
      is_element c.elements size mark v ≡ true
  pub universal : (undercover naked : Bool) (ty : Ty) → c.universal undercover naked ty ≡ true →
      c.typing ty ≡ true
  pub existential : (ty : Ty) → c.typing ty ≡ true → c.existential ty ≡ true
  pub premise : (cover : Bool) (ty : Ty) → c.premise cover ty ≡ true → c.typing ty ≡ true
  pub tags : (position : Position) (kind : Kind) (ty : Ty) → c.tagged position kind ty ≡ true →
      c.binding ≡ ByTag
  pub tags_typed : (position : Position) (kind : Kind) (ty : Ty) →
      c.tagged position kind ty ≡ true → c.typing ty ≡ true
  pub last : c.typing (type.Var 0) ≡ true → c.last (type.Var 0) ≡ true

module _ (c : Choices) (k : Numbers) (g : Signature) (present : ℕ → Bool) (j : Untyped) where
  -- each number is read as the member that it is
  pub number_of : NumbersAreRead c k g (lifted c k g present j (lift_by_type c k j)) j
      (ranking j (lift_by_type c k j) (IsItself j) any)
  number_of m within =
      let below : m < j.size = subst (λ z. m < z)
      (length-listed j.size 0 (λ i. count_below j.size ((lift_by_type c k j).picks i))) within in
      (m, below, record { is = refl; below = below })

  pub passes : Passes c k g (lifted c k g present j (lift_by_type c k j)) j
      (ranking j (lift_by_type c k j) (IsItself j) any) (λ p. p ≡ p)
  passes = record {
    and = λ parts h. all_same (λ (p : Nnf). p) parts;
    or = λ parts h. all_same (λ (p : Nnf). p) parts;
    for_all = λ ty body h. (refl, refl);
    exists = λ ty body h. (refl, refl);
  }

module _ (c : Choices) (k : Numbers) (g : Signature) (present : ℕ → Bool) (j : Untyped)
    (closed : IsClosed k g j) (by : LiftsByType c)
    (absent : (f : ℕ) (symbol : Symbol) (values : List ℕ) → slice_get g.symbols f ≡ Some symbol →
    present (k.symbol f) ≡ false → j.symbol_at (k.symbol f) values ≡ 0)
    (axioms : (f : ℕ) (symbol : Symbol) (ty : Ty) → slice_get g.symbols f ≡ Some symbol →
    symbol.result ≡ Some ty → c.typing ty ≡ true →
    IsTrue (truth j (typing_axiom c k g f symbol ty) [])) where
  pub truth-bind : (depth : ℕ) (ty : Ty) (t : FofTerm) (assignment : List ℕ) (b : Binding) →
      c.binding ≡ b →
      truth j (bind c k g depth ty t) assignment
      ≡ is_bound_by c.binding (type_mark k j (value j assignment (type_term k.constructor depth ty)))
      (value j assignment t)
  truth-bind depth ty t assignment ByGuard binding =
      let u : ℕ = value j assignment (type_term k.constructor depth ty) in
      ap (λ z. truth j (bind_by z c.marking k depth ty t) assignment) binding
      ∙ ap (λ z. truth j (guard_by z k depth ty t) assignment) by.marking
      ∙ truth-atom j k.shared (type_term k.constructor depth ty ∷ t ∷ []) assignment
      ∙ ap (λ z. is_bound_by z (type_mark k j u) (value j assignment t)) (sym binding)
  truth-bind depth ty t assignment ByTag binding =
      let u : ℕ = value j assignment (type_term k.constructor depth ty) in
      ap (λ z. truth j (bind_by z c.marking k depth ty t) assignment) binding
      ∙ truth-equal j (tag c k g depth ty t) t assignment
      ∙ ap (λ z. eqb (value j assignment (tag_by z k depth ty t)) (value j assignment t)) by.marking
      ∙ ap (λ z. eqb z (value j assignment t))
      (value-apply j assignment k.shared (type_term k.constructor depth ty ∷ t ∷ []))
      ∙ ap (λ z. is_bound_by z (type_mark k j u) (value j assignment t)) (sym binding)

  abbrev own : Lift
  own = lift_by_type c k j

  pub picks_by_marks : PicksByMarks c k g present j (lift_by_type c k j) (IsItself j) any
  picks_by_marks = record {
    itself = λ m v. by.itself (type_mark k j m) v;
    within = λ v m h. subst (λ z. z < j.size) h.is h.below;
    below = λ v m h. h.below;
    constructors = λ i constructor values members at all h. record {
      is = ap (j.symbol_at (k.constructor i)) (same_numbers j values members h);
      below = closed.constructors i constructor values at;
    };
    constructors_below = λ i constructor members at below.
        closed.constructors i constructor members at;
    kept = λ symbol us members h. same_numbers j us (selected (c.keeps symbol) members) h;
    good_arguments = λ f symbol types at all.
        all_same (λ (ty : Ty). ty) (map (instantiate types) symbol.arguments);
    good_result = λ f symbol ty types at gives all. refl;
    declared = λ f symbol at. all_same (λ (ty : Ty). ty) symbol.arguments;
    declared_result = λ f symbol ty at gives. refl;
    functions_below = closed.functions;
    absent = absent;
    bind_is = λ depth ty t members assignment good typing type_is.
        let m : ℕ = type_value own.constructor_at members ty in
        truth-bind depth ty t assignment c.binding refl
        ∙ ap (λ z. is_bound_by c.binding (type_mark k j z) (value j assignment t)) type_is.is
        ∙ sym (by.bound ty j.size (type_mark k j m) (value j assignment t) typing);
    all_in = λ ty members v good typing.
        by.all ty j.size (type_mark k j (type_value own.constructor_at members ty)) v typing;
    universal = by.universal;
    existential = by.existential;
    premise = by.premise;
    tag_same = λ position kind depth ty t members assignment good tagged type_is picked.
        let m : ℕ = type_value own.constructor_at members ty in
        let v : ℕ = value j assignment t in
        let same : is_bound_by ByTag (type_mark k j m) v ≡ true =
        ap (λ z. is_bound_by z (type_mark k j m) v) (sym (by.tags position kind ty tagged))
        ∙ (sym (by.bound ty j.size (type_mark k j m) v (by.tags_typed position kind ty tagged))
        ∙ picked) in
        ap (λ z. value j assignment (tag_by z k depth ty t)) by.marking
        ∙ value-apply j assignment k.shared (type_term k.constructor depth ty ∷ t ∷ [])
        ∙ ap (λ z. j.symbol_at k.shared (z ∷ v ∷ [])) type_is.is ∙ eqb-true _ _ same;
    axioms = axioms;
  }

-- where the lift corresponds, the lifted structure of a model of the translation satisfies the
-- formulas
pub lifts_satisfied : (c : Choices) (normal : Normal) (present : ℕ → Bool) (j : Untyped) →
    IsNormal normal →
    Lifts c (all_numbers normal) normal.signature present j (lift_by_type c (all_numbers normal) j)
    (IsItself j) any → AreSatisfied j (translation c normal) →
    AllByRecursion
    (IsNormalSatisfied (lifted c (all_numbers normal) normal.signature present j
    (lift_by_type c (all_numbers normal) j))) normal.formulas
lifts_satisfied c normal present j sound has_lifts satisfied =
    let k : Numbers = all_numbers normal in
    let g : Signature = normal.signature in
    let l : Lift = lift_by_type c k j in
    translation_back c normal (lifted c k g present j l) j (ranking j l (IsItself j) any)
    sound.signature
    (corresponds c k g present j l (IsItself j) any sound.signature has_lifts) (λ p. p ≡ p)
    (backward c k g present j l (IsItself j) any sound.signature has_lifts (λ p. p ≡ p)
    (passes c k g present j)) (number_of c k g present j) sound.formulas
    (all_same (λ (p : NormalFormula). p.body) normal.formulas) satisfied

-- the schemes with marks of this kind, but that where every term is tagged

pub guards_lift : LiftsByType guards
guards_lift = record {
  marking = refl;
  itself = λ mark v. refl;
  bound = λ ty size mark v typing. refl;
  all = λ ty size mark v typing. absurd (false≢true (sym typing));
  universal = λ undercover naked ty binds. refl;
  existential = λ ty typing. refl;
  premise = λ cover ty premised. refl;
  tags = λ position kind ty tagged. absurd (false≢true tagged);
  tags_typed = λ position kind ty tagged. refl;
  last = λ typing. refl;
}

pub guards_cover_lift : LiftsByType guards_cover
guards_cover_lift = record {
  marking = refl;
  itself = λ mark v. refl;
  bound = λ ty size mark v typing. refl;
  all = λ ty size mark v typing. absurd (false≢true (sym typing));
  universal = λ undercover naked ty binds. refl;
  existential = λ ty typing. refl;
  premise = λ cover ty premised. refl;
  tags = λ position kind ty tagged. absurd (false≢true tagged);
  tags_typed = λ position kind ty tagged. refl;
  last = λ typing. refl;
}

pub tags_cover_lift : LiftsByType tags_cover
tags_cover_lift = record {
  marking = refl;
  itself = λ mark v. refl;
  bound = λ ty size mark v typing. refl;
  all = λ ty size mark v typing. absurd (false≢true (sym typing));
  universal = λ undercover naked ty binds. refl;
  existential = λ ty typing. refl;
  premise = λ cover ty premised. refl;
  tags = λ position kind ty tagged. refl;
  tags_typed = λ position kind ty tagged. refl;
  last = λ typing. refl;
}

-- no type is marked, and all numbers are elements of each
pub args_lift : LiftsByType args
args_lift = record {
  marking = refl;
  itself = λ mark v. refl;
  bound = λ ty size mark v typing. absurd (false≢true typing);
  all = λ ty size mark v typing. refl;
  universal = λ undercover naked ty binds. absurd (false≢true binds);
  existential = λ ty typing. absurd (false≢true typing);
  premise = λ cover ty premised. absurd (false≢true premised);
  tags = λ position kind ty tagged. absurd (false≢true tagged);
  tags_typed = λ position kind ty tagged. absurd (false≢true tagged);
  last = λ typing. absurd (false≢true typing);
}
