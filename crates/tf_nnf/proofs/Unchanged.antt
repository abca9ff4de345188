-- What replacing types leaves as it is: everything where no type is given, and the nodes.
use Rattle.std.proofs.Common.{ℕ, ◌+◌, ◌≡◌, List, [], ◌∷◌, map, refl, sym, ap, subst, ◌∙◌}
use Rattle.std.specs.List.{sum_by}
use Rattle.std.proofs.lemmas.List.Sums.{sum_by-cons}
use Rattle.tf_core.specs.declared.ty.Ty.{Ty, roll-Ty}
use Rattle.tf_core.specs.declared.ty.Ty.TheVariants as type
use Rattle.tf_core.specs.declared.ty.Ty.TheOpen.{Ty-F}
use Rattle.tf_core.specs.declared.ty.Ty.TheOpen as type_layer
use Rattle.tf_core.specs.declared.ty.Ty.TheFolds.{ind-Ty, map-Ty}
use Rattle.tf_core.specs.declared.term.Term.{Term, roll-Term}
use Rattle.tf_core.specs.declared.term.Term.TheVariants as term
use Rattle.tf_core.specs.declared.term.Term.TheOpen.{Term-F}
use Rattle.tf_core.specs.declared.term.Term.TheOpen as term_layer
use Rattle.tf_core.specs.declared.term.Term.TheFolds.{ind-Term, map-Term}
use Rattle.tf_core.specs.declared.nnf.Nnf.{Nnf, roll-Nnf}
use Rattle.tf_core.specs.declared.nnf.Nnf.TheVariants as nnf
use Rattle.tf_core.specs.declared.nnf.Nnf.TheOpen.{Nnf-F}
use Rattle.tf_core.specs.declared.nnf.Nnf.TheOpen as nnf_layer
use Rattle.tf_core.specs.declared.nnf.Nnf.TheFolds.{ind-Nnf, map-Nnf}
use Rattle.tf_core.specs.Types.{instantiate}
use Rattle.tf_core.specs.Substitution.{substitute_term, substitute_types}
use Rattle.tf_nnf.specs.Nodes.{term_nodes, nnf_nodes}
use Rattle.tf_nnf.proofs.NodeCounts.{term_nodes-apply, nnf_nodes-atom, nnf_nodes-equation, nnf_nodes-and, nnf_nodes-or, nnf_nodes-for_all, nnf_nodes-exists}
use Rattle.tf_nnf.proofs.Substitution.{instantiate-var, instantiate-apply, substitute_term-var, substitute_term-apply, substitute_types-true, substitute_types-false, substitute_types-atom, substitute_types-equation, substitute_types-and, substitute_types-or, substitute_types-for_all, substitute_types-exists}

-- a map over items that it leaves as they are
map-kept : {A : Type 0} (f : A → A) → ((x : A) → f x ≡ x) → (items : List A) → map f items ≡ items
map-kept f kept [] = refl
map-kept f kept (item ∷ items) =
    ap (λ x. x ∷ map f items) (kept item) ∙ ap (λ rest. item ∷ rest) (map-kept f kept items)

-- a map over parts, each of which it leaves as it is
map-parts : {A : Type 0} (f : A → A) (parts : List ((x : A) × (f x ≡ x))) →
    map f (map (λ (part : (x : A) × (f x ≡ x)). part.0) parts)
    ≡ map (λ (part : (x : A) × (f x ≡ x)). part.0) parts
map-parts f [] = refl
map-parts {A = A} f (part ∷ parts) =
    ap (λ x. x ∷ map f (map (λ (p : (x : A) × (f x ≡ x)). p.0) parts)) part.1
    ∙ ap (λ rest. part.0 ∷ rest) (map-parts f parts)

-- types

abbrev TypeKept : Ty → Type 0
TypeKept ty = instantiate [] ty ≡ ty

type_layer_kept : (y : Ty-F ((ty : Ty) × TypeKept ty)) →
    TypeKept (roll-Ty (map-Ty ((ty : Ty) × TypeKept ty) Ty (λ part. part.0) y))
type_layer_kept (type_layer.Var i) =
    subst TypeKept (sym (type.rolls-Var i)) (instantiate-var [] i)
type_layer_kept (type_layer.Apply c parts) =
    let arguments : List Ty = map (λ (part : (ty : Ty) × TypeKept ty). part.0) parts in
    subst TypeKept (sym (type.rolls-Apply c arguments))
    (instantiate-apply [] c arguments ∙ ap (type.Apply c) (map-parts (instantiate []) parts))

pub instantiate-nothing : (ty : Ty) → instantiate [] ty ≡ ty
instantiate-nothing =
    ind-Ty TypeKept (λ x y is. subst (λ z. TypeKept (roll-Ty z)) is (type_layer_kept y))

-- terms

abbrev TermKept : Term → Type 0
TermKept t = substitute_term [] t ≡ t

term_layer_kept : (y : Term-F ((t : Term) × TermKept t)) →
    TermKept (roll-Term (map-Term ((t : Term) × TermKept t) Term (λ part. part.0) y))
term_layer_kept (term_layer.Var i) =
    subst TermKept (sym (term.rolls-Var i)) (substitute_term-var [] i)
term_layer_kept (term_layer.Apply f types parts) =
    let terms : List Term = map (λ (part : (t : Term) × TermKept t). part.0) parts in
    subst TermKept (sym (term.rolls-Apply f types terms))
    (substitute_term-apply [] f types terms
    ∙ ap (λ x. term.Apply f x (map (substitute_term []) terms)) (map-kept (instantiate []) instantiate-nothing types)
    ∙ ap (term.Apply f types) (map-parts (substitute_term []) parts))

pub substitute_term-nothing : (t : Term) → substitute_term [] t ≡ t
substitute_term-nothing =
    ind-Term TermKept (λ x y is. subst (λ z. TermKept (roll-Term z)) is (term_layer_kept y))

-- formulas

abbrev NnfKept : Nnf → Type 0
NnfKept n = substitute_types [] n ≡ n

nnf_layer_kept : (y : Nnf-F ((n : Nnf) × NnfKept n)) →
    NnfKept (roll-Nnf (map-Nnf ((n : Nnf) × NnfKept n) Nnf (λ part. part.0) y))
nnf_layer_kept nnf_layer.True = subst NnfKept (sym nnf.rolls-True) (substitute_types-true [])
nnf_layer_kept nnf_layer.False = subst NnfKept (sym nnf.rolls-False) (substitute_types-false [])
nnf_layer_kept (nnf_layer.Atom positive f types terms) =
    subst NnfKept (sym (nnf.rolls-Atom positive f types terms))
    (substitute_types-atom [] positive f types terms
    ∙ ap (λ x. nnf.Atom positive f x (map (substitute_term []) terms)) (map-kept (instantiate []) instantiate-nothing types)
    ∙ ap (nnf.Atom positive f types) (map-kept (substitute_term []) substitute_term-nothing terms))
nnf_layer_kept (nnf_layer.Equation positive ty left right) =
    subst NnfKept (sym (nnf.rolls-Equation positive ty left right))
    (substitute_types-equation [] positive ty left right
    ∙ ap (λ x. nnf.Equation positive x (substitute_term [] left) (substitute_term [] right)) (instantiate-nothing ty)
    ∙ ap (λ x. nnf.Equation positive ty x (substitute_term [] right)) (substitute_term-nothing left)
    ∙ ap (nnf.Equation positive ty left) (substitute_term-nothing right))
nnf_layer_kept (nnf_layer.And parts) =
    let formulas : List Nnf = map (λ (part : (n : Nnf) × NnfKept n). part.0) parts in
    subst NnfKept (sym (nnf.rolls-And formulas))
    (substitute_types-and [] formulas ∙ ap nnf.And (map-parts (substitute_types []) parts))
nnf_layer_kept (nnf_layer.Or parts) =
    let formulas : List Nnf = map (λ (part : (n : Nnf) × NnfKept n). part.0) parts in
    subst NnfKept (sym (nnf.rolls-Or formulas))
    (substitute_types-or [] formulas ∙ ap nnf.Or (map-parts (substitute_types []) parts))
nnf_layer_kept (nnf_layer.ForAll ty part) =
    subst NnfKept (sym (nnf.rolls-ForAll ty part.0))
    (substitute_types-for_all [] ty part.0
    ∙ ap (λ x. nnf.ForAll x (substitute_types [] part.0)) (instantiate-nothing ty)
    ∙ ap (nnf.ForAll ty) part.1)
nnf_layer_kept (nnf_layer.Exists ty part) =
    subst NnfKept (sym (nnf.rolls-Exists ty part.0))
    (substitute_types-exists [] ty part.0
    ∙ ap (λ x. nnf.Exists x (substitute_types [] part.0)) (instantiate-nothing ty)
    ∙ ap (nnf.Exists ty) part.1)

pub substitute_types-nothing : (n : Nnf) → substitute_types [] n ≡ n
substitute_types-nothing =
    ind-Nnf NnfKept (λ x y is. subst (λ z. NnfKept (roll-Nnf z)) is (nnf_layer_kept y))

-- nodes

-- a count over parts, each of which counts as much as before
sum_by-parts : {A : Type 0} (f : A → ℕ) (g : A → A) (parts : List ((x : A) × (f (g x) ≡ f x))) →
    sum_by f (map g (map (λ (part : (x : A) × (f (g x) ≡ f x)). part.0) parts))
    ≡ sum_by f (map (λ (part : (x : A) × (f (g x) ≡ f x)). part.0) parts)
sum_by-parts f g [] = refl
sum_by-parts {A = A} f g (part ∷ parts) =
    let rest : List A = map (λ (p : (x : A) × (f (g x) ≡ f x)). p.0) parts in
    sum_by-cons f (g part.0) (map g rest)
    ∙ ap (λ n. n + sum_by f (map g rest)) part.1
    ∙ ap (λ n. f part.0 + n) (sum_by-parts f g parts)
    ∙ sym (sum_by-cons f part.0 rest)

sum_by-all : {A : Type 0} (f : A → ℕ) (g : A → A) → ((x : A) → f (g x) ≡ f x) → (items : List A) →
    sum_by f (map g items) ≡ sum_by f items
sum_by-all f g same [] = refl
sum_by-all f g same (item ∷ items) =
    sum_by-cons f (g item) (map g items)
    ∙ ap (λ n. n + sum_by f (map g items)) (same item)
    ∙ ap (λ n. f item + n) (sum_by-all f g same items)
    ∙ sym (sum_by-cons f item items)

module _ (types : List Ty) where
  abbrev TermCounts : Term → Type 0
  TermCounts t = term_nodes (substitute_term types t) ≡ term_nodes t

  term_layer_counts : (y : Term-F ((t : Term) × TermCounts t)) →
      TermCounts (roll-Term (map-Term ((t : Term) × TermCounts t) Term (λ part. part.0) y))
  term_layer_counts (term_layer.Var i) =
      subst TermCounts (sym (term.rolls-Var i)) (ap term_nodes (substitute_term-var types i))
  term_layer_counts (term_layer.Apply f arguments parts) =
      let terms : List Term = map (λ (part : (t : Term) × TermCounts t). part.0) parts in
      subst TermCounts (sym (term.rolls-Apply f arguments terms))
      (ap term_nodes (substitute_term-apply types f arguments terms)
      ∙ term_nodes-apply f (map (instantiate types) arguments) (map (substitute_term types) terms)
      ∙ ap (λ n. 1 + n) (sum_by-parts term_nodes (substitute_term types) parts)
      ∙ sym (term_nodes-apply f arguments terms))

  pub term_nodes-substitute_term : (t : Term) → term_nodes (substitute_term types t) ≡ term_nodes t
  term_nodes-substitute_term =
      ind-Term TermCounts (λ x y is. subst (λ z. TermCounts (roll-Term z)) is (term_layer_counts y))

  abbrev NnfCounts : Nnf → Type 0
  NnfCounts n = nnf_nodes (substitute_types types n) ≡ nnf_nodes n

  nnf_layer_counts : (y : Nnf-F ((n : Nnf) × NnfCounts n)) →
      NnfCounts (roll-Nnf (map-Nnf ((n : Nnf) × NnfCounts n) Nnf (λ part. part.0) y))
  nnf_layer_counts nnf_layer.True =
      subst NnfCounts (sym nnf.rolls-True) (ap nnf_nodes (substitute_types-true types))
  nnf_layer_counts nnf_layer.False =
      subst NnfCounts (sym nnf.rolls-False) (ap nnf_nodes (substitute_types-false types))
  nnf_layer_counts (nnf_layer.Atom positive f arguments terms) =
      subst NnfCounts (sym (nnf.rolls-Atom positive f arguments terms))
      (ap nnf_nodes (substitute_types-atom types positive f arguments terms)
      ∙ nnf_nodes-atom positive f (map (instantiate types) arguments) (map (substitute_term types) terms)
      ∙ ap (λ n. 1 + n) (sum_by-all term_nodes (substitute_term types) term_nodes-substitute_term terms)
      ∙ sym (nnf_nodes-atom positive f arguments terms))
  nnf_layer_counts (nnf_layer.Equation positive ty left right) =
      subst NnfCounts (sym (nnf.rolls-Equation positive ty left right))
      (ap nnf_nodes (substitute_types-equation types positive ty left right)
      ∙ nnf_nodes-equation positive (instantiate types ty) (substitute_term types left) (substitute_term types right)
      ∙ ap (λ n. 1 + (n + term_nodes (substitute_term types right))) (term_nodes-substitute_term left)
      ∙ ap (λ n. 1 + (term_nodes left + n)) (term_nodes-substitute_term right)
      ∙ sym (nnf_nodes-equation positive ty left right))
  nnf_layer_counts (nnf_layer.And parts) =
      let formulas : List Nnf = map (λ (part : (n : Nnf) × NnfCounts n). part.0) parts in
      subst NnfCounts (sym (nnf.rolls-And formulas))
      (ap nnf_nodes (substitute_types-and types formulas)
      ∙ nnf_nodes-and (map (substitute_types types) formulas)
      ∙ ap (λ n. 1 + n) (sum_by-parts nnf_nodes (substitute_types types) parts)
      ∙ sym (nnf_nodes-and formulas))
  nnf_layer_counts (nnf_layer.Or parts) =
      let formulas : List Nnf = map (λ (part : (n : Nnf) × NnfCounts n). part.0) parts in
      subst NnfCounts (sym (nnf.rolls-Or formulas))
      (ap nnf_nodes (substitute_types-or types formulas)
      ∙ nnf_nodes-or (map (substitute_types types) formulas)
      ∙ ap (λ n. 1 + n) (sum_by-parts nnf_nodes (substitute_types types) parts)
      ∙ sym (nnf_nodes-or formulas))
  nnf_layer_counts (nnf_layer.ForAll ty part) =
      subst NnfCounts (sym (nnf.rolls-ForAll ty part.0))
      (ap nnf_nodes (substitute_types-for_all types ty part.0)
      ∙ nnf_nodes-for_all (instantiate types ty) (substitute_types types part.0)
      ∙ ap (λ n. 1 + n) part.1
      ∙ sym (nnf_nodes-for_all ty part.0))
  nnf_layer_counts (nnf_layer.Exists ty part) =
      subst NnfCounts (sym (nnf.rolls-Exists ty part.0))
      (ap nnf_nodes (substitute_types-exists types ty part.0)
      ∙ nnf_nodes-exists (instantiate types ty) (substitute_types types part.0)
      ∙ ap (λ n. 1 + n) part.1
      ∙ sym (nnf_nodes-exists ty part.0))

  pub nnf_nodes-substitute_types : (n : Nnf) → nnf_nodes (substitute_types types n) ≡ nnf_nodes n
  nnf_nodes-substitute_types =
      ind-Nnf NnfCounts (λ x y is. subst (λ z. NnfCounts (roll-Nnf z)) is (nnf_layer_counts y))
