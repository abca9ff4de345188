-- The meaning of a name in a scope, searched from the innermost name outwards.
use Rattle.std.proofs.Common.{◌≡◌, ℕ, zero, suc, ◌+◌, ◌-◌, ◌<◌, ◌≤◌, true, false, List, [], ◌∷◌, ◌++◌, length, map, take, drop, reverse, get_or, bytes_eq, Some, None, refl, sym, ap, ◌∙◌, subst, arith, if◌then◌else◌}
use Rattle.std.proofs.lemmas.List.{map-append, reverse-append, length-reverse, length-map}
use Rattle.tf_core.specs.declared.ty.Ty.{Ty}
use Rattle.tf_types.specs.declared.node.TypeId.{TypeId}
use Rattle.tf_types.specs.Numbers.{type_at}
use Rattle.tf_check.specs.Scope.{Binding, Scope, TypeVariable, TermVariable, Meaning, Unbound, OfType, OfTerm, meaning, under_binder, type_variables}
use Rattle.tf_check.specs.declared.scope.Binding as code
use Rattle.tf_check.specs.Bound.{named_binding, binding_of, scope_of}
use Rattle.tf_check.proofs.AnswerLemmas.{taken_next}

-- a meaning under so many term variables more
abbrev pub raised : ℕ → Meaning → Meaning
raised by Unbound = Unbound
raised by (OfType i) = OfType i
raised by (OfTerm i ty) = OfTerm (i + by) ty

pub raised-zero : (m : Meaning) → raised 0 m ≡ m
raised-zero Unbound = refl
raised-zero (OfType i) = refl
raised-zero (OfTerm i ty) = ap (λ k. OfTerm k ty) (omega arith)

pub raised-more : (by : ℕ) (m : Meaning) → raised by (under_binder m) ≡ raised (by + 1) m
raised-more by Unbound = refl
raised-more by (OfType i) = refl
raised-more by (OfTerm i ty) = ap (λ k. OfTerm k ty) (omega arith)

-- one more binding on the stack
pub scope_of-push : (types : List Ty) (bindings : List code.Binding) (binding : code.Binding) →
    scope_of types (bindings ++ binding ∷ []) ≡ binding_of types binding ∷ scope_of types bindings
scope_of-push types bindings binding =
    ap reverse (map-append (binding_of types) bindings (binding ∷ []))
    ∙ reverse-append (map (binding_of types) bindings) (binding_of types binding ∷ [])

-- the innermost of the bindings up to an index
pub scope_of-taken : (types : List Ty) (items : List code.Binding) (i : ℕ) (b : code.Binding) →
    i < length items → b ≡ get_or items i b →
    scope_of types (take (i + 1) items) ≡ binding_of types b ∷ scope_of types (take i items)
scope_of-taken types items i b within is =
    ap reverse (taken_next (binding_of types) items i b within is)
    ∙ reverse-append (map (binding_of types) (take i items)) (binding_of types b ∷ [])

-- one step of the search, from a binding that is not of the name

pub passed_type : (name bound : List ℕ) (outer : Scope) → bytes_eq name bound ≡ false →
    meaning (TypeVariable bound ∷ outer) name ≡ meaning outer name
passed_type name bound outer differs =
    ap (λ b. if b then OfType (type_variables outer) else meaning outer name) differs

pub passed_term : (name bound : List ℕ) (ty : Ty) (outer : Scope) → bytes_eq name bound ≡ false →
    meaning (TermVariable bound ty ∷ outer) name ≡ under_binder (meaning outer name)
passed_term name bound ty outer differs =
    ap (λ b. if b then OfTerm 0 ty else under_binder (meaning outer name)) differs

pub here_type : (name bound : List ℕ) (outer : Scope) → bytes_eq name bound ≡ true →
    meaning (TypeVariable bound ∷ outer) name ≡ OfType (type_variables outer)
here_type name bound outer same =
    ap (λ b. if b then OfType (type_variables outer) else meaning outer name) same

pub here_term : (name bound : List ℕ) (ty : Ty) (outer : Scope) → bytes_eq name bound ≡ true →
    meaning (TermVariable bound ty ∷ outer) name ≡ OfTerm 0 ty
here_term name bound ty outer same =
    ap (λ b. if b then OfTerm 0 ty else under_binder (meaning outer name)) same

-- ---- the search

-- the innermost of the bindings that are left
module _ (types : List Ty) (items : List code.Binding) (left : ℕ) (b : code.Binding)
    (some : 0 < left) (within : left ≤ length items) (is : b ≡ get_or items (left - 1) b)
  where
    pub left_is : scope_of types (take left items)
        ≡ binding_of types b ∷ scope_of types (take (left - 1) items)
    left_is =
        let next : left - 1 + 1 ≡ left = omega arith in
        subst (λ k. scope_of types (take k items)
        ≡ binding_of types b ∷ scope_of types (take (left - 1) items)) next
        (scope_of-taken types items (left - 1) b (omega arith) is)

    pub left_type : b.ty ≡ None → scope_of types (take left items)
        ≡ TypeVariable b.name.now ∷ scope_of types (take (left - 1) items)
    left_type kind =
        left_is
        ∙ ap (λ ty. named_binding types b.name.now ty ∷ scope_of types (take (left - 1) items)) kind

    pub left_term : (id : TypeId) → b.ty ≡ Some id → scope_of types (take left items)
        ≡ TermVariable b.name.now (type_at types id) ∷ scope_of types (take (left - 1) items)
    left_term id kind =
        left_is
        ∙ ap (λ ty. named_binding types b.name.now ty ∷ scope_of types (take (left - 1) items)) kind

-- what a search has found that stands before a binding
module _ (scope outer inner : Scope) (name : List ℕ) (terms : ℕ)
    (passed : meaning scope name ≡ raised terms (meaning outer name))
  where
    pub finds_type : (bound : List ℕ) (types : ℕ) → outer ≡ TypeVariable bound ∷ inner →
        types ≡ type_variables outer → bytes_eq name bound ≡ true →
        OfType (types - 1) ≡ meaning scope name
    finds_type bound types is counted same =
        let number : types - 1
        ≡ type_variables inner = omega (arith, counted, ap type_variables is) in
        ap OfType number
        ∙ sym (passed ∙ ap (λ o. raised terms (meaning o name)) is
        ∙ ap (raised terms) (here_type name bound inner same))

    pub finds_term : (bound : List ℕ) (ty : Ty) → outer ≡ TermVariable bound ty ∷ inner →
        bytes_eq name bound ≡ true → OfTerm terms ty ≡ meaning scope name
    finds_term bound ty is same =
        let number : terms ≡ 0 + terms = omega arith in
        ap (λ k. OfTerm k ty) number
        ∙ sym (passed ∙ ap (λ o. raised terms (meaning o name)) is
        ∙ ap (raised terms) (here_term name bound ty inner same))

    pub passes_type : (bound : List ℕ) → outer ≡ TypeVariable bound ∷ inner →
        bytes_eq name bound ≡ false → meaning scope name ≡ raised terms (meaning inner name)
    passes_type bound is differs =
        passed ∙ ap (λ o. raised terms (meaning o name)) is
        ∙ ap (raised terms) (passed_type name bound inner differs)

    pub passes_term : (bound : List ℕ) (ty : Ty) → outer ≡ TermVariable bound ty ∷ inner →
        bytes_eq name bound ≡ false → meaning scope name ≡ raised (terms + 1) (meaning inner name)
    passes_term bound ty is differs =
        passed ∙ ap (λ o. raised terms (meaning o name)) is
        ∙ ap (raised terms) (passed_term name bound ty inner differs)
        ∙ raised-more terms (meaning inner name)

-- ---- names that are unbound

drop-more : (n : ℕ) (scope : Scope) → drop 1 (drop n scope) ≡ drop (n + 1) scope
drop-more zero scope = refl
drop-more (suc n) [] =
    let next : suc (n + 1) ≡ suc n + 1 = omega arith in ap (λ k. drop {A = Binding} k []) next
drop-more (suc n) (binding ∷ scope) =
    let next : suc (n + 1) ≡ suc n + 1 = omega arith in
    drop-more n scope ∙ ap (λ k. drop k (binding ∷ scope)) next

-- one name less is left
pub cut_next : (whole scope after : Scope) → length scope ≤ length whole → 0 < length scope →
    scope ≡ drop (length whole - length scope) whole → after ≡ drop 1 scope →
    length after + 1 ≡ length scope → after ≡ drop (length whole - length after) whole
cut_next whole scope after within some left next size =
    let places : length whole - length scope + 1 ≡ length whole - length after = omega arith in
    next ∙ ap (drop 1) left ∙ drop-more (length whole - length scope) whole
    ∙ ap (λ k. drop k whole) places

pub length-drop_one : (scope : Scope) → 0 < length scope → length (drop 1 scope) + 1 ≡ length scope
length-drop_one [] some = absurd (omega arith)
length-drop_one (binding ∷ scope) some = omega arith

pub type_variables_within : (scope : Scope) → type_variables scope ≤ length scope
type_variables_within [] = omega arith
type_variables_within (TypeVariable name ∷ outer) = omega (arith, type_variables_within outer)
type_variables_within (TermVariable name ty ∷ outer) = omega (arith, type_variables_within outer)

pub length-scope_of : (types : List Ty) (bindings : List code.Binding) →
    length (scope_of types bindings) ≡ length bindings
length-scope_of types bindings =
    length-reverse (map (binding_of types) bindings) ∙ length-map bindings (binding_of types)
