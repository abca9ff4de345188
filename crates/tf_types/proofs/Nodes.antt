-- Nodes and the types that they give.
use Rattle.std.specs.Prelude.{ℕ, ◌+◌, ◌≡◌, ◌<◌, ◌≤◌, ◌↔◌, ◌⊎◌, Bool, IsTrue, eqb, true, false, if◌then◌else◌, List, [], ◌∷◌, ◌++◌, length, get_or, slice_get, Some}
use Rattle.std.specs.List.{list_any}
use Rattle.std.proofs.Common.{refl, sym, ap, subst, ◌∙◌, arith, inl, inr, length-append, true≢false}
use Rattle.std.proofs.lemmas.Bool.Decides.{Decides-eqb}
use Rattle.std.proofs.lemmas.List.{same_from_push}
use Rattle.std.proofs.lemmas.List.Folds.{list_any_at}
use Rattle.std.proofs.lemmas.Option.{slice_get_within, slice_get-get_or, get_or_from_slice_get, same_Some}
use Rattle.indexmap.specs.IndexSet.{insert_key}
use Rattle.tf_core.specs.declared.ty.Ty.{Ty, out-Ty}
use Rattle.tf_core.specs.declared.ty.Ty.TheVariants as type
use Rattle.tf_core.specs.declared.ty.Ty.TheOpen as layer
use Rattle.tf_core.specs.declared.ty.Ty.TheViews.{outs-Var, outs-Apply}
use Rattle.tf_types.specs.declared.node.TypeId.{TypeId}
use Rattle.tf_types.specs.declared.node.Node.{Node}
use Rattle.tf_types.specs.declared.node.Node.TheVariants.{Variable, Constructor, Applied}
use Rattle.tf_types.specs.Numbers.{Denotes, IsNumber, type_at, IsOneToOne, Extends}
use Rattle.tf_types.specs.Nodes.{with_argument, with_argument_step, given, given_after, types_of, IsFormedBelow, IsFormed, AreNumbered}
use Rattle.tf_types.proofs.Numbers.{slice_get-append, slice_get-append_last, in_front_or_last, type_at-extended, Denotes-type_at, Extends-itself}

-- types apart

pub variable_parts : (i j : ℕ) → type.Var i ≡ type.Var j → i ≡ j
variable_parts i j same =
    let out : layer.Var i ≡ layer.Var j = sym (outs-Var i) ∙ ap out-Ty same ∙ outs-Var j in cc

pub variable_differs : (i c : ℕ) (types : List Ty) → type.Var i ≡ type.Apply c types → ⊥
variable_differs i c types same =
    let out : layer.Var i ≡ layer.Apply c types =
    sym (outs-Var i) ∙ ap out-Ty same ∙ outs-Apply c types in cc

pub apply_parts : (c d : ℕ) (types others : List Ty) → type.Apply c types ≡ type.Apply d others →
    (c ≡ d) × (types ≡ others)
apply_parts c d types others same =
    let out : layer.Apply c types ≡ layer.Apply d others =
    sym (outs-Apply c types) ∙ ap out-Ty same ∙ outs-Apply d others in
    let first : c ≡ d = cc in
    let second : types ≡ others = cc in
    (first, second)

pub nothing_differs : {A : Type 0} (front : List A) (last : A) → [] ≡ front ++ last ∷ [] → ⊥
nothing_differs [] last same = cc
nothing_differs (x ∷ front) last same = cc

-- one argument more

pub with_argument-variable : (i : ℕ) (argument : Ty) →
    with_argument (type.Var i) argument ≡ type.Var i
unfolding with_argument
with_argument-variable i argument = ap (with_argument_step argument) (outs-Var i)

pub with_argument-apply : (c : ℕ) (arguments : List Ty) (argument : Ty) →
    with_argument (type.Apply c arguments) argument ≡ type.Apply c (arguments ++ argument ∷ [])
unfolding with_argument
with_argument-apply c arguments argument = ap (with_argument_step argument) (outs-Apply c arguments)

pub with_argument-is : (ty argument : Ty) (c : ℕ) (arguments : List Ty) →
    ty ≡ type.Apply c arguments →
    with_argument ty argument ≡ type.Apply c (arguments ++ argument ∷ [])
with_argument-is ty argument c arguments is =
    ap (λ t. with_argument t argument) is ∙ with_argument-apply c arguments argument

-- nodes that give one type are one node

module _ (types : List Ty) (apart : IsOneToOne types) where
  pub same_numbers : (a b : TypeId) → IsNumber types a → IsNumber types b →
      type_at types a ≡ type_at types b → a ≡ b
  same_numbers a b within other same =
      ap (λ index. record { index = index })
      (apart a.index b.index (type_at types b)
      (subst (Denotes types a) same (Denotes-type_at types a within))
      (Denotes-type_at types b other))

  pub same_numbers-same_types : (a b : TypeId) → IsNumber types a → IsNumber types b →
      (same : Bool) →
      same ≡ eqb a.index b.index → IsTrue same ↔ (type_at types a ≡ type_at types b)
  same_numbers-same_types a b within other same is =
      subst (λ test. IsTrue test ↔ (type_at types a ≡ type_at types b)) (sym is) (
        λ equal. ap (λ k. get_or types k (type.Var 0)) ((Decides-eqb a.index b.index).0 equal),
        λ equal. (Decides-eqb a.index b.index).1
            (ap (λ id. id.index) (same_numbers a b within other equal)),
      )

  pub node-given : (m n : Node) → IsFormed types m → IsFormed types n →
      given types m ≡ given types n → m ≡ n
  node-given (Variable i) (Variable j) p q same = ap Variable (variable_parts i j same)
  node-given (Variable i) (Constructor d) p q same = absurd (variable_differs i d [] same)
  node-given (Variable i) (Applied g b) p q same =
      absurd (variable_differs i q.2.0 (q.2.1 ++ type_at types b ∷ [])
      (same ∙ with_argument-is (type_at types g) (type_at types b) q.2.0 q.2.1 q.2.2))
  node-given (Constructor c) (Variable j) p q same = absurd (variable_differs j c [] (sym same))
  node-given (Constructor c) (Constructor d) p q same =
      ap Constructor (apply_parts c d [] [] same).0
  node-given (Constructor c) (Applied g b) p q same =
      absurd (nothing_differs q.2.1 (type_at types b)
      (apply_parts c q.2.0 [] (q.2.1 ++ type_at types b ∷ [])
      (same ∙ with_argument-is (type_at types g) (type_at types b) q.2.0 q.2.1 q.2.2)).1)
  node-given (Applied f a) (Variable j) p q same =
      absurd (variable_differs j p.2.0 (p.2.1 ++ type_at types a ∷ [])
      (sym same ∙ with_argument-is (type_at types f) (type_at types a) p.2.0 p.2.1 p.2.2))
  node-given (Applied f a) (Constructor d) p q same =
      absurd (nothing_differs p.2.1 (type_at types a)
      (apply_parts d p.2.0 [] (p.2.1 ++ type_at types a ∷ [])
      (sym same ∙ with_argument-is (type_at types f) (type_at types a) p.2.0 p.2.1 p.2.2)).1)
  node-given (Applied f a) (Applied g b) p q same =
      let parts : (p.2.0 ≡ q.2.0)
      × (p.2.1 ++ type_at types a ∷ [] ≡ q.2.1 ++ type_at types b ∷ []) =
      apply_parts p.2.0 q.2.0 (p.2.1 ++ type_at types a ∷ []) (q.2.1 ++ type_at types b ∷ [])
      (sym (with_argument-is (type_at types f) (type_at types a) p.2.0 p.2.1 p.2.2) ∙ same
      ∙ with_argument-is (type_at types g) (type_at types b) q.2.0 q.2.1 q.2.2) in
      let split : (p.2.1 ≡ q.2.1) × (type_at types a ≡ type_at types b) =
      same_from_push p.2.1 q.2.1 (type_at types a) (type_at types b) parts.1 in
      let functions : f ≡ g =
      same_numbers f g p.0 q.0
      (p.2.2 ∙ ap (λ n. type.Apply n p.2.1) parts.0 ∙ ap (type.Apply q.2.0) split.0 ∙ sym q.2.2) in
      let arguments : a ≡ b = same_numbers a b p.1 q.1 split.1 in
      ap (λ function. Applied function a) functions ∙ ap (Applied g) arguments

-- nodes of a table that grows

module _ (old new : List Ty) (grows : Extends old new) where
  pub given-extended : (node : Node) → IsFormed old node → given new node ≡ given old node
  given-extended (Variable i) formed = refl
  given-extended (Constructor c) formed = refl
  given-extended (Applied f a) formed =
      ap (λ function. with_argument function (type_at new a))
      (type_at-extended old new grows f formed.0)
      ∙ ap (with_argument (type_at old f)) (type_at-extended old new grows a formed.1)

  pub IsFormedBelow-extended : (bound : ℕ) (node : Node) → bound ≤ length old →
      IsFormedBelow bound old node → IsFormedBelow bound new node
  IsFormedBelow-extended bound (Variable i) within formed = tt
  IsFormedBelow-extended bound (Constructor c) within formed = tt
  IsFormedBelow-extended bound (Applied f a) within formed = (
    formed.0,
    formed.1,
    (
      formed.2.0,
      formed.2.1,
      type_at-extended old new grows f (omega (arith, formed.0, within)) ∙ formed.2.2,
    ),
  )

pub IsFormedBelow-wider : (types : List Ty) (below bound : ℕ) (node : Node) → below ≤ bound →
    IsFormedBelow below types node → IsFormedBelow bound types node
IsFormedBelow-wider types below bound (Variable i) within formed = tt
IsFormedBelow-wider types below bound (Constructor c) within formed = tt
IsFormedBelow-wider types below bound (Applied f a) within formed =
    (omega (arith, formed.0, within), omega (arith, formed.1, within), formed.2)

-- a node is added

pub given_after-push : (types : List Ty) (nodes : List Node) (node : Node) →
    given_after types (nodes ++ node ∷ [])
    ≡ given_after types nodes ++ given (given_after types nodes) node ∷ []
given_after-push types [] node = refl
given_after-push types (first ∷ nodes) node =
    given_after-push (types ++ given types first ∷ []) nodes node

pub types_of-push : (nodes : List Node) (node : Node) →
    types_of (nodes ++ node ∷ []) ≡ types_of nodes ++ given (types_of nodes) node ∷ []
unfolding types_of
types_of-push nodes node = given_after-push [] nodes node

pub AreNumbered-nothing : AreNumbered [] (types_of [])
unfolding types_of
AreNumbered-nothing = record {
  count = refl;
  formed = λ k node at. absurd (none_in_nothing k node at);
  gives = λ k node at. absurd (none_in_nothing k node at);
  one_to_one = λ a b ty at_a at_b. absurd (no_type a ty at_a);
}
  where
    none_in_nothing : (k : ℕ) (node : Node) → slice_get [] k ≡ Some node → ⊥
    none_in_nothing k node at =
        let within : k < 0 = slice_get_within [] k node at in omega (arith, within)

    no_type : (k : ℕ) (ty : Ty) → slice_get [] k ≡ Some ty → ⊥
    no_type k ty at = let within : k < 0 = slice_get_within [] k ty at in omega (arith, within)

module _ (nodes : List Node) (types : List Ty) (node : Node) (numbered : AreNumbered nodes types)
    (formed : IsFormed types node)
  where
    abbrev grown : List Ty
    grown = types ++ given types node ∷ []

    abbrev grows : Extends types grown
    grows = (given types node ∷ [], refl)

    -- no type stands for the node
    pub absent_type : ((k : ℕ) → slice_get nodes k ≡ Some node → ⊥) → (k : ℕ) →
        slice_get types k ≡ Some (given types node) → ⊥
    absent_type absent k at =
        let within : k < length nodes =
        subst (λ n. k < n) numbered.count (slice_get_within types k (given types node) at) in
        let there : slice_get nodes k ≡ Some (get_or nodes k node) =
        slice_get-get_or nodes k node within in
        let same : get_or nodes k node ≡ node =
        node-given types numbered.one_to_one (get_or nodes k node) node
        (IsFormedBelow-wider types k (length types) (get_or nodes k node)
        (let bound : k < length types = slice_get_within types k (given types node) at in
        omega (arith, bound))
        (numbered.formed k (get_or nodes k node) there))
        formed
        (same_Some (given types (get_or nodes k node)) (given types node)
        (sym (numbered.gives k (get_or nodes k node) there) ∙ at)) in
        absent k (there ∙ ap Some same)

    formed_in_grown : (k : ℕ) (other : Node) →
        (slice_get nodes k ≡ Some other) ⊎ ((k ≡ length nodes) × (node ≡ other)) →
        IsFormedBelow k grown other
    formed_in_grown k other (inl at) =
        let within : k < length nodes = slice_get_within nodes k other at in
        IsFormedBelow-extended types grown grows k other
        (omega (arith, within, numbered.count)) (numbered.formed k other at)
    formed_in_grown k other (inr last) =
        let here : length types ≡ k = numbered.count ∙ sym last.0 in
        subst (λ n. IsFormedBelow k grown n) last.1
        (subst (λ bound. IsFormedBelow bound grown node) here
        (IsFormedBelow-extended types grown grows (length types) node (omega arith) formed))

    given_in_grown : (k : ℕ) (other : Node) →
        (slice_get nodes k ≡ Some other) ⊎ ((k ≡ length nodes) × (node ≡ other)) →
        slice_get grown k ≡ Some (given grown other)
    given_in_grown k other (inl at) =
        let within : k < length nodes = slice_get_within nodes k other at in
        slice_get-append types (given types node ∷ []) k (given types other)
        (numbered.gives k other at)
        ∙ ap Some (sym (given-extended types grown grows other
        (IsFormedBelow-wider types k (length types) other (omega (arith, within, numbered.count))
        (numbered.formed k other at))))
    given_in_grown k other (inr last) =
        let here : k ≡ length types = last.0 ∙ sym numbered.count in
        ap (slice_get grown) here ∙ slice_get-append_last types (given types node)
        ∙ ap Some (sym (given-extended types grown grows node formed) ∙ ap (given grown) last.1)

    apart_in_grown : ((k : ℕ) → slice_get nodes k ≡ Some node → ⊥) → (a b : ℕ) (ty : Ty) →
        (slice_get types a ≡ Some ty) ⊎ ((a ≡ length types) × (given types node ≡ ty)) →
        (slice_get types b ≡ Some ty) ⊎ ((b ≡ length types) × (given types node ≡ ty)) → a ≡ b
    apart_in_grown absent a b ty (inl at_a) (inl at_b) = numbered.one_to_one a b ty at_a at_b
    apart_in_grown absent a b ty (inl at_a) (inr last) =
        absurd (absent_type absent a (at_a ∙ ap Some (sym last.1)))
    apart_in_grown absent a b ty (inr last) (inl at_b) =
        absurd (absent_type absent b (at_b ∙ ap Some (sym last.1)))
    apart_in_grown absent a b ty (inr last) (inr other) = last.0 ∙ sym other.0

    pub AreNumbered-push : ((k : ℕ) → slice_get nodes k ≡ Some node → ⊥) →
        AreNumbered (nodes ++ node ∷ []) (types ++ given types node ∷ [])
    AreNumbered-push absent = record {
      count = length-append types (given types node ∷ []) ∙ ap (λ n. n + 1) numbered.count
          ∙ sym (length-append nodes (node ∷ []));
      formed = λ k other at. formed_in_grown k other (in_front_or_last nodes node k other at);
      gives = λ k other at. given_in_grown k other (in_front_or_last nodes node k other at);
      one_to_one = λ a b ty at_a at_b. apart_in_grown absent a b ty
          (in_front_or_last types (given types node) a ty at_a)
          (in_front_or_last types (given types node) b ty at_b);
    }

-- a node is inserted: where it stands already, nothing changes

pub record IsInserted (nodes : List Node) (node : Node) (new : List Node) : Type 0 where
  pub numbered : AreNumbered new (types_of new)
  pub grows : Extends (types_of nodes) (types_of new)
  pub gives : (k : ℕ) → slice_get new k ≡ Some node →
      slice_get (types_of new) k ≡ Some (given (types_of nodes) node)

module _ (eq : Node → Node → Bool) (itself : (node : Node) → eq node node ≡ true)
    (nodes : List Node) (node : Node) (numbered : AreNumbered nodes (types_of nodes))
    (formed : IsFormed (types_of nodes) node)
  where
    present : IsInserted nodes node nodes
    present = record {
      numbered = numbered;
      grows = Extends-itself (types_of nodes);
      gives = λ k at. numbered.gives k node at;
    }

    absent : list_any (eq node) nodes ≡ false → IsInserted nodes node (nodes ++ node ∷ [])
    absent none = record {
      numbered = subst (AreNumbered (nodes ++ node ∷ [])) (sym (types_of-push nodes node))
          (AreNumbered-push nodes (types_of nodes) node numbered formed nowhere);
      grows = (given (types_of nodes) node ∷ [], types_of-push nodes node);
      gives = λ k at.
          ap (λ types. slice_get types k) (types_of-push nodes node)
          ∙ given_in_grown nodes (types_of nodes) node numbered formed k node
          (in_front_or_last nodes node k node at)
          ∙ ap Some (given-extended (types_of nodes)
          (types_of nodes ++ given (types_of nodes) node ∷ [])
          (given (types_of nodes) node ∷ [], refl) node formed);
    }
      where
        nowhere : (k : ℕ) → slice_get nodes k ≡ Some node → ⊥
        nowhere k at =
            true≢false
            (sym (list_any_at (eq node) nodes k node (slice_get_within nodes k node at)
            (ap (eq node) (get_or_from_slice_get nodes k node node at) ∙ itself node)) ∙ none)

    by_presence : (there : Bool) → list_any (eq node) nodes ≡ there →
        IsInserted nodes node (if there then nodes else nodes ++ node ∷ [])
    by_presence true is = present
    by_presence false is = absent is

    pub IsInserted-insert_key : IsInserted nodes node (insert_key eq nodes node)
    IsInserted-insert_key = by_presence (list_any (eq node) nodes) refl

pub types_of-nothing : types_of [] ≡ []
unfolding types_of
types_of-nothing = refl
