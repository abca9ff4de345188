-- Matching: what each step of it leaves of the types that match.
use Rattle.std.specs.Prelude.{ℕ, ◌≡◌, ◌<◌, ◌≤◌, ◌+◌, ◌-◌, ◌↔◌, ◌⊎◌, Bool, true, false, IsTrue, List, [], ◌∷◌, ◌++◌, map, length, take, get_or, slice_get, Option, Some, None}
use Rattle.std.proofs.Common.{refl, sym, ap, subst, ◌∙◌, arith, inl, inr, set, ◌≢◌}
use Rattle.std.proofs.lemmas.Bool.{false≢true}
use Rattle.std.proofs.lemmas.List.{take_all, take_more, same_from_push, map-append, length-set, get_or_past}
use Rattle.std.proofs.lemmas.Option.{slice_get_within, slice_get-get_or, get_or_from_slice_get, same_Some, none-some}
use Rattle.tf_core.specs.declared.ty.Ty.{Ty}
use Rattle.tf_core.specs.declared.ty.Ty.TheVariants as type
use Rattle.tf_core.specs.Types.{instantiate}
use Rattle.tf_core.proofs.Types.{instantiate-variable, instantiate-apply}
use Rattle.tf_types.specs.declared.node.TypeId.{TypeId}
use Rattle.tf_types.specs.declared.node.Node.{Node}
use Rattle.tf_types.specs.declared.node.Node.TheVariants.{Variable, Constructor, Applied}
use Rattle.tf_types.specs.Numbers.{IsNumber, type_at, IsOneToOne}
use Rattle.tf_types.specs.Nodes.{given, with_argument, IsFormed, IsFormedBelow}
use Rattle.tf_types.specs.Matching.{KeepsTo, AreBound, Narrows}
use Rattle.tf_types.proofs.Numbers.{in_set, slice_get-set_same, slice_get-set_other}
use Rattle.tf_types.proofs.EqualKeys.{eq_node, same_node, node_itself}
use Rattle.tf_types.proofs.Nodes.{node-given, variable_differs, apply_parts, nothing_differs, with_argument-is, IsFormedBelow-wider}

-- a number denotes what a node gives where that is its node

pub node-is : (types : List Ty) → IsOneToOne types → (id : TypeId) (kept node : Node) →
    IsNumber types id → IsFormedBelow id.index types kept → IsFormed types node →
    given types kept ≡ type_at types id → (test : Bool) → test ≡ eq_node kept node →
    IsTrue test ↔ (type_at types id ≡ given types node)
node-is types apart id kept node number formed other gives test is = (
  λ equal. sym gives ∙ ap (given types) (same_node kept node (sym is ∙ equal)),
  λ same. is
      ∙ ap (eq_node kept)
      (sym (node-given types apart kept node
      (IsFormedBelow-wider types id.index (length types) kept (omega (arith, number)) formed) other
      (gives ∙ same)))
      ∙ node_itself kept,
)

-- one variable

module _ (types : List Ty) (i : ℕ) (id : TypeId) (bound : List (Option TypeId)) where
  abbrev is_replaced : List Ty → Type 0
  is_replaced instances = instantiate instances (type.Var i) ≡ type_at types id

  replaced : (instances : List Ty) (ty : Ty) → slice_get instances i ≡ Some ty →
      instantiate instances (type.Var i) ≡ ty
  replaced instances ty at =
      instantiate-variable instances i ∙ get_or_from_slice_get instances i ty (type.Var i) at

  replacement_at : (instances : List Ty) → i < length instances → is_replaced instances →
      slice_get instances i ≡ Some (type_at types id)
  replacement_at instances within is =
      slice_get-get_or instances i (type.Var i) within
      ∙ ap Some (sym (instantiate-variable instances i) ∙ is)

  pub Narrows-bound : (other : TypeId) → slice_get bound i ≡ Some (Some other) → (same : Bool) →
      IsTrue same ↔ (type_at types other ≡ type_at types id) →
      Narrows types bound is_replaced same bound
  Narrows-bound other at same is instances = (
    λ both. (
      is.1
          (sym (replaced instances (type_at types other) (both.0.same i other at)) ∙ both.1),
      both.0,
    ),
    λ both. (
      both.1,
      replaced instances (type_at types other) (both.1.same i other at) ∙ is.0 both.0,
    ),
  )

  pub Narrows-beyond : length bound ≤ i → (same : Bool) →
      IsTrue same ↔ (type_at types id ≡ type.Var i) → Narrows types bound is_replaced same bound
  Narrows-beyond beyond same is instances = (
    λ both. (is.1 (sym both.1 ∙ itself both.0), both.0),
    λ both. (both.1, itself both.1 ∙ sym (is.0 both.0)),
  )
    where
      itself : KeepsTo types bound instances → instantiate instances (type.Var i) ≡ type.Var i
      itself keeps =
          instantiate-variable instances i
          ∙ get_or_past instances i (type.Var i) (omega (arith, beyond, keeps.count))

  pub Narrows-free : slice_get bound i ≡ Some None →
      Narrows types bound is_replaced true (set bound i (Some id))
  Narrows-free free instances = (
    λ both. (
      refl,
      record {
        count = both.0.count ∙ sym (length-set bound i (Some id));
        same = λ j other at. kept both.0 both.1 j other
            (in_set bound i j (Some id) (Some other) at);
      },
    ),
    λ both. (
      record {
        count = both.1.count ∙ length-set bound i (Some id);
        same = λ j other at. both.1.same j other
            (slice_get-set_other bound i j (Some id) (elsewhere j other at) ∙ at);
      },
      replaced instances (type_at types id)
          (both.1.same i id (slice_get-set_same bound i (Some id) within)),
    ),
  )
    where
      within : i < length bound
      within = slice_get_within bound i None free

      kept : KeepsTo types bound instances → is_replaced instances → (j : ℕ) (other : TypeId) →
          ((j ≡ i) × (Some id ≡ Some other)) ⊎ (slice_get bound j ≡ Some (Some other)) →
          slice_get instances j ≡ Some (type_at types other)
      kept keeps is j other (inl here) =
          ap (slice_get instances) here.0
          ∙ replacement_at instances (omega (arith, within, keeps.count)) is
          ∙ ap (λ number. Some (type_at types number)) (same_Some id other here.1)
      kept keeps is j other (inr there) = keeps.same j other there

      elsewhere : (j : ℕ) (other : TypeId) → slice_get bound j ≡ Some (Some other) → j ≢ i
      elsewhere j other at here =
          none-some other
          (same_Some None (Some other) (sym free ∙ ap (slice_get bound) (sym here) ∙ at))

  pub AreBound-more : IsNumber types id → AreBound types bound →
      AreBound types (set bound i (Some id))
  AreBound-more number numbers j other at = by (in_set bound i j (Some id) (Some other) at)
    where
      by : ((j ≡ i) × (Some id ≡ Some other)) ⊎ (slice_get bound j ≡ Some (Some other)) →
          IsNumber types other
      by (inl here) = subst (IsNumber types) (same_Some id other here.1) number
      by (inr there) = numbers j other there

-- a constructor that is applied to types, and to one more

module _ (instances : List Ty) (c : ℕ) (front : List Ty) (last : Ty) where
  pub instance_parts : (d : ℕ) (arguments : List Ty) (function argument : Ty) →
      function ≡ type.Apply d arguments →
      instantiate instances (type.Apply c (front ++ last ∷ [])) ≡ with_argument function argument →
      (instantiate instances (type.Apply c front) ≡ function)
      × (instantiate instances last ≡ argument)
  instance_parts d arguments function argument is same =
      let inst : Ty → Ty = instantiate instances in
      let parts : (c ≡ d) × (map inst front ++ inst last ∷ [] ≡ arguments ++ argument ∷ []) =
      apply_parts c d (map inst front ++ inst last ∷ []) (arguments ++ argument ∷ [])
      (sym (ap (type.Apply c) (map-append inst front (last ∷ [])))
      ∙ sym (instantiate-apply instances c (front ++ last ∷ []))
      ∙ same ∙ with_argument-is function argument d arguments is) in
      let pieces : (map inst front ≡ arguments) × (inst last ≡ argument) =
      same_from_push (map inst front) arguments (inst last) argument parts.1 in (
        instantiate-apply instances c front
            ∙ ap (λ n. type.Apply n (map inst front)) parts.0
            ∙ ap (type.Apply d) pieces.0 ∙ sym is,
        pieces.1,
      )

  pub instance_join : (function argument : Ty) →
      instantiate instances (type.Apply c front) ≡ function →
      instantiate instances last ≡ argument →
      instantiate instances (type.Apply c (front ++ last ∷ [])) ≡ with_argument function argument
  instance_join function argument is last_is =
      let inst : Ty → Ty = instantiate instances in
      instantiate-apply instances c (front ++ last ∷ [])
      ∙ ap (type.Apply c) (map-append inst front (last ∷ []))
      ∙ ap (λ ty. type.Apply c (map inst front ++ ty ∷ [])) last_is
      ∙ sym (with_argument-is function argument c (map inst front)
      (sym is ∙ instantiate-apply instances c front))

  -- no variable and no constructor alone
  pub instance_differs : (types : List Ty) (kept : Node) →
      ((function argument : TypeId) → kept ≡ Applied function argument → ⊥) →
      instantiate instances (type.Apply c (front ++ last ∷ [])) ≡ given types kept → ⊥
  instance_differs types (Variable i) none same =
      variable_differs i c (map (instantiate instances) (front ++ last ∷ []))
      (sym same ∙ instantiate-apply instances c (front ++ last ∷ []))
  instance_differs types (Constructor d) none same =
      let inst : Ty → Ty = instantiate instances in
      nothing_differs (map inst front) (inst last)
      (sym (apply_parts c d (map inst (front ++ last ∷ [])) []
      (sym (instantiate-apply instances c (front ++ last ∷ [])) ∙ same)).1
      ∙ map-append inst front (last ∷ []))
  instance_differs types (Applied function argument) none same = none function argument refl

-- while a type is matched from its last argument on

module _ (types : List Ty) (c : ℕ) (patterns : List Ty) (id : TypeId)
    (before : List (Option TypeId))
  where
    abbrev pub is_instance : List Ty → Type 0
    is_instance instances =
        instantiate instances (type.Apply c patterns) ≡ type_at types id

    -- what is left to match: the first of the patterns, against a number
    pub record IsLeft (left : ℕ) (at : TypeId) (now : List (Option TypeId)) : Type 0 where
      pub within : left ≤ length patterns
      pub number : IsNumber types at
      pub bound : AreBound types now
      pub exact : (instances : List Ty) → (KeepsTo types before instances × is_instance instances)
          ↔ (KeepsTo types now instances
          × (instantiate instances (type.Apply c (take left patterns)) ≡ type_at types at))

    pub IsLeft-all : (left : ℕ) → left ≡ length patterns → IsNumber types id →
        AreBound types before → IsLeft left id before
    IsLeft-all left is number numbers = record {
      within = omega (arith, is);
      number = number;
      bound = numbers;
      exact = λ instances. (
        λ both. (both.0, all instances ∙ both.1),
        λ both. (both.0, sym (all instances) ∙ both.1),
      );
    }
      where
        all : (instances : List Ty) →
            instantiate instances (type.Apply c (take left patterns))
            ≡ instantiate instances (type.Apply c patterns)
        all instances =
            ap (λ them. instantiate instances (type.Apply c them))
            (take_all left patterns (omega (arith, is)))

    module _ (left : ℕ) (at : TypeId) (now : List (Option TypeId))
        (so_far : IsLeft left at now)
      where
        pub Narrows-nothing_left : left ≤ 0 → (found : Bool) →
            IsTrue found ↔ (type_at types at ≡ type.Apply c []) →
            Narrows types before is_instance found now
        Narrows-nothing_left end found is instances = (
          λ both.
              let rest = (so_far.exact instances).0 both in
              (is.1 (sym rest.1 ∙ constant), rest.0),
          λ both. (so_far.exact instances).1 (both.1, constant ∙ sym (is.0 both.0)),
        )
          where
            constant : instantiate instances (type.Apply c (take left patterns)) ≡ type.Apply c []
            constant =
                let none : left ≡ 0 = omega (arith, end) in
                ap (λ n. instantiate instances (type.Apply c (take n patterns))) none
                ∙ instantiate-apply instances c []

        module _ (some : 0 < left) (last : Ty)
            (is_last : last ≡ get_or patterns (left - 1) last)
          where
            front_and_last : take left patterns ≡ take (left - 1) patterns ++ last ∷ []
            front_and_last =
                let more : left - 1 + 1 ≡ left = omega (arith, some) in
                ap (λ n. take n patterns) (sym more)
                ∙ take_more patterns (left - 1) last (omega (arith, some, so_far.within))
                ∙ ap (λ ty. take (left - 1) patterns ++ ty ∷ []) (sym is_last)

            split : (instances : List Ty) →
                instantiate instances (type.Apply c (take left patterns)) ≡ type_at types at →
                instantiate instances (type.Apply c (take (left - 1) patterns ++ last ∷ []))
                ≡ type_at types at
            split instances same =
                ap (λ them. instantiate instances (type.Apply c them)) (sym front_and_last) ∙ same

            pub Narrows-no_application : (kept : Node) → given types kept ≡ type_at types at →
                ((function argument : TypeId) → kept ≡ Applied function argument → ⊥) →
                Narrows types before is_instance false now
            Narrows-no_application kept gives none instances = (
              λ both. absurd
                  (instance_differs instances c (take (left - 1) patterns) last types kept none
                  (split instances ((so_far.exact instances).0 both).1 ∙ sym gives)),
              λ both. absurd (false≢true both.0),
            )

            module _ (function argument : TypeId) (kept : Node)
                (is : kept ≡ Applied function argument)
                (gives : given types kept ≡ type_at types at)
                (formed : IsFormedBelow at.index types kept)
              where
                parts : IsFormedBelow at.index types (Applied function argument)
                parts = subst (IsFormedBelow at.index types) is formed

                applied : with_argument (type_at types function) (type_at types argument)
                    ≡ type_at types at
                applied = ap (given types) (sym is) ∙ gives

                apart : (instances : List Ty) →
                    instantiate instances (type.Apply c (take left patterns)) ≡ type_at types at →
                    (instantiate instances (type.Apply c (take (left - 1) patterns))
                    ≡ type_at types function)
                    × (instantiate instances last ≡ type_at types argument)
                apart instances same =
                    instance_parts instances c (take (left - 1) patterns) last
                    parts.2.0 parts.2.1 (type_at types function) (type_at types argument) parts.2.2
                    (split instances same ∙ sym applied)

                pub IsNumber-argument : IsNumber types argument
                IsNumber-argument = omega (arith, parts.1, so_far.number)

                pub Narrows-other_argument : (later : List (Option TypeId)) (found : Bool) →
                    found ≡ false →
                    Narrows types now
                    (λ instances. instantiate instances last ≡ type_at types argument) found later →
                    Narrows types before is_instance false later
                Narrows-other_argument later found is_not matched instances = (
                  λ both.
                      let rest = (so_far.exact instances).0 both in
                      absurd (false≢true (sym is_not
                      ∙ ((matched instances).0 (rest.0, (apart instances rest.1).1)).0)),
                  λ both. absurd (false≢true both.0),
                )

                pub IsLeft-less : (later : List (Option TypeId)) (found : Bool) → found ≡ true →
                    AreBound types later →
                    Narrows types now
                    (λ instances. instantiate instances last ≡ type_at types argument) found later →
                    IsLeft (left - 1) function later
                IsLeft-less later found holds numbers matched = record {
                  within = omega (arith, so_far.within);
                  number = omega (arith, parts.0, so_far.number);
                  bound = numbers;
                  exact = λ instances. (
                    λ both.
                        let rest = (so_far.exact instances).0 both in
                        let pieces = apart instances rest.1 in
                        (((matched instances).0 (rest.0, pieces.1)).1, pieces.0),
                    λ both.
                        let rest = (matched instances).1 (holds, both.0) in
                        (so_far.exact instances).1 (
                          rest.0,
                          ap (λ them. instantiate instances (type.Apply c them)) front_and_last
                              ∙ instance_join instances c (take (left - 1) patterns) last
                              (type_at types function) (type_at types argument) both.1 rest.1
                              ∙ applied,
                        ),
                  );
                }

        -- what is matched is no application, though patterns are left
        pub Narrows-not_applied : 0 < left → (kept : Node) → given types kept ≡ type_at types at →
            ((function argument : TypeId) → kept ≡ Applied function argument → ⊥) →
            Narrows types before is_instance false now
        Narrows-not_applied some =
            let last : Ty = get_or patterns (left - 1) (type.Var 0) in
            Narrows-no_application some last
            (sym (get_or_from_slice_get patterns (left - 1) last last
            (slice_get-get_or patterns (left - 1) (type.Var 0)
            (omega (arith, some, so_far.within)))))
