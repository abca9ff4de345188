-- The lift of the translations whose marks say which numbers are elements.
use Rattle.std.specs.Prelude.{ℕ, ◌<◌, ◌≡◌, Bool, true, false, List, [], ◌++◌, map, length, replicate, slice_get, Option, Some, None, IsTrue}
use Rattle.std.specs.List.{AllByRecursion}
use Rattle.std.proofs.Common.{refl, sym, ap, ◌∙◌, subst}
use Rattle.enc_base.specs.Tables.{EachBelow}
use Rattle.tf_core.specs.declared.ty.Ty.{Ty}
use Rattle.tf_core.specs.declared.signature.Constructor.{Constructor}
use Rattle.tf_core.specs.declared.signature.Symbol.{Symbol}
use Rattle.tf_core.specs.declared.signature.Signature.{Signature}
use Rattle.tf_core.specs.Types.{type_value, instantiate}
use Rattle.tf_core.specs.Typing.{IsSignature}
use Rattle.fof_models.specs.declared.formula.FofTerm.{FofTerm}
use Rattle.fof_models.specs.Structures.{Untyped}
use Rattle.fof_models.specs.Truth.{value, truth}
use Rattle.tf_naked.specs.declared.position.Position.{Position}
use Rattle.tf_naked.specs.declared.position.Position.TheVariants.{Argument}
use Rattle.tf_naked.specs.declared.position.Kind.{Kind}
use Rattle.tf_naked.specs.declared.position.Kind.TheVariants.{Universal}
use Rattle.enc_marks.specs.Choices.{Choices}
use Rattle.enc_marks.specs.Translation.{Numbers, selected, tag, bind}
use Rattle.enc_marks.specs.Axioms.{typing_axiom}
use Rattle.enc_marks.specs.Occurrence.{count_below}
use Rattle.enc_laws.specs.Relations.{AreRelated, none_related, more_related}
use Rattle.enc_laws.specs.Corresponds.{IsApplied}
use Rattle.enc_laws.specs.Lifted.{Lift, lifted_value, lifted}
use Rattle.enc_laws.proofs.TypingRead.{ReadsAxioms, IsTyped, result_typed}
use Rattle.enc_laws.proofs.Lifting.{ranking, IsInside, IsTypeNumber, Lifts}

module _ (c : Choices) (k : Numbers) (g : Signature) (present : ℕ → Bool)
    (j : Untyped) (l : Lift)
    (member : ℕ → ℕ → Type 0) (good : Ty → Type 0) where
  -- numbers are read as themselves, and marks say which of them are elements of a member
  pub record PicksByMarks : Type 0 where
    pub itself : (m v : ℕ) → l.into m v ≡ v
    pub within : (v m : ℕ) → member v m → m < l.members
    pub below : (v m : ℕ) → member v m → v < j.size
    pub constructors : (i : ℕ) (constructor : Constructor) (values members : List ℕ) →
        slice_get g.constructors i ≡ Some constructor → length members ≡ constructor.arity →
        AreRelated member values members →
        member (j.symbol_at (k.constructor i) values) (l.constructor_at i members)
    pub constructors_below : (i : ℕ) (constructor : Constructor) (members : List ℕ) →
        slice_get g.constructors i ≡ Some constructor →
        EachBelow (replicate constructor.arity l.members) members →
        l.constructor_at i members < l.members
    pub kept : (symbol : Symbol) (us members : List ℕ) →
        AreRelated member us (selected (c.keeps symbol) members) →
        us ≡ selected (c.keeps symbol) members
    pub good_arguments : (f : ℕ) (symbol : Symbol) (types : List Ty) →
        slice_get g.symbols f ≡ Some symbol → length types ≡ symbol.parameters →
        AllByRecursion good (map (instantiate types) symbol.arguments)
    pub good_result : (f : ℕ) (symbol : Symbol) (ty : Ty) (types : List Ty) →
        slice_get g.symbols f ≡ Some symbol → symbol.result ≡ Some ty →
        length types ≡ symbol.parameters → good (instantiate types ty)
    pub declared : (f : ℕ) (symbol : Symbol) → slice_get g.symbols f ≡ Some symbol →
        AllByRecursion good symbol.arguments
    pub declared_result : (f : ℕ) (symbol : Symbol) (ty : Ty) →
        slice_get g.symbols f ≡ Some symbol → symbol.result ≡ Some ty → good ty
    pub functions_below : (f : ℕ) (symbol : Symbol) (ty : Ty) (values : List ℕ) →
        slice_get g.symbols f ≡ Some symbol → symbol.result ≡ Some ty →
        j.symbol_at (k.symbol f) values < j.size
    pub absent : (f : ℕ) (symbol : Symbol) (values : List ℕ) →
        slice_get g.symbols f ≡ Some symbol → present (k.symbol f) ≡ false →
        j.symbol_at (k.symbol f) values ≡ 0
    -- what is bound to a type with marks is an element of its member
    pub bind_is : (depth : ℕ) (ty : Ty) (t : FofTerm) (members assignment : List ℕ) → good ty →
        c.typing ty ≡ true → IsTypeNumber c k g present j l member good depth ty members assignment →
        truth j (bind c k g depth ty t) assignment
        ≡ l.picks (type_value l.constructor_at members ty) (value j assignment t)
    -- each number is an element of any other member
    pub all_in : (ty : Ty) (members : List ℕ) (v : ℕ) → good ty → c.typing ty ≡ false →
        l.picks (type_value l.constructor_at members ty) v ≡ true
    pub universal : (undercover naked : Bool) (ty : Ty) → c.universal undercover naked ty ≡ true →
        c.typing ty ≡ true
    pub existential : (ty : Ty) → c.typing ty ≡ true → c.existential ty ≡ true
    pub premise : (cover : Bool) (ty : Ty) → c.premise cover ty ≡ true → c.typing ty ≡ true
    -- tags change no element
    pub tag_same : (position : Position) (kind : Kind) (depth : ℕ) (ty : Ty) (t : FofTerm)
        (members assignment : List ℕ) → good ty → c.tagged position kind ty ≡ true →
        IsTypeNumber c k g present j l member good depth ty members assignment →
        l.picks (type_value l.constructor_at members ty) (value j assignment t) ≡ true →
        value j assignment (tag c k g depth ty t) ≡ value j assignment t
    pub axioms : (f : ℕ) (symbol : Symbol) (ty : Ty) → slice_get g.symbols f ≡ Some symbol →
        symbol.result ≡ Some ty → c.typing ty ≡ true →
        IsTrue (truth j (typing_axiom c k g f symbol ty) [])

  module _ (sound : IsSignature g) (marked : PicksByMarks) where
    all_below : (us members : List ℕ) → AreRelated member us members →
        EachBelow (replicate (length members) j.size) us
    all_below us members none_related = tt
    all_below us members (more_related u m us' members' h hs) =
        (marked.below u m h, all_below us' members' hs)

    reads_axioms : ReadsAxioms c k g j l.constructor_at (ranking j l member good)
    reads_axioms = record {
      constructors = marked.constructors;
      premise_true = λ depth cover ty t members assignment e is_good premised type_is placed.
          marked.bind_is depth ty t members assignment is_good (marked.premise cover ty premised)
          type_is
          ∙ placed.passes;
      tag_same = λ depth cover ty t members assignment e is_good tagged type_is placed.
          marked.tag_same (Argument cover) Universal depth ty t members assignment is_good tagged
          type_is placed.passes;
      placed_below = λ v m e placed. placed.below;
    }

    result_picked : (f : ℕ) (symbol : Symbol) (ty : Ty) (kept values members elements : List ℕ) →
        slice_get g.symbols f ≡ Some symbol → symbol.result ≡ Some ty →
        IsApplied c k g (lifted c k g present j l) j (ranking j l member good) symbol kept values members
        elements → (typing : Bool) → c.typing ty ≡ typing →
        l.picks (type_value l.constructor_at members ty)
        (j.symbol_at (k.symbol f) (kept ++ values)) ≡ true
    result_picked f symbol ty kept values members elements at gives h false typing =
        marked.all_in ty members (j.symbol_at (k.symbol f) (kept ++ values))
        (marked.declared_result f symbol ty at gives) typing
    result_picked f symbol ty kept values members elements at gives h true typing =
        let x : IsTyped c k g j l.constructor_at (ranking j l member good) sound reads_axioms f
        symbol ty values members =
        result_typed c k g j l.constructor_at (ranking j l member good) sound reads_axioms f
        symbol ty h.numbers values members elements at gives
        (marked.axioms f symbol ty at gives typing) (marked.declared f symbol at) h.count
        (subst (λ a. EachBelow (replicate a j.size) h.numbers) h.count
        (all_below h.numbers members h.types))
        h.types h.arguments in
        let same = marked.kept symbol x.kept members x.types
        ∙ sym (marked.kept symbol kept members h.kept_types) in
        let is : value j x.assignment x.t ≡ j.symbol_at (k.symbol f) (kept ++ values) =
        x.value_is ∙ ap (λ y. j.symbol_at (k.symbol f) (y ++ values)) same in
        subst (λ y. l.picks (type_value l.constructor_at members ty) y ≡ true) is
        (sym (marked.bind_is x.depth ty x.t members x.assignment
        (marked.declared_result f symbol ty at gives) typing x.type) ∙ x.bound_to)

    element_picked : (depth : ℕ) (ty : Ty) (t : FofTerm) (members assignment : List ℕ) → good ty →
        IsTypeNumber c k g present j l member good depth ty members assignment →
        (c.existential ty ≡ true → IsTrue (truth j (bind c k g depth ty t) assignment)) →
        (typing : Bool) → c.typing ty ≡ typing →
        l.picks (type_value l.constructor_at members ty) (value j assignment t) ≡ true
    element_picked depth ty t members assignment is_good type_is bound true typing =
        sym (marked.bind_is depth ty t members assignment is_good typing type_is)
        ∙ bound (marked.existential ty typing)
    element_picked depth ty t members assignment is_good type_is bound false typing =
        marked.all_in ty members (value j assignment t) is_good typing

    inside_from : (v m : ℕ) → v < j.size → l.picks m v ≡ true → IsInside j l v m
    inside_from v m below picked =
        let same = marked.itself m v in
        record {
          inside = subst (λ z. z < j.size) (sym same) below;
          passes = ap (l.picks m) same ∙ picked;
        }

    -- zeros are read as themselves, and have rank 0
    zero_read : (members : List ℕ) (result : Option Ty) (v : ℕ) → v ≡ 0 →
        lifted_value l members result v ≡ 0
    zero_read members None v zero = zero
    zero_read members (Some ty) v zero =
        let m : ℕ = type_value l.constructor_at members ty in
        ap (λ x. count_below x (l.picks m)) (marked.itself m v ∙ zero)

    pub lifts : Lifts c k g present j l member good
    lifts = record {
      within = marked.within;
      constructors = marked.constructors;
      constructors_below = marked.constructors_below;
      kept = marked.kept;
      good_arguments = marked.good_arguments;
      good_result = marked.good_result;
      result_below = λ f symbol ty kept values members elements at gives h.
          marked.functions_below f symbol ty (kept ++ values) at gives;
      result_inside = λ f symbol ty kept values members elements at gives h.
          inside_from _ _ (marked.functions_below f symbol ty (kept ++ values) at gives)
          (result_picked f symbol ty kept values members elements at gives h (c.typing ty) refl);
      absent = λ f symbol kept values members elements at none h.
          zero_read members symbol.result _ (marked.absent f symbol (kept ++ values) at none);
      untagged = λ position kind ty members v is_good no_tag. marked.itself _ v;
      stays = λ kind ty body members v is_good need. marked.itself _ v;
      tag_is = λ depth ty t members assignment position kind e is_good tagged type_is h.
          let m : ℕ = type_value l.constructor_at members ty in
          let z = marked.itself m (value j assignment t) in
          marked.tag_same position kind depth ty t members assignment is_good tagged type_is
          (ap (l.picks m) (sym z) ∙ h.passes) ∙ sym z;
      covered = λ m w within below picked. (w, below, marked.itself m w);
      bind_true = λ undercover naked depth ty t members assignment is_good binds type_is below
          picked.
          let m : ℕ = type_value l.constructor_at members ty in
          marked.bind_is depth ty t members assignment is_good
          (marked.universal undercover naked ty binds) type_is
          ∙ (ap (l.picks m) (sym (marked.itself m (value j assignment t))) ∙ picked);
      element = λ depth ty t members assignment is_good type_is below bound.
          inside_from _ _ below
          (element_picked depth ty t members assignment is_good type_is bound (c.typing ty) refl);
    }
