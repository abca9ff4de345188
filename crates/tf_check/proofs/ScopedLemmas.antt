-- What a scope of the code stands for, while types are added.
use Rattle.std.proofs.Common.{◌≡◌, ◌<◌, ℕ, zero, suc, List, [], ◌∷◌, ◌++◌, length, map, get_or, slice_get, Option, Some, None, option_map, Bor, Result, Ok, Err, IfOk, OnOk, refl, sym, ap, ◌∙◌, subst, arith, reverse}
use Rattle.std.specs.List.{AllByRecursion}
use Rattle.std.proofs.lemmas.Option.{get_or_from_slice_get, none-some, same_Some}
use Rattle.enc_base.specs.declared.error.NoMemory.{NoMemory}
use Rattle.tf_core.specs.declared.ty.Ty.{Ty}
use Rattle.tf_types.specs.declared.node.TypeId.{TypeId}
use Rattle.tf_types.specs.Numbers.{Extends, IsNumber, Denotes, type_at}
use Rattle.tf_types.proofs.Numbers.{IsNumber-extended, type_at-extended, type_at-Denotes, IsNumber-Denotes, Extends-itself, Extends-twice}
use Rattle.tf_check.specs.declared.scope.Binding as code
use Rattle.tf_check.specs.declared.scope.SymbolNumbers.{SymbolNumbers}
use Rattle.tf_check.specs.Scope.{Binding, Scope, TypeVariable, TermVariable, type_variables}
use Rattle.tf_check.specs.declared.table.Profile.{Profile}
use Rattle.tf_check.specs.Table.{listed_symbols}
use Rattle.tf_check.specs.Bound.{Scoped, SymbolTypes, symbol_types, types_of_symbol, symbol_at, IsSymbolAt, named_binding, binding_of, scope_of, scoped_as, numbered_types, IsNumberIfAny, AreBound, HasNumbers, HaveNumbers, AreScoped, Grows, Keeps}

-- ---- lists

pub all_at : {A : Type 0} (P : A → Type 0) (xs : List A) (i : ℕ) (x : A) → i < length xs →
    x ≡ get_or xs i x → AllByRecursion P xs → P x
all_at P [] i x within is all = absurd (omega arith)
all_at P (y ∷ xs) zero x within is all = subst P (sym is) all.0
all_at P (y ∷ xs) (suc i) x within is all = all_at P xs i x (omega arith) is all.1

pub all_push : {A : Type 0} (P : A → Type 0) (xs : List A) (x : A) → AllByRecursion P xs → P x →
    AllByRecursion P (xs ++ x ∷ [])
all_push P [] x all one = (one, tt)
all_push P (y ∷ xs) x all one = (all.0, all_push P xs x all.1 one)

pub get_or-self : {A : Type 0} (xs : List A) (i : ℕ) (d : A) → i < length xs →
    get_or xs i d ≡ get_or xs i (get_or xs i d)
get_or-self [] i d within = absurd (omega arith)
get_or-self (x ∷ xs) zero d within = refl
get_or-self (x ∷ xs) (suc i) d within = get_or-self xs i d (omega arith)

-- ---- numbers that were added

pub denoted_is : (types : List Ty) (ty : Ty) (result : Result TypeId NoMemory) →
    IfOk result (λ id. Denotes types id ty) → IfOk result (λ id. type_at types id ≡ ty)
denoted_is types ty (Ok id) denotes = type_at-Denotes types id ty denotes
denoted_is types ty (Err error) denotes = tt

pub denoted_number : (types : List Ty) (ty : Ty) (result : Result TypeId NoMemory) →
    IfOk result (λ id. Denotes types id ty) → IfOk result (IsNumber types)
denoted_number types ty (Ok id) denotes = IsNumber-Denotes types id ty denotes
denoted_number types ty (Err error) denotes = tt

-- the number of a binding
pub bound_number : (types : List Ty) (bindings : List code.Binding) (i : ℕ) (b : code.Binding)
    (id : TypeId) → i < length bindings → b ≡ get_or bindings i b → AreBound types bindings →
    b.ty ≡ Some id → IsNumber types id
bound_number types bindings i b id within is bound kind =
    subst (IsNumberIfAny types) kind
    (all_at (λ (binding : code.Binding). IsNumberIfAny types binding.ty) bindings i b within is bound)

-- ---- more types

module _ (old new : List Ty) (grows : Extends old new) where
  number_extended : (id : Option TypeId) → IsNumberIfAny old id → IsNumberIfAny new id
  number_extended None number = tt
  number_extended (Some id) number = IsNumber-extended old new grows id number

  binding_extended : (name : List ℕ) (id : Option TypeId) → IsNumberIfAny old id →
      named_binding new name id ≡ named_binding old name id
  binding_extended name None number = refl
  binding_extended name (Some id) number =
      ap (TermVariable name) (type_at-extended old new grows id number)

  bindings_extended : (bindings : List code.Binding) → AreBound old bindings →
      map (binding_of new) bindings ≡ map (binding_of old) bindings
  bindings_extended [] bound = refl
  bindings_extended (b ∷ bindings) bound =
      ap (λ x. x ∷ map (binding_of new) bindings) (binding_extended b.name.now b.ty bound.0)
      ∙ ap (λ xs. binding_of old b ∷ xs) (bindings_extended bindings bound.1)

  pub scope_of-extended : (bindings : List code.Binding) → AreBound old bindings →
      scope_of new bindings ≡ scope_of old bindings
  scope_of-extended bindings bound = ap reverse (bindings_extended bindings bound)

  AreBound-extended : (bindings : List code.Binding) → AreBound old bindings → AreBound new bindings
  AreBound-extended [] bound = tt
  AreBound-extended (b ∷ bindings) bound =
      (number_extended b.ty bound.0, AreBound-extended bindings bound.1)

  result_extended : (id : Option TypeId) → IsNumberIfAny old id →
      option_map (type_at new) id ≡ option_map (type_at old) id
  result_extended None number = refl
  result_extended (Some id) number = ap Some (type_at-extended old new grows id number)

  types_extended : (n : SymbolNumbers) → HasNumbers old n → numbered_types new n ≡ numbered_types old n
  types_extended n numbers =
      λ i. record {
        arguments = type_at-extended old new grows n.arguments numbers.0 i;
        result = result_extended n.result numbers.1 i;
      }

  symbols_extended : (ns : List SymbolNumbers) → HaveNumbers old ns →
      map (numbered_types new) ns ≡ map (numbered_types old) ns
  symbols_extended [] numbers = refl
  symbols_extended (n ∷ ns) numbers =
      ap (λ x. x ∷ map (numbered_types new) ns) (types_extended n numbers.0)
      ∙ ap (λ xs. numbered_types old n ∷ xs) (symbols_extended ns numbers.1)

  HaveNumbers-extended : (ns : List SymbolNumbers) → HaveNumbers old ns → HaveNumbers new ns
  HaveNumbers-extended [] numbers = tt
  HaveNumbers-extended (n ∷ ns) numbers = (
    (IsNumber-extended old new grows n.arguments numbers.0.0, number_extended n.result numbers.0.1),
    HaveNumbers-extended ns numbers.1,
  )

  module _ (count : ℕ) (bindings : List code.Binding) (ns : List SymbolNumbers)
      (fit : AreScoped old count bindings ns)
    where
      pub AreScoped-extended : AreScoped new count bindings ns
      AreScoped-extended =
          record {
            counted = fit.counted ∙ ap type_variables (sym (scope_of-extended bindings fit.bound));
            within = fit.within;
            bound = AreBound-extended bindings fit.bound;
            symbols = HaveNumbers-extended ns fit.symbols;
          }

      pub Keeps-extended : (before : Scoped) → scoped_as old bindings ns ≡ before →
          Keeps before (scoped_as new bindings ns)
      Keeps-extended before is =
          subst (λ s. Keeps s (scoped_as new bindings ns)) is
          (record {
            names = scope_of-extended bindings fit.bound;
            grows = record { types = grows; symbols = symbols_extended ns fit.symbols };
          })

-- ---- changes one after another

pub Keeps-itself : (scoped : Scoped) → Keeps scoped scoped
Keeps-itself scoped =
    record { names = refl; grows = record { types = Extends-itself scoped.types; symbols = refl } }

pub Grows-twice : (first second third : Scoped) → Grows first second → Grows second third →
    Grows first third
Grows-twice first second third once again =
    record {
      types = Extends-twice first.types second.types third.types once.types again.types;
      symbols = again.symbols ∙ once.symbols;
    }

pub Keeps-twice : (first second third : Scoped) → Keeps first second → Keeps second third →
    Keeps first third
Keeps-twice first second third once again =
    record {
      names = again.names ∙ once.names;
      grows = Grows-twice first second third once.grows again.grows;
    }

-- ---- symbols

pub symbol_at-is : (scoped : Scoped) (place : ℕ) (arguments : List Ty) (result : Option Ty) →
    slice_get scoped.symbols place ≡ Some (symbol_types arguments result) →
    symbol_at scoped place ≡ symbol_types arguments result
symbol_at-is scoped place arguments result is =
    get_or_from_slice_get scoped.symbols place (symbol_types arguments result) (symbol_types [] None) is

pub profile_placed : (entries : List (Bor (List ℕ) × Profile)) (k : ℕ) (p : Profile) →
    slice_get (map (λ (e : Bor (List ℕ) × Profile). e.1) entries) k ≡ Some p →
    slice_get (map types_of_symbol (listed_symbols entries)) k
    ≡ Some (symbol_types p.arguments p.result)
profile_placed [] k p is = absurd (none-some p is)
profile_placed (e ∷ entries) zero p is =
    ap (λ (q : Profile). Some (symbol_types q.arguments q.result)) (same_Some e.1 p is)
profile_placed (e ∷ entries) (suc k) p is = profile_placed entries k p is

pub on_ok_map : {A E : Type 0} (result : Result A E) (P Q : Type 0) → (P → Q) → OnOk result P →
    OnOk result Q
on_ok_map (Ok a) P Q f holds = f holds
on_ok_map (Err error) P Q f holds = tt

-- other names alone
pub Grows-named : (first second third : Scoped) (names : Scope) →
    third ≡ record second { names = names } → Grows first second → Grows first third
Grows-named first second third names is grows =
    subst (Grows first) (sym is) (record { types = grows.types; symbols = grows.symbols })
