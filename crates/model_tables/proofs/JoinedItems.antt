-- The items of constructors with those of symbols behind them.
use Rattle.std.proofs.Common.{◌≡◌, ℕ, suc, List, [], ◌∷◌, ◌++◌, ◌⊎◌, inl, inr, map, Option, Some}
use Rattle.std.proofs.Common.{None, Bool, true, false, ◌||◌, refl, sym, ap, ◌∙◌, subst, slice_get}
use Rattle.std.proofs.Common.{append_assoc, append-nil}
use Rattle.std.specs.Prelude.{if◌then◌else◌}
use Rattle.std.specs.List.{AllByRecursion}
use Rattle.tptp_words.specs.Words.{same}
use Rattle.fof_text.proofs.Places.{same_is}
use Rattle.tf_core.specs.declared.signature.Constructor.{Constructor}
use Rattle.tf_core.specs.declared.signature.Symbol.{Symbol}
use Rattle.tf_core.specs.declared.signature.Signature.{Signature}
use Rattle.model_tables.specs.declared.form.Kind.{Kind}
use Rattle.model_tables.specs.declared.form.Kind.TheVariants as variant
use Rattle.model_tables.specs.Grammar.{Item}
use Rattle.model_tables.specs.Faults.{Want, is_of, is_wanted, entries_of}
use Rattle.model_tables.specs.Items.{OnceBehind, Once}
use Rattle.model_tables.specs.Typed.{constructor_want, symbol_want, constructor_wants, symbol_wants}
use Rattle.model_tables.specs.Typed.{constructor_named, symbol_named}
use Rattle.model_tables.proofs.ItemsWritten.{found_behind}
use Rattle.model_tables.proofs.NoFaults.{all_at}
use Rattle.model_tables.proofs.OneStructure.{no_symbol}
use Rattle.model_tables.proofs.TypedItems.{AreKnown, constructor_kind, symbol_kind}

-- ---- what is wanted in two parts

-- of one part or the other
abbrev pub IsOfEither : List Want → List Want → Item → Type 0
IsOfEither wants more it =
    (is_wanted it.kind it.name wants ≡ true) ⊎ (is_wanted it.kind it.name more ≡ true)

pub wanted_of : (kind : Kind) (name : List ℕ) (wants more : List Want)
    → (is_wanted kind name wants ≡ true) ⊎ (is_wanted kind name more ≡ true)
    → is_wanted kind name (wants ++ more) ≡ true
wanted_of kind name [] more (inl wanted) = cc
wanted_of kind name [] more (inr wanted) = wanted
wanted_of kind name (w ∷ wants) more either =
    by (is_of kind name w.kind w.name) either (wanted_of kind name wants more)
  where
    by : (t : Bool)
        → ((t || is_wanted kind name wants) ≡ true) ⊎ (is_wanted kind name more ≡ true)
        → ((is_wanted kind name wants ≡ true) ⊎ (is_wanted kind name more ≡ true)
        → is_wanted kind name (wants ++ more) ≡ true)
        → (t || is_wanted kind name (wants ++ more)) ≡ true
    by true found next = refl
    by false found next = next found

all_either : (wants more : List Want) (first last : List Item) → AreKnown wants first
    → AreKnown more last → AllByRecursion (IsOfEither wants more) (first ++ last)
all_either wants more [] [] known others = tt
all_either wants more [] (it ∷ last) known others =
    (inr others.0, all_either wants more [] last tt others.1)
all_either wants more (it ∷ first) last known others =
    (inl known.0, all_either wants more first last known.1 others)

-- each item is of one part or the other
pub either_at : (wants more : List Want) (first last before behind : List Item) (it : Item)
    → AreKnown wants first → AreKnown more last → first ++ last ≡ before ++ it ∷ behind
    → IsOfEither wants more it
either_at wants more first last before behind it known others split =
    all_at (IsOfEither wants more) before behind it
    (subst (AllByRecursion (IsOfEither wants more)) split
    (all_either wants more first last known others))

-- ---- no item twice

once_joined : (earlier first last : List Item) → OnceBehind earlier first
    → OnceBehind (earlier ++ first) last → OnceBehind earlier (first ++ last)
once_joined earlier [] last once others =
    subst (λ z. OnceBehind z last) (append-nil earlier) others
once_joined earlier (it ∷ first) last once others = (
  once.0,
  once_joined (earlier ++ it ∷ []) first last once.1
      (subst (λ z. OnceBehind z last) (sym (append_assoc earlier (it ∷ []) first)) others),
)

module _ (g : Signature) (types : List Item) (known : AreKnown (constructor_wants g) types) where
  once_behind : (earlier symbols : List Item) → AreKnown (symbol_wants g) symbols
      → OnceBehind earlier symbols → OnceBehind (types ++ earlier) symbols
  once_behind earlier [] others once = tt
  once_behind earlier (it ∷ symbols) others once =
      let own = symbol_kind g.symbols it.kind it.name others.0 in
      let none : entries_of it.kind it.name types ≡ None =
      ap (λ k. entries_of k it.name types) own ∙ no_symbol g.constructors it.name types known in (
        found_behind it.kind it.name types earlier none ∙ once.0,
        subst (λ z. OnceBehind z symbols) (sym (append_assoc types earlier (it ∷ [])))
            (once_behind (earlier ++ it ∷ []) symbols others.1 once.1),
      )

  pub once_both : (symbols : List Item) → AreKnown (symbol_wants g) symbols → Once types
      → Once symbols → Once (types ++ symbols)
  once_both symbols others once_types once_symbols =
      once_joined [] types symbols once_types
      (subst (λ z. OnceBehind z symbols) (append-nil types)
      (once_behind [] symbols others once_symbols))

-- a symbol's item stands behind those of all constructors
pub behind_types : (g : Signature) (types symbols before more : List Item) (it : Item)
    → AreKnown (constructor_wants g) types → it.kind ≡ variant.Symbol
    → types ++ symbols ≡ before ++ it ∷ more
    → (front : List Item) × (before ≡ types ++ front)
behind_types g [] symbols before more it known own split = (before, refl)
behind_types g (x ∷ types) symbols [] more it known own split =
    let first : x ≡ it = cc in
    let other = constructor_kind g.constructors x.kind x.name known.0 in
    let both : variant.Constructor ≡ variant.Symbol =
    sym other ∙ ap (λ (z : Item). z.kind) first ∙ own in
    cc
behind_types g (x ∷ types) symbols (y ∷ before) more it known own split =
    let first : x ≡ y = cc in
    let tails : types ++ symbols ≡ before ++ it ∷ more = cc in
    let found = behind_types g types symbols before more it known.1 own tails in
    (found.0, ap (λ z. y ∷ z) found.1 ∙ ap (λ z. z ∷ types ++ found.0) (sym first))

-- ---- what has a name

-- The first item with a name, and its place.
pub record IsFirst {A : Type 0} (name_of : A → List ℕ) (items : List A) (name : List ℕ)
    (found : Option A) : Type 0 where
  pub place : ℕ
  pub item : A
  pub at : slice_get items place ≡ Some item
  pub is : found ≡ Some item
  pub own : name_of item ≡ name

pub first_constructor : (constructors : List Constructor) (name : List ℕ)
    → is_wanted variant.Constructor name (map constructor_want constructors) ≡ true
    → IsFirst (λ (c : Constructor). c.name) constructors name (constructor_named name constructors)
first_constructor [] name wanted = cc
first_constructor (c ∷ constructors) name wanted =
    by (same name c.name) refl wanted (first_constructor constructors name)
  where
    by : (t : Bool) → same name c.name ≡ t
        → (t || is_wanted variant.Constructor name (map constructor_want constructors)) ≡ true
        → (is_wanted variant.Constructor name (map constructor_want constructors) ≡ true
        → IsFirst (λ (d : Constructor). d.name) constructors name
        (constructor_named name constructors))
        → IsFirst (λ (d : Constructor). d.name) (c ∷ constructors) name
        (if t then Some c else constructor_named name constructors)
    by true is either next = record {
      place = 0;
      item = c;
      at = refl;
      is = refl;
      own = sym (same_is name c.name is);
    }
    by false is either next =
        let found = next either in
        record {
          place = suc found.place;
          item = found.item;
          at = found.at;
          is = found.is;
          own = found.own;
        }

pub first_symbol : (symbols : List Symbol) (name : List ℕ)
    → is_wanted variant.Symbol name (map symbol_want symbols) ≡ true
    → IsFirst (λ (f : Symbol). f.name) symbols name (symbol_named name symbols)
first_symbol [] name wanted = cc
first_symbol (f ∷ symbols) name wanted =
    by (same name f.name) refl wanted (first_symbol symbols name)
  where
    by : (t : Bool) → same name f.name ≡ t
        → (t || is_wanted variant.Symbol name (map symbol_want symbols)) ≡ true
        → (is_wanted variant.Symbol name (map symbol_want symbols) ≡ true
        → IsFirst (λ (h : Symbol). h.name) symbols name (symbol_named name symbols))
        → IsFirst (λ (h : Symbol). h.name) (f ∷ symbols) name
        (if t then Some f else symbol_named name symbols)
    by true is either next = record {
      place = 0;
      item = f;
      at = refl;
      is = refl;
      own = sym (same_is name f.name is);
    }
    by false is either next =
        let found = next either in
        record {
          place = suc found.place;
          item = found.item;
          at = found.at;
          is = found.is;
          own = found.own;
        }
