-- What a symbol's table, pulled back, gives for numbers: what the typed structure gives for the
-- elements that they are read as.
use Rattle.std.specs.Prelude.{ℕ, zero, suc, ◌≡◌, ◌<◌, ◌≤◌, List, [], ◌∷◌, map, length, replicate, min, slice_index}
use Rattle.std.specs.List.{AllByRecursion}
use Rattle.std.proofs.Common.{refl, sym, ap, subst, ◌∙◌, arith}
use Rattle.enc_base.specs.Tables.{EachBelow, place, table}
use Rattle.enc_base.proofs.Tables.{table-at}
use Rattle.tf_core.specs.declared.ty.Ty.{Ty}
use Rattle.tf_core.specs.declared.signature.Symbol.{Symbol}
use Rattle.tf_core.specs.Structures.{Typed, size_of, member_of, argument_sizes}
use Rattle.structure_tables.specs.TypedTabled.{symbol_block}
use Rattle.enc_laws.specs.CollapsedStructure.{collapse, elements_collapsed}
use Rattle.enc_laws.proofs.Collapsed.{collapse-below}
use Rattle.enc_laws.proofs.Selected.{length-map}
use Rattle.tf_collapse.specs.Domain.{CollapsedDomain, collapse_each}
use Rattle.tf_collapse.specs.PulledBack.{sizes_in, collapsed_entry, pulled_back}
use Rattle.tf_collapse.specs.Premises.{argument_members}

-- a member has an element, and no more than there are numbers
pub record IsFit (big size : ℕ) : Type 0 where
  pub some : 0 < size
  pub small : size ≤ big

pub slice_index-min : (sizes : List ℕ) (big m : ℕ) →
    slice_index (map (λ size. min size big) sizes) m ≡ min (slice_index sizes m) big
slice_index-min [] big m = let e : 0 ≡ min 0 big = omega arith in e
slice_index-min (size ∷ sizes) big zero = refl
slice_index-min (size ∷ sizes) big (suc m) = slice_index-min sizes big m

module _ (s : Typed) (d : CollapsedDomain)
    (sizes_are : d.sizes ≡ map (λ size. min size d.big) s.sizes) (members : List ℕ)
  where
    size_same : (m : ℕ) → IsFit d.big (size_of s m) → slice_index d.sizes m ≡ size_of s m
    size_same m fit =
        let small = fit.small in
        let least : min (size_of s m) d.big ≡ size_of s m = omega (arith, small) in
        ap (λ (sizes : List ℕ). slice_index sizes m) sizes_are
        ∙ slice_index-min s.sizes d.big m
        ∙ least

    abbrev pub AreFit : List Ty → Type 0
    AreFit types = AllByRecursion (λ ty. IsFit d.big (size_of s (member_of s members ty))) types

    sizes_same : (types : List Ty) → AreFit types →
        sizes_in d (map (member_of s members) types)
        ≡ map (λ ty. size_of s (member_of s members ty)) types
    sizes_same [] fit = refl
    sizes_same (ty ∷ types) fit =
        ap (λ size. size ∷ sizes_in d (map (member_of s members) types))
        (size_same (member_of s members ty) fit.0)
        ∙ ap (λ sizes. size_of s (member_of s members ty) ∷ sizes) (sizes_same types fit.1)

    elements_same : (types : List Ty) (values : List ℕ) → AreFit types →
        collapse_each (map (λ ty. size_of s (member_of s members ty)) types) values
        ≡ elements_collapsed s d.big (map (member_of s members) types) values
    elements_same [] values fit = refl
    elements_same (ty ∷ types) [] fit = refl
    elements_same (ty ∷ types) (v ∷ values) fit =
        let small = fit.0.small in
        let least : size_of s (member_of s members ty)
        ≡ min (size_of s (member_of s members ty)) d.big = omega (arith, small) in
        ap (λ size. collapse size v
        ∷ collapse_each (map (λ t. size_of s (member_of s members t)) types) values) least
        ∙ ap (λ es. collapse (min (size_of s (member_of s members ty)) d.big) v ∷ es)
        (elements_same types values fit.1)

    elements_below : (types : List Ty) (values : List ℕ) → AreFit types →
        EachBelow (replicate (length types) d.big) values →
        EachBelow (map (λ ty. size_of s (member_of s members ty)) types)
        (collapse_each (map (λ ty. size_of s (member_of s members ty)) types) values)
    elements_below [] [] fit below = tt
    elements_below [] (v ∷ values) fit below = absurd below
    elements_below (ty ∷ types) [] fit below = absurd below
    elements_below (ty ∷ types) (v ∷ values) fit below = (
      collapse-below (size_of s (member_of s members ty)) v fit.0.some,
      elements_below types values fit.1 below.1,
    )

    pub block_entry : (f : ℕ) (symbol : Symbol) (values : List ℕ) → AreFit symbol.arguments →
        EachBelow (replicate (length symbol.arguments) d.big) values →
        slice_index
        (pulled_back d (argument_members s symbol members) (symbol_block s symbol f members))
        (place (replicate (length symbol.arguments) d.big) values)
        ≡ s.symbol_at f members
        (elements_collapsed s d.big (argument_members s symbol members) values)
    block_entry f symbol values fit below =
        let ms : List ℕ = argument_members s symbol members in
        let entries : List ℕ = symbol_block s symbol f members in
        let count : length ms ≡ length symbol.arguments =
        length-map (member_of s members) symbol.arguments in
        ap (λ n. slice_index (pulled_back d ms entries) (place (replicate n d.big) values))
        (sym count)
        ∙ table-at (replicate (length ms) d.big) values (collapsed_entry d ms entries)
        (subst (λ n. EachBelow (replicate n d.big) values) (sym count) below)
        ∙ ap (λ (sizes : List ℕ). slice_index entries (place sizes (collapse_each sizes values)))
        (sizes_same symbol.arguments fit)
        ∙ table-at (argument_sizes s symbol members)
        (collapse_each (argument_sizes s symbol members) values) (s.symbol_at f members)
        (elements_below symbol.arguments values fit below)
        ∙ ap (s.symbol_at f members) (elements_same symbol.arguments values fit)
