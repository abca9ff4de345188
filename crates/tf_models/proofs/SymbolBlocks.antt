-- The blocks of a symbol's table.
use Rattle.std.specs.Prelude.{ℕ, zero, suc, ◌≡◌, ◌<◌, ◌≤◌, ◌+◌, ◌*◌, ◌-◌, ◌^◌, List, [], ◌∷◌, length, replicate, take, get_or, slice_index}
use Rattle.std.proofs.Common.{refl, sym, ap, subst, ◌∙◌, arith, ⊎_elim}
use Rattle.std.proofs.lemmas.List.{length-map, take_all, get_or_default}
use Rattle.std.proofs.lemmas.Bool.{cases_lt}
use Rattle.enc_base.specs.Tables.{EachBelow, sum_below, tuple_count}
use Rattle.enc_base.specs.Counts.{in_64_bits}
use Rattle.enc_base.proofs.Placing.{get_or-mapped, tuple_count-next}
use Rattle.enc_base.proofs.NumberedTuples.{length-tuple_at, tuple_at_below}
use Rattle.tf_core.specs.declared.ty.Ty.{Ty}
use Rattle.tf_core.specs.declared.ty.Ty.TheVariants as type
use Rattle.tf_core.specs.declared.signature.Symbol.{Symbol}
use Rattle.tf_core.specs.declared.signature.Signature.{Signature}
use Rattle.tf_core.specs.Typing.{IsType}
use Rattle.tf_core.specs.TypedTables.{block_bounds, block_length}
use Rattle.tf_models.specs.declared.structure.TypedStructure.{TypedStructure}
use Rattle.tf_models.specs.declared.members.Members.TheVariants.{Numbered}
use Rattle.tf_models.specs.Reading.{tables}
use Rattle.tf_models.specs.Fit.{bounds_at, parameters_at, length_at}
use Rattle.tf_models.specs.Evaluation.{listed, member_in, AreMembers, IsBlock}
use Rattle.tf_models.proofs.TypeMembers.{member_below, type_at}

-- the members of a block

module _ (g : Signature) (s : TypedStructure) (symbol : Symbol) (number : ℕ)
    (block : IsBlock g s symbol number)
  where
    pub some_member : 0 < length s.sizes
    some_member = block.constructors.inhabited.some

    pub long_parameters : length (parameters_at (tables s) symbol number) ≡ symbol.parameters
    long_parameters = length-tuple_at (length s.sizes) some_member symbol.parameters number

    pub parameters_below : EachBelow (replicate symbol.parameters (length s.sizes))
        (parameters_at (tables s) symbol number)
    parameters_below =
        tuple_at_below (length s.sizes) some_member symbol.parameters number block.within

    pub block_members : AreMembers s (Numbered number (length s.sizes) symbol.parameters)
    block_members = record {
      number = (some_member, block.within);
      below =
          subst (λ n. EachBelow (replicate n (length s.sizes))
          (parameters_at (tables s) symbol number)) (sym long_parameters) parameters_below;
    }

    -- an argument type of the block
    pub argument_formed : (i : ℕ) (ty : Ty) → i < length symbol.arguments →
        ty ≡ get_or symbol.arguments i ty →
        IsType g (length (listed (Numbered number (length s.sizes) symbol.parameters))) ty
    argument_formed i ty within is =
        subst (λ n. IsType g n ty) (sym long_parameters)
        (type_at g symbol.parameters i symbol.arguments ty within is block.typed.arguments)

    pub argument_size : (i size : ℕ) (ty : Ty) → i < length symbol.arguments →
        ty ≡ get_or symbol.arguments i ty →
        size ≡ slice_index s.sizes (member_in s (parameters_at (tables s) symbol number) ty) →
        size ≡ get_or (bounds_at (tables s) symbol number) i 0
    argument_size i size ty within is same =
        same
        ∙ sym (get_or-mapped
        (λ (x : Ty). slice_index s.sizes (member_in s (parameters_at (tables s) symbol number) x))
        symbol.arguments i ty within is)

    pub argument_positive : (i : ℕ) (ty : Ty) → i < length symbol.arguments →
        ty ≡ get_or symbol.arguments i ty →
        0 < slice_index s.sizes (member_in s (parameters_at (tables s) symbol number) ty)
    argument_positive i ty within is =
        block.constructors.inhabited.each (member_in s (parameters_at (tables s) symbol number) ty)
        (member_below g s block.constructors symbol.parameters
        (parameters_at (tables s) symbol number) ty
        (type_at g symbol.parameters i symbol.arguments ty within is block.typed.arguments)
        parameters_below)

-- a product in 64 bits

grows : (n b : ℕ) → 0 < b → n ≤ n * b
grows n b positive = grind arith

pub in_64_bits-times : (a b : ℕ) → 0 < b → in_64_bits (in_64_bits a * b) ≡ in_64_bits (a * b)
in_64_bits-times a b positive =
    ⊎_elim
    (λ small.
    let below : a < 2 ^ 64 = small in
    let same : in_64_bits a ≡ a = omega arith in
    ap (λ n. in_64_bits (n * b)) same)
    (λ large.
    let above : 2 ^ 64 ≤ a = large in
    let same : in_64_bits a ≡ 2 ^ 64 - 1 = omega arith in
    ap (λ n. in_64_bits (n * b)) same ∙ omega (arith, grows a b positive))
    (cases_lt a (2 ^ 64))

-- the length of a block, one argument more
module _ (g : Signature) (s : TypedStructure) (symbol : Symbol) (number : ℕ)
    (block : IsBlock g s symbol number) (i length_so_far size : ℕ) (ty : Ty)
    (within : i < length symbol.arguments) (is : ty ≡ get_or symbol.arguments i ty)
    (same : size ≡ slice_index s.sizes (member_in s (parameters_at (tables s) symbol number) ty))
    (so_far : length_so_far
    ≡ in_64_bits (tuple_count (take i (bounds_at (tables s) symbol number))))
  where
    pub length-more : in_64_bits (length_so_far * size)
        ≡ in_64_bits (tuple_count (take (i + 1) (bounds_at (tables s) symbol number)))
    length-more =
        let bounds : List ℕ = bounds_at (tables s) symbol number in
        let positive : 0 < size =
        subst (λ n. 0 < n) (sym same) (argument_positive g s symbol number block i ty within is) in
        let inside : i < length bounds = rw (length-map _ _) within in
        ap (λ n. in_64_bits (n * size)) so_far
        ∙ in_64_bits-times (tuple_count (take i bounds)) size positive
        ∙ ap (λ n. in_64_bits (tuple_count (take i bounds) * n))
        (argument_size g s symbol number block i size ty within is same)
        ∙ ap in_64_bits (sym (tuple_count-next bounds i inside))

-- all arguments
pub length-all : (s : TypedStructure) (symbol : Symbol) (members : List ℕ) (i length_so_far : ℕ) →
    length symbol.arguments ≤ i →
    length_so_far ≡ in_64_bits (tuple_count (take i (block_bounds (tables s) symbol members))) →
    length_so_far ≡ in_64_bits (block_length (tables s) symbol members)
length-all s symbol members i length_so_far whole so_far =
    so_far
    ∙ ap (λ bounds. in_64_bits (tuple_count bounds))
    (take_all i (block_bounds (tables s) symbol members) (rw (length-map _ _) whole))

-- a block has an entry

tuple_count-positive : (bounds : List ℕ) → ((i : ℕ) → i < length bounds → 0 < get_or bounds i 0) →
    1 ≤ tuple_count bounds
tuple_count-positive [] each = omega arith
tuple_count-positive (bound ∷ bounds) each =
    product bound (tuple_count bounds) (each 0 (omega arith))
    (tuple_count-positive bounds (λ i within. each (suc i) (omega arith)))
  where
    product : (a b : ℕ) → 0 < a → 1 ≤ b → 1 ≤ a * b
    product a b first second = grind arith

pub block_positive : (g : Signature) (s : TypedStructure) (symbol : Symbol) (number : ℕ) →
    IsBlock g s symbol number → 1 ≤ length_at (tables s) symbol number
block_positive g s symbol number block =
    tuple_count-positive (bounds_at (tables s) symbol number)
    (λ i within.
    let inside : i < length symbol.arguments = subst (λ n. i < n) (length-map _ _) within in
    let ty : Ty = get_or symbol.arguments i (type.Var 0) in
    let is : ty ≡ get_or symbol.arguments i ty = get_or_default symbol.arguments i (type.Var 0) ty
    inside in
    subst (λ n. 0 < n)
    (argument_size g s symbol number block i
    (slice_index s.sizes (member_in s (parameters_at (tables s) symbol number) ty)) ty inside is
    refl) (argument_positive g s symbol number block i ty inside is))

pub blocks_fit : (count : ℕ) (lengths : ℕ → ℕ) → ((n : ℕ) → n < count → 1 ≤ lengths n) →
    count ≤ sum_below count lengths
blocks_fit zero lengths each = omega arith
blocks_fit (suc count) lengths each =
    omega (
      arith,
      each count (omega arith),
      blocks_fit count lengths
          (λ n within. each n (omega arith)),
    )
