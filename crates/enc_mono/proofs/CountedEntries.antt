-- The entries of restricted structures, counted in 64 bits.
use Rattle.std.specs.Prelude.{ℕ, ◌≡◌, ◌<◌, ◌+◌, List, [], ◌∷◌, map, length, get_or, sum, sum_by}
use Rattle.std.specs.List.{AllByRecursion}
use Rattle.std.proofs.Common.{refl, ap, ◌∙◌}
use Rattle.std.proofs.lemmas.List.Sums.{sum-map}
use Rattle.tf_core.specs.declared.signature.Signature.{Signature}
use Rattle.tf_core.specs.TypedTables.{TypedTables}
use Rattle.tf_core.proofs.TypingKept.{at_all}
use Rattle.enc_mono.specs.declared.instances.Origin.{Origin}
use Rattle.enc_mono.specs.Restricted.{origin_block, restricted_tables, entry_count}
use Rattle.enc_mono.proofs.Starts.{item_read}

-- the sizes and constructors' tables, which stay
abbrev pub kept_count : TypedTables → ℕ
kept_count t = sum t.sizes + sum (map length t.constructors)

-- how many entries the block of an instance has
abbrev pub block_count_of : Signature → TypedTables → Origin → ℕ
block_count_of g t origin = length (origin_block g t origin)

lengths : (g : Signature) (t : TypedTables) (origins : List Origin) →
    sum (map length (map (origin_block g t) origins)) ≡ sum (map (block_count_of g t) origins)
lengths g t origins = ap sum (images origins)
  where
    images : (origins : List Origin) →
        map length (map (origin_block g t) origins) ≡ map (block_count_of g t) origins
    images [] = refl
    images (origin ∷ rest) = ap (λ ns. block_count_of g t origin ∷ ns) (images rest)

-- all entries of a restricted structure
pub entry_count-is : (g : Signature) (t : TypedTables) (origins : List Origin) →
    entry_count (restricted_tables g origins t)
    ≡ kept_count t + sum_by (block_count_of g t) origins
entry_count-is g t origins =
    ap (λ n. kept_count t + n) (lengths g t origins ∙ sum-map (block_count_of g t) origins)

-- a fact of the item that a loop reads
pub item_has : {A : Type 0} (P : A → Type 0) (items : List A) (i : ℕ) (item : A) →
    AllByRecursion P items → i < length items → item ≡ get_or items i item → P item
item_has P items i item all within is = at_all P items i item all (item_read items i item within is)
