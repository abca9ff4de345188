-- Which names are taken while names are chosen.
use Rattle.std.specs.Prelude.{◌≡◌, ℕ, ◌+◌, ◌<◌, ◌≤◌, true, false, ◌||◌, cond, List, ◌∷◌, length}
use Rattle.std.specs.Prelude.{Option, Some, is_some, Vec}
use Rattle.std.specs.Str.{bytes_eq}
use Rattle.std.specs.Ordering.{nat_cmp}
use Rattle.std.specs.Cmp.Lexicographic.{slice_cmp}
use Rattle.std.specs.BTreeMap.{BTreeMap, get_by}
use Rattle.std.specs.declared.alloc.Global.{Global}
use Rattle.fof_text.specs.declared.uses.Use.{Use}
use Rattle.fof_text.specs.Names.{choice, is_among, is_free, numbered}

-- the names as keys, with their uses
abbrev pub Uses : Type 0
Uses = BTreeMap (Vec ℕ Global) Use

-- how the name is taken, where it is
abbrev pub use_at : Uses → List ℕ → Option Use
use_at uses name = get_by (λ key. slice_cmp nat_cmp name key.items) uses

-- the name is taken so afterwards, and all others as before
abbrev pub IsSet : Uses → List ℕ → Use → Uses → Type 0
IsSet old name how new =
    (other : List ℕ) → use_at new other ≡ cond (bytes_eq name other) (Some how) (use_at old other)

-- The uses tell which names are taken by wanted names and by the names of earlier symbols, which of
-- them earlier symbols have, and numbers below which none makes the name a free one.
pub record Knows (wanted earlier : List (List ℕ)) (uses : Uses) : Type 0 where
  pub taken : (x : List ℕ) → is_some (use_at uses x) ≡ (is_among earlier x || is_among wanted x)
  pub had : (x : List ℕ) (u : Use) → use_at uses x ≡ Some u → u.had ≡ is_among earlier x
  pub passed : (x : List ℕ) (u : Use) → use_at uses x ≡ Some u → (k : ℕ) → k < u.next
      → is_free wanted earlier (numbered x k) ≡ false
  pub within : (x : List ℕ) (u : Use) → use_at uses x ≡ Some u
      → u.next ≤ length earlier + length wanted

-- from this number on and up to k, k apart, each makes a name that is taken; k makes a free one
-- unless it is the limit
pub record IsFirstFree (uses : Uses) (name : List ℕ) (from limit k : ℕ) : Type 0 where
  pub after : from ≤ k
  pub within : k ≤ limit
  pub passed : (j : ℕ) → from ≤ j → j < k → is_some (use_at uses (numbered name j)) ≡ true
  pub free : k < limit → is_some (use_at uses (numbered name k)) ≡ false

-- the name that a symbol gets, and what is known afterwards
pub record IsChosen (wanted earlier : List (List ℕ)) (name : List ℕ) (uses : Uses)
    (chosen : List ℕ) : Type 0 where
  pub is : chosen ≡ choice wanted earlier name
  pub known : Knows wanted (chosen ∷ earlier) uses
