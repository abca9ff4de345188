-- The tests of equality that are derived for what the table looks up.
use Rattle.std.specs.Prelude.{◌≡◌, ◌&&◌, Bool, true, eqb}
use Rattle.std.proofs.Common.{refl, ap, ◌∙◌, arith}
use Rattle.std.proofs.lemmas.Bool.{false≢true}
use Rattle.std.proofs.lemmas.Bool.Decides.{Decides-eqb, nat_tests}
use Rattle.std.specs.Cmp.Derive.{both_true}
use Rattle.tf_types.specs.declared.node.TypeId.{TypeId}
use Rattle.tf_types.specs.declared.node.Node.{Node}
use Rattle.tf_types.specs.declared.node.Node.TheVariants.{Variable, Constructor, Applied}
use Rattle.tf_types.specs.declared.node.Asked.{Asked}
use Rattle.tf_types.specs.contracts.node.NodePartialEq.TheImpl as node
use Rattle.tf_types.specs.contracts.node.AskedPartialEq.TheImpl as asked

abbrev pub eq_node : Node → Node → Bool
eq_node = (node.ghosts).eq

abbrev pub eq_asked : Asked → Asked → Bool
eq_asked = (asked.ghosts).eq

both_parts : (a b c d : TypeId) → (eqb a.index b.index && eqb c.index d.index) ≡ true →
    (a ≡ b) × (c ≡ d)
both_parts a b c d same =
    let first : a.index ≡ b.index = grind (arith, nat_tests) in
    let second : c.index ≡ d.index = grind (arith, nat_tests) in
    (ap (λ index. record { index = index }) first, ap (λ index. record { index = index }) second)

pub same_node : (m n : Node) → eq_node m n ≡ true → m ≡ n
same_node (Variable i) (Variable j) same = ap Variable ((Decides-eqb i j).0 same)
same_node (Variable i) (Constructor d) same = absurd (false≢true same)
same_node (Variable i) (Applied g b) same = absurd (false≢true same)
same_node (Constructor c) (Variable j) same = absurd (false≢true same)
same_node (Constructor c) (Constructor d) same = ap Constructor ((Decides-eqb c d).0 same)
same_node (Constructor c) (Applied g b) same = absurd (false≢true same)
same_node (Applied f a) (Variable j) same = absurd (false≢true same)
same_node (Applied f a) (Constructor d) same = absurd (false≢true same)
same_node (Applied f a) (Applied g b) same =
    let parts : (f ≡ g) × (a ≡ b) = both_parts f g a b same in
    ap (λ function. Applied function a) parts.0 ∙ ap (Applied g) parts.1

pub node_itself : (n : Node) → eq_node n n ≡ true
node_itself (Variable i) = (Decides-eqb i i).1 refl
node_itself (Constructor c) = (Decides-eqb c c).1 refl
node_itself (Applied f a) =
    both_true ((Decides-eqb f.index f.index).1 refl) ((Decides-eqb a.index a.index).1 refl)

pub same_asked : (x y : Asked) → eq_asked x y ≡ true → x ≡ y
same_asked x y same =
    let parts : (x.ty ≡ y.ty) × (x.types ≡ y.types) = both_parts x.ty y.ty x.types y.types same in
    ap (λ ty. record { ty = ty; types = x.types }) parts.0
    ∙ ap (λ types. record { ty = y.ty; types = types }) parts.1
