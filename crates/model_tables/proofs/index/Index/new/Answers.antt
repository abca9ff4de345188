use Rattle.std.proofs.Common.{◌≡◌, ℕ, ◌+◌, ◌<◌, List, [], length, get_or, take, length-take, sym, ◌∙◌, subst}
use Rattle.std.proofs.Common.{Bor, arith}
use Rattle.std.proofs.lemmas.List.{map_more}
use Rattle.std.proofs.lemmas.Map.Text.{hash_map_updates_str}
use Rattle.model_tables.specs.Held.{ArePlaces, texts_of}
use Rattle.model_tables.proofs.Indexed.{places_more, texts_of-length}
use Rattle.model_tables.proofs.index.Index.new.Goals as goal

pub loop-i-preserved : goal.loop-i-preserved
loop-i-preserved c =
    let names = c.deref-name-items.result.now in
    let none : Bor (List ℕ) = record { ref_ptr = (0, 0); now = [] } in
    let within : c.loop-i.i < length names = c.loop-i-test.true in
    let counted : length (texts_of (take c.loop-i.i names)) ≡ c.loop-i.i =
    texts_of-length (take c.loop-i.i names) ∙ omega (arith, length-take c.loop-i.i names) in
    subst (λ z. ArePlaces z c.insert.new.self)
    (sym (map_more (λ (n : Bor (List ℕ)). n.now) names c.loop-i.i none within))
    (places_more (texts_of (take c.loop-i.i names)) (get_or names c.loop-i.i none).now c.loop-i.places
    c.insert.new.self c.loop-i.i counted c.loop-i.invariant
    (hash_map_updates_str (get_or names c.loop-i.i none).now c.loop-i.places c.insert.new.self _
    c.in_ok-insert.ensures.updates))
