use Rattle.std.proofs.Common.{◌+◌, ◌++◌, ◌∷◌, [], ap, sym, subst, ◌∙◌}
use Rattle.enc_mono.specs.Calls.Searched.{IsPut}
use Rattle.enc_mono.proofs.Partials.{IsPut-keys, ids_decide}
use Rattle.enc_mono.proofs.OnceKept.{AreOnce, AreOnce-new, AreOnce-again, AreOnce-all}
use Rattle.enc_mono.proofs.patterns.each_once.Goals as goal
use Rattle.enc_mono.proofs.patterns.each_once.Goals.{then-added+in_ok-copy+in_ok-push, else-added}

pub loop-ty-preserved : goal.loop-ty-preserved
loop-ty-preserved c =
    let put = IsPut-keys _ ids_decide c.loop-ty.numbers.keys c.insert_full.new.self.keys
    c.in_ok-id.id c.in_ok-added.added c.in_ok-added.ensures.added c.in_ok-added.ensures.keys in
    elim c.if-added.branch [
      | then-added+in_ok-copy+in_ok-push w ↦
          subst (AreOnce c.args.types.now (c.loop-ty.ty-index + 1) c.number_of.new.self
          c.insert_full.new.self.keys)
          (sym (w.made-is ∙ w.in_ok-push.ensures.ok
          ∙ ap (λ ty. c.loop-ty.made ++ ty ∷ []) w.in_ok-copy.ensures))
          (AreOnce-new c.args.types.now c.loop-ty.ty-index c.loop-ty.table c.number_of.new.self
          c.loop-ty.numbers.keys c.insert_full.new.self.keys c.loop-ty.made c.loop-ty.invariant
          c.ty-item.result c.loop-ty-test.true c.ty-item.is c.in_ok-id.ensures.kept c.in_ok-id.id
          c.in_ok-id.ensures.denoted
          (subst (IsPut c.loop-ty.numbers.keys c.insert_full.new.self.keys c.in_ok-id.id)
          w.if-added.true put))
      | else-added w ↦
          subst (AreOnce c.args.types.now (c.loop-ty.ty-index + 1) c.number_of.new.self
          c.insert_full.new.self.keys) (sym w.made-is)
          (AreOnce-again c.args.types.now c.loop-ty.ty-index c.loop-ty.table c.number_of.new.self
          c.loop-ty.numbers.keys c.insert_full.new.self.keys c.loop-ty.made c.loop-ty.invariant
          c.ty-item.result c.loop-ty-test.true c.ty-item.is c.in_ok-id.ensures.kept c.in_ok-id.id
          c.in_ok-id.ensures.denoted
          (subst (IsPut c.loop-ty.numbers.keys c.insert_full.new.self.keys c.in_ok-id.id)
          w.if-added.false put))
    ]

pub returns : goal.returns
returns c =
    AreOnce-all c.args.types.now c.loop-ty.ty-index c.loop-ty.table c.loop-ty.numbers.keys
    c.loop-ty.made c.loop-ty-test.false c.loop-ty.invariant
