use Rattle.std.proofs.Common.{◌≤◌, ◌+◌, ◌++◌, ◌∷◌, [], ℕ, List, drop, length, map, take, refl, sym, ap, ◌∙◌}
use Rattle.std.proofs.lemmas.List.{take_all, take_more, map-append}
use Rattle.tf_core.specs.declared.nnf.Nnf.{Nnf}
use Rattle.tf_core.specs.Sorts.{joined}
use Rattle.fof_models.specs.declared.formula.FofTerm.{FofTerm}
use Rattle.fof_models.specs.declared.formula.Fof.{Fof}
use Rattle.fof_models.specs.declared.formula.Fof.TheVariants.{Equal}
use Rattle.tf_naked.specs.declared.binder.Binder.{Binder}
use Rattle.tf_naked.specs.declared.position.Kind.{Kind}
use Rattle.tf_naked.specs.declared.position.Kind.TheVariants.{Universal, Existential}
use Rattle.tf_naked.specs.Standing.{is_naked, is_undercover}
use Rattle.tf_naked.specs.Binders.{binder_of, universal_binders}
use Rattle.tf_naked.proofs.Binders.{universal_binders-true, universal_binders-false, universal_binders-atom, universal_binders-equation, universal_binders-and, universal_binders-or, universal_binders-for_all, universal_binders-exists}
use Rattle.enc_marks.specs.Encoded.{all_numbers}
use Rattle.enc_marks.specs.Translation.{literal, side}
use Rattle.enc_marks.specs.Calls.Writing.{exists_in, for_all_in, formula_in}
use Rattle.enc_marks.proofs.Translation.{formula-true, formula-false, formula-atom, formula-equation, formula-and, formula-or, formula-for_all, formula-exists}
use Rattle.enc_marks.proofs.Reading.{after_nothing, after_same, joined-rest, joined-last}
use Rattle.enc_marks.proofs.Results.{ok_with}
use Rattle.enc_marks.proofs.writer.Writer.+formula.Goals as goal

pub formulas-loop-part-init : goal.formulas-loop-part-init
formulas-loop-part-init g t c = (refl, λ rest is. (is, c.new-made.ensures))

pub formulas-loop-part-preserved : goal.formulas-loop-part-preserved
formulas-loop-part-preserved g t c =
    let choices = g.C.Choices.choices c.args.self.now.choices.now in
    let normal = c.args.self.now.types.normal.now in
    let binders_in = universal_binders normal.signature in
    let made_of = formula_in choices normal c.args.depth c.args.scope.now.kinds in
    let at = c.loop-part in
    let parts = c.args.parts.now in
    let i = at.part-index in
    let part = c.part-item.result in (
      c.in_ok-formula.ensures.kinds ∙ at.invariant.0,
      λ rest is.
          let before = at.invariant.1 rest is in
          let read = c.in_ok-formula.ensures.exact (joined (map binders_in (drop (i + 1) parts)) ++
          rest)
          (before.0 ∙ joined-rest binders_in parts i part rest c.loop-part-test.true
          c.part-item.is) in (
            read.0,
            c.in_ok-push.ensures.ok
                ∙ ap (λ (made : List Fof). made ++ c.in_ok-formula.field-0 ∷ []) before.1
                ∙ ap (λ p. map made_of (take i parts) ++ p ∷ [])
                (read.1
                ∙ ap (λ (kinds : List Kind). formula_in choices normal c.args.depth kinds part)
                at.invariant.0
                ∙ ap made_of c.part-item.is)
                ∙ sym (ap (map made_of) (take_more parts i part c.loop-part-test.true)
                ∙ map-append made_of (take i parts) _),
          ),
    )

pub formulas-returns : goal.formulas-returns
formulas-returns g t c =
    let choices = g.C.Choices.choices c.args.self.now.choices.now in
    let normal = c.args.self.now.types.normal.now in
    let binders_in = universal_binders normal.signature in
    let made_of = formula_in choices normal c.args.depth c.args.scope.now.kinds in
    let at = c.loop-part in
    let parts = c.args.parts.now in
    let enough : length parts ≤ at.part-index = c.loop-part-test.false in
    record {
      kinds = at.invariant.0;
      exact = λ rest is.
          let before = at.invariant.1 rest is in (
            before.0 ∙ joined-last binders_in parts at.part-index rest enough,
            before.1 ∙ ap (map made_of) (take_all at.part-index parts enough),
          );
    }

pub formula-returns-in-True : goal.formula-returns-in-True
formula-returns-in-True g t c =
    let choices = g.C.Choices.choices c.args.self.now.choices.now in
    let normal = c.args.self.now.types.normal.now in
    let kinds = c.args.scope.now.kinds in
    record {
      kinds = refl;
      exact = after_nothing _ _ _
          (ap (universal_binders normal.signature) c.in-True.is
          ∙ universal_binders-true normal.signature)
          (sym (ap (formula_in choices normal c.args.depth kinds) c.in-True.is
          ∙ formula-true choices (all_numbers normal) normal.signature c.args.depth kinds));
    }

pub formula-returns-in-False : goal.formula-returns-in-False
formula-returns-in-False g t c =
    let choices = g.C.Choices.choices c.args.self.now.choices.now in
    let normal = c.args.self.now.types.normal.now in
    let kinds = c.args.scope.now.kinds in
    record {
      kinds = refl;
      exact = after_nothing _ _ _
          (ap (universal_binders normal.signature) c.in-False.is
          ∙ universal_binders-false normal.signature)
          (sym (ap (formula_in choices normal c.args.depth kinds) c.in-False.is
          ∙ formula-false choices (all_numbers normal) normal.signature c.args.depth kinds));
    }

pub formula-returns-in_ok-arguments-in-Atom-clause-exact :
    goal.formula-returns-in_ok-arguments-in-Atom-clause-exact
formula-returns-in_ok-arguments-in-Atom-clause-exact g t c =
    let choices = g.C.Choices.choices c.args.self.now.choices.now in
    let normal = c.args.self.now.types.normal.now in
    let kinds = c.args.scope.now.kinds in
    let at = c.in-Atom in
    ok_with c.literal.result
    (λ made promised. after_nothing _ _ _
    (ap (universal_binders normal.signature) at.is
    ∙ universal_binders-atom normal.signature at.positive at.f at.types at.terms)
    (let layer = formula-atom choices (all_numbers normal) normal.signature at.positive at.f
    at.types at.terms
    c.args.depth kinds in
    cc (
      layer,
      promised,
      at.is,
      c.in_ok-arguments-in-Atom.ensures,
      c.as_slice.ensures,
      c.as_slice-in-Atom.ensures,
    )))
    c.literal.ensures

pub formula-returns-in_ok-right-in-Equation-clause-exact :
    goal.formula-returns-in_ok-right-in-Equation-clause-exact
formula-returns-in_ok-right-in-Equation-clause-exact g t c =
    let choices = g.C.Choices.choices c.args.self.now.choices.now in
    let normal = c.args.self.now.types.normal.now in
    let kinds = c.args.scope.now.kinds in
    let at = c.in-Equation in
    ok_with c.literal-in-Equation.result
    (λ made promised. after_nothing _ _ _
    (ap (universal_binders normal.signature) at.is
    ∙ universal_binders-equation normal.signature at.positive at.ty at.left at.right)
    (promised
    ∙ ap (λ (t : FofTerm). literal at.positive (Equal t c.in_ok-right-in-Equation.right))
    c.in_ok-left-in-Equation.ensures
    ∙ ap (λ (t : FofTerm). literal at.positive
    (Equal (side choices (all_numbers normal) normal.signature c.args.depth kinds at.positive at.ty
    at.left) t))
    c.in_ok-right-in-Equation.ensures
    ∙ sym (formula-equation choices (all_numbers normal) normal.signature at.positive at.ty at.left
    at.right
    c.args.depth kinds)
    ∙ sym (ap (formula_in choices normal c.args.depth kinds) at.is)))
    c.literal-in-Equation.ensures

pub formula-returns-in_ok-parts-in-And-clause-exact :
    goal.formula-returns-in_ok-parts-in-And-clause-exact
formula-returns-in_ok-parts-in-And-clause-exact g t c =
    let choices = g.C.Choices.choices c.args.self.now.choices.now in
    let normal = c.args.self.now.types.normal.now in
    let binders_in = universal_binders normal.signature in
    let parts = c.in-And.parts in
    let layer = formula-and choices (all_numbers normal) normal.signature parts c.args.depth
    c.args.scope.now.kinds in
    after_same _ _ _ _ _ _
    (ap binders_in c.in-And.is ∙ universal_binders-and normal.signature parts
    ∙ ap (λ (items : List Nnf). joined (map binders_in items)) (sym c.as_slice-in-And.ensures))
    (λ made. cc (layer, made, c.in-And.is, c.as_slice-in-And.ensures))
    c.in_ok-parts-in-And.ensures.exact

pub formula-returns-in_ok-parts-in-Or-clause-exact :
    goal.formula-returns-in_ok-parts-in-Or-clause-exact
formula-returns-in_ok-parts-in-Or-clause-exact g t c =
    let choices = g.C.Choices.choices c.args.self.now.choices.now in
    let normal = c.args.self.now.types.normal.now in
    let binders_in = universal_binders normal.signature in
    let parts = c.in-Or.parts in
    let layer = formula-or choices (all_numbers normal) normal.signature parts c.args.depth
    c.args.scope.now.kinds in
    after_same _ _ _ _ _ _
    (ap binders_in c.in-Or.is ∙ universal_binders-or normal.signature parts
    ∙ ap (λ (items : List Nnf). joined (map binders_in items)) (sym c.as_slice-in-Or.ensures))
    (λ made. cc (layer, made, c.in-Or.is, c.as_slice-in-Or.ensures))
    c.in_ok-parts-in-Or.ensures.exact

pub universal-returns-clause-exact : goal.universal-returns-clause-exact
universal-returns-clause-exact g t c =
    let choices = g.C.Choices.choices c.args.self.now.choices.now in
    let normal = c.args.self.now.types.normal.now in
    let signature = normal.signature in
    let depth = c.args.depth in
    let kinds = c.args.scope.now.kinds in
    let ty = c.args.ty.now in
    let body = c.args.body.now in
    let inner = c.in_ok-inner.inner in
    let made = c.in_ok-made.made in
    ok_with c.for_all.result
    (λ p promised. λ rest is.
    let next = c.next-binder.ensures.next (binder_of signature body) (universal_binders signature
    body ++ rest)
    (is ∙ ap (λ (items : List Binder). items ++ rest) (universal_binders-for_all signature ty
    body)) in
    let read = c.in_ok-made.ensures.exact rest next.1 in
    let bound = λ (n : ℕ) (q : Fof).
    for_all_in choices normal n (is_undercover signature body) (is_naked signature body) ty q in (
      read.0,
      promised
          ∙ ap (λ (b : Binder). for_all_in choices normal inner b.undercover b.naked ty made) next.0
          ∙ ap (bound inner)
          (read.1 ∙ ap (λ (ks : List Kind). formula_in choices normal inner ks body)
          (c.in_ok-bind.ensures ∙ ap (λ (ks : List Kind). Universal ∷ ks)
          c.next-binder.ensures.kinds))
          ∙ ap (λ n. bound n (formula_in choices normal n (Universal ∷ kinds) body))
          c.in_ok-inner.ensures
          ∙ sym (formula-for_all choices (all_numbers normal) signature ty body depth kinds),
    ))
    c.for_all.ensures

pub existential-returns-clause-exact : goal.existential-returns-clause-exact
existential-returns-clause-exact g t c =
    let choices = g.C.Choices.choices c.args.self.now.choices.now in
    let normal = c.args.self.now.types.normal.now in
    let signature = normal.signature in
    let depth = c.args.depth in
    let kinds = c.args.scope.now.kinds in
    let ty = c.args.ty.now in
    let body = c.args.body.now in
    let inner = c.in_ok-inner.inner in
    ok_with c.exists.result
    (λ p promised. λ rest is.
    let read = c.in_ok-made.ensures.exact rest
    (is ∙ ap (λ (items : List Binder). items ++ rest) (universal_binders-exists signature ty body))
    in (
      read.0,
      promised
          ∙ ap (exists_in choices normal inner ty)
          (read.1 ∙ ap (λ (ks : List Kind). formula_in choices normal inner ks body)
          c.in_ok-bind.ensures)
          ∙ ap (λ n. exists_in choices normal n ty (formula_in choices normal n (Existential ∷
          kinds) body))
          c.in_ok-inner.ensures
          ∙ sym (formula-exists choices (all_numbers normal) signature ty body depth kinds),
    ))
    c.exists.ensures
