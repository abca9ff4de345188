use Rattle.std.proofs.Common.{List, refl, sym, ap, map, length, ◌∙◌}
use Rattle.tf_core.specs.declared.ty.Ty.{Ty}
use Rattle.tf_naked.specs.Naked.{is_free}
use Rattle.enc_marks.specs.Choices.{kept_types}
use Rattle.enc_models.proofs.ParameterSources.{map-same}
use Rattle.enc_models.proofs.OwnMarks.{own_count-by_sort, few-by_sort}
use Rattle.enc_models.proofs.lifted_sorts.lifted_by_sort.Goals as goal

pub places_of_marks-requires-clause-own : goal.places_of_marks-requires-clause-own
places_of_marks-requires-clause-own g c =
    ap (λ (types : List Ty). length types) (c.as_slice-count.ensures ∙ c.in_ok-listed.ensures.exact)
    ∙ own_count-by_sort (g.C.Choices.choices c.args.choices.now) c.args.normal.now
    c.requires.by_sort

pub places_of_marks-requires-clause-few : goal.places_of_marks-requires-clause-few
places_of_marks-requires-clause-few g c =
    few-by_sort (g.C.Choices.choices c.args.choices.now) c.args.normal.now c.requires.by_sort
    c.requires.sound c.requires.monomorphic

pub tables_or_count-requires-clause-ready : goal.tables_or_count-requires-clause-ready
tables_or_count-requires-clause-ready g c =
    record {
      signature = c.requires.sound.signature.typed;
      few = few-by_sort (g.C.Choices.choices c.args.choices.now) c.args.normal.now
          c.requires.by_sort c.requires.sound c.requires.monomorphic;
      monomorphic = λ by_sort. c.requires.monomorphic;
      free = λ by_sort.
          c.as_slice-4.ensures
          ∙ c.in_ok-free.ensures.exact
          ∙ ap (map (is_free c.args.normal.now)) (c.as_slice.ensures ∙ c.in_ok-listed.ensures.exact);
      kept_types = (c.keeps.result, c.keeps.ensures);
      kept_are = c.as_slice-3.ensures
          ∙ c.in_ok-kept.ensures
          ∙ ap (map (kept_types c.keeps.result)) c.as_slice-symbols.ensures
          ∙ map-same (kept_types c.keeps.result)
          (g.C.Choices.choices c.args.choices.now).keeps
          c.args.normal.now.signature.symbols
          (λ symbol. sym (c.keeps.ensures symbol));
      tagged = c.requires.tagged;
      well_formed = c.requires.well_formed;
      places = rw c.as_slice-2.ensures c.in_ok-places.ensures;
    }
