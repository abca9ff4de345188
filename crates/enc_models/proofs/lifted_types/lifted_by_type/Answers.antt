use Rattle.std.proofs.Common.{refl, sym, ap, map, ◌∙◌}
use Rattle.enc_marks.specs.Choices.{kept_types}
use Rattle.enc_models.proofs.ParameterSources.{map-same}
use Rattle.enc_models.proofs.OwnMarks.{own_count-by_type, few-by_type, not_by_sort}
use Rattle.enc_models.proofs.lifted_types.lifted_by_type.Goals as goal

pub places_of_marks-requires-clause-own : goal.places_of_marks-requires-clause-own
places_of_marks-requires-clause-own g c =
    own_count-by_type (g.C.Choices.choices c.args.choices.now) c.args.normal.now
    c.requires.by_type

pub places_of_marks-requires-clause-few : goal.places_of_marks-requires-clause-few
places_of_marks-requires-clause-few g c =
    few-by_type (g.C.Choices.choices c.args.choices.now) c.args.normal.now c.requires.by_type
    c.requires.sound

pub tables_or_count-requires-clause-ready : goal.tables_or_count-requires-clause-ready
tables_or_count-requires-clause-ready g c =
    record {
      signature = c.requires.sound.signature.typed;
      few = few-by_type (g.C.Choices.choices c.args.choices.now) c.args.normal.now
          c.requires.by_type c.requires.sound;
      monomorphic = λ by_sort. absurd (not_by_sort _ c.requires.by_type by_sort);
      free = λ by_sort. absurd (not_by_sort _ c.requires.by_type by_sort);
      kept_types = (c.keeps.result, c.keeps.ensures);
      kept_are = c.as_slice-2.ensures
          ∙ c.in_ok-kept.ensures
          ∙ ap (map (kept_types c.keeps.result)) c.as_slice-symbols.ensures
          ∙ map-same (kept_types c.keeps.result)
          (g.C.Choices.choices c.args.choices.now).keeps
          c.args.normal.now.signature.symbols
          (λ symbol. sym (c.keeps.ensures symbol));
      tagged = c.requires.tagged;
      well_formed = c.requires.well_formed;
      places = rw c.as_slice.ensures c.in_ok-places.ensures;
    }
