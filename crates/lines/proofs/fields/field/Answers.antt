use Rattle.std.proofs.Common.{◌≡◌, length, take, Some, sym, ap, ◌∙◌, arith}
use Rattle.std.specs.Option.{option_map}
use Rattle.lines.specs.Fields.{semicolon, fields}
use Rattle.std.specs.List.{slice_get}
use Rattle.lines.specs.Parts.{start, beside, rejoined}
use Rattle.lines.proofs.FieldLaws.{field_found}
use Rattle.lines.proofs.JoinLaws.{fields-parted}
use Rattle.lines.proofs.PartLaws.{passed_more, passed_last, passed_part, passed_start, rejoined_part, beside_first}
use Rattle.lines.proofs.fields.field.Goals as goal

pub returns-in_err-rest : goal.returns-in_err-rest
returns-in_err-rest c =
    rw c.from_residual.ensures (record {
      parted = fields-parted c.args.line.now;
      finds = sym (ap (option_map _) (passed_last semicolon c.args.line.now c.loop.rest.now c.cut.result.0.now c.loop.start c.loop.counter c.args.number
          c.loop.invariant (c.cut.ensures.parts ∙ ap (beside semicolon c.cut.result.0.now) c.in_err-rest.was) c.loop-test.true));
      part = tt;
    })

pub loop-preserved : goal.loop-preserved
loop-preserved c =
    passed_more semicolon c.args.line.now c.loop.rest.now c.cut.result.0.now c.in_ok-rest.rest.now c.loop.start c.loop.counter c.loop.invariant
    (c.cut.ensures.parts ∙ ap (beside semicolon c.cut.result.0.now) c.in_ok-rest.was)
    (c.cut.ensures.whole ∙ ap (rejoined semicolon c.cut.result.0.now) c.in_ok-rest.was)

pub returns : goal.returns
returns c =
    let line = c.args.line.now in
    let bytes = c.cut-2.result.0.now in
    let all : c.args.number ≡ c.loop.counter = omega arith in
    let here : slice_get (fields line) c.args.number ≡ Some bytes =
    ap (slice_get (fields line)) all ∙ passed_part semicolon line c.loop.rest.now c.loop.start c.loop.counter c.loop.invariant
    ∙ ap (λ l. slice_get l 0) c.cut-2.ensures.parts ∙ beside_first semicolon bytes c.cut-2.result.1 in
    let from : start (fields line) c.args.number ≡ c.loop.start =
    ap (start (fields line)) all ∙ passed_start semicolon line c.loop.rest.now c.loop.start c.loop.counter c.loop.invariant in
    record {
      parted = fields-parted line;
      finds = field_found line c.args.number c.loop.start bytes here from;
      part = rejoined_part semicolon bytes c.cut-2.result.1 ∙ ap (take (length bytes)) (sym c.cut-2.ensures.whole ∙ c.loop.invariant.here);
    }
