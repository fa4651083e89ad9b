use Rattle.std.proofs.Common.{◌≡◌, ◌+◌, ◌<◌, length, drop, ◌∙◌, subst, arith}
use Rattle.std.proofs.lemmas.List.{drop-set-lt}
use Rattle.sheet.specs.Runs.{RanFrom}
use Rattle.sheet.proofs.Runs.{ran_from_more, kept_then, drop_further}
use Rattle.sheet.proofs.Sheet.run.Goals as goal

pub loop-i-preserved : goal.loop-i-preserved
loop-i-preserved g c =
    let v = c.loop-i.invariant in
    let i = c.loop-i.i in
    let wi : i < length c.args.requests.now = omega arith in
    let wa : i < length c.loop-i.answers = omega arith in
    record {
      law = λ by gives.
          ran_from_more g.R.Reading by c.args.requests.now i c.args.self.now c.loop-i.self c.serve_by.new.self c.args.work.now c.loop-i.work c.serve_by.new.work c.loop-i.answers _ _
          c.loop-i.auto.work wi wa c.index-requests-i.is v.kept (c.serve_by.ensures.law by gives) (v.law by gives);
      kept = kept_then v.kept c.serve_by.ensures.kept;
      rest = drop-set-lt (i + 1) c.loop-i.answers i _ (omega arith) ∙ drop_further i (i + 1) _ _ (omega arith) v.rest;
    }

pub returns : goal.returns
returns g c =
    let v = c.loop-i.invariant in
    let e : c.loop-i.i ≡ length c.args.requests.now = omega arith in
    record {
      law = λ by gives.
          subst (λ n. RanFrom g.R.Reading by c.args.requests.now n c.args.self.now c.loop-i.self c.args.work.now c.loop-i.work c.loop-i.answers) e (v.law by gives);
      kept = v.kept;
      rest = subst (λ n. drop n c.loop-i.answers ≡ drop n c.args.answers.now) e v.rest;
    }
