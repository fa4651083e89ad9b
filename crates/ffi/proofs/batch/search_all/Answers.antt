use Rattle.std.proofs.Common.{◌≡◌, ℕ, ◌+◌, ◌-◌, ◌*◌, List, take, drop, ap, ap₂, ◌∙◌, subst, arith}
use Rattle.reading.specs.declared.level.Level.{Level}
use Rattle.ffi.specs.Batch.{WordSearched, word_at}
use Rattle.ffi.proofs.Batches.{one_more, put_same}
use Rattle.ffi.proofs.batch.search_all.Goals as goal

pub loop-j-preserved : goal.loop-j-preserved
loop-j-preserved g c =
    let n = c.places-n.result in
    let j = c.loop-j.j in
    let by = g.F.Finder.meaning c.args.finder.now in
    let same = c.loop-j.invariant.0 in
    let span : n ≡ by.span = omega arith in
    let k : j * n + n - j * n ≡ n = omega arith in
    let word : take (j * n + n - j * n) (drop (j * n) c.loop-j.words) ≡ word_at by.span c.args.words.now j = ap₂ (λ (i : ℕ) (w : List Level). take i (drop (j * n) w)) k same ∙ ap (λ (i : ℕ). word_at i c.args.words.now j) span in
    let t = c.loop-j-test.true in (
      put_same (j * n) (j * n + n - j * n) c.loop-j.words c.search_word.new.word c.search_word.ensures.same ∙ same,
      one_more j by c.args.words.now c.args.work.now c.loop-j.work c.search_word.new.work c.loop-j.answers c.search_word.result (omega arith) c.loop-j.auto.work c.loop-j.invariant.1
          (subst (λ (w : List Level). WordSearched by w c.loop-j.work c.search_word.new.work c.search_word.result) word c.search_word.ensures.searched),
    )
