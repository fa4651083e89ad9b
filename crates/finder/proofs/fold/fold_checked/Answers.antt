use Rattle.std.proofs.Common.{◌≡◌, ℕ, ◌-◌, ◌*◌, ◌++◌, map, length, get_or, take, pos, sum_by, ap, ◌∙◌, arith}
use borrow.Rule.Slice.PartMut.{post_of}
use Rattle.std.proofs.lemmas.List.{length-take-le, length-map, map-append, get_or_append_left, take_at}
use Rattle.std.proofs.lemmas.Slice.{drop-append-drop}
use Rattle.code.specs.Limits.{size_limit}
use Rattle.hadamard.specs.Transform.{weight_at}
use Rattle.finder.specs.Fold.{sum_of_slot}
use Rattle.finder.proofs.Refusals.{taken_facts, all_sizes}
use Rattle.finder.proofs.fold.fold_checked.Goals as goal

pub slice_bounds-list-end : goal.slice_bounds-list-end
slice_bounds-list-end g c =
    let t = c.in_ok-check.ensures in
    (taken_facts c.args.n c.args.need (map g.R.Reading.size c.args.word.now) (length c.args.work.now) t).2

pub scatter-requires : goal.scatter-requires
scatter-requires g c =
    let t = c.in_ok-check.ensures in
    let f = taken_facts c.args.n c.args.need (map g.R.Reading.size c.args.word.now) (length c.args.work.now) t in
    let f0 = f.0 in
    let e = length-map c.args.word.now g.R.Reading.size in
    let p0 = c.requires.0 in
    let p1 = c.requires.1 in
    record {
      fits = (omega arith, omega arith);
      small = all_sizes g.R.Reading.size c.args.word.now f.1;
      blank = c.blank.ensures.weights;
      empty = c.blank.ensures.sizes;
    }

pub returns : goal.returns
returns g c =
    let w = g.R.Reading.weight in
    let size = g.R.Reading.size in
    let word = c.args.word.now in
    let work = c.args.work.now in
    let n = c.args.n in
    let k = c.args.need in
    let slots = c.args.slots.now in
    let list = c.scatter.new.list in
    let t = c.in_ok-check.ensures in
    let f = taken_facts n k (map size word) (length work) t in
    let f0 = f.0 in
    let f2 = f.2 in
    let e = length-map word size in
    let lw : length word ≡ n = omega arith in
    let long : length list ≡ k - 0 = c.scatter.auto.list ∙ c.blank.auto.list ∙ length-take-le (k - 0) work (omega arith) in
    let lm = length-map list w in
    let post = post_of 0 (k - 0) work in
    record {
      taken = t;
      sums = λ x l.
          ap (λ v. get_or v x (pos 0)) (map-append w list post) ∙ get_or_append_left (map w list) (map w post) (pos 0) x (omega arith)
          ∙ c.scatter.ensures.sums x (omega arith)
          ∙ ap (λ (j : ℕ). sum_of_slot (λ i. get_or slots i 0) (weight_at w word) j x) lw;
      total =
          let a : sum_by size (take k (list ++ post)) ≡ sum_by size list = ap (sum_by size) (take_at list post k (omega arith)) in
          let b = c.scatter.ensures.total in
          let m : length word * size_limit ≡ n * size_limit = ap (λ (j : ℕ). j * size_limit) lw in
          omega arith;
      beyond = drop-append-drop (k - 0) work list k (omega arith) long;
    }
